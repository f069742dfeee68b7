-- What is told of the place of a fault.
use Rattle.std.proofs.Common.{◌≡◌, ◌∙◌, ℕ, List, Some, refl, sym, ap}
use Rattle.std.specs.Prelude.{unwrap_or, option_and_then}
use Rattle.toml.specs.Data.{Members}
use Rattle.ynl_config.specs.declared.faults.ConfigFault.TheVariants.{Size, Syntax, UnknownKey, MissingKey, WrongKind, Version, Range, BadLabel, TooManyLabels, DuplicateLabel, TooDeep, TooMany, BadPath, DuplicateQueue, NoParent, NoSuchLabel, NotSubset, MaximumBelowCapacity, SumNot100}
use Rattle.ynl_config.specs.Earliest.{ConfigFault}
use Rattle.ynl_config.specs.Meaning.{reading}
use Rattle.ynl_config.specs.Places.{Place, nowhere}
use Rattle.ynl_config.specs.Misplaced.{first_place, told_place}

-- the first place of a fault of a text's table is told
pub told : (found : ConfigFault) (text : List ℕ) (ms : Members) (p : Place) → reading text ≡ Some ms → p ≡ unwrap_or (first_place found ms) nowhere → p ≡ told_place p.line found text
unfolding first_place
told Size text ms p r h = h
told Syntax text ms p r h = rw h refl
told UnknownKey text ms p r h = h ∙ ap (λ o. unwrap_or (option_and_then (first_place UnknownKey) o) nowhere) (sym r)
told MissingKey text ms p r h = h ∙ ap (λ o. unwrap_or (option_and_then (first_place MissingKey) o) nowhere) (sym r)
told WrongKind text ms p r h = h ∙ ap (λ o. unwrap_or (option_and_then (first_place WrongKind) o) nowhere) (sym r)
told Version text ms p r h = h ∙ ap (λ o. unwrap_or (option_and_then (first_place Version) o) nowhere) (sym r)
told Range text ms p r h = h ∙ ap (λ o. unwrap_or (option_and_then (first_place Range) o) nowhere) (sym r)
told BadLabel text ms p r h = h ∙ ap (λ o. unwrap_or (option_and_then (first_place BadLabel) o) nowhere) (sym r)
told TooManyLabels text ms p r h = h ∙ ap (λ o. unwrap_or (option_and_then (first_place TooManyLabels) o) nowhere) (sym r)
told DuplicateLabel text ms p r h = h ∙ ap (λ o. unwrap_or (option_and_then (first_place DuplicateLabel) o) nowhere) (sym r)
told TooDeep text ms p r h = h ∙ ap (λ o. unwrap_or (option_and_then (first_place TooDeep) o) nowhere) (sym r)
told TooMany text ms p r h = h ∙ ap (λ o. unwrap_or (option_and_then (first_place TooMany) o) nowhere) (sym r)
told BadPath text ms p r h = h ∙ ap (λ o. unwrap_or (option_and_then (first_place BadPath) o) nowhere) (sym r)
told DuplicateQueue text ms p r h = h ∙ ap (λ o. unwrap_or (option_and_then (first_place DuplicateQueue) o) nowhere) (sym r)
told NoParent text ms p r h = h ∙ ap (λ o. unwrap_or (option_and_then (first_place NoParent) o) nowhere) (sym r)
told NoSuchLabel text ms p r h = h ∙ ap (λ o. unwrap_or (option_and_then (first_place NoSuchLabel) o) nowhere) (sym r)
told NotSubset text ms p r h = h ∙ ap (λ o. unwrap_or (option_and_then (first_place NotSubset) o) nowhere) (sym r)
told MaximumBelowCapacity text ms p r h = h ∙ ap (λ o. unwrap_or (option_and_then (first_place MaximumBelowCapacity) o) nowhere) (sym r)
told SumNot100 text ms p r h = h ∙ ap (λ o. unwrap_or (option_and_then (first_place SumNot100) o) nowhere) (sym r)
