-- How far the audit of evidence has come.
use Rattle.std.specs.Prelude.{◌≡◌, ℕ, Bool, true, List, ◌∷◌, [], ◌++◌, nat_lt, Option, Some, None, Result, Ok, Err}
use Rattle.ynl_resource.specs.declared.names.Name.{Name}
use Rattle.ynl_resource.specs.declared.labels.Label.{Label}
use Rattle.ynl_model.specs.Queues.{Config}
use Rattle.ynl_model.specs.View.{track, restrict}
use Rattle.ynl_core.specs.declared.memory.NoMemory.{NoMemory}
use Rattle.ynl_journal.specs.Journal.{replayed}
use Rattle.ynl_view.specs.declared.evidence.flaws.Flaw.{Flaw}
use Rattle.ynl_view.specs.declared.evidence.trial.Trial.{Trial}
use Rattle.ynl_view.specs.evidence.Evidence.{Placed, entries_in, events_placed}
use Rattle.ynl_view.specs.evidence.Flaws.{comes_behind, taken}

-- whether a place comes behind the last one, where there is one
abbrev pub is_behind : Option ℕ → ℕ → Bool
is_behind None place = true
is_behind (Some last) place = nat_lt last place

-- the audit has come to the end of these entries
pub record IsTrialOf (c : Config) (t : Name) (before : List Placed) (trial : Trial) : Type 0 where
  pub core : trial.core ≡ replayed (restrict c t) (entries_in before)
  pub track : trial.track ≡ track c (events_placed before)
  pub last : (place : ℕ) → comes_behind before place ≡ is_behind trial.last place

-- one more entry was taken, or has this flaw; of want of memory nothing is said
abbrev pub Takes : Config → Name → Label → List Placed → Placed → Trial → Result (Option Flaw) NoMemory → Type 0
Takes c t p before x new (Ok None) = (taken c t p before x ≡ Ok (before ++ x ∷ [])) × IsTrialOf c t (before ++ x ∷ []) new
Takes c t p before x new (Ok (Some flaw)) = taken c t p before x ≡ Err flaw
Takes c t p before x new (Err e) = Unit {0}

-- the same of any entries that the audit had come to the end of
abbrev pub TakesNext : Config → Name → Label → Trial → Placed → Trial → Result (Option Flaw) NoMemory → Type 0
TakesNext c t p old x new r = (before : List Placed) → IsTrialOf c t before old → Takes c t p before x new r
