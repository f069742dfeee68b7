-- Queues from root to a leaf, one more at each step.
use Rattle.std.proofs.Common.{◌≡◌, ℕ, ◌+◌, ◌<◌, ◌≤◌, Bool, true, false, ◌&&◌, List, [], ◌∷◌, ◌++◌, length, take, ap, ◌∙◌, append-nil}
use Rattle.std.specs.Prelude.{flat_map}
use Rattle.std.specs.List.{list_all}
use Rattle.std.proofs.lemmas.Grind.{flat_map-append}
use Rattle.std.proofs.lemmas.List.Folds.{list_all-append}
use Rattle.ynl_resource.specs.Names.{root, way_to}
use Rattle.ynl_resource.specs.declared.paths.Path.{Path}
use Rattle.ynl_queues.proofs.Prefixes.{way_more, way_end}

-- the queues so far, with one more
pub steps-more : (leaf : Path) (k : ℕ) → k < length leaf → (root ∷ take (k + 1) (way_to leaf)) ≡ (root ∷ take k (way_to leaf)) ++ take (k + 1) leaf ∷ []
steps-more leaf k h = ap (λ (steps : List Path). root ∷ steps) (way_more leaf k h)

pub told-more : {X : Type 0} (f : Path → List X) (leaf : Path) (k : ℕ) → k < length leaf → flat_map f (root ∷ take (k + 1) (way_to leaf)) ≡ flat_map f (root ∷ take k (way_to leaf)) ++ f (take (k + 1) leaf)
told-more f leaf k h =
    ap (flat_map f) (steps-more leaf k h) ∙ flat_map-append f (root ∷ take k (way_to leaf)) (take (k + 1) leaf ∷ [])
    ∙ ap (λ ts. flat_map f (root ∷ take k (way_to leaf)) ++ ts) (append-nil (f (take (k + 1) leaf)))

pub kept-more : (f : Path → Bool) (leaf : Path) (k : ℕ) → k < length leaf → list_all f (root ∷ take (k + 1) (way_to leaf)) ≡ (list_all f (root ∷ take k (way_to leaf)) && list_all f (take (k + 1) leaf ∷ []))
kept-more f leaf k h = ap (list_all f) (steps-more leaf k h) ∙ list_all-append f (root ∷ take k (way_to leaf)) (take (k + 1) leaf ∷ [])

pub steps-end : (leaf : Path) (k : ℕ) → length leaf ≤ k → (root ∷ take k (way_to leaf)) ≡ (root ∷ way_to leaf)
steps-end leaf k h = ap (λ (steps : List Path). root ∷ steps) (way_end leaf k h)

-- a test of one queue more, where all before passed, and where one did not
pub kept-then : (before next now : Bool) → before ≡ true → now ≡ next → now ≡ (before && (next && true))
kept-then true true now p q = q
kept-then true false now p q = q
kept-then false next now p q = cc p

pub kept-else : (before next now : Bool) → before ≡ false → now ≡ false → now ≡ (before && (next && true))
kept-else true next now p q = cc p
kept-else false next now p q = q
