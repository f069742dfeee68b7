-- Lists that are made by places.
use Rattle.std.proofs.Common.{◌≡◌, ◌≢◌, ◌<◌, ℕ, zero, suc, List, [], ◌∷◌, length, slice_get, get_or, set, None, Some, refl, sym, ap, subst, ◌∙◌, arith}
use Rattle.std.proofs.lemmas.Option.{none-some, same_Some}
use Rattle.ynl_model.specs.declared.uses.Use.{Use}
use Rattle.ynl_cluster.specs.uses.Tallies.{with_partition}
use Rattle.ynl_inventory.specs.Changes.{with_at}
use Rattle.ynl_cluster.specs.ledger.Ledger.{by_place}

module _ {X : Type 0} where
  -- a change that leaves the row leaves all
  pub at-none : (p : ℕ) (xs : List X) → with_at p (λ x. x) xs ≡ xs
  at-none p [] = refl
  at-none zero (x ∷ xs) = refl
  at-none (suc p) (x ∷ xs) = ap (λ ys. x ∷ ys) (at-none p xs)

set-at : {X : Type 0} (change : X → X) (xs : List X) (p : ℕ) (x new : X) → p < length xs → x ≡ get_or xs p x → new ≡ change x → set xs p new ≡ with_at p change xs
set-at change [] p x new inside read is = absurd (omega (arith, inside))
set-at change (y ∷ xs) zero x new inside read is = ap (λ z. z ∷ xs) (is ∙ ap change read)
set-at change (y ∷ xs) (suc p) x new inside read is = ap (λ ys. y ∷ ys) (set-at change xs p x new (omega (arith, inside)) read is)

-- what is written in place of a thing that was read is that thing changed
pub set-changed : {X : Type 0} (change : X → X) (kept xs : List X) → kept ≡ xs → (p : ℕ) (x new : X) → p < length xs → x ≡ get_or kept p x → new ≡ change x → set kept p new ≡ with_at p change xs
set-changed {X} change kept xs same p x new inside read is =
    set-at change kept p x new (subst (λ (ys : List X). p < length ys) (sym same) inside) read is ∙ ap (with_at p change) same

module _ {X Y : Type 0} where
  -- there is one for each thing
  pub length-by_place : (make : ℕ → X → Y) (xs : List X) → length (by_place make xs) ≡ length xs
  length-by_place make [] = refl
  length-by_place make (x ∷ xs) = ap suc (length-by_place (λ n. make (suc n)) xs)

  pub by_place-or : (make : ℕ → X → Y) (xs : List X) (p : ℕ) (d : Y) (x : X) → slice_get xs p ≡ Some x → get_or (by_place make xs) p d ≡ make p x
  by_place-or make [] p d x at = absurd (none-some x at)
  by_place-or make (y ∷ xs) zero d x at = ap (make 0) (same_Some y x at)
  by_place-or make (y ∷ xs) (suc p) d x at = by_place-or (λ n. make (suc n)) xs p d x at

  pub by_place-none : (make : ℕ → X → Y) (xs : List X) (p : ℕ) (d : Y) → slice_get xs p ≡ None → get_or (by_place make xs) p d ≡ d
  by_place-none make [] p d none = refl
  by_place-none make (x ∷ xs) zero d none = absurd (none-some x (sym none))
  by_place-none make (x ∷ xs) (suc p) d none = by_place-none (λ n. make (suc n)) xs p d none

  -- what is made as before stays
  pub by_place-same : (old new : ℕ → X → Y) (xs : List X) → ((q : ℕ) (x : X) → slice_get xs q ≡ Some x → new q x ≡ old q x) → by_place new xs ≡ by_place old xs
  by_place-same old new [] same = refl
  by_place-same old new (x ∷ xs) same = λ i. same 0 x refl i ∷ by_place-same (λ n. old (suc n)) (λ n. new (suc n)) xs (λ q y at. same (suc q) y at) i

  -- one thing changes, and what is made of it
  pub by_place-changed : (old new : ℕ → X → Y) (become : Y → Y) (p : ℕ) (change : X → X) (xs : List X)
      → ((q : ℕ) (x : X) → slice_get xs q ≡ Some x → q ≢ p → new q x ≡ old q x)
      → ((x : X) → slice_get xs p ≡ Some x → new p (change x) ≡ become (old p x))
      → by_place new (with_at p change xs) ≡ with_at p become (by_place old xs)
  by_place-changed old new become p change [] others own = refl
  by_place-changed old new become zero change (x ∷ xs) others own =
      λ i. own x refl i
      ∷ by_place-same (λ n. old (suc n)) (λ n. new (suc n)) xs (λ q y at. others (suc q) y at (λ (same : suc q ≡ 0). absurd (omega arith))) i
  by_place-changed old new become (suc p) change (x ∷ xs) others own =
      λ i. others 0 x refl (λ (same : 0 ≡ suc p). absurd (omega arith)) i
      ∷ by_place-changed (λ n. old (suc n)) (λ n. new (suc n)) become p change xs (λ q y at apart. others (suc q) y at (λ (same : suc q ≡ suc p). apart (omega arith))) own i

-- a change of a partition's uses is one in its place
pub partition-at : (p : ℕ) (change : List Use → List Use) (rows : List (List Use)) → with_partition p change rows ≡ with_at p change rows
partition-at p change [] = refl
partition-at zero change (row ∷ rows) = refl
partition-at (suc p) change (row ∷ rows) = ap (λ rest. row ∷ rest) (partition-at p change rows)
