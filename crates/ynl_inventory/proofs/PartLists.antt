-- Lists of parts: what is set in a place or changed under a number, and what it means.
use Rattle.std.proofs.Common.{◌≡◌, ◌≢◌, ℕ, zero, suc, Bool, true, false, cond, List, [], ◌∷◌, map, slice_get, Option, Some, None, is_some, option_map, nat_eq, refl, sym, ap, ◌∙◌, inl, inr}
use Rattle.std.specs.Prelude.{slice_set, unwrap_or}
use Rattle.std.specs.Map.{lookup}
use Rattle.std.proofs.lemmas.Bool.{cases_eq}
use Rattle.std.proofs.lemmas.Option.{none-some, same_Some}
use mathlib.Core.Logic.{◌⊎◌}
use Rattle.ynl_slots.specs.Slots.{IsLive, with_row}
use Rattle.ynl_slots.specs.declared.chain.Chain.{Chain}
use Rattle.ynl_slots.proofs.Entries.{itself, other}
use Rattle.ynl_slots.proofs.Lookups.{lookup-with_row}
use Rattle.ynl_tables.specs.declared.apps.app.AppRow.{AppRow as AppPart}
use Rattle.ynl_tables.specs.apps.Apps.{with_change}
use Rattle.ynl_tables.specs.apps.Chains.{chain_of, no_chain}
use Rattle.ynl_tables.specs.declared.containers.container.Role.{Role}
use Rattle.ynl_tables.specs.declared.containers.container.Role.TheVariants.{Master, Ask as Asked}
use Rattle.ynl_tables.specs.containers.Fields.{of_rows}
use Rattle.ynl_inventory.specs.Changes.{with_at}
use Rattle.ynl_inventory.specs.Parts.{owned_part}
use Rattle.ynl_inventory.proofs.Lookups.{live-found}

module _ {X Y : Type 0} (f : X → Y) where
  -- what something comes from
  pub unmapped : (o : Option X) (y : Y) → option_map f o ≡ Some y → (x : X) × (o ≡ Some x) × (f x ≡ y)
  unmapped None y h = absurd (none-some y h)
  unmapped (Some x) y h = (x, refl, same_Some (f x) y h)

  -- a row that is set changes what it means
  pub map-set : (g : Y → Y) (xs : List X) (p : ℕ) (x new : X) → slice_get xs p ≡ Some x → f new ≡ g (f x) → map f (slice_set xs p new) ≡ with_at p g (map f xs)
  map-set g [] p x new at is = absurd (none-some x at)
  map-set g (y ∷ xs) zero x new at is = ap (λ z. z ∷ map f xs) (is ∙ ap (λ z. g (f z)) (sym (same_Some y x at)))
  map-set g (y ∷ xs) (suc p) x new at is = ap (λ ys. f y ∷ ys) (map-set g xs p x new at is)

  -- a row that changes changes what it means
  pub of_rows-changed : (g : X → X) (h : Y → Y) (n : ℕ) (es : List (ℕ × X)) → ((x : X) → f (g x) ≡ h (f x)) → of_rows f (with_change n g es) ≡ with_change n h (of_rows f es)
  of_rows-changed g h n [] is = refl
  of_rows-changed g h n (e ∷ es) is = λ i. one (nat_eq n e.0) i ∷ of_rows-changed g h n es is i
    where
      one : (b : Bool) → ◌≡◌ {A = ℕ × Y} ((cond b (e.0, g e.1) e).0, f (cond b (e.0, g e.1) e).1) (cond b (e.0, h (f e.1)) (e.0, f e.1))
      one true = λ i. (e.0, is e.1 i)
      one false = refl

module _ {X : Type 0} where
  pub set-same : (xs : List X) (p : ℕ) (x new : X) → slice_get xs p ≡ Some x → slice_get (slice_set xs p new) p ≡ Some new
  set-same [] p x new at = absurd (none-some x at)
  set-same (y ∷ xs) zero x new at = refl
  set-same (y ∷ xs) (suc p) x new at = set-same xs p x new at

  pub set-other : (xs : List X) (p q : ℕ) (new : X) → q ≢ p → slice_get (slice_set xs p new) q ≡ slice_get xs q
  set-other [] p q new apart = refl
  set-other (y ∷ xs) zero zero new apart = absurd (apart refl)
  set-other (y ∷ xs) zero (suc q) new apart = refl
  set-other (y ∷ xs) (suc p) zero new apart = refl
  set-other (y ∷ xs) (suc p) (suc q) new apart = set-other xs p q new (λ same. apart (ap suc same))

  -- in a list with a row set stands that row, or one that stood there
  pub set-cases : (xs : List X) (p q : ℕ) (x new y : X) → slice_get xs p ≡ Some x → slice_get (slice_set xs p new) q ≡ Some y → ((q ≡ p) × (y ≡ new)) ⊎ ((q ≢ p) × (slice_get xs q ≡ Some y))
  set-cases xs p q x new y at here =
      elim (cases_eq q p) [
        | inl same ↦ inl (same, same_Some y new (sym here ∙ ap (slice_get (slice_set xs p new)) same ∙ set-same xs p x new at))
        | inr apart ↦ inr (apart, sym (set-other xs p q new apart) ∙ here)
      ]

-- the chain of a partition that is set
pub chain-same : (p : ℕ) (chain : Chain) (chains : List (ℕ × Chain)) → IsLive p chains → chain_of p (with_row p chain chains) ≡ chain
chain-same p chain chains live =
    let there = live-found p chains live in
    ap (λ o. unwrap_or o no_chain)
    (lookup-with_row p p chain chains ∙ ap (λ b. cond b (option_map (λ _. chain) (lookup (nat_eq p) chains)) (lookup (nat_eq p) chains)) (itself p) ∙ ap (option_map (λ _. chain)) there.1)

-- and of another
pub chain-other : (p q : ℕ) (chain : Chain) (chains : List (ℕ × Chain)) → q ≢ p → chain_of q (with_row p chain chains) ≡ chain_of q chains
chain-other p q chain chains apart =
    ap (λ o. unwrap_or o no_chain) (lookup-with_row q p chain chains ∙ ap (λ b. cond b (option_map (λ _. chain) (lookup (nat_eq q) chains)) (lookup (nat_eq q) chains)) (other q p apart))

-- a chain that is set leaves the places
pub live-row : (q p : ℕ) (chain : Chain) (chains : List (ℕ × Chain)) → IsLive q chains → IsLive q (with_row p chain chains)
live-row q p chain chains live = ap is_some (lookup-with_row q p chain chains) ∙ go (nat_eq q p) (lookup (nat_eq q) chains) ∙ live
  where
    go : (b : Bool) (o : Option Chain) → is_some (cond b (option_map (λ _. chain) o) o) ≡ is_some o
    go true None = refl
    go true (Some old) = refl
    go false o = refl

-- a change that leaves what rows mean
pub of_rows-kept : {X Y : Type 0} (f : X → Y) (g : X → X) (n : ℕ) (es : List (ℕ × X)) → ((x : X) → f (g x) ≡ f x) → of_rows f (with_change n g es) ≡ of_rows f es
of_rows-kept f g n [] is = refl
of_rows-kept {Y = Y} f g n (e ∷ es) is = λ i. one (nat_eq n e.0) i ∷ of_rows-kept f g n es is i
  where
    one : (b : Bool) → ◌≡◌ {A = ℕ × Y} ((cond b (e.0, g e.1) e).0, f (cond b (e.0, g e.1) e).1) (e.0, f e.1)
    one true = λ i. (e.0, is e.1 i)
    one false = refl

-- an application that has one more container keeps its chains
pub owned-chains : (r : Role) (number : ℕ) (part : AppPart) → (owned_part r number part).chains ≡ part.chains
owned-chains Master number part = refl
owned-chains (Asked p priority) number part = refl
