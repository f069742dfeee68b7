-- Rows under numbers of which some go, by a test.
use Rattle.std.proofs.Common.{◌≡◌, ◌≢◌, ◌<◌, ℕ, Bool, true, false, cond, not, List, [], ◌∷◌, map, filter, Some, nat_eq, refl, sym, ap, ◌∙◌, arith}
use Rattle.std.specs.List.{AllByRecursion}
use Rattle.std.specs.Map.{lookup}
use Rattle.std.proofs.lemmas.Bool.Decides.{nat_tests}
use Rattle.std.proofs.lemmas.Option.{none-some, same_Some}
use Rattle.ynl_resource.specs.Tables.{without as dropped}
use Rattle.ynl_resource.specs.declared.names.Name.{Name}
use Rattle.ynl_laws.proofs.Lists.{Each-filter, Each-map, Each-unmap}
use Rattle.ynl_laws.specs.Numbers.{Differ}
use Rattle.ynl_resource.specs.Names.{same_name}
use Rattle.ynl_slots.specs.Slots.{HasDistinctNumbers}
use Rattle.ynl_tables.specs.declared.containers.container.Container.{Container}
use Rattle.ynl_tables.specs.containers.Table.{IsRising}
use Rattle.ynl_inventory.specs.Apps.{HasOneMasterEach}
use Rattle.ynl_inventory.proofs.Updates.{later-found, unused-apart}

module _ {X : Type 0} (test : ℕ × X → Bool) where
  pub filter-distinct : (es : List (ℕ × X)) → HasDistinctNumbers es → HasDistinctNumbers (filter test es)
  filter-distinct [] d = tt
  filter-distinct (e ∷ es) d = go (test e) (filter-distinct es d.1)
    where
      go : (b : Bool) → HasDistinctNumbers (filter test es) → HasDistinctNumbers (cond b (e ∷ filter test es) (filter test es))
      go true rest = (Each-filter (λ f. f.0 ≢ e.0) test es d.0, rest)
      go false rest = rest

  -- what is left was there, and passes
  pub filter-lookup : (n : ℕ) (row : X) (es : List (ℕ × X)) → HasDistinctNumbers es → lookup (nat_eq n) (filter test es) ≡ Some row → (lookup (nat_eq n) es ≡ Some row) × (test (n, row) ≡ true)
  filter-lookup n row [] d found = absurd (none-some row found)
  filter-lookup n row (e ∷ es) d found = go (test e) refl found (filter-lookup n row es d.1)
    where
      later : (lookup (nat_eq n) es ≡ Some row) × (test (n, row) ≡ true) → (lookup (nat_eq n) (e ∷ es) ≡ Some row) × (test (n, row) ≡ true)
      later is = (later-found n row e es (unused-apart n e.0 row es d.0 is.0) is.0, is.1)

      here : (b : Bool) → nat_eq n e.0 ≡ b → test e ≡ true → cond b (Some e.1) (lookup (nat_eq n) (filter test es)) ≡ Some row
          → (lookup (nat_eq n) (filter test es) ≡ Some row → (lookup (nat_eq n) es ≡ Some row) × (test (n, row) ≡ true)) → (lookup (nat_eq n) (e ∷ es) ≡ Some row) × (test (n, row) ≡ true)
      here true q passes k rest =
          let number : n ≡ e.0 = grind (arith, nat_tests, q) in
          let is : row ≡ e.1 = sym (same_Some e.1 row k) in
          (ap (λ b. cond b (Some e.1) (lookup (nat_eq n) es)) q ∙ k, (λ i. test (number i, is i)) ∙ passes)
      here false q passes k rest = later (rest k)

      go : (b : Bool) → test e ≡ b → lookup (nat_eq n) (cond b (e ∷ filter test es) (filter test es)) ≡ Some row
          → (lookup (nat_eq n) (filter test es) ≡ Some row → (lookup (nat_eq n) es ≡ Some row) × (test (n, row) ≡ true)) → (lookup (nat_eq n) (e ∷ es) ≡ Some row) × (test (n, row) ≡ true)
      go true passes k rest = here (nat_eq n e.0) refl passes k rest
      go false fails k rest = later (rest k)

  -- names still differ
  pub filter-differ : (key : X → Name) (es : List (ℕ × X)) → Differ (map (λ e. key e.1) es) → Differ (map (λ e. key e.1) (filter test es))
  filter-differ key [] d = tt
  filter-differ key (e ∷ es) d = go (test e) (filter-differ key es d.1)
    where
      go : (b : Bool) → Differ (map (λ e. key e.1) (filter test es)) → Differ (map (λ e. key e.1) (cond b (e ∷ filter test es) (filter test es)))
      go true rest = (
        Each-map (λ f. same_name (key e.1) (key f.1) ≡ false) (λ a. same_name (key e.1) a ≡ false) (λ (f : ℕ × X). key f.1) (λ f h. h) (filter test es)
            (Each-filter (λ f. same_name (key e.1) (key f.1) ≡ false) test es (Each-unmap (λ (f : ℕ × X). key f.1) (λ a. same_name (key e.1) a ≡ false) es d.0)),
        rest,
      )
      go false rest = rest

-- no two are masters of one application
pub filter-masters : (test : ℕ × Container → Bool) (es : List (ℕ × Container)) → HasDistinctNumbers es → HasOneMasterEach es → HasOneMasterEach (filter test es)
filter-masters test es distinct one n m c d at there = one n m c d (filter-lookup test n c es distinct at).0 (filter-lookup test m d es distinct there).0

-- clocks still rise
pub filter-rising : (test : ℕ × Container → Bool) (es : List (ℕ × Container)) → IsRising es → IsRising (filter test es)
filter-rising test [] r = tt
filter-rising test (e ∷ es) r = go (test e) (filter-rising test es r.1)
  where
    go : (b : Bool) → IsRising (filter test es) → IsRising (cond b (e ∷ filter test es) (filter test es))
    go true rest = (Each-filter (λ f. e.1.clock < f.1.clock) test es r.0, rest)
    go false rest = rest

-- what goes by a test goes by the test of what it means
pub filter-means : {X Y : Type 0} (f g : X → Y) (test : X → Bool) (test' : Y → Bool) (xs : List X) → AllByRecursion (λ x. (test' (f x) ≡ test x) × (test x ≡ false → g x ≡ f x)) xs
    → map g (filter (λ x. not (test x)) xs) ≡ dropped test' (map f xs)
filter-means f g test test' [] h = refl
filter-means f g test test' (x ∷ xs) h =
    go (test x) refl (filter-means f g test test' xs h.1) ∙ ap (λ b. cond (not b) (f x ∷ dropped test' (map f xs)) (dropped test' (map f xs))) (sym h.0.0)
  where
    go : (b : Bool) → test x ≡ b → map g (filter (λ x. not (test x)) xs) ≡ dropped test' (map f xs)
        → map g (cond (not b) (x ∷ filter (λ x. not (test x)) xs) (filter (λ x. not (test x)) xs)) ≡ cond (not b) (f x ∷ dropped test' (map f xs)) (dropped test' (map f xs))
    go true is rest = rest
    go false is rest = λ i. h.0.1 is i ∷ rest i
