-- Rows that are mapped to pairs with numbers of their own, as seats have tickets.
use Rattle.std.proofs.Common.{◌≡◌, ◌≢◌, ℕ, Bool, true, false, cond, not, List, [], ◌∷◌, map, filter, Some, nat_eq, refl, sym, ap, ◌∙◌, true≢false}
use Rattle.std.specs.List.{AllByRecursion}
use Rattle.std.specs.Map.{lookup}
use Rattle.std.proofs.lemmas.Bool.{eqb-true}
use Rattle.std.proofs.lemmas.Option.{none-some, same_Some}
use Rattle.ynl_laws.proofs.Lists.{Each-unmap, Each-weaker, Each-with}
use Rattle.ynl_slots.specs.Slots.{HasDistinctNumbers, without}
use Rattle.ynl_slots.proofs.Entries.{itself}
use Rattle.ynl_slots.proofs.Lookups.{only_from_distinct}
use Rattle.ynl_inventory.proofs.Finding.{not-true}
use Rattle.ynl_inventory.proofs.Updates.{at-number, head-found, later-found}

-- what passes a test is still found
pub kept-found : {X : Type 0} (test : ℕ × X → Bool) (es : List (ℕ × X)) (n : ℕ) (row : X) → lookup (nat_eq n) es ≡ Some row → test (n, row) ≡ true → lookup (nat_eq n) (filter test es) ≡ Some row
kept-found test [] n row found passes = absurd (none-some row found)
kept-found {X} test (e ∷ es) n row found passes = go (nat_eq n e.0) refl found (λ k. kept-found test es n row k passes)
  where
    go : (b : Bool) → nat_eq n e.0 ≡ b → cond b (Some e.1) (lookup (nat_eq n) es) ≡ Some row → (lookup (nat_eq n) es ≡ Some row → lookup (nat_eq n) (filter test es) ≡ Some row)
        → lookup (nat_eq n) (cond (test e) (e ∷ filter test es) (filter test es)) ≡ Some row
    go true q k rest =
        let is : ◌≡◌ {A = ℕ × X} e (n, row) = λ i. (sym (eqb-true n e.0 q) i, same_Some e.1 row k i) in
        ap (λ b. lookup (nat_eq n) (cond b (e ∷ filter test es) (filter test es))) (ap test is ∙ passes)
        ∙ ap (λ b. cond b (Some e.1) (lookup (nat_eq n) (filter test es))) q ∙ k
    go false q k rest = by (test e)
      where
        by : (c : Bool) → lookup (nat_eq n) (cond c (e ∷ filter test es) (filter test es)) ≡ Some row
        by true = ap (λ b. cond b (Some e.1) (lookup (nat_eq n) (filter test es))) q ∙ rest k
        by false = rest k

module _ {X Y : Type 0} (f : ℕ × X → ℕ × Y) where
  abbrev off : ℕ × X → ℕ × X → Type 0
  off e g = (f g).0 ≢ (f e).0

  module _ (n : ℕ) (row : X) where
    -- the row under a number is the only one that has its ticket
    pub only-one : (es : List (ℕ × X)) → HasDistinctNumbers (map f es) → lookup (nat_eq n) es ≡ Some row → AllByRecursion (λ e. (f e).0 ≡ (f (n, row)).0 → e ≡ (n, row)) es
    only-one [] d found = tt
    only-one (e ∷ es) d found = go (nat_eq n e.0) refl found (only-one es d.1)
      where
        apart : AllByRecursion (off e) es
        apart = Each-unmap f (λ y. y.0 ≢ (f e).0) es d.0

        go : (b : Bool) → nat_eq n e.0 ≡ b → cond b (Some e.1) (lookup (nat_eq n) es) ≡ Some row
            → (lookup (nat_eq n) es ≡ Some row → AllByRecursion (λ e. (f e).0 ≡ (f (n, row)).0 → e ≡ (n, row)) es)
            → AllByRecursion (λ e. (f e).0 ≡ (f (n, row)).0 → e ≡ (n, row)) (e ∷ es)
        go true q k rest =
            let is : ◌≡◌ {A = ℕ × X} e (n, row) = λ i. (sym (eqb-true n e.0 q) i, same_Some e.1 row k i) in
            ((λ same. is), Each-weaker (off e) (λ g. (f g).0 ≡ (f (n, row)).0 → g ≡ (n, row)) (λ g far same. absurd (far (same ∙ ap (λ (x : ℕ × X). (f x).0) (sym is)))) es apart)
        go false q k rest = ((λ same. absurd (at-number (λ m r. off e (m, r)) es n row apart k (sym same))), rest k)

    -- and so it is found by its ticket
    pub found-mapped : (es : List (ℕ × X)) → HasDistinctNumbers (map f es) → lookup (nat_eq n) es ≡ Some row → lookup (nat_eq (f (n, row)).0) (map f es) ≡ Some (f (n, row)).1
    found-mapped [] d found = absurd (none-some row found)
    found-mapped (e ∷ es) d found = go (nat_eq n e.0) refl found (found-mapped es d.1)
      where
        apart : AllByRecursion (off e) es
        apart = Each-unmap f (λ y. y.0 ≢ (f e).0) es d.0

        go : (b : Bool) → nat_eq n e.0 ≡ b → cond b (Some e.1) (lookup (nat_eq n) es) ≡ Some row
            → (lookup (nat_eq n) es ≡ Some row → lookup (nat_eq (f (n, row)).0) (map f es) ≡ Some (f (n, row)).1)
            → lookup (nat_eq (f (n, row)).0) (f e ∷ map f es) ≡ Some (f (n, row)).1
        go true q k rest =
            let is : ◌≡◌ {A = ℕ × X} e (n, row) = λ i. (sym (eqb-true n e.0 q) i, same_Some e.1 row k i) in
            ap (λ (g : ℕ × X). lookup (nat_eq (f g).0) (f e ∷ map f es)) (sym is) ∙ head-found (f e) (map f es) ∙ ap (λ (g : ℕ × X). Some (f g).1) is
        go false q k rest =
            later-found (f (n, row)).0 (f (n, row)).1 (f e) (map f es) (λ same. at-number (λ m r. off e (m, r)) es n row apart k (sym same)) (rest k)

    abbrev pub Tells : ℕ × X → Type 0
    Tells e = (nat_eq (f (n, row)).0 (f e).0 ≡ nat_eq n e.0) × (nat_eq n e.0 ≡ true → e ≡ (n, row))

    -- a row has the ticket where it has the number, and then it is that row
    pub tells : (es : List (ℕ × X)) → HasDistinctNumbers es → HasDistinctNumbers (map f es) → lookup (nat_eq n) es ≡ Some row → AllByRecursion Tells es
    tells es d t found =
        Each-with (λ e. (f e).0 ≡ (f (n, row)).0 → e ≡ (n, row)) (λ (e : ℕ × X). e.0 ≡ n → e.1 ≡ row) Tells one es (only-one es t found) (only_from_distinct n row es d found)
      where
        one : (e : ℕ × X) → ((f e).0 ≡ (f (n, row)).0 → e ≡ (n, row)) → (e.0 ≡ n → e.1 ≡ row) → Tells e
        one e only same = (go (nat_eq n e.0) refl, is)
          where
            is : nat_eq n e.0 ≡ true → e ≡ (n, row)
            is q = λ i. (sym (eqb-true n e.0 q) i, same (sym (eqb-true n e.0 q)) i)

            go : (b : Bool) → nat_eq n e.0 ≡ b → nat_eq (f (n, row)).0 (f e).0 ≡ b
            go true q = ap (λ (g : ℕ × X). nat_eq (f (n, row)).0 (f g).0) (is q) ∙ itself (f (n, row)).0
            go false q =
                not-true (nat_eq (f (n, row)).0 (f e).0)
                (λ hit.
                let own : e ≡ (n, row) = only (sym (eqb-true (f (n, row)).0 (f e).0 hit)) in
                true≢false (sym (ap (λ (g : ℕ × X). nat_eq n g.0) own ∙ itself n) ∙ q))

    -- the row goes with its ticket
    pub without-mapped : (es : List (ℕ × X)) → AllByRecursion Tells es → map f (without n es) ≡ without (f (n, row)).0 (map f es)
    without-mapped [] h = refl
    without-mapped (e ∷ es) h =
        go (nat_eq n e.0) (without-mapped es h.1)
        ∙ ap (λ b. cond (not b) (f e ∷ without (f (n, row)).0 (map f es)) (without (f (n, row)).0 (map f es))) (sym h.0.0)
      where
        go : (b : Bool) → map f (without n es) ≡ without (f (n, row)).0 (map f es)
            → map f (cond (not b) (e ∷ without n es) (without n es)) ≡ cond (not b) (f e ∷ without (f (n, row)).0 (map f es)) (without (f (n, row)).0 (map f es))
        go true rest = rest
        go false rest = ap (λ ys. f e ∷ ys) rest
