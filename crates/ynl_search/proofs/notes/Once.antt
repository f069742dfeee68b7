-- A container is the only one of its id.
use Rattle.std.proofs.Common.{◌≡◌, ℕ, ◌<◌, Bool, true, false, ◌&&◌, ◌==◌, cond, nat_eq, List, [], ◌∷◌, map, filter, Some, ap, subst, ◌∙◌, arith}
use Rattle.std.specs.List.{AllByRecursion}
use Rattle.std.specs.Map.{lookup}
use Rattle.std.proofs.lemmas.Bool.Decides.{nat_tests}
use Rattle.std.proofs.lemmas.Option.{none-some, same_Some}
use Rattle.ynl_laws.proofs.Lists.{filter-map, filter-nothing}
use Rattle.ynl_laws.proofs.Names.{same-label_self}
use Rattle.ynl_resource.specs.Names.{same_id}
use Rattle.ynl_resource.specs.declared.labels.Label.{Label}
use Rattle.ynl_model.specs.declared.containers.Placed.{Placed}
use Rattle.ynl_tables.specs.declared.containers.container.Container.{Container}
use Rattle.ynl_tables.specs.containers.Table.{IsRising}
use Rattle.ynl_inventory.specs.Rows.{Rows}
use Rattle.ynl_inventory.specs.Meaning.{placed_of}

-- what holds of each entry holds of the one of a number
each-at : (P : ℕ × Container → Type 0) (es : List (ℕ × Container)) (n : ℕ) (c : Container) → AllByRecursion P es → lookup (nat_eq n) es ≡ Some c → (m : ℕ) × P (m, c)
each-at P [] n c all at = absurd (none-some c at)
each-at P (e ∷ es) n c all at = go (nat_eq n e.0) at (each-at P es n c all.1)
  where
    go : (b : Bool) → cond b (Some e.1) (lookup (nat_eq n) es) ≡ Some c → (lookup (nat_eq n) es ≡ Some c → (m : ℕ) × P (m, c)) → (m : ℕ) × P (m, c)
    go true found rest = (e.0, subst (λ (x : Container). P (e.0, x)) (same_Some e.1 c found) all.0)
    go false found rest = rest found

-- of entries whose clocks rise one alone has the clock of a container among them
once-clocked : (es : List (ℕ × Container)) (n : ℕ) (c : Container) → IsRising es → lookup (nat_eq n) es ≡ Some c → (m : ℕ) × (filter (λ e. e.1.clock == c.clock) es ≡ (m, c) ∷ [])
once-clocked [] n c rising at = absurd (none-some c at)
once-clocked (e ∷ es) n c rising at = go (nat_eq n e.0) at (once-clocked es n c rising.1)
  where
    after : (e.1.clock ≡ c.clock) → (xs : List (ℕ × Container)) → AllByRecursion (λ f. e.1.clock < f.1.clock) xs → AllByRecursion (λ f. (f.1.clock == c.clock) ≡ false) xs
    after same [] all = tt
    after same (x ∷ xs) all = (later, after same xs all.1)
      where
        later : (x.1.clock == c.clock) ≡ false
        later = grind (arith, nat_tests, same, all.0)

    go : (b : Bool) → cond b (Some e.1) (lookup (nat_eq n) es) ≡ Some c → (lookup (nat_eq n) es ≡ Some c → (m : ℕ) × (filter (λ e. e.1.clock == c.clock) es ≡ (m, c) ∷ []))
        → (m : ℕ) × (filter (λ e. e.1.clock == c.clock) (e ∷ es) ≡ (m, c) ∷ [])
    go true found later = (e.0, (λ i. cond (self i) (e ∷ rest i) (rest i)) ∙ ap (λ (x : Container). (e.0, x) ∷ []) is)
      where
        is : e.1 ≡ c
        is = same_Some e.1 c found

        self : (e.1.clock == c.clock) ≡ true
        self = grind (arith, nat_tests, ap (λ (x : Container). x.clock) is)

        rest : filter (λ e. e.1.clock == c.clock) es ≡ []
        rest = filter-nothing (λ e. e.1.clock == c.clock) es (after (ap (λ (x : Container). x.clock) is) es rising.0)
    go false found later =
        let at = later found in
        (at.0, ap (λ b. cond b (e ∷ filter (λ e. e.1.clock == c.clock) es) (filter (λ e. e.1.clock == c.clock) es)) other ∙ at.1)
      where
        other : (e.1.clock == c.clock) ≡ false
        other = let before = each-at (λ f. e.1.clock < f.1.clock) es n c rising.0 found in grind (arith, nat_tests, before.1)

-- so it is of the containers as the model has them
pub once-placed : (v : Rows) (label : Label) (es : List (ℕ × Container)) (n : ℕ) (c : Container) → IsRising es → lookup (nat_eq n) es ≡ Some c
    → filter (λ k. same_id k.id (placed_of v label c).id) (map (λ (e : ℕ × Container). placed_of v label e.1) es) ≡ placed_of v label c ∷ []
once-placed v label es n c rising at =
    filter-map (λ (e : ℕ × Container). placed_of v label e.1) (λ (k : Placed). same_id k.id (placed_of v label c).id) es
    ∙ ap (λ (b : Bool). map (λ (e : ℕ × Container). placed_of v label e.1) (filter (λ (e : ℕ × Container). b && (e.1.clock == c.clock)) es)) (same-label_self label)
    ∙ ap (map (λ (e : ℕ × Container). placed_of v label e.1)) (once-clocked es n c rising at).1
