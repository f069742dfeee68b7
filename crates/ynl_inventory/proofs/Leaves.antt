-- One leaf changes, and so the leaves of the model.
use Rattle.std.proofs.Common.{◌≡◌, ◌≢◌, ℕ, false, cond, List, [], ◌∷◌, map, refl, sym, ap, subst, ◌∙◌, inl, inr}
use Rattle.std.specs.List.{AllByRecursion}
use Rattle.std.proofs.lemmas.Bool.{cases_eq}
use Rattle.ynl_resource.specs.Names.{same_path}
use Rattle.ynl_model.specs.Applications.{LeafApps, in_leaf}
use Rattle.ynl_inventory.specs.layout.Paths.{HasNumber, IsTree, path_at}
use Rattle.ynl_laws.proofs.Names.{same-path}
use Rattle.ynl_inventory.specs.Rows.{Rows}
use Rattle.ynl_inventory.specs.Meaning.{leaf_numbers, leaf_of}
use Rattle.ynl_inventory.proofs.AppChange.{path-self}
use Rattle.ynl_inventory.proofs.Finding.{not-true}
use Rattle.ynl_inventory.proofs.Submitted.{each-leaf}

module _ (v w : Rows) (tree : IsTree v.paths) (leaf : ℕ) (there : HasNumber v.paths leaf) (change : LeafApps → LeafApps)
    (own : leaf_of w leaf ≡ change (leaf_of v leaf)) (other : (q : ℕ) → q ≢ leaf → leaf_of w q ≡ leaf_of v q) where
  one : (q : ℕ) → HasNumber v.paths q → leaf_of w q ≡ cond (same_path (path_at v.paths q) (path_at v.paths leaf)) (change (leaf_of v q)) (leaf_of v q)
  one q inside =
      elim (cases_eq q leaf) [
        | inl same ↦
            subst (λ n. leaf_of w n ≡ cond (same_path (path_at v.paths n) (path_at v.paths leaf)) (change (leaf_of v n)) (leaf_of v n)) (sym same)
            (own ∙ sym (ap (λ b. cond b (change (leaf_of v leaf)) (leaf_of v leaf)) (path-self (path_at v.paths leaf))))
        | inr apart ↦
            let differ : same_path (path_at v.paths q) (path_at v.paths leaf) ≡ false =
            not-true (same_path (path_at v.paths q) (path_at v.paths leaf))
            (λ same. apart (tree.apart q leaf inside there (same-path (path_at v.paths q) (path_at v.paths leaf) same)))
            in
            other q apart ∙ sym (ap (λ b. cond b (change (leaf_of v q)) (leaf_of v q)) differ)
      ]

  each : (qs : List ℕ) → AllByRecursion (HasNumber v.paths) qs → map (leaf_of w) qs ≡ in_leaf (path_at v.paths leaf) change (map (leaf_of v) qs)
  each [] h = refl
  each (q ∷ qs) h = λ i. one q h.0 i ∷ each qs h.1 i

  pub one-leaf : map (leaf_of w) (leaf_numbers v.paths) ≡ in_leaf (path_at v.paths leaf) change (map (leaf_of v) (leaf_numbers v.paths))
  one-leaf = each (leaf_numbers v.paths) (each-leaf v.paths)
