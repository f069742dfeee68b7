-- Applications of other leaves are others than the one that changes or whose container it is.
use Rattle.std.proofs.Common.{◌≡◌, ◌≢◌, ℕ, Bool, true, false, cond, not, ◌&&◌, nat_eq, List, [], ◌∷◌, Some, refl, sym, ap, ◌∙◌}
use Rattle.std.specs.List.{AllByRecursion}
use Rattle.std.specs.Map.{lookup}
use Rattle.std.specs.Option.{option_map_or}
use Rattle.std.proofs.lemmas.Bool.{eqb-true}
use Rattle.std.proofs.lemmas.Option.{same_Some}
use Rattle.ynl_laws.proofs.Logic.{and-false}
use Rattle.ynl_slots.proofs.Entries.{other as differ}
use Rattle.ynl_tables.specs.apps.Apps.{with_change}
use Rattle.ynl_tables.specs.declared.containers.container.Container.{Container}
use Rattle.ynl_inventory.specs.Rows.{Rows, AppRow}
use Rattle.ynl_inventory.specs.Apps.{is_guest_role, is_master_of, is_master_role}
use Rattle.ynl_inventory.specs.Sound.{IsSound}
use Rattle.ynl_inventory.proofs.Updates.{each-number}
use Rattle.ynl_cluster.specs.requests.Laws.{in_leaf}
use Rattle.ynl_cluster.specs.seating.Seating.{counts, is_of}

-- a change that leaves the leaf, of an application of another leaf, leaves those of a leaf
pub kept : (app q : ℕ) (change : AppRow → AppRow) → ((r : AppRow) → (change r).leaf ≡ r.leaf) → (es : List (ℕ × AppRow)) → AllByRecursion (λ e. app ≡ e.0 → nat_eq e.1.leaf q ≡ false) es
    → in_leaf q (with_change app change es) ≡ in_leaf q es
kept app q change leaf [] all = refl
kept app q change leaf (e ∷ es) all = go (nat_eq app e.0) refl (kept app q change leaf es all.1)
  where
    go : (b : Bool) → nat_eq app e.0 ≡ b → in_leaf q (with_change app change es) ≡ in_leaf q es → in_leaf q (cond b (e.0, change e.1) e ∷ with_change app change es) ≡ in_leaf q (e ∷ es)
    go true is rest =
        let none : nat_eq e.1.leaf q ≡ false = all.0 (eqb-true app e.0 is) in
        ap (λ b. cond b ((e.0, change e.1) ∷ in_leaf q (with_change app change es)) (in_leaf q (with_change app change es))) (ap (λ l. nat_eq l q) (leaf e.1) ∙ none)
        ∙ rest ∙ sym (ap (λ b. cond b (e ∷ in_leaf q es) (in_leaf q es)) none)
    go false is rest = ap (λ rest. cond (nat_eq e.1.leaf q) (e ∷ rest) rest) rest

module _ (v : Rows) (app : ℕ) (row : AppRow) (found : lookup (nat_eq app) v.apps ≡ Some row) (q : ℕ) (other : q ≢ row.leaf) where
  apart : (n : ℕ) (its : AppRow) → lookup (nat_eq n) v.apps ≡ Some its → its.leaf ≡ q → app ≢ n
  apart n its at own same =
      other (sym own ∙ ap (λ (r : AppRow). r.leaf) (same_Some its row (sym at ∙ ap (λ m. lookup (nat_eq m) v.apps) (sym same) ∙ found)))

  pub apps-stay : (sound : IsSound v) (change : AppRow → AppRow) → ((r : AppRow) → (change r).leaf ≡ r.leaf) → in_leaf q (with_change app change v.apps) ≡ in_leaf q v.apps
  apps-stay sound change leaf =
      kept app q change leaf v.apps
      (each-number (λ n its. app ≡ n → nat_eq its.leaf q ≡ false) v.apps sound.app_numbers (λ n its at same. differ its.leaf q (λ own. apart n its at own same)))

-- a container of such an application
module _ (v : Rows) (number : ℕ) (c : Container) (row : AppRow) (found : lookup (nat_eq c.app) v.apps ≡ Some row) (q : ℕ) (other : q ≢ row.leaf) where
  -- is the master of no application of the leaf
  pub no-master : (n : ℕ) (its : AppRow) → lookup (nat_eq n) v.apps ≡ Some its → its.leaf ≡ q → is_master_of n (number, c) ≡ false
  no-master n its at own = ap (λ b. is_master_role c.role && b) (differ c.app n (apart v c.app row found q other n its at own)) ∙ and-false (is_master_role c.role)

  -- and counts for none of its users
  pub no-use : (p user : ℕ) → counts v p q user (number, c) ≡ false
  no-use p user =
      ap (λ o. not (is_guest_role p c.role) && option_map_or (is_of q user) o false) found
      ∙ ap (λ b. not (is_guest_role p c.role) && (b && nat_eq row.user user)) (differ row.leaf q (λ same. other (sym same)))
      ∙ and-false (not (is_guest_role p c.role))
