-- What is listed of leaves where a user comes to be known, and where a container ends.
use Rattle.std.proofs.Common.{◌≡◌, ℕ, None, sym, subst, ◌∙◌}
use Rattle.ynl_resource.specs.declared.names.Name.{Name}
use Rattle.ynl_inventory.specs.Changes.{with_ended, with_user_known}
use Rattle.ynl_inventory.specs.Rows.{Rows}
use Rattle.ynl_inventory.specs.Sound.{IsSound}
use Rattle.ynl_sights.specs.declared.lists.LeafLists.{LeafLists}
use Rattle.ynl_sights.specs.Lists.{kept_at, AreListsOf, KeepsElsewhere}
use Rattle.ynl_sights.proofs.Ended.{ended-elsewhere}
use Rattle.ynl_sights.proofs.Staying.{all-stay, lists-stay}
use Rattle.ynl_sights.proofs.Submitted.{known-stays}
use Rattle.ynl_core.specs.Ending.{IsOfLeaf}

-- the lists of its leaf are forgotten, and the others stay
pub lists-end : (v after : Rows) → IsSound v → (p number node leaf : ℕ) → IsOfLeaf v p number leaf → after ≡ with_ended p number node v
    → (old new : LeafLists) → ((r : ℕ) → kept_at new r leaf ≡ None) → KeepsElsewhere leaf old new → AreListsOf v old → AreListsOf after new
lists-end v after sound p number node leaf of is old new gone others are =
    subst (λ (rows : Rows). AreListsOf rows new) (sym is)
    (lists-stay v sound (with_ended p number node v) leaf
    (λ q apart. ended-elsewhere v sound p number node of.container of.held of.row of.found q (λ same. apart (same ∙ sym of.is))) old new gone others are)

-- all stay
pub lists-known : (v after : Rows) → IsSound v → (name : Name) → after ≡ with_user_known name v → (lists : LeafLists) → AreListsOf v lists → AreListsOf after lists
lists-known v after sound name is lists are = subst (λ (rows : Rows). AreListsOf rows lists) (sym is) (all-stay v sound (with_user_known name v) (known-stays name v sound) lists are)
