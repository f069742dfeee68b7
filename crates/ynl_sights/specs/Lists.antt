-- What is wanted of leaves, as it is listed for sights and kept.
use Rattle.std.specs.Prelude.{◌≡◌, ◌≢◌, ℕ, List, map, slice_get, Option, option_map, Some}
use Rattle.std.specs.Option.{option_and_then}
use Rattle.std.specs.declared.sync.Arc.{Arc}
use Rattle.ynl_inventory.specs.Rows.{Rows}
use Rattle.ynl_cluster.specs.requests.Laws.{in_leaf}
use Rattle.ynl_sights.specs.declared.lists.LeafLists.{LeafLists}
use Rattle.ynl_sights.specs.declared.rows.LeafList.{LeafList}
use Rattle.ynl_sights.specs.Rows.{shown}
use Rattle.ynl_sights.specs.Copying.{asked_shown, master_shown, one_by_one}

-- a list has what is wanted of a leaf on a partition
pub record IsListOf (v : Rows) (p q : ℕ) (list : LeafList) : Type 0 where
  pub masters : map shown list.masters.items ≡ one_by_one (master_shown v p) 0 (in_leaf q v.apps)
  pub asks : map shown list.asks.items ≡ one_by_one (asked_shown v p) 0 (in_leaf q v.apps)

-- the list that is kept of a leaf on a partition, among those of the leaf
abbrev pub slot_at : {Z : Type 0} → List (Option (Arc LeafList Z)) → ℕ → Option LeafList
slot_at row p = option_and_then (λ slot. option_map (λ list. list.value) slot) (slice_get row p)

-- each list that is kept of a leaf has what is wanted there
pub record AreListsIn {Z : Type 0} (v : Rows) (q : ℕ) (row : List (Option (Arc LeafList Z))) : Type 0 where
  pub kept : (p : ℕ) (list : LeafList) → slot_at row p ≡ Some list → IsListOf v p q list

-- the list that is kept of a leaf on a partition, among all
abbrev pub kept_at : LeafLists → ℕ → ℕ → Option LeafList
kept_at lists p q = option_and_then (λ row. slot_at row.items p) (slice_get lists.rows.items q)

-- each list that is kept has what is wanted
pub record AreListsOf (v : Rows) (lists : LeafLists) : Type 0 where
  pub kept : (p q : ℕ) (list : LeafList) → kept_at lists p q ≡ Some list → IsListOf v p q list

-- those of other leaves are kept as they were
abbrev pub KeepsElsewhere : ℕ → LeafLists → LeafLists → Type 0
KeepsElsewhere leaf old new = (p q : ℕ) → q ≢ leaf → kept_at new p q ≡ kept_at old p q
