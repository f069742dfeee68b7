-- A node without containers leaves, and joins again under a number of its own.
use Rattle.std.proofs.Common.{◌≡◌, ℕ, Bool, false, List, map, slice_get, Some, None, option_map, nat_eq, refl, sym, ap, subst, ◌∙◌}
use Rattle.std.specs.Prelude.{slice_set, IfSome}
use Rattle.std.specs.Map.{lookup}
use Rattle.ynl_resource.specs.Amounts.{IsSize}
use Rattle.ynl_model.specs.Nodes.{rises}
use Rattle.ynl_slots.specs.Slots.{without, HasDistinctNumbers, IsLive, IsUnused}
use Rattle.ynl_tables.specs.declared.nodes.nodes.NodeRow.{NodeRow as NodePart}
use Rattle.ynl_tables.specs.nodes.Nodes.{HasDistinctNames, Rejoins}
use Rattle.ynl_tables.proofs.nodes.Names.{unnamed_without}
use Rattle.ynl_tables.specs.containers.Fields.{of_rows}
use Rattle.ynl_tables.proofs.containers.Rows.{lookup-of_rows, of_rows-without, unused_of_rows}
use Rattle.ynl_inventory.specs.declared.partition.Partition.{Partition}
use Rattle.ynl_inventory.specs.declared.inventory.Inventory.TheInside.{Inside}
use Rattle.ynl_inventory.specs.Rows.{Rows, NodeRow}
use Rattle.ynl_inventory.specs.Changes.{with_joined, with_node_gone}
use Rattle.ynl_inventory.specs.Meaning.{node_number}
use Rattle.ynl_inventory.specs.Parts.{held_of, node_row, partition_row, AreLinked, Held, IsInventory}
use Rattle.ynl_inventory.specs.Sound.{HasNoContainers, IsSound}
use Rattle.ynl_inventory.proofs.NodeParts.{joined-held, joined-linked, joined-rows-sound, left-held, left-inventory, same-number}

module _ (a : Inside) (inv : IsInventory a) (node : ℕ) (live : IsLive node (held_of a).rows.nodes) (empty : HasNoContainers (held_of a).rows node)
    (distinct : HasDistinctNumbers a.nodes.entries) (names : HasDistinctNames a.nodes.entries)
    (p : ℕ) (part : Partition) (there : slice_get a.partitions.items p ≡ Some part) (clock : ℕ) (clock-is : clock ≡ rises part.limit part.clock)
    (number : ℕ) (nodes' : List (ℕ × NodePart)) (re : Rejoins node number p clock a.nodes.entries nodes') (sized : IsSize re.row.size) where
  -- the parts without the node
  abbrev gone : Inside
  gone = record a { nodes = record a.nodes { entries = without node a.nodes.entries } }

  gone-inventory : IsInventory gone
  gone-inventory = left-inventory a node (without node a.nodes.entries) refl inv live empty

  -- none of the others has its name
  unnamed : node_number re.row.name (held_of gone).rows.nodes ≡ None
  unnamed = same-number re.row.name (without node a.nodes.entries) ∙ unnamed_without node re.row a.nodes.entries distinct names re.found

  abbrev parts : List Partition
  parts = slice_set a.partitions.items p (record part { clock = clock })

  abbrev rows_after : Rows
  rows_after = record (held_of a).rows { partitions = map partition_row parts; nodes = of_rows node_row nodes' }

  -- the rows are sound
  pub rejoined-sound : IsSound rows_after
  rejoined-sound = joined-rows-sound gone gone-inventory p part there number re.row.name re.row.size clock unnamed clock-is sized nodes' re.joins

  -- the parts go together
  pub rejoined-linked : AreLinked parts nodes' a.apps.entries
  rejoined-linked = joined-linked gone gone-inventory p part there number re.row.name re.row.size clock unnamed clock-is sized nodes' re.joins

  -- and mean what leaving and joining give
  own : (ready : Bool) → ready ≡ false
      → ◌≡◌ {A = Held} (record { rows = rows_after; rooms = map (λ (x : Partition). x.containers.room) parts; ready = ready })
      (record (held_of a) { rows = with_joined number re.row.name p re.row.size (with_node_gone node (held_of a).rows); ready = false })
  own ready is =
      (λ i. record (joined-held gone gone-inventory p part there number re.row.name re.row.size clock unnamed clock-is sized nodes' re.joins i) { ready = is i })
      ∙ (λ i. record (held_of a) { rows = with_joined number re.row.name p re.row.size (left-held a node (without node a.nodes.entries) refl i).rows; ready = false })

  pub rejoined-held : (h : Held) → held_of a ≡ h → (ready : Bool) → ready ≡ false
      → IfSome (lookup (nat_eq node) h.rows.nodes) (λ row.
      ◌≡◌ {A = Held} (record { rows = rows_after; rooms = map (λ (x : Partition). x.containers.room) parts; ready = ready })
      (record h { rows = with_joined number row.name p row.size (with_node_gone node h.rows); ready = false }))
  rejoined-held h view ready is =
      subst
      (λ (h : Held). IfSome (lookup (nat_eq node) h.rows.nodes) (λ row.
      ◌≡◌ {A = Held} (record { rows = rows_after; rooms = map (λ (x : Partition). x.containers.room) parts; ready = ready })
      (record h { rows = with_joined number row.name p row.size (with_node_gone node h.rows); ready = false })))
      view
      (subst
      (λ o. IfSome o (λ (row : NodeRow).
      ◌≡◌ {A = Held} (record { rows = rows_after; rooms = map (λ (x : Partition). x.containers.room) parts; ready = ready })
      (record (held_of a) { rows = with_joined number row.name p row.size (with_node_gone node (held_of a).rows); ready = false })))
      (sym (lookup-of_rows node_row node a.nodes.entries ∙ ap (option_map node_row) re.found)) (own ready is))

  -- its number is none of the others'
  pub rejoined-unused : (h : Held) → held_of a ≡ h → IsUnused number (without node h.rows.nodes)
  rejoined-unused h view =
      subst (λ (h : Held). IsUnused number (without node h.rows.nodes)) view
      (subst (IsUnused number) (of_rows-without node_row node a.nodes.entries) (unused_of_rows node_row number (without node a.nodes.entries) re.joins.unused))
