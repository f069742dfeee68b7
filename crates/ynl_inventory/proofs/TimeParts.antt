-- The clock of a partition, or the stamp of a node, is set: how the parts mean it, and go together after.
use Rattle.std.proofs.Common.{◌≡◌, ℕ, List, map, slice_get, Some, option_map, nat_eq, refl, sym, ap, subst, ◌∙◌}
use Rattle.std.specs.Prelude.{slice_set}
use Rattle.std.specs.Map.{lookup}
use Rattle.std.proofs.lemmas.Option.{slice_get-map}
use Rattle.ynl_resource.specs.Amounts.{fits_in, less, IsSmall}
use Rattle.ynl_tables.specs.declared.nodes.nodes.NodeRow.{NodeRow as NodePart}
use Rattle.ynl_tables.specs.nodes.Nodes.{with_change}
use Rattle.ynl_tables.specs.containers.Fields.{of_rows}
use Rattle.ynl_tables.specs.containers.Chains.{IsNodeChain}
use Rattle.ynl_inventory.specs.declared.partition.Partition.{Partition}
use Rattle.ynl_inventory.specs.declared.inventory.Inventory.TheInside.{Inside}
use Rattle.ynl_inventory.specs.Changes.{with_clock, with_stamp}
use Rattle.ynl_inventory.specs.Sound.{CanShow, IsSound}
use Rattle.ynl_inventory.specs.Parts.{Held, held_of, node_row, partition_row, used_of, AreLinked, IsInventory}
use Rattle.ynl_inventory.proofs.Lookups.{read-after, was-found}
use Rattle.ynl_inventory.proofs.PartLists.{map-set, of_rows-changed}
use Rattle.ynl_inventory.proofs.PartsChange.{IsRight}
use Rattle.ynl_inventory.proofs.RoomParts.{map-kept, room-linked}
use Rattle.ynl_inventory.proofs.Times.{clock-sound, stamp-sound}

module _ (a : Inside) (p shown : ℕ) (part : Partition) (there : slice_get a.partitions.items p ≡ Some part) where
  abbrev new : Partition
  new = record part { clock = shown }

  -- what the parts mean with another clock
  pub clock-held : (partitions : List Partition) → partitions ≡ slice_set a.partitions.items p new
      → ◌≡◌ {A = Held} (record (held_of a) { rows = record (held_of a).rows { partitions = map partition_row partitions }; rooms = map (λ (x : Partition). x.containers.room) partitions }) (record (held_of a) { rows = with_clock p shown (held_of a).rows })
  clock-held partitions is = λ i. record (held_of a) {
    rows = record (held_of a).rows { partitions = (ap (map partition_row) is ∙ map-set partition_row (λ row. record row { clock = shown }) a.partitions.items p part new there refl) i };
    rooms = (ap (map (λ (x : Partition). x.containers.room)) is ∙ map-kept (λ (x : Partition). x.containers.room) a.partitions.items p part new there refl) i;
  }

  -- they are sound
  pub clock-rows-sound : IsInventory a → CanShow (held_of a).rows p shown → IsSound (record (held_of a).rows { partitions = map partition_row (slice_set a.partitions.items p new) })
  clock-rows-sound inv can =
      subst IsSound (sym (ap (λ (h : Held). h.rows) (clock-held (slice_set a.partitions.items p new) refl)))
      (clock-sound (held_of a).rows p shown inv.sound (partition_row part) (slice_get-map partition_row a.partitions.items p ∙ ap (option_map partition_row) there) can)

  -- and the parts go together
  pub clock-linked : IsInventory a → AreLinked (slice_set a.partitions.items p new) a.nodes.entries a.apps.entries
  clock-linked inv = room-linked a.partitions.items p part new there refl refl a.nodes.entries a.apps.entries inv.linked

module _ (a : Inside) (node stamp : ℕ) (nodes' : List (ℕ × NodePart)) (is : nodes' ≡ with_change node (λ row. record row { stamp = stamp }) a.nodes.entries) where
  abbrev mark : NodePart → NodePart
  mark row = record row { stamp = stamp }

  -- what the parts mean with another stamp
  pub stamp-held : held_of (record a { nodes = record a.nodes { entries = nodes' } }) ≡ record (held_of a) { rows = with_stamp node stamp (held_of a).rows }
  stamp-held = λ i. record (held_of a) {
    rows = record (held_of a).rows {
      nodes = (ap (of_rows node_row) is ∙ of_rows-changed node_row mark (λ row. record row { stamp = stamp }) node a.nodes.entries (λ r. refl)) i;
    };
  }

  stamp-linked : AreLinked a.partitions.items a.nodes.entries a.apps.entries → AreLinked a.partitions.items (with_change node mark a.nodes.entries) a.apps.entries
  stamp-linked linked = record {
    node = λ n r part found at. (right n r part found at).chain;
    app = linked.app;
    free = λ n r part found at. (right n r part found at).free;
    fits = λ n r part found at. (right n r part found at).fits;
    small = λ n r found.
        let old = was-found n node mark a.nodes.entries r found in
        subst IsSmall (sym (ap (λ (r : NodePart). r.size) old.2 ∙ read-after (λ r. r.size) n node mark old.0 refl)) (linked.small n old.0 old.1);
    master = linked.master;
    places = linked.places;
  }
    where
      right : (n : ℕ) (r : NodePart) (part : Partition) → lookup (nat_eq n) (with_change node mark a.nodes.entries) ≡ Some r → slice_get a.partitions.items r.partition ≡ Some part → IsRight n r part
      right n r part found at =
          let old = was-found n node mark a.nodes.entries r found in
          let stands : r.partition ≡ old.0.partition = ap (λ (r : NodePart). r.partition) old.2 ∙ read-after (λ r. r.partition) n node mark old.0 refl in
          let size : r.size ≡ old.0.size = ap (λ (r : NodePart). r.size) old.2 ∙ read-after (λ r. r.size) n node mark old.0 refl in
          let free : r.free ≡ old.0.free = ap (λ (r : NodePart). r.free) old.2 ∙ read-after (λ r. r.free) n node mark old.0 refl in
          let chain : r.containers ≡ old.0.containers = ap (λ (r : NodePart). r.containers) old.2 ∙ read-after (λ r. r.containers) n node mark old.0 refl in
          let was : slice_get a.partitions.items old.0.partition ≡ Some part = ap (slice_get a.partitions.items) (sym stands) ∙ at in
          record {
            chain = subst (λ chain. IsNodeChain part.containers chain n) (sym chain) (linked.node n old.0 part old.1 was);
            free = free ∙ linked.free n old.0 part old.1 was ∙ ap (λ s. less s (used_of part.containers.entries n)) (sym size);
            fits = ap (fits_in (used_of part.containers.entries n)) size ∙ linked.fits n old.0 part old.1 was;
          }

  -- and their invariant holds
  pub stamp-inventory : IsInventory a → IsInventory (record a { nodes = record a.nodes { entries = nodes' } })
  stamp-inventory inv = record {
    sound = subst IsSound (sym (ap (λ (h : Held). h.rows) stamp-held)) (stamp-sound (held_of a).rows node stamp inv.sound);
    linked = subst (λ nodes. AreLinked a.partitions.items nodes a.apps.entries) (sym is) (stamp-linked inv.linked);
  }
