-- A node joins: no container is on it yet.
use Rattle.std.proofs.Common.{◌≡◌, map, None, slice_get, Some, ap, subst, ◌∙◌}
use Rattle.std.specs.Prelude.{slice_set}
use Rattle.ynl_tables.specs.containers.Fields.{of_rows}
use Rattle.ynl_tables.proofs.containers.Removing.{at_live}
use Rattle.ynl_tables.proofs.containers.Rows.{unused_of_rows}
use Rattle.ynl_model.specs.Nodes.{rises}
use Rattle.ynl_slots.specs.Slots.{IsUnused}
use Rattle.ynl_inventory.specs.declared.partition.Partition.{Partition}
use Rattle.ynl_inventory.specs.Meaning.{node_number}
use Rattle.ynl_inventory.specs.Changes.{with_joined}
use Rattle.ynl_inventory.specs.Parts.{Held, held_of, node_row, partition_row}
use Rattle.ynl_inventory.specs.Rows.{Rows}
use Rattle.ynl_inventory.proofs.RoomParts.{part-read}
use Rattle.ynl_inventory.proofs.NodeParts.{unnumbered, joined-held, joined-rows-sound, joined-linked}
use Rattle.ynl_inventory.proofs.inventory.Inventory.join.Goals as goal

pub join-requires : goal.join-requires
join-requires c = unnumbered c.args.name.now c.self.inside.nodes.entries (ap (λ (h : Held). node_number c.args.name.now h.rows.nodes) c.self.view_is ∙ c.requires.new)

-- what is known of the partition
stood : (c : goal.After-self-1) → slice_get c.self.inside.partitions.items c.args.p ≡ Some c.index_mut-part.result.now
stood c = part-read c.self.inside c.args.self.now c.args.p c.self.view_is c.requires.partition c.index_mut-part.result.now c.index_mut-part.ensures.value

clock-is : (c : goal.After-self-1) → c.next_clock-clock.result ≡ rises c.index_mut-part.result.now.limit c.index_mut-part.result.now.clock
clock-is c =
    at_live (λ (part : Partition). c.next_clock-clock.result ≡ rises part.limit part.clock) (slice_get c.deref.result.now c.args.p) c.index_mut-part.result.now c.next_clock-clock.ensures
    (ap (λ xs. slice_get xs c.args.p) c.deref.ensures.value ∙ stood c)

-- no node of the parts has the name
unnamed : (c : goal.After-self-1) → node_number c.args.name.now (held_of c.self.inside).rows.nodes ≡ None
unnamed c = ap (λ (h : Held). node_number c.args.name.now h.rows.nodes) c.self.view_is ∙ c.requires.new

pub invariant_of-self-2 : goal.invariant_of-self-2
invariant_of-self-2 c = record {
  sound =
      joined-rows-sound c.self.inside c.self.invariant c.args.p c.index_mut-part.result.now (stood c) c.in_ok-number.number c.args.name.now c.args.size c.next_clock-clock.result (unnamed c) (clock-is c)
      c.amount-amount.ensures.range c.join.new.self.entries c.in_ok-number.ensures.ok;
  linked =
      joined-linked c.self.inside c.self.invariant c.args.p c.index_mut-part.result.now (stood c) c.in_ok-number.number c.args.name.now c.args.size c.next_clock-clock.result (unnamed c) (clock-is c)
      c.amount-amount.ensures.range c.join.new.self.entries c.in_ok-number.ensures.ok;
}

abbrev rows-after : goal.After-self-1 → Rows
rows-after c = record (held_of c.self.inside).rows {
  partitions = map partition_row (slice_set c.self.inside.partitions.items c.args.p (record c.index_mut-part.result.now { clock = c.next_clock-clock.result }));
  nodes = of_rows node_row c.join.new.self.entries;
}

pub returns-clause-ok : goal.returns-clause-ok
returns-clause-ok c =
    ap (λ ready. record { rows = rows-after c; rooms = map (λ (x : Partition). x.containers.room) (slice_set c.self.inside.partitions.items c.args.p (record c.index_mut-part.result.now { clock = c.next_clock-clock.result })); ready = ready }) c.join.ensures.ready
    ∙ joined-held c.self.inside c.self.invariant c.args.p c.index_mut-part.result.now (stood c) c.in_ok-number.number c.args.name.now c.args.size c.next_clock-clock.result (unnamed c) (clock-is c)
    c.amount-amount.ensures.range c.join.new.self.entries c.in_ok-number.ensures.ok
    ∙ ap (λ (h : Held). record h { rows = with_joined c.in_ok-number.number c.args.name.now c.args.p c.args.size h.rows }) c.self.view_is

pub returns-clause-unused : goal.returns-clause-unused
returns-clause-unused c =
    subst (λ (h : Held). IsUnused c.in_ok-number.number h.rows.nodes) c.self.view_is
    (unused_of_rows node_row c.in_ok-number.number c.self.inside.nodes.entries c.in_ok-number.ensures.ok.unused)
