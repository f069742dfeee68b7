-- A node without containers leaves and joins again.
use Rattle.std.proofs.Common.{◌≡◌, slice_get, Some, ap, sym, subst, ◌∙◌}
use Rattle.std.proofs.lemmas.Option.{same_Some}
use Rattle.ynl_resource.specs.Amounts.{IsSize}
use Rattle.ynl_tables.proofs.containers.Removing.{at_live}
use Rattle.ynl_model.specs.Nodes.{rises}
use Rattle.ynl_slots.specs.Slots.{IsLive}
use Rattle.ynl_tables.specs.declared.nodes.nodes.NodeRow.{NodeRow as NodePart}
use Rattle.ynl_inventory.specs.declared.partition.Partition.{Partition}
use Rattle.ynl_inventory.specs.Parts.{held_of, Held}
use Rattle.ynl_inventory.specs.Sound.{HasNoContainers}
use Rattle.ynl_inventory.proofs.NodeParts.{node-live}
use Rattle.ynl_inventory.proofs.Rejoining.{rejoined-held, rejoined-linked, rejoined-sound, rejoined-unused}
use Rattle.ynl_inventory.proofs.RoomParts.{part-read}
use Rattle.ynl_inventory.proofs.inventory.Inventory.rejoin.Goals as goal

pub index-requires : goal.index-requires
index-requires c = node-live c.self.inside c.args.node (subst (λ (h : Held). IsLive c.args.node h.rows.nodes) (sym c.self.view_is) c.requires.live)

-- what is known of the partition, and of the node
stood : (c : goal.After-self-1) → slice_get c.self.inside.partitions.items c.args.p ≡ Some c.index_mut-part.result.now
stood c = part-read c.self.inside c.args.self.now c.args.p c.self.view_is c.requires.partition c.index_mut-part.result.now c.index_mut-part.ensures.value

clock-is : (c : goal.After-self-1) → c.next_clock-clock.result ≡ rises c.index_mut-part.result.now.limit c.index_mut-part.result.now.clock
clock-is c =
    at_live (λ (part : Partition). c.next_clock-clock.result ≡ rises part.limit part.clock) (slice_get c.deref.result.now c.args.p) c.index_mut-part.result.now c.next_clock-clock.ensures
    (ap (λ xs. slice_get xs c.args.p) c.deref.ensures.value ∙ stood c)

live : (c : goal.After-self-1) → IsLive c.args.node (held_of c.self.inside).rows.nodes
live c = subst (λ (h : Held). IsLive c.args.node h.rows.nodes) (sym c.self.view_is) c.requires.live

empty : (c : goal.After-self-1) → HasNoContainers (held_of c.self.inside).rows c.args.node
empty c = subst (λ (h : Held). HasNoContainers h.rows c.args.node) (sym c.self.view_is) c.requires.empty

sized : (c : goal.After-self-1) → IsSize c.rejoin-number.ensures.entries.row.size
sized c = subst (λ (row : NodePart). IsSize row.size) (same_Some c.index.result.now c.rejoin-number.ensures.entries.row (sym c.index.ensures ∙ c.rejoin-number.ensures.entries.found)) c.amount-amount.ensures.range

pub invariant_of-self : goal.invariant_of-self
invariant_of-self c = record {
  sound =
      rejoined-sound c.self.inside c.self.invariant c.args.node (live c) (empty c) c.len.ensures.distinct c.len.ensures.names c.args.p c.index_mut-part.result.now (stood c) c.next_clock-clock.result (clock-is c)
      c.rejoin-number.result c.rejoin-number.new.self.entries c.rejoin-number.ensures.entries (sized c);
  linked =
      rejoined-linked c.self.inside c.self.invariant c.args.node (live c) (empty c) c.len.ensures.distinct c.len.ensures.names c.args.p c.index_mut-part.result.now (stood c) c.next_clock-clock.result (clock-is c)
      c.rejoin-number.result c.rejoin-number.new.self.entries c.rejoin-number.ensures.entries (sized c);
}

pub returns-clause-rows : goal.returns-clause-rows
returns-clause-rows c =
    rejoined-held c.self.inside c.self.invariant c.args.node (live c) (empty c) c.len.ensures.distinct c.len.ensures.names c.args.p c.index_mut-part.result.now (stood c) c.next_clock-clock.result (clock-is c)
    c.rejoin-number.result c.rejoin-number.new.self.entries c.rejoin-number.ensures.entries (sized c) c.args.self.now c.self.view_is c.rejoin-number.new.self.ready c.rejoin-number.ensures.ready

pub returns-clause-unused : goal.returns-clause-unused
returns-clause-unused c =
    rejoined-unused c.self.inside c.self.invariant c.args.node (live c) (empty c) c.len.ensures.distinct c.len.ensures.names c.args.p c.index_mut-part.result.now (stood c) c.next_clock-clock.result (clock-is c)
    c.rejoin-number.result c.rejoin-number.new.self.entries c.rejoin-number.ensures.entries (sized c) c.args.self.now c.self.view_is
