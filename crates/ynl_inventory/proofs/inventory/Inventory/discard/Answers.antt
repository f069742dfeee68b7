-- What is known where a container goes with its node.
use Rattle.std.proofs.Common.{◌≡◌, ◌<◌, map, slice_get, Some, nat_eq, sym, ap, subst, ◌∙◌, arith}
use Rattle.std.specs.Map.{lookup}
use Rattle.ynl_tables.specs.nodes.Nodes.{NodesView}
use Rattle.ynl_inventory.specs.declared.partition.Partition.{Partition}
use Rattle.ynl_inventory.specs.Changes.{with_dropped}
use Rattle.ynl_inventory.specs.Parts.{Held, LeavesRoom, held_at}
use Rattle.ynl_inventory.proofs.EndingParts.{held-is, out-linked}
use Rattle.ynl_inventory.proofs.DroppingParts.{IsDropped, dropped-rows, dropped-rows-sound}
use Rattle.ynl_inventory.proofs.EndingCalls.{has, there-of, found-in, node-live, app-live, chain-there, small-there, live, of_node, of_app, same}
use Rattle.std.specs.Prelude.{slice_set}
use Rattle.ynl_inventory.proofs.RoomParts.{rooms-left}
use Rattle.ynl_inventory.proofs.inventory.Inventory.discard.Goals as goal

pub index-row-requires : goal.index-row-requires
index-row-requires c =
    node-live c.self.inside c.args.self.now c.args.p c.args.number c.self.view_is c.requires c.deref.result.now c.deref.ensures.value c.container_in-held.result c.container_in-held.ensures c.self.invariant

pub chain_in-of_app-requires : goal.chain_in-of_app-requires
chain_in-of_app-requires c =
    app-live c.self.inside c.args.self.now c.args.p c.args.number c.self.view_is c.requires c.deref.result.now c.deref.ensures.value c.container_in-held.result c.container_in-held.ensures c.self.invariant

pub index_mut-part-requires : goal.index_mut-part-requires
index_mut-part-requires c =
    subst (λ n. c.args.p < n) (sym c.self.inside.partitions.ok.0) (has c.self.inside c.args.self.now c.args.p c.args.number c.self.view_is c.requires c.deref.result.now c.deref.ensures.value c.container_in-held.result c.container_in-held.ensures)

pub discard-held-requires-clause-live : goal.discard-held-requires-clause-live
discard-held-requires-clause-live c =
    live c.self.inside c.args.self.now c.args.p c.args.number c.self.view_is c.requires c.deref.result.now c.deref.ensures.value c.container_in-held.result c.container_in-held.ensures c.self.invariant c.index-row.result.now c.index-row.ensures c.index_mut-part.result.now c.index_mut-part.ensures.value

pub discard-held-requires-clause-of_node : goal.discard-held-requires-clause-of_node
discard-held-requires-clause-of_node c =
    of_node c.self.inside c.args.self.now c.args.p c.args.number c.self.view_is c.requires c.deref.result.now c.deref.ensures.value c.container_in-held.result c.container_in-held.ensures c.self.invariant c.index-row.result.now c.index-row.ensures c.index_mut-part.result.now c.index_mut-part.ensures.value

pub discard-held-requires-clause-of_app : goal.discard-held-requires-clause-of_app
discard-held-requires-clause-of_app c =
    of_app c.self.inside c.args.self.now c.args.p c.args.number c.self.view_is c.requires c.deref.result.now c.deref.ensures.value c.container_in-held.result c.container_in-held.ensures c.self.invariant c.index-row.result.now c.index-row.ensures c.index_mut-part.result.now c.index_mut-part.ensures.value c.chain_in-of_app.result c.chain_in-of_app.ensures

pub freed-requires-clause-live : goal.freed-requires-clause-live
freed-requires-clause-live c =
    node-live c.self.inside c.args.self.now c.args.p c.args.number c.self.view_is c.requires c.deref.result.now c.deref.ensures.value c.container_in-held.result c.container_in-held.ensures c.self.invariant

pub freed-requires-clause-small : goal.freed-requires-clause-small
freed-requires-clause-small c =
    small-there c.self.inside c.args.self.now c.args.p c.args.number c.self.view_is c.requires c.deref.result.now c.deref.ensures.value c.container_in-held.result c.container_in-held.ensures c.self.invariant c.index-row.result.now c.index-row.ensures

pub released-requires-clause-live : goal.released-requires-clause-live
released-requires-clause-live c =
    app-live c.self.inside c.args.self.now c.args.p c.args.number c.self.view_is c.requires c.deref.result.now c.deref.ensures.value c.container_in-held.result c.container_in-held.ensures c.self.invariant

pub released-requires-clause-place : goal.released-requires-clause-place
released-requires-clause-place c =
    chain-there c.self.inside c.args.self.now c.args.p c.args.number c.self.view_is c.requires c.deref.result.now c.deref.ensures.value c.container_in-held.result c.container_in-held.ensures c.self.invariant

-- the partition that was read, the container there, and what the call left of it
there : (c : goal.After-released) → slice_get c.self.inside.partitions.items c.args.p ≡ Some c.index_mut-part.result.now
there c = there-of c.self.inside c.args.self.now c.args.p c.args.number c.self.view_is c.requires c.deref.result.now c.deref.ensures.value c.container_in-held.result c.container_in-held.ensures c.index_mut-part.result.now c.index_mut-part.ensures.value

found : (c : goal.After-released) → lookup (nat_eq c.args.number) c.index_mut-part.result.now.containers.entries ≡ Some c.container_in-held.result
found c = found-in c.self.inside c.args.self.now c.args.p c.args.number c.self.view_is c.requires c.deref.result.now c.deref.ensures.value c.container_in-held.result c.container_in-held.ensures c.index_mut-part.result.now (there c)

left : (c : goal.After-released) → IsDropped c.args.number c.container_in-held.result c.index_mut-part.result.now c.discard-held.new.self c.discard-held.new.of_node c.discard-held.new.of_app
left c =
    subst (λ h. IsDropped c.args.number h c.index_mut-part.result.now c.discard-held.new.self c.discard-held.new.of_node c.discard-held.new.of_app)
    (same c.self.inside c.args.self.now c.args.p c.args.number c.self.view_is c.requires c.deref.result.now c.deref.ensures.value c.container_in-held.result c.container_in-held.ensures c.self.invariant c.index-row.result.now c.index-row.ensures c.index_mut-part.result.now c.index_mut-part.ensures.value c.discard-held.result c.discard-held.ensures.value)
    (record {
      label = c.discard-held.ensures.label;
      limit = c.discard-held.ensures.limit;
      clock = c.discard-held.ensures.clock;
      out = record {
        guests = c.discard-held.ensures.guests;
        entries = c.discard-held.ensures.entries;
        node_chain = c.discard-held.ensures.of_node;
        app_chain = c.discard-held.ensures.of_app;
        nodes = c.discard-held.ensures.nodes;
        apps = c.discard-held.ensures.apps;
      };
    })

pub invariant_of-self : goal.invariant_of-self
invariant_of-self c = record {
  sound =
      dropped-rows-sound c.self.inside c.self.invariant c.args.p c.args.number c.index_mut-part.result.now
      (there c)
      c.container_in-held.result (found c)
      c.index-row.result.now c.index-row.ensures c.discard-held.new.self c.discard-held.new.of_node c.discard-held.new.of_app
      (left c)
      c.freed.new.nodes.entries c.released.new.apps (ap (λ (v : NodesView). v.entries) c.freed.ensures) c.released.ensures;
  linked =
      out-linked c.self.inside c.self.invariant c.args.p c.args.number c.index_mut-part.result.now
      (there c)
      c.container_in-held.result (found c)
      c.index-row.result.now c.index-row.ensures c.discard-held.new.self c.discard-held.new.of_node c.discard-held.new.of_app
      (left c).out c.index-row.result.now.stamp
      c.freed.new.nodes.entries c.released.new.apps (ap (λ (v : NodesView). v.entries) c.freed.ensures) c.released.ensures;
}

pub returns-clause-value : goal.returns-clause-value
returns-clause-value c =
    ap (λ (h : Held). held_at h.rows c.args.p c.args.number) (sym c.self.view_is)
    ∙ held-is c.self.inside c.args.p c.args.number c.index_mut-part.result.now c.container_in-held.result
    (there c)
    (found c)

pub returns-clause-rows : goal.returns-clause-rows
returns-clause-rows c =
    dropped-rows c.self.inside c.self.invariant c.args.p c.args.number c.index_mut-part.result.now
    (there c)
    c.container_in-held.result (found c)
    c.index-row.result.now c.index-row.ensures c.discard-held.new.self c.discard-held.new.of_node c.discard-held.new.of_app
    (left c)
    c.freed.new.nodes.entries c.released.new.apps (ap (λ (v : NodesView). v.entries) c.freed.ensures) c.released.ensures
    ∙ ap (λ (h : Held). with_dropped c.args.p c.args.number h.rows) c.self.view_is

pub returns-clause-rooms : goal.returns-clause-rooms
returns-clause-rooms c =
    subst (λ (h : Held). LeavesRoom c.args.p 0 h.rooms (map (λ (part : Partition). part.containers.room) (slice_set c.self.inside.partitions.items c.args.p c.discard-held.new.self))) c.self.view_is
    (rooms-left c.self.inside.partitions.items c.args.p c.index_mut-part.result.now c.discard-held.new.self 0 (there c) (omega (arith, c.discard-held.ensures.room)))

pub returns-clause-ready : goal.returns-clause-ready
returns-clause-ready c = ap (λ (v : NodesView). v.ready) c.freed.ensures ∙ ap (λ (h : Held). h.ready) c.self.view_is
