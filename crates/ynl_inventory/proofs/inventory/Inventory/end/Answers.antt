-- What is known where a container ends.
use Rattle.std.proofs.Common.{◌≡◌, ◌<◌, map, slice_get, Some, nat_eq, sym, ap, subst, ◌∙◌, arith}
use Rattle.std.specs.Map.{lookup}
use Rattle.ynl_tables.specs.nodes.Nodes.{NodesView}
use Rattle.ynl_inventory.specs.declared.partition.Partition.{Partition}
use Rattle.ynl_inventory.specs.Changes.{with_ended}
use Rattle.ynl_inventory.specs.Parts.{Held, LeavesRoom, held_at}
use Rattle.ynl_inventory.proofs.EndingParts.{held-is, IsEnded, ended-rows, ended-rows-sound, out-linked}
use Rattle.ynl_inventory.proofs.EndingCalls.{has, there-of, found-in, node-live, app-live, chain-there, small-there, live, of_node, of_app, same}
use Rattle.std.specs.Prelude.{slice_set}
use Rattle.ynl_inventory.proofs.RoomParts.{rooms-left}
use Rattle.ynl_inventory.proofs.inventory.Inventory.end.Goals as goal

pub index-row-requires : goal.index-row-requires
index-row-requires c =
    node-live c.self.inside c.args.self.now c.args.p c.args.number c.self.view_is c.requires c.deref.result.now c.deref.ensures.value c.container_in-held.result c.container_in-held.ensures c.self.invariant

pub chain_in-of_app-requires : goal.chain_in-of_app-requires
chain_in-of_app-requires c =
    app-live c.self.inside c.args.self.now c.args.p c.args.number c.self.view_is c.requires c.deref.result.now c.deref.ensures.value c.container_in-held.result c.container_in-held.ensures c.self.invariant

pub index_mut-part-requires : goal.index_mut-part-requires
index_mut-part-requires c =
    subst (λ n. c.args.p < n) (sym c.self.inside.partitions.ok.0) (has c.self.inside c.args.self.now c.args.p c.args.number c.self.view_is c.requires c.deref.result.now c.deref.ensures.value c.container_in-held.result c.container_in-held.ensures)

pub end-held-requires-clause-live : goal.end-held-requires-clause-live
end-held-requires-clause-live c =
    live c.self.inside c.args.self.now c.args.p c.args.number c.self.view_is c.requires c.deref.result.now c.deref.ensures.value c.container_in-held.result c.container_in-held.ensures c.self.invariant c.index-row.result.now c.index-row.ensures c.index_mut-part.result.now c.index_mut-part.ensures.value

pub end-held-requires-clause-of_node : goal.end-held-requires-clause-of_node
end-held-requires-clause-of_node c =
    of_node c.self.inside c.args.self.now c.args.p c.args.number c.self.view_is c.requires c.deref.result.now c.deref.ensures.value c.container_in-held.result c.container_in-held.ensures c.self.invariant c.index-row.result.now c.index-row.ensures c.index_mut-part.result.now c.index_mut-part.ensures.value

pub end-held-requires-clause-of_app : goal.end-held-requires-clause-of_app
end-held-requires-clause-of_app c =
    of_app c.self.inside c.args.self.now c.args.p c.args.number c.self.view_is c.requires c.deref.result.now c.deref.ensures.value c.container_in-held.result c.container_in-held.ensures c.self.invariant c.index-row.result.now c.index-row.ensures c.index_mut-part.result.now c.index_mut-part.ensures.value c.chain_in-of_app.result c.chain_in-of_app.ensures

pub freed-requires-clause-live : goal.freed-requires-clause-live
freed-requires-clause-live c =
    node-live c.self.inside c.args.self.now c.args.p c.args.number c.self.view_is c.requires c.deref.result.now c.deref.ensures.value c.container_in-held.result c.container_in-held.ensures c.self.invariant

pub freed-requires-clause-small : goal.freed-requires-clause-small
freed-requires-clause-small c =
    small-there c.self.inside c.args.self.now c.args.p c.args.number c.self.view_is c.requires c.deref.result.now c.deref.ensures.value c.container_in-held.result c.container_in-held.ensures c.self.invariant c.index-row.result.now c.index-row.ensures

pub released-requires-clause-live : goal.released-requires-clause-live
released-requires-clause-live c =
    app-live c.self.inside c.args.self.now c.args.p c.args.number c.self.view_is c.requires c.deref.result.now c.deref.ensures.value c.container_in-held.result c.container_in-held.ensures c.self.invariant

pub released-requires-clause-place : goal.released-requires-clause-place
released-requires-clause-place c =
    chain-there c.self.inside c.args.self.now c.args.p c.args.number c.self.view_is c.requires c.deref.result.now c.deref.ensures.value c.container_in-held.result c.container_in-held.ensures c.self.invariant

-- the partition that was read, the container there, and what the call left of it
there : (c : goal.After-released) → slice_get c.self.inside.partitions.items c.args.p ≡ Some c.index_mut-part.result.now
there c = there-of c.self.inside c.args.self.now c.args.p c.args.number c.self.view_is c.requires c.deref.result.now c.deref.ensures.value c.container_in-held.result c.container_in-held.ensures c.index_mut-part.result.now c.index_mut-part.ensures.value

found : (c : goal.After-released) → lookup (nat_eq c.args.number) c.index_mut-part.result.now.containers.entries ≡ Some c.container_in-held.result
found c = found-in c.self.inside c.args.self.now c.args.p c.args.number c.self.view_is c.requires c.deref.result.now c.deref.ensures.value c.container_in-held.result c.container_in-held.ensures c.index_mut-part.result.now (there c)

left : (c : goal.After-released) → IsEnded c.args.number c.container_in-held.result c.index_mut-part.result.now c.end-held.new.self c.end-held.new.of_node c.end-held.new.of_app
left c =
    subst (λ h. IsEnded c.args.number h c.index_mut-part.result.now c.end-held.new.self c.end-held.new.of_node c.end-held.new.of_app)
    (same c.self.inside c.args.self.now c.args.p c.args.number c.self.view_is c.requires c.deref.result.now c.deref.ensures.value c.container_in-held.result c.container_in-held.ensures c.self.invariant c.index-row.result.now c.index-row.ensures c.index_mut-part.result.now c.index_mut-part.ensures.value c.end-held.result c.end-held.ensures.value)
    (record {
      label = c.end-held.ensures.label;
      limit = c.end-held.ensures.limit;
      clock = c.end-held.ensures.clock;
      out = record {
        guests = c.end-held.ensures.guests;
        entries = c.end-held.ensures.entries;
        node_chain = c.end-held.ensures.of_node;
        app_chain = c.end-held.ensures.of_app;
        nodes = c.end-held.ensures.nodes;
        apps = c.end-held.ensures.apps;
      };
    })

pub invariant_of-self : goal.invariant_of-self
invariant_of-self c = record {
  sound =
      ended-rows-sound c.self.inside c.self.invariant c.args.p c.args.number c.index_mut-part.result.now
      (there c)
      c.container_in-held.result (found c)
      c.index-row.result.now c.index-row.ensures c.end-held.new.self c.end-held.new.of_node c.end-held.new.of_app
      (left c)
      c.freed.new.nodes.entries c.released.new.apps (ap (λ (v : NodesView). v.entries) c.freed.ensures) c.released.ensures;
  linked =
      out-linked c.self.inside c.self.invariant c.args.p c.args.number c.index_mut-part.result.now
      (there c)
      c.container_in-held.result (found c)
      c.index-row.result.now c.index-row.ensures c.end-held.new.self c.end-held.new.of_node c.end-held.new.of_app
      (left c).out c.end-held.new.self.clock
      c.freed.new.nodes.entries c.released.new.apps (ap (λ (v : NodesView). v.entries) c.freed.ensures) c.released.ensures;
}

pub returns-clause-value : goal.returns-clause-value
returns-clause-value c =
    ap (λ (h : Held). held_at h.rows c.args.p c.args.number) (sym c.self.view_is)
    ∙ held-is c.self.inside c.args.p c.args.number c.index_mut-part.result.now c.container_in-held.result
    (there c)
    (found c)

pub returns-clause-rows : goal.returns-clause-rows
returns-clause-rows c =
    ended-rows c.self.inside c.self.invariant c.args.p c.args.number c.index_mut-part.result.now
    (there c)
    c.container_in-held.result (found c)
    c.index-row.result.now c.index-row.ensures c.end-held.new.self c.end-held.new.of_node c.end-held.new.of_app
    (left c)
    c.freed.new.nodes.entries c.released.new.apps (ap (λ (v : NodesView). v.entries) c.freed.ensures) c.released.ensures
    ∙ ap (λ (h : Held). with_ended c.args.p c.args.number c.container_in-held.result.node h.rows) c.self.view_is

pub returns-clause-rooms : goal.returns-clause-rooms
returns-clause-rooms c =
    subst (λ (h : Held). LeavesRoom c.args.p 0 h.rooms (map (λ (part : Partition). part.containers.room) (slice_set c.self.inside.partitions.items c.args.p c.end-held.new.self))) c.self.view_is
    (rooms-left c.self.inside.partitions.items c.args.p c.index_mut-part.result.now c.end-held.new.self 0 (there c) (omega (arith, c.end-held.ensures.room)))

pub returns-clause-ready : goal.returns-clause-ready
returns-clause-ready c = ap (λ (v : NodesView). v.ready) c.freed.ensures ∙ ap (λ (h : Held). h.ready) c.self.view_is
