-- What is known where a container comes to stand.
use Rattle.std.proofs.Common.{◌<◌, sym, ap, subst}
use Rattle.ynl_tables.specs.nodes.Nodes.{NodesView}
use Rattle.ynl_inventory.specs.declared.partition.Partition.{Partition}
use Rattle.ynl_inventory.specs.Parts.{held_of}
use Rattle.ynl_inventory.proofs.Results.{on-err}
use Rattle.ynl_inventory.proofs.AskParts.{placed-inventory}
use Rattle.ynl_inventory.proofs.HoldingParts.{IsHeld}
use Rattle.ynl_inventory.proofs.ChainsRead.{node-partition}
use Rattle.ynl_inventory.proofs.ComingParts.{node-live, app-live, free-there}
use Rattle.ynl_inventory.proofs.StandingParts.{coming}
use Rattle.ynl_inventory.proofs.StandingCalls.{able, mid-rows, mid-live, reserved-rows, reserved-sound, reserved-linked, above, of-node, of-app, after-rows, after-sound, after-linked, after-unused}
use Rattle.ynl_inventory.proofs.inventory.Inventory.stand.Goals as goal

pub index-row-requires : goal.index-row-requires
index-row-requires c =
    node-live c.self.inside c.args.placed.now.node c.args.placed.now.app (coming (held_of c.self.inside).rows c.args.placed.now c.args.clock (able c.self.inside c.args.self.now c.args.placed.now c.args.clock c.self.view_is c.requires))

pub reserve_place-requires : goal.reserve_place-requires
reserve_place-requires c =
    app-live c.self.inside c.args.placed.now.node c.args.placed.now.app (coming (held_of c.self.inside).rows c.args.placed.now c.args.clock (able c.self.inside c.args.self.now c.args.placed.now c.args.clock c.self.view_is c.requires))

pub invariant_of-self : goal.invariant_of-self
invariant_of-self c = placed-inventory c.self.inside c.self.invariant c.args.placed.now.app c.reserve_place.new.apps c.reserve_place.ensures.more

pub returns-in_err-reserve_place-clause-err : goal.returns-in_err-reserve_place-clause-err
returns-in_err-reserve_place-clause-err c =
    on-err _
    (mid-rows c.self.inside c.args.self.now c.args.placed.now c.args.clock c.self.view_is c.self.invariant c.requires c.reserve_place.new.apps c.reserve_place.ensures.more)
    c.from_residual.result

pub chain_in-of_app-requires : goal.chain_in-of_app-requires
chain_in-of_app-requires c =
    mid-live c.self.inside c.args.self.now c.args.placed.now c.args.clock c.self.view_is c.self.invariant c.requires c.reserve_place.new.apps c.reserve_place.ensures.more

pub index_mut-part-requires : goal.index_mut-part-requires
index_mut-part-requires c =
    subst (λ n. c.index-row.result.now.partition < n) (sym c.self.inside.partitions.ok.0)
    (node-partition c.self.inside c.self.invariant c.args.placed.now.node c.index-row.result.now c.index-row.ensures)

pub invariant_of-self-in_err-reserve : goal.invariant_of-self-in_err-reserve
invariant_of-self-in_err-reserve c = record {
  sound =
      reserved-sound c.self.inside c.args.self.now c.args.placed.now c.args.clock c.self.view_is c.self.invariant c.requires c.reserve_place.new.apps c.reserve_place.ensures.more c.index-row.result.now c.index-row.ensures c.index_mut-part.result.now c.index_mut-part.ensures.value c.reserve.new.self c.reserve.ensures.partition c.reserve.ensures.containers;
  linked =
      reserved-linked c.self.inside c.args.self.now c.args.placed.now c.args.clock c.self.view_is c.self.invariant c.requires c.reserve_place.new.apps c.reserve_place.ensures.more c.index-row.result.now c.index-row.ensures c.index_mut-part.result.now c.index_mut-part.ensures.value c.reserve.new.self c.reserve.ensures.partition c.reserve.ensures.containers;
}

pub returns-in_err-reserve-clause-err : goal.returns-in_err-reserve-clause-err
returns-in_err-reserve-clause-err c =
    on-err _
    (reserved-rows c.self.inside c.args.self.now c.args.placed.now c.args.clock c.self.view_is c.self.invariant c.requires c.reserve_place.new.apps c.reserve_place.ensures.more c.index-row.result.now c.index-row.ensures c.index_mut-part.result.now c.index_mut-part.ensures.value c.reserve.new.self c.reserve.ensures.partition c.reserve.ensures.containers)
    c.from_residual-in_err-reserve.result

pub hold-number-requires-clause-above : goal.hold-number-requires-clause-above
hold-number-requires-clause-above c =
    above c.self.inside c.args.self.now c.args.placed.now c.args.clock c.self.view_is c.self.invariant c.requires c.reserve_place.new.apps c.reserve_place.ensures.more c.index-row.result.now c.index-row.ensures c.index_mut-part.result.now c.index_mut-part.ensures.value c.reserve.new.self c.reserve.ensures.partition c.reserve.ensures.containers

pub hold-number-requires-clause-of_node : goal.hold-number-requires-clause-of_node
hold-number-requires-clause-of_node c =
    of-node c.self.inside c.args.self.now c.args.placed.now c.args.clock c.self.view_is c.self.invariant c.requires c.reserve_place.new.apps c.reserve_place.ensures.more c.index-row.result.now c.index-row.ensures c.index_mut-part.result.now c.index_mut-part.ensures.value c.reserve.new.self c.reserve.ensures.partition c.reserve.ensures.containers

pub hold-number-requires-clause-of_app : goal.hold-number-requires-clause-of_app
hold-number-requires-clause-of_app c =
    of-app c.self.inside c.args.self.now c.args.placed.now c.args.clock c.self.view_is c.self.invariant c.requires c.reserve_place.new.apps c.reserve_place.ensures.more c.index-row.result.now c.index-row.ensures c.index_mut-part.result.now c.index_mut-part.ensures.value c.reserve.new.self c.reserve.ensures.partition c.reserve.ensures.containers
    c.chain_in-of_app.result c.chain_in-of_app.ensures

pub used-requires-clause-room : goal.used-requires-clause-room
used-requires-clause-room c =
    free-there c.self.inside c.args.placed.now.node c.args.placed.now.app (coming (held_of c.self.inside).rows c.args.placed.now c.args.clock (able c.self.inside c.args.self.now c.args.placed.now c.args.clock c.self.view_is c.requires))
    c.index-row.result.now c.index-row.ensures c.self.invariant c.args.placed.now.size (able c.self.inside c.args.self.now c.args.placed.now c.args.clock c.self.view_is c.requires).fits

pub owned-requires-clause-live : goal.owned-requires-clause-live
owned-requires-clause-live c =
    mid-live c.self.inside c.args.self.now c.args.placed.now c.args.clock c.self.view_is c.self.invariant c.requires c.reserve_place.new.apps c.reserve_place.ensures.more

-- what the call left of the partition
held : (c : goal.After-owned) → IsHeld c.args.placed.now c.args.clock c.hold-number.result c.reserve.new.self c.hold-number.new.self c.hold-number.new.of_node c.hold-number.new.of_app
held c = record {
  label = ap (λ (x : Partition). x.label) c.hold-number.ensures.partition;
  limit = ap (λ (x : Partition). x.limit) c.hold-number.ensures.partition;
  guests = ap (λ (x : Partition). x.guests) c.hold-number.ensures.partition;
  entries = c.hold-number.ensures.entries;
  unused = c.hold-number.ensures.unused;
  node_chain = c.hold-number.ensures.of_node;
  app_chain = c.hold-number.ensures.of_app;
  nodes = c.hold-number.ensures.nodes;
  apps = c.hold-number.ensures.apps;
}

pub invariant_of-self-2 : goal.invariant_of-self-2
invariant_of-self-2 c = record {
  sound =
      after-sound c.self.inside c.args.self.now c.args.placed.now c.args.clock c.self.view_is c.self.invariant c.requires c.reserve_place.new.apps c.reserve_place.ensures.more c.index-row.result.now c.index-row.ensures c.index_mut-part.result.now c.index_mut-part.ensures.value c.reserve.new.self c.reserve.ensures.partition c.reserve.ensures.containers
      c.hold-number.result c.hold-number.new.self c.hold-number.new.of_node c.hold-number.new.of_app (ap (λ (x : Partition). x.clock) c.hold-number.ensures.partition) (held c)
      c.used.new.nodes.entries c.owned.new.apps (ap (λ (v : NodesView). v.entries) c.used.ensures) c.owned.ensures.apps c.owned.ensures.chain;
  linked =
      after-linked c.self.inside c.args.self.now c.args.placed.now c.args.clock c.self.view_is c.self.invariant c.requires c.reserve_place.new.apps c.reserve_place.ensures.more c.index-row.result.now c.index-row.ensures c.index_mut-part.result.now c.index_mut-part.ensures.value c.reserve.new.self c.reserve.ensures.partition c.reserve.ensures.containers
      c.hold-number.result c.hold-number.new.self c.hold-number.new.of_node c.hold-number.new.of_app (ap (λ (x : Partition). x.clock) c.hold-number.ensures.partition) (held c)
      c.used.new.nodes.entries c.owned.new.apps (ap (λ (v : NodesView). v.entries) c.used.ensures) c.owned.ensures.apps c.owned.ensures.chain;
}

pub returns-clause-rows : goal.returns-clause-rows
returns-clause-rows c =
    after-rows c.self.inside c.args.self.now c.args.placed.now c.args.clock c.self.view_is c.self.invariant c.requires c.reserve_place.new.apps c.reserve_place.ensures.more c.index-row.result.now c.index-row.ensures c.index_mut-part.result.now c.index_mut-part.ensures.value c.reserve.new.self c.reserve.ensures.partition c.reserve.ensures.containers
    c.hold-number.result c.hold-number.new.self c.hold-number.new.of_node c.hold-number.new.of_app (ap (λ (x : Partition). x.clock) c.hold-number.ensures.partition) (held c)
    c.used.new.nodes.entries c.owned.new.apps (ap (λ (v : NodesView). v.entries) c.used.ensures) c.owned.ensures.apps c.owned.ensures.chain

pub returns-clause-unused : goal.returns-clause-unused
returns-clause-unused c =
    after-unused c.self.inside c.args.self.now c.args.placed.now c.args.clock c.self.view_is c.self.invariant c.requires c.reserve_place.new.apps c.reserve_place.ensures.more c.index-row.result.now c.index-row.ensures c.index_mut-part.result.now c.index_mut-part.ensures.value c.reserve.new.self c.reserve.ensures.partition c.reserve.ensures.containers
    c.hold-number.result c.hold-number.new.self c.hold-number.new.of_node c.hold-number.new.of_app (ap (λ (x : Partition). x.clock) c.hold-number.ensures.partition) (held c)
    c.used.new.nodes.entries c.owned.new.apps (ap (λ (v : NodesView). v.entries) c.used.ensures) c.owned.ensures.apps c.owned.ensures.chain
