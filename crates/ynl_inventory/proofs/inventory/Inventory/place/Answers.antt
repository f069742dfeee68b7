-- What is known where a container is placed.
use Rattle.std.proofs.Common.{◌≡◌, ◌<◌, ◌+◌, ◌^◌, IfSome, length, get_or, slice_get, Some, nat_eq, refl, sym, ap, subst, ◌∙◌, map}
use Rattle.std.specs.Map.{lookup}
use Rattle.std.proofs.lemmas.Option.{slice_get_read}
use Rattle.ynl_slots.specs.Slots.{Numbered, IsLive, IsUnused}
use Rattle.ynl_slots.specs.declared.chain.Chain.{Chain}
use Rattle.ynl_tables.specs.declared.apps.app.AppRow.{AppRow as AppPart}
use Rattle.ynl_tables.specs.apps.Chains.{chain_of}
use Rattle.ynl_tables.specs.declared.nodes.nodes.NodeRow.{NodeRow as NodePart}
use Rattle.ynl_tables.specs.containers.Chains.{IsNodeChain, IsAppChain}
use Rattle.ynl_tables.specs.containers.Table.{IsAbove}
use Rattle.ynl_tables.specs.nodes.Nodes.{NodesView}
use Rattle.ynl_inventory.specs.declared.partition.Placement.{Placement}
use Rattle.ynl_inventory.specs.declared.partition.Partition.{Partition}
use Rattle.ynl_inventory.specs.declared.inventory.Inventory.TheInside.{Inside}
use Rattle.ynl_inventory.specs.Changes.{partition_of_node, with_placed}
use Rattle.ynl_inventory.specs.Apps.{containers_of}
use Rattle.ynl_inventory.specs.Parts.{Held, LeavesRoom, held_of, IsInventory, CanPlace}
use Rattle.ynl_inventory.proofs.PlacingParts.{IsPlaced, coming, has-room, still-rises, is-above, has-place, all-rows, all-sound, all-linked}
use Rattle.std.specs.Prelude.{slice_set}
use Rattle.ynl_inventory.proofs.ChainsRead.{containers-are, node-partition}
use Rattle.ynl_inventory.proofs.ComingParts.{AreThere, node-live, own-app, app-live, stands, free-there, app-chain}
use Rattle.ynl_inventory.proofs.RoomParts.{rooms-left}
use Rattle.ynl_inventory.proofs.inventory.Inventory.place.Goals as goal

-- what is required, of the parts
can : (a : Inside) (h : Held) (placed : Placement) → held_of a ≡ h → CanPlace h placed → CanPlace (held_of a) placed
can a h placed view required = subst (λ h. CanPlace h placed) (sym view) required

-- the partition that was read
there : (a : Inside) (row : NodePart) (part : Partition) → row.partition < length a.partitions.items → part ≡ get_or a.partitions.items row.partition part → slice_get a.partitions.items row.partition ≡ Some part
there a row part has read = slice_get_read a.partitions.items (length a.partitions.items) row.partition part refl has read

pub index-row-requires : goal.index-row-requires
index-row-requires c = node-live c.self.inside c.args.placed.now.node c.args.placed.now.app (coming (held_of c.self.inside) c.args.placed.now (can c.self.inside c.args.self.now c.args.placed.now c.self.view_is c.requires))

pub chain_in-of_app-requires : goal.chain_in-of_app-requires
chain_in-of_app-requires c = app-live c.self.inside c.args.placed.now.node c.args.placed.now.app (coming (held_of c.self.inside) c.args.placed.now (can c.self.inside c.args.self.now c.args.placed.now c.self.view_is c.requires))

pub index_mut-part-requires : goal.index_mut-part-requires
index_mut-part-requires c =
    subst (λ n. c.index-row.result.now.partition < n) (sym c.self.inside.partitions.ok.0)
    (node-partition c.self.inside c.self.invariant c.args.placed.now.node c.index-row.result.now c.index-row.ensures)

module _ (a : Inside) (h : Held) (placed : Placement) (view : held_of a ≡ h) (inv : IsInventory a) (required : CanPlace h placed)
    (row : NodePart) (at : lookup (nat_eq placed.node) a.nodes.entries ≡ Some row) (part : Partition) (read : part ≡ get_or a.partitions.items row.partition part) where
  abbrev able : CanPlace (held_of a) placed
  able = can a h placed view required

  abbrev are : AreThere (held_of a).rows placed.node placed.app
  are = coming (held_of a) placed able

  stood : slice_get a.partitions.items row.partition ≡ Some part
  stood = there a row part (node-partition a inv placed.node row at) read

  room : 0 < part.containers.room
  room = has-room a inv placed able row at part stood

  rises : part.clock < part.limit
  rises = still-rises a inv placed able row at part stood

  above : IsAbove (part.clock + 1) part.containers.entries
  above = is-above a inv placed able row at part stood

  of_node : IsNodeChain part.containers row.containers placed.node
  of_node = inv.linked.node placed.node row part at stood

  of_app : (chain : Chain) → IfSome (lookup (nat_eq placed.app) a.apps.entries) (λ r. chain ≡ chain_of row.partition r.chains) → IsAppChain part.containers chain placed.app
  of_app chain is = app-chain a placed.node placed.app are row at part stood inv chain is

  place-there : row.partition < 2 ^ 8 → IfSome (lookup (nat_eq placed.app) a.apps.entries) (λ r. IsLive row.partition r.chains)
  place-there small =
      let own = own-app a placed.node placed.app are in
      subst (λ o. IfSome o (λ (r : AppPart). IsLive row.partition r.chains)) (sym own.1) (has-place a inv placed able row at part stood own.0 own.1 small)

pub place-number-requires-clause-room : goal.place-number-requires-clause-room
place-number-requires-clause-room c =
    room c.self.inside c.args.self.now c.args.placed.now c.self.view_is c.self.invariant c.requires c.index-row.result.now c.index-row.ensures c.index_mut-part.result.now c.index_mut-part.ensures.value

pub place-number-requires-clause-rises : goal.place-number-requires-clause-rises
place-number-requires-clause-rises c =
    rises c.self.inside c.args.self.now c.args.placed.now c.self.view_is c.self.invariant c.requires c.index-row.result.now c.index-row.ensures c.index_mut-part.result.now c.index_mut-part.ensures.value

pub place-number-requires-clause-above : goal.place-number-requires-clause-above
place-number-requires-clause-above c =
    above c.self.inside c.args.self.now c.args.placed.now c.self.view_is c.self.invariant c.requires c.index-row.result.now c.index-row.ensures c.index_mut-part.result.now c.index_mut-part.ensures.value

pub place-number-requires-clause-of_node : goal.place-number-requires-clause-of_node
place-number-requires-clause-of_node c =
    of_node c.self.inside c.args.self.now c.args.placed.now c.self.view_is c.self.invariant c.requires c.index-row.result.now c.index-row.ensures c.index_mut-part.result.now c.index_mut-part.ensures.value

pub place-number-requires-clause-of_app : goal.place-number-requires-clause-of_app
place-number-requires-clause-of_app c =
    of_app c.self.inside c.args.self.now c.args.placed.now c.self.view_is c.self.invariant c.requires c.index-row.result.now c.index-row.ensures c.index_mut-part.result.now c.index_mut-part.ensures.value
    c.chain_in-of_app.result c.chain_in-of_app.ensures

pub used-requires-clause-room : goal.used-requires-clause-room
used-requires-clause-room c =
    free-there c.self.inside c.args.placed.now.node c.args.placed.now.app (coming (held_of c.self.inside) c.args.placed.now (can c.self.inside c.args.self.now c.args.placed.now c.self.view_is c.requires))
    c.index-row.result.now c.index-row.ensures c.self.invariant c.args.placed.now.size (can c.self.inside c.args.self.now c.args.placed.now c.self.view_is c.requires).fits

pub taken-requires-clause-live : goal.taken-requires-clause-live
taken-requires-clause-live c = app-live c.self.inside c.args.placed.now.node c.args.placed.now.app (coming (held_of c.self.inside) c.args.placed.now (can c.self.inside c.args.self.now c.args.placed.now c.self.view_is c.requires))

pub taken-requires-clause-place : goal.taken-requires-clause-place
taken-requires-clause-place c =
    place-there c.self.inside c.args.self.now c.args.placed.now c.self.view_is c.self.invariant c.requires c.index-row.result.now c.index-row.ensures c.index_mut-part.result.now c.index_mut-part.ensures.value
    c.type_inv.p.fits

-- what the call left of the partition
left : (c : goal.After-taken) → IsPlaced c.args.placed.now c.place-number.result c.index_mut-part.result.now c.place-number.new.self c.place-number.new.of_node c.place-number.new.of_app
left c = record {
  clock = c.place-number.ensures.clock;
  held = record {
    label = c.place-number.ensures.label;
    limit = c.place-number.ensures.limit;
    guests = c.place-number.ensures.guests;
    entries = c.place-number.ensures.entries;
    unused = c.place-number.ensures.unused;
    node_chain = c.place-number.ensures.of_node;
    app_chain = c.place-number.ensures.of_app;
    nodes = c.place-number.ensures.nodes;
    apps = c.place-number.ensures.apps;
  };
}

pub invariant_of-self : goal.invariant_of-self
invariant_of-self c = record {
  sound =
      all-sound c.self.inside c.self.invariant c.args.placed.now (can c.self.inside c.args.self.now c.args.placed.now c.self.view_is c.requires) c.index-row.result.now c.index-row.ensures c.index_mut-part.result.now
      (stood c.self.inside c.args.self.now c.args.placed.now c.self.view_is c.self.invariant c.requires c.index-row.result.now c.index-row.ensures c.index_mut-part.result.now c.index_mut-part.ensures.value)
      c.place-number.result c.place-number.new.self c.place-number.new.of_node c.place-number.new.of_app
      (left c)
      (subst (λ (apps : Numbered AppPart). IfSome (lookup (nat_eq c.args.placed.now.app) apps.entries) (λ r. chain_of c.index-row.result.now.partition r.chains ≡ c.place-number.new.of_app)) c.taken.ensures.apps c.taken.ensures.chain) c.used.new.nodes.entries c.taken.new.apps (ap (λ (v : NodesView). v.entries) c.used.ensures) c.taken.ensures.apps;
  linked =
      all-linked c.self.inside c.self.invariant c.args.placed.now (can c.self.inside c.args.self.now c.args.placed.now c.self.view_is c.requires) c.index-row.result.now c.index-row.ensures c.index_mut-part.result.now
      (stood c.self.inside c.args.self.now c.args.placed.now c.self.view_is c.self.invariant c.requires c.index-row.result.now c.index-row.ensures c.index_mut-part.result.now c.index_mut-part.ensures.value)
      c.place-number.result c.place-number.new.self c.place-number.new.of_node c.place-number.new.of_app
      (left c)
      (subst (λ (apps : Numbered AppPart). IfSome (lookup (nat_eq c.args.placed.now.app) apps.entries) (λ r. chain_of c.index-row.result.now.partition r.chains ≡ c.place-number.new.of_app)) c.taken.ensures.apps c.taken.ensures.chain) c.used.new.nodes.entries c.taken.new.apps (ap (λ (v : NodesView). v.entries) c.used.ensures) c.taken.ensures.apps;
}

pub returns-clause-rows : goal.returns-clause-rows
returns-clause-rows c =
    all-rows c.self.inside c.self.invariant c.args.placed.now (can c.self.inside c.args.self.now c.args.placed.now c.self.view_is c.requires) c.index-row.result.now c.index-row.ensures c.index_mut-part.result.now
    (stood c.self.inside c.args.self.now c.args.placed.now c.self.view_is c.self.invariant c.requires c.index-row.result.now c.index-row.ensures c.index_mut-part.result.now c.index_mut-part.ensures.value)
    c.place-number.result c.place-number.new.self c.place-number.new.of_node c.place-number.new.of_app
    (left c)
    (subst (λ (apps : Numbered AppPart). IfSome (lookup (nat_eq c.args.placed.now.app) apps.entries) (λ r. chain_of c.index-row.result.now.partition r.chains ≡ c.place-number.new.of_app)) c.taken.ensures.apps c.taken.ensures.chain) c.used.new.nodes.entries c.taken.new.apps (ap (λ (v : NodesView). v.entries) c.used.ensures) c.taken.ensures.apps
    ∙ ap (λ (h : Held). with_placed c.place-number.result c.args.placed.now.node c.args.placed.now.app c.args.placed.now.role c.args.placed.now.size h.rows) c.self.view_is

pub returns-clause-unused : goal.returns-clause-unused
returns-clause-unused c =
    let able = can c.self.inside c.args.self.now c.args.placed.now c.self.view_is c.requires in
    subst (λ (h : Held). IsUnused c.place-number.result (containers_of h.rows (partition_of_node h.rows.nodes c.args.placed.now.node))) c.self.view_is
    (subst (λ es. IsUnused c.place-number.result es)
    (sym
    (ap (containers_of (held_of c.self.inside).rows) (stands c.self.inside c.args.placed.now.node c.args.placed.now.app (coming (held_of c.self.inside) c.args.placed.now able) c.index-row.result.now c.index-row.ensures)
    ∙ containers-are c.self.inside c.index-row.result.now.partition c.index_mut-part.result.now
    (stood c.self.inside c.args.self.now c.args.placed.now c.self.view_is c.self.invariant c.requires c.index-row.result.now c.index-row.ensures c.index_mut-part.result.now c.index_mut-part.ensures.value)))
    c.place-number.ensures.unused)

pub returns-clause-rooms : goal.returns-clause-rooms
returns-clause-rooms c =
    subst (λ (h : Held). LeavesRoom (partition_of_node h.rows.nodes c.args.placed.now.node) 1 h.rooms (map (λ (part : Partition). part.containers.room) (slice_set c.self.inside.partitions.items c.index-row.result.now.partition c.place-number.new.self))) c.self.view_is
    (subst (λ p. LeavesRoom p 1 (held_of c.self.inside).rooms (map (λ (part : Partition). part.containers.room) (slice_set c.self.inside.partitions.items c.index-row.result.now.partition c.place-number.new.self)))
    (sym (stands c.self.inside c.args.placed.now.node c.args.placed.now.app (coming (held_of c.self.inside) c.args.placed.now (can c.self.inside c.args.self.now c.args.placed.now c.self.view_is c.requires)) c.index-row.result.now c.index-row.ensures))
    (rooms-left c.self.inside.partitions.items c.index-row.result.now.partition c.index_mut-part.result.now c.place-number.new.self 1 (stood c.self.inside c.args.self.now c.args.placed.now c.self.view_is c.self.invariant c.requires c.index-row.result.now c.index-row.ensures c.index_mut-part.result.now c.index_mut-part.ensures.value) c.place-number.ensures.room))

pub returns-clause-ready : goal.returns-clause-ready
returns-clause-ready c = ap (λ (v : NodesView). v.ready) c.used.ensures ∙ ap (λ (h : Held). h.ready) c.self.view_is
