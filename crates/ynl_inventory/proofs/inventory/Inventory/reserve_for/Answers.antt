-- What is known where room is reserved.
use Rattle.std.proofs.Common.{◌≡◌, ◌≤◌, OnOk, IfSome, map, slice_get, Some, option_map, sym, ap, subst, ◌∙◌, arith}
use Rattle.std.proofs.lemmas.Option.{slice_get-map}
use Rattle.std.specs.Prelude.{slice_set}
use Rattle.ynl_inventory.specs.declared.partition.Partition.{Partition}
use Rattle.ynl_inventory.specs.Parts.{Held, LeavesRoom, held_of}
use Rattle.ynl_inventory.specs.Sound.{IsSound}
use Rattle.ynl_inventory.proofs.PartLists.{set-same}
use Rattle.ynl_inventory.proofs.RoomParts.{part-read, room-rows, room-linked, rooms-left}
use Rattle.ynl_inventory.proofs.inventory.Inventory.reserve_for.Goals as goal

pub invariant_of-self : goal.invariant_of-self
invariant_of-self c =
    let at : slice_get c.self.inside.partitions.items c.args.p ≡ Some c.index_mut-part.result.now =
    part-read c.self.inside c.args.self.now c.args.p c.self.view_is c.requires c.index_mut-part.result.now c.index_mut-part.ensures.value
    in
    record {
      sound =
          subst (λ rows. IsSound (record (held_of c.self.inside).rows { partitions = rows }))
          (sym (room-rows c.self.inside.partitions.items c.args.p c.index_mut-part.result.now c.reserve.new.self at c.reserve.ensures.containers c.reserve.ensures.partition))
          c.self.invariant.sound;
      linked =
          room-linked c.self.inside.partitions.items c.args.p c.index_mut-part.result.now c.reserve.new.self at c.reserve.ensures.containers
          (ap (λ (part : Partition). part.guests) c.reserve.ensures.partition) c.self.inside.nodes.entries c.self.inside.apps.entries c.self.invariant.linked;
    }

pub returns-clause-rows : goal.returns-clause-rows
returns-clause-rows c =
    let at : slice_get c.self.inside.partitions.items c.args.p ≡ Some c.index_mut-part.result.now =
    part-read c.self.inside c.args.self.now c.args.p c.self.view_is c.requires c.index_mut-part.result.now c.index_mut-part.ensures.value
    in
    ap (λ rows. record (held_of c.self.inside).rows { partitions = rows })
    (room-rows c.self.inside.partitions.items c.args.p c.index_mut-part.result.now c.reserve.new.self at c.reserve.ensures.containers c.reserve.ensures.partition)
    ∙ ap (λ (h : Held). h.rows) c.self.view_is

pub returns-clause-ok : goal.returns-clause-ok
returns-clause-ok c =
    let at : slice_get c.self.inside.partitions.items c.args.p ≡ Some c.index_mut-part.result.now =
    part-read c.self.inside c.args.self.now c.args.p c.self.view_is c.requires c.index_mut-part.result.now c.index_mut-part.ensures.value
    in
    let is : slice_get (map (λ (part : Partition). part.containers.room) (slice_set c.self.inside.partitions.items c.args.p c.reserve.new.self)) c.args.p ≡ Some c.reserve.new.self.containers.room =
    slice_get-map (λ (part : Partition). part.containers.room) (slice_set c.self.inside.partitions.items c.args.p c.reserve.new.self) c.args.p
    ∙ ap (option_map (λ (part : Partition). part.containers.room)) (set-same c.self.inside.partitions.items c.args.p c.index_mut-part.result.now c.reserve.new.self at)
    in
    subst (λ o. OnOk c.reserve.result (IfSome o (λ room. c.args.count ≤ room))) (sym is) c.reserve.ensures.ok

pub returns-clause-rooms : goal.returns-clause-rooms
returns-clause-rooms c =
    subst (λ (h : Held). LeavesRoom c.args.p 0 h.rooms (map (λ (part : Partition). part.containers.room) (slice_set c.self.inside.partitions.items c.args.p c.reserve.new.self))) c.self.view_is
    (rooms-left c.self.inside.partitions.items c.args.p c.index_mut-part.result.now c.reserve.new.self 0 (part-read c.self.inside c.args.self.now c.args.p c.self.view_is c.requires c.index_mut-part.result.now c.index_mut-part.ensures.value) (omega (arith, c.reserve.ensures.room)))
