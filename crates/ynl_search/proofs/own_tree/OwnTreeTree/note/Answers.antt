use Rattle.std.proofs.Common.{subst}
use Rattle.ynl_resource.specs.declared.amounts.Resource.{Resource}
use Rattle.ynl_search.specs.Scenes.{IsPlaceOf, node_at}
use Rattle.ynl_search.proofs.NodeIs.{label-is}
use Rattle.ynl_search.proofs.ShutBelow.{none-is-shut, noted-shut}
use Rattle.ynl_search.proofs.own_tree.OwnTreeTree.note.Goals as goal

pub room_to_note-room-requires-clause-amounts : goal.room_to_note-room-requires-clause-amounts
room_to_note-room-requires-clause-amounts c =
    let way = c.requires.queue.way in
    record { guaranteed = way.guaranteed; most = way.most }

pub returns : goal.returns
returns c =
    let t = c.args.self.now in
    let w = t.cluster.now in
    let place = c.args.queue.now.place in
    let is = c.requires.queue in
    noted-shut w t.partition place.queue (record { room = c.room_to_note-room.result; least = c.least_to_note-least.result }) c.args.notes.now c.note.new.self c.requires.notes c.note.ensures.own c.note.ensures.guests
    (record {
      room =
          c.room_to_note-room.ensures
          (λ opens. none-is-shut w t.partition (node_at w t.node) (label-is w t.node t.partition t.room is.node) place
          (subst (λ (room : Resource). IsPlaceOf w t.partition room place) is.node.free_is is.way) opens c.requires.none);
      least = c.least_to_note-least.ensures;
    })
