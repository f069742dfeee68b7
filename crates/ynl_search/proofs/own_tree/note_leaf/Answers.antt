use Rattle.std.proofs.Common.{Some, subst, sym}
use Rattle.ynl_search.specs.Places.{any_room}
use Rattle.ynl_search.specs.Shut.{IsRightIn}
use Rattle.ynl_search.proofs.ShutBelow.{noted-shut}
use Rattle.ynl_search.proofs.own_tree.note_leaf.Goals as goal

pub returns-then-is_shut_leaf : goal.returns-then-is_shut_leaf
returns-then-is_shut_leaf c =
    let w = c.args.cluster.now in
    let q = c.args.place.now.queue in
    let right : IsRightIn w c.args.p q c.noted.result = subst (IsRightIn w c.args.p q) (sym c.noted.ensures) (c.requires.notes.own c.args.p q c.requires.there) in
    noted-shut w c.args.p q (record { room = Some any_room; least = c.noted.result.least }) c.args.notes.now c.note.new.self c.requires.notes c.note.ensures.own c.note.ensures.guests
    (record { room = c.is_shut_leaf.ensures c.if-is_shut_leaf.true; least = right.least })
