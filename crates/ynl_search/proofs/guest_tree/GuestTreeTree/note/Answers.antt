use Rattle.ynl_search.proofs.GuestShut.{noted-guest}
use Rattle.ynl_search.proofs.guest_tree.GuestTreeTree.note.Goals as goal

pub returns : goal.returns
returns c =
    noted-guest c.args.self.now.cluster.now c.args.queue.now.place.queue c.least_asked_of_children-least.result c.args.notes.now c.note_guest.new.self c.requires.notes c.note_guest.ensures.own c.note_guest.ensures.guests
    c.least_asked_of_children-least.ensures
