-- What the lane's seats are given fits in the room.
use Rattle.ynl_search.proofs.MayHave.{guests-may}
use Rattle.ynl_search.proofs.guests.first_guest.Goals as goal

pub first-requires-clause-passes : goal.first-requires-clause-passes
first-requires-clause-passes c = guests-may c.args.inventory.now.rows c.requires.0 c.args.lane.now.seats c.requires.1 c.args.room
