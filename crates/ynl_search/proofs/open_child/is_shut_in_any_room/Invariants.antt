use Rattle.std.proofs.Common.{ℕ, ◌<◌, true, get_or}
use Rattle.ynl_search.specs.Places.{any_room}
use Rattle.ynl_search.specs.Shut.{IsClosedIn}
use Rattle.ynl_search.proofs.open_child.is_shut_in_any_room.Given as goal

abbrev pub invariant-loop-at : goal.invariant-loop-at
invariant-loop-at l = (k : ℕ) → k < l.at → IsClosedIn l.cluster l.p (record { is_open = true; room = any_room }) (get_or l.queue.children.now k 0)
