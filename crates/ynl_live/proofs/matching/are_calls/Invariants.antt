use Rattle.std.proofs.Common.{◌≡◌, ◌+◌, take}
use Rattle.ynl_live.specs.Receipts.{calls_on}
use Rattle.ynl_live.proofs.matching.are_calls.Given as goal

abbrev pub invariant-loop-seat : goal.invariant-loop-seat
invariant-loop-seat l = l.left + calls_on (take l.seat-index l.seats) ≡ l.calls
