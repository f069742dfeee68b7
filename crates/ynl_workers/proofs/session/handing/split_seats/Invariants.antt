use Rattle.std.proofs.Common.{◌≡◌, vec_len}
use Rattle.ynl_workers.proofs.session.handing.split_seats.Given as goal

abbrev pub invariant-loop : goal.invariant-loop
invariant-loop l = vec_len l.seats ≡ l.counter
