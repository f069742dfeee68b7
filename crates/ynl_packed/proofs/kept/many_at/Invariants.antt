use Rattle.std.proofs.Common.{◌≡◌, ◌-◌}
use Rattle.ynl_packed.specs.Reading.{many}
use Rattle.ynl_packed.proofs.Loops.{with_front}
use Rattle.ynl_packed.proofs.kept.many_at.Given as goal

abbrev pub invariant-loop : goal.invariant-loop
invariant-loop g l = with_front l.items.items (many g.T.Kept.at (l.count - l.counter) l.c.rest.now) ≡ many g.T.Kept.at l.count l.fn.c.rest.now
