use Rattle.ynl_commands.proofs.Tellings.{ToldSoFar}
use Rattle.ynl_commands.proofs.tenant.tell_events.Given as goal

-- the lines of the events so far are written, up to what is held back, and the others are left
abbrev pub invariant-loop-i : goal.invariant-loop-i
invariant-loop-i g l = ToldSoFar (g.W.Write.contents l.initial.writer) (g.W.Write.contents l.writer) l.held.items l.config l.tenant l.label l.initial.stand l.stand l.events l.i
