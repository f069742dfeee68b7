use Rattle.ynl_tool.proofs.Livings.{EntriesSoFar}
use Rattle.ynl_tool.proofs.live.tell_entries.Given as goal

-- the lines of the entries so far are written, up to what is held back
abbrev pub invariant-loop-i : goal.invariant-loop-i
invariant-loop-i g l = EntriesSoFar (g.W.Write.contents l.initial.writer) (g.W.Write.contents l.writer) l.held.items l.entries l.i
