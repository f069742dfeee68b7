use Rattle.std.proofs.Common.{◌-◌, length}
use Rattle.ynl_commands.proofs.Fronts.{WrittenSoFar}
use Rattle.ynl_commands.proofs.lines_out.write_text.Given as goal

-- what is written so far is a front of the text
abbrev pub invariant-loop-written : goal.invariant-loop-written
invariant-loop-written g l = WrittenSoFar (g.W.Write.contents l.initial.writer) (g.W.Write.contents l.writer) l.text l.written

abbrev pub decreases-loop-written : goal.decreases-loop-written
decreases-loop-written g l = length l.text - l.written
