use Rattle.std.proofs.Common.{◌-◌, vec_len}
use Rattle.ynl_commands.proofs.Pieces.{LineSoFar}
use Rattle.ynl_commands.proofs.lines_in.read_line.Given as goal

-- the line so far is what the reader gave
abbrev pub invariant-loop-end : goal.invariant-loop-end
invariant-loop-end g l = LineSoFar (g.R.Read.remaining l.initial.reader) (g.R.Read.remaining l.reader) l.line.items l.budget

abbrev pub decreases-loop-end : goal.decreases-loop-end
decreases-loop-end g l = l.budget - vec_len l.line
