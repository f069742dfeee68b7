use Rattle.ynl_commands.specs.Input.{between}
use Rattle.ynl_commands.proofs.Held.{HeldSoFar}
use Rattle.ynl_commands.proofs.run.answer_lines.Given as goal

-- the lines that were read were answered, in what is written and then what is held back
abbrev pub invariant-lines : goal.invariant-lines
invariant-lines g l =
    HeldSoFar (between (g.R.Read.remaining l.initial.reader) (g.R.Read.remaining l.reader)) (between (g.W.Write.contents l.initial.writer) (g.W.Write.contents l.writer)) l.initial.core.config l.initial.core.state
    l.input l.core l.held.items

abbrev pub decreases-lines : goal.decreases-lines
decreases-lines g l = l.input.budget
