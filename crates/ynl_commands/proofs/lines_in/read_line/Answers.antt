use Rattle.std.proofs.Common.{rules}
use Rattle.ynl_commands.proofs.Pieces.{line_more, line_ended}
use Rattle.ynl_commands.proofs.lines_in.read_line.Goals as goal

pub returns-in-Some : goal.returns-in-Some
returns-in-Some g c = line_ended _ _ _ c.loop-end.line.items _ _ c.loop-end.invariant c.in-Some.end (search rules)

pub loop-end-preserved : goal.loop-end-preserved
loop-end-preserved g c = line_more _ _ _ c.loop-end.line.items _ c.args.budget c.loop-end.invariant (search rules)
