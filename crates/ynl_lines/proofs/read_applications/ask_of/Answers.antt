use Rattle.ynl_lines.proofs.read_applications.ask_of.Goals as goal

pub returns-clause-ranged : goal.returns-clause-ranged
returns-clause-ranged c = (c.in_ok-size.ensures.ranged, (c.in_ok-priority.ensures.ranged, c.in_ok-count.ensures.ranged))
