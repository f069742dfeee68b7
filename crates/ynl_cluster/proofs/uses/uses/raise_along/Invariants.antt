use Rattle.ynl_cluster.specs.uses.Tallies.{raised}
use Rattle.ynl_laws.proofs.Totals.Along.{IsAlong}
use Rattle.ynl_cluster.proofs.uses.uses.raise_along.Given as goal

abbrev pub invariant-loop-i : goal.invariant-loop-i
invariant-loop-i l = IsAlong (raised l.tally) l.initial.uses.items l.uses.items l.way l.i
