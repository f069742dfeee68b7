use Rattle.ynl_commands.specs.Input.{between}
use Rattle.ynl_commands.proofs.ClustersAfter.{AppliedSoFar}
use Rattle.ynl_commands.proofs.clusters.apply_script.Given as goal

-- the lines that were read gave events, and the cluster is the one after them
abbrev pub invariant-lines : goal.invariant-lines
invariant-lines g l = AppliedSoFar (between (g.R.Read.remaining l.initial.reader) (g.R.Read.remaining l.reader)) l.input l.fn.core l.core

abbrev pub decreases-lines : goal.decreases-lines
decreases-lines g l = l.input.budget
