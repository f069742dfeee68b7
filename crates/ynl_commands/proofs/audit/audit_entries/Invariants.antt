use Rattle.ynl_commands.specs.Input.{between}
use Rattle.ynl_commands.proofs.Audits.{AuditSoFar}
use Rattle.ynl_commands.proofs.audit.audit_entries.Given as goal

-- the lines that were read gave entries that pass
abbrev pub invariant-lines : goal.invariant-lines
invariant-lines g l = AuditSoFar (between (g.R.Read.remaining l.initial.reader) (g.R.Read.remaining l.reader)) l.fn.core.config l.fn.core.state l.input l.audit

abbrev pub decreases-lines : goal.decreases-lines
decreases-lines g l = l.input.budget
