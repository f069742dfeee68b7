use Rattle.ynl_commands.specs.declared.evidence_audit.EvidenceAudit.{EvidenceAudit}
use Rattle.ynl_commands.specs.Evidence.{evidence_way, IsEvidenceAudit}
use Rattle.ynl_commands.specs.Input.{between}
use Rattle.ynl_commands.proofs.Answerings.{HasCome}
use Rattle.ynl_commands.proofs.evidence_audit.audit_placed.Given as goal

-- the lines that were read gave entries that pass
abbrev pub invariant-lines : goal.invariant-lines
invariant-lines g l = HasCome (evidence_way l.whose) (IsEvidenceAudit l.whose) (λ (x : EvidenceAudit). x.entries) (between (g.R.Read.remaining l.initial.reader) (g.R.Read.remaining l.reader)) l.input l.audit

abbrev pub decreases-lines : goal.decreases-lines
decreases-lines g l = l.input.budget
