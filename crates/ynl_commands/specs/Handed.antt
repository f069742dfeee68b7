-- What evidence tells of a journal, and an audit of evidence of what it read.
use Rattle.std.specs.Prelude.{◌≡◌, ◌≢◌, ℕ, IsTrue, List, Some, None}
use Rattle.ynl_model.specs.Accepted.{is_accepted}
use Rattle.ynl_model.specs.Cluster.{opening}
use Rattle.ynl_model.specs.View.{is_sole}
use Rattle.ynl_view.specs.evidence.Flaws.{flaw_of}
use Rattle.ynl_view.specs.evidence.Promises.{IsRight}
use Rattle.ynl_lines.specs.declared.faults.JournalFault.TheVariants.{Differs}
use Rattle.ynl_lines.specs.declared.faults.InputFault.TheVariants.{Journal as InJournal}
use Rattle.ynl_commands.specs.declared.evidence.Tenancy.{Tenancy}
use Rattle.ynl_commands.specs.Audit.{journal_of, audit_of}
use Rattle.ynl_commands.specs.Evidence.{evidence_for, evidence_audited}

-- where the audit of a journal, from the opening state, does not tell that a reply differs, its evidence has no flaw, for each tenant
-- that alone may use an exclusive partition of an accepted configuration
abbrev pub PassingHandsRight : Type 0
PassingHandsRight =
    (whose : Tenancy) (input : List ℕ) → (audit_of whose.config (opening whose.config) input).fault ≢ Some (InJournal Differs) → IsTrue (is_accepted whose.config)
    → IsTrue (is_sole whose.config whose.tenant whose.label) → flaw_of whose.config whose.tenant whose.label (evidence_for whose (journal_of input).made) ≡ None

-- the entries of which the audit of evidence finds that they pass are right
abbrev pub AuditedIsRight : Type 0
AuditedIsRight = (whose : Tenancy) (input : List ℕ) → IsRight whose.config whose.tenant whose.label (evidence_audited whose input).made
