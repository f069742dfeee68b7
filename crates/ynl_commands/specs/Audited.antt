-- What an audit tells of the journal that an input is.
use Rattle.std.specs.Prelude.{◌≡◌, ◌≢◌, ◌+◌, ℕ, IsTrue, List, Some, None, length}
use Rattle.ynl_resource.specs.declared.names.Name.{Name}
use Rattle.ynl_resource.specs.declared.labels.Label.{Label}
use Rattle.ynl_model.specs.Queues.{Config}
use Rattle.ynl_model.specs.Cluster.{State, opening}
use Rattle.ynl_model.specs.Accepted.{is_accepted}
use Rattle.ynl_model.specs.View.{is_sole}
use Rattle.ynl_journal.specs.Journal.{AgreesFrom, FirstDiffersFrom}
use Rattle.ynl_journal.specs.Promises.{AreAnswered, ShowsAlone}
use Rattle.ynl_lines.specs.declared.faults.JournalFault.TheVariants.{Differs}
use Rattle.ynl_lines.specs.declared.faults.InputFault.TheVariants.{Journal as InJournal}
use Rattle.ynl_commands.specs.Audit.{journal_of, audited, audit_answer, audit_of}

-- where each reply that the journal has is the cluster's, its audit tells just what reading it finds: how many entries it has, or its fault
abbrev pub AgreeingPass : Type 0
AgreeingPass = (c : Config) (s : State) (input : List ℕ) → AgreesFrom c s (journal_of input).made → audit_of c s input ≡ audit_answer (journal_of input)

-- where the audit does not tell that a reply differs, each that the journal has is the cluster's
abbrev pub PassingAgree : Type 0
PassingAgree = (c : Config) (s : State) (input : List ℕ) → (audit_of c s input).fault ≢ Some (InJournal Differs) → AgreesFrom c s (journal_of input).made

-- where it tells that, the entry after those that pass is the first of the journal that has another reply than the cluster's
abbrev pub FirstIsTold : Type 0
FirstIsTold =
    (c : Config) (s : State) (input : List ℕ) → (audit_of c s input).fault ≡ Some (InJournal Differs) → FirstDiffersFrom c s (journal_of input).made (length (audited c s input).made + 1)

-- A journal that passes its audit from the opening state under an accepted configuration, and of which each entry has a reply, shows each
-- tenant that alone may use an exclusive partition as alone there.
abbrev pub PassingShowAlone : Type 0
PassingShowAlone =
    (c : Config) (input : List ℕ) (t : Name) (p : Label) → (audit_of c (opening c) input).fault ≡ None → AreAnswered (journal_of input).made → IsTrue (is_accepted c) → IsTrue (is_sole c t p)
    → ShowsAlone c (journal_of input).made t p
