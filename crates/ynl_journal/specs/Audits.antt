-- What an audit finds.
use Rattle.std.specs.Prelude.{◌≡◌, ℕ, ◌<◌, List, length, take}
use Rattle.ynl_model.specs.declared.entries.Entry.{Entry}
use Rattle.ynl_core.specs.World.{World}
use Rattle.ynl_journal.specs.declared.auditing.AuditFault.{AuditFault}
use Rattle.ynl_journal.specs.declared.auditing.AuditFault.TheVariants.{Differs, NoMemory}
use Rattle.ynl_journal.specs.Journal.{AgreesFrom, FirstDiffersFrom, replayed_from}

-- a fault is told of the entries: of one that differs it is the first; of want of memory nothing is said
abbrev pub IsFault : World → List Entry → AuditFault → Type 0
IsFault w entries (Differs n) = FirstDiffersFrom w.config w.state entries n
IsFault w entries NoMemory = Unit {0}

-- memory was refused for the event after the first n: the cluster is the one that these lead to, and each of their replies that is there is
-- the cluster's
pub record StopsAfter (w : World) (entries : List Entry) (cluster : World) (n : ℕ) : Type 0 where
  pub inside : n < length entries
  pub applied : cluster ≡ replayed_from w.config w.state (take n entries)
  pub agrees : AgreesFrom w.config w.state (take n entries)

-- where an audit gives up for want of memory, it does so before an event is applied, so no reply that differs was met
abbrev pub GivesUp : World → List Entry → World → AuditFault → Type 0
GivesUp w entries cluster (Differs n) = Unit {0}
GivesUp w entries cluster NoMemory = (n : ℕ) × StopsAfter w entries cluster n
