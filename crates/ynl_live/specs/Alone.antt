-- What a closed journal shows of the tenants of its configuration.
use Rattle.std.specs.Prelude.{◌≡◌, ◌++◌, IsTrue, List}
use Rattle.ynl_resource.specs.declared.names.Name.{Name}
use Rattle.ynl_resource.specs.declared.labels.Label.{Label}
use Rattle.ynl_model.specs.declared.entries.Entry.{Entry}
use Rattle.ynl_model.specs.Queues.{Config}
use Rattle.ynl_model.specs.Accepted.{is_accepted}
use Rattle.ynl_model.specs.Events.{IsHistory}
use Rattle.ynl_model.specs.View.{is_sole}
use Rattle.ynl_core.specs.World.{World}
use Rattle.ynl_journal.specs.Journal.{replayed}
use Rattle.ynl_journal.specs.Promises.{ShowsAlone}

-- where the configuration is accepted, the entries show each tenant that alone may use an exclusive partition as alone there
abbrev pub ShowTenantsAlone : Config → List Entry → Type 0
ShowTenantsAlone c entries = IsTrue (is_accepted c) → (t : Name) (p : Label) → IsTrue (is_sole c t p) → ShowsAlone c entries t p

-- so do a closed history and, behind it, the entries that go on from where it leads to. Before a cluster that was just opened stands one without
-- entries
abbrev pub ShowTenantsAloneFrom : World → List Entry → Type 0
ShowTenantsAloneFrom w entries = (before : List Entry) → IsHistory w.config before → w ≡ replayed w.config before → ShowTenantsAlone w.config (before ++ entries)
