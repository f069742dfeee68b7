-- The closed journal of a session.
use Rattle.std.specs.Prelude.{◌≡◌, ℕ, ◌≤◌, List, [], ◌++◌, length, map, drop, All, count_by, IsTrue, if◌then◌else◌}
use Rattle.ynl_resource.specs.declared.names.Name.{Name}
use Rattle.ynl_model.specs.declared.events.Event.{Event}
use Rattle.ynl_model.specs.declared.entries.Entry.{Entry}
use Rattle.ynl_model.specs.declared.proposals.Proposal.{Proposal}
use Rattle.ynl_model.specs.declared.nodes.Tracked.{Tracked}
use Rattle.ynl_model.specs.Events.{after}
use Rattle.ynl_model.specs.View.{is_there}
use Rattle.ynl_laws.specs.Working.{places}
use Rattle.ynl_core.specs.World.{World}
use Rattle.ynl_journal.specs.Journal.{IsHistoryFrom, events_in}
use Rattle.ynl_live.specs.Alone.{ShowTenantsAloneFrom}
use Rattle.ynl_workers.specs.session.Handed.{is_workers, asks, commits, answers}

-- the nodes that the events leave, from a cluster on
abbrev pub nodes_left : World → List Event → List Tracked
nodes_left w events = places (after w.config w.state events)

-- their names
abbrev pub nodes_after : World → List Event → List Name
nodes_after w events = map (λ node. node.name) (nodes_left w events)

-- The closed journal of a script's events and so many rounds: a history from the first cluster on, which begins with the script; what follows are
-- the workers' calls, none of them where there is no round, and of these no proposal is committed more often than it was answered. Where no
-- worker is halted, each node that the script leaves is asked about once a round, and a node of any other name never; and each proposal is
-- committed as often as it was answered.
pub record IsSession (free : Type 0) (w : World) (events : List Event) (rounds : ℕ) (entries : List Entry) : Type 0 where
  pub history : IsHistoryFrom w.config w.state entries
  pub further : List Event
  pub begins : events_in entries ≡ events ++ further
  pub workers : All (λ event. IsTrue (is_workers event)) further
  pub idle : rounds ≡ 0 → further ≡ []
  pub asked : free → (node : Name) → count_by (asks node) further ≡ (if is_there (nodes_left w events) node then rounds else 0)
  pub answered : (proposal : Proposal) → count_by (commits proposal) further ≤ count_by (answers proposal) (drop (length events) entries)
  pub committed : free → (proposal : Proposal) → count_by (commits proposal) further ≡ count_by (answers proposal) (drop (length events) entries)
  pub alone : ShowTenantsAloneFrom w entries
