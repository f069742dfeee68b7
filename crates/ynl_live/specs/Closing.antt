-- What a journal that is closed says of its events.
use Rattle.std.specs.Prelude.{◌≡◌, List, All, length}
use Rattle.ynl_model.specs.declared.events.Event.{Event}
use Rattle.ynl_core.specs.World.{World}
use Rattle.ynl_journal.specs.Journal.{IsHistoryFrom, events_in, replayed_from}
use Rattle.ynl_live.specs.declared.closing.Closed.{Closed}
use Rattle.ynl_live.specs.declared.receipts.Receipt.{Receipt}
use Rattle.ynl_live.specs.Receipts.{EachOnce, IsOneForEach, ListFits, all_receipts, calls_on}
use Rattle.ynl_live.specs.Seats.{Standing}

-- it is the history of these events from a cluster on, with the cluster that they lead to, and the receipts of all seats fit it
pub record IsClosing (w : World) (events : List Event) (seats : List Standing) (lists : List (List Receipt)) (closed : Closed) : Type 0 where
  pub events_are : events_in closed.entries ≡ events
  pub core : closed.core ≡ replayed_from w.config w.state closed.entries
  pub history : IsHistoryFrom w.config w.state closed.entries
  pub calls : length closed.entries ≡ calls_on seats
  pub one_for_each : IsOneForEach seats lists
  pub receipts : All (λ list. ListFits closed.entries list) lists
  pub once : EachOnce (length closed.entries) (all_receipts lists)
