-- Why a journal is not closed.
use Rattle.std.specs.Prelude.{◌≡◌, ℕ, List, length}
use Rattle.ynl_model.specs.declared.events.Event.{Event}
use Rattle.ynl_model.specs.declared.entries.Entry.{Entry}
use Rattle.ynl_core.specs.World.{World}
use Rattle.ynl_journal.specs.Journal.{IsHistoryFrom, events_in}
use Rattle.ynl_live.specs.declared.closing.Cause.{Cause}
use Rattle.ynl_live.specs.declared.closing.Cause.TheVariants.{SeatsMissing, ReceiptsMissing, Mismatch, NoMemory}
use Rattle.ynl_live.specs.declared.receipts.Receipt.{Receipt}
use Rattle.ynl_live.specs.Misfits.{IsMisfit}
use Rattle.ynl_live.specs.Receipts.{IsOneForEach, calls_on}
use Rattle.ynl_live.specs.Seats.{Standing}

-- the first receipt that does not fit the history of these events, from a cluster on, has this place
pub record IsMisfitOf (w : World) (events : List Event) (lists : List (List Receipt)) (place : ℕ) : Type 0 where
  pub entries : List Entry
  pub history : IsHistoryFrom w.config w.state entries
  pub same : events_in entries ≡ events
  pub misfit : IsMisfit entries lists place

-- Seats are missing only where their calls are not as many as the events of the journal; receipts only where they are, but there is not one
-- list for each seat, as long as the seat's calls; and a receipt does not fit only where there is, and it is the first. Of want of memory
-- nothing is said.
abbrev pub IsCause : World → List Event → List Standing → List (List Receipt) → Cause → Type 0
IsCause w events seats lists SeatsMissing = calls_on seats ≡ length events → ⊥
IsCause w events seats lists ReceiptsMissing = (calls_on seats ≡ length events) × (IsOneForEach seats lists → ⊥)
IsCause w events seats lists (Mismatch place) = (calls_on seats ≡ length events) × IsOneForEach seats lists × IsMisfitOf w events lists place
IsCause w events seats lists NoMemory = Unit {0}

-- the same, where the journal is not known: it has some events
abbrev pub IsCauseFor : World → List Standing → List (List Receipt) → Cause → Type 0
IsCauseFor w seats lists cause = (events : List Event) × IsCause w events seats lists cause
