-- Receipts held against a journal.
use Rattle.std.specs.Prelude.{◌≡◌, ℕ, ◌<◌, List, ◌==◌, length, count_by, sum_by, map, All, AllPairs, Some, slice_get}
use Rattle.std.specs.List.{flat_map}
use Rattle.ynl_model.specs.declared.entries.Entry.{Entry}
use Rattle.ynl_model.specs.declared.events.Event.{Event}
use Rattle.ynl_model.specs.declared.replies.Reply.{Reply}
use Rattle.ynl_journal.specs.Journal.{entry}
use Rattle.ynl_live.specs.declared.receipts.Receipt.{Receipt}
use Rattle.ynl_live.specs.Seats.{Standing}

-- the receipts of all lists, list by list
abbrev pub all_receipts : List (List Receipt) → List Receipt
all_receipts lists = flat_map (λ list. list) lists

-- how many of the receipts have this place
abbrev pub times_at : ℕ → List Receipt → ℕ
times_at place receipts = count_by (λ receipt. receipt.place == place) receipts

-- each place below n stands in exactly one receipt
abbrev pub EachOnce : ℕ → List Receipt → Type 0
EachOnce n receipts = (place : ℕ) → place < n → times_at place receipts ≡ 1

-- the receipt of these parts
abbrev pub receipt : ℕ → Event → Reply → Receipt
receipt place event reply = record { place = place; event = event; reply = reply }

-- the entry that a receipt tells of
abbrev pub entry_of : Receipt → Entry
entry_of receipt = entry receipt.event (Some receipt.reply)

-- at the receipt's place stands the entry that it tells of
abbrev pub IsAt : List Entry → Receipt → Type 0
IsAt entries receipt = slice_get entries receipt.place ≡ Some (entry_of receipt)

-- each receipt's place is above those of the receipts before it
abbrev pub Rises : List Receipt → Type 0
Rises receipts = AllPairs (λ earlier later. earlier.place < later.place) receipts

-- the receipts of one seat fit the journal: their places rise, and each is at its place
pub record ListFits (entries : List Entry) (receipts : List Receipt) : Type 0 where
  pub rises : Rises receipts
  pub at : All (IsAt entries) receipts

-- how many calls were answered on the seats together
abbrev pub calls_on : List Standing → ℕ
calls_on seats = sum_by (λ seat. seat.calls) seats

-- there is one list for each seat, as long as the seat's calls
abbrev pub IsOneForEach : List Standing → List (List Receipt) → Type 0
IsOneForEach seats lists = map (λ list. length list) lists ≡ map (λ seat. seat.calls) seats
