-- Places that are marked, one for each receipt that was seen.
use Rattle.std.specs.Prelude.{◌≡◌, ℕ, ◌<◌, ◌≤◌, List, Bool, false, if◌then◌else◌, length, count_by, slice_index_or}
use Rattle.ynl_model.specs.declared.entries.Entry.{Entry}
use Rattle.ynl_live.specs.declared.receipts.Receipt.{Receipt}
use Rattle.ynl_live.specs.Receipts.{times_at, IsAt}

-- the marked places are those of the receipts that were seen, each once
pub record IsMarked (marks : List Bool) (seen : List Receipt) : Type 0 where
  pub times : (place : ℕ) → times_at place seen ≡ (if slice_index_or marks place false then 1 else 0)
  pub total : count_by (λ mark. mark) marks ≡ length seen

-- the place of a receipt can be marked: it is at the front or behind it, has the entry that the receipt tells of, and is not marked
abbrev pub CanMark : List Entry → List Bool → ℕ → Receipt → Type 0
CanMark entries marks front receipt =
    (front ≤ receipt.place) × (receipt.place < length entries) × IsAt entries receipt × (slice_index_or marks receipt.place false ≡ false)
