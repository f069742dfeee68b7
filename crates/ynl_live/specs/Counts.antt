-- What is counted over receipts and over entries.
use Rattle.std.specs.Prelude.{◌≡◌, ℕ, List, length, sum_by, All}
use Rattle.ynl_model.specs.declared.entries.Entry.{Entry}
use Rattle.ynl_live.specs.declared.receipts.Receipt.{Receipt}
use Rattle.ynl_live.specs.Receipts.{EachOnce, IsAt, entry_of}

-- where each place of a journal stands in exactly one receipt, and each receipt is at its place, what is summed over the entries that the
-- receipts tell of is what is summed over the journal
abbrev pub CountAlike : Type 0
CountAlike = (f : Entry → ℕ) (entries : List Entry) (receipts : List Receipt) → EachOnce (length entries) receipts → All (IsAt entries) receipts → sum_by (λ receipt. f (entry_of receipt)) receipts ≡ sum_by f entries
