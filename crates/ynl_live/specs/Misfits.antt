-- The first receipt that does not fit a journal.
use Rattle.std.specs.Prelude.{◌≡◌, ℕ, ◌+◌, ◌≤◌, List, ◌++◌, take, All, Some, slice_get}
use Rattle.ynl_model.specs.declared.entries.Entry.{Entry}
use Rattle.ynl_live.specs.declared.receipts.Receipt.{Receipt}
use Rattle.ynl_live.specs.Receipts.{all_receipts, times_at, ListFits}

-- the receipts of one list fit the journal, and no place stands in two of them and of those that were seen before
pub record FitBehind (entries : List Entry) (seen receipts : List Receipt) : Type 0 where
  pub fits : ListFits entries receipts
  pub once : (place : ℕ) → times_at place (seen ++ receipts) ≤ 1

-- the first receipt of a list that does not fit behind those that were seen before has this place
pub record IsFirstMisfit (entries : List Entry) (seen list : List Receipt) (place : ℕ) : Type 0 where
  pub before : ℕ
  pub receipt : Receipt
  pub at : slice_get list before ≡ Some receipt
  pub told : receipt.place ≡ place
  pub fit : FitBehind entries seen (take before list)
  pub misfit : FitBehind entries seen (take (before + 1) list) → ⊥

-- the first receipt, list by list, that does not fit the journal has this place
pub record IsMisfit (entries : List Entry) (lists : List (List Receipt)) (place : ℕ) : Type 0 where
  pub before : ℕ
  pub list : List Receipt
  pub at : slice_get lists before ≡ Some list
  pub fit : All (λ other. ListFits entries other) (take before lists)
  pub first : IsFirstMisfit entries (all_receipts (take before lists)) list place
