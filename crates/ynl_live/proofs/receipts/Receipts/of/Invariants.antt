use Rattle.std.proofs.Common.{◌≡◌, take}
use Rattle.ynl_live.proofs.receipts.Receipts.of.Given as goal

abbrev pub invariant-loop-receipt : goal.invariant-loop-receipt
invariant-loop-receipt l = l.kept ≡ take l.receipt-index l.receipts
