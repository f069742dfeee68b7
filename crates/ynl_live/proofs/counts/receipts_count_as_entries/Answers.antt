use Rattle.ynl_live.proofs.Sums.{count_alike}
use Rattle.ynl_live.proofs.counts.receipts_count_as_entries.Goals as goal

pub returns : goal.returns
returns c = count_alike
