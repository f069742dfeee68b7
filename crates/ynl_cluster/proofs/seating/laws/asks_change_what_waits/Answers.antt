use Rattle.ynl_cluster.proofs.seating.RowChanges.{asked-but}
use Rattle.ynl_cluster.proofs.seating.laws.asks_change_what_waits.Goals as goal

pub returns : goal.returns
returns c = asked-but
