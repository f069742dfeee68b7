use Rattle.ynl_cluster.proofs.requests.Tables.{distinct}
use Rattle.ynl_cluster.proofs.requests.laws.asks_of_sound_rows_differ.Goals as goal

pub returns : goal.returns
returns c = distinct
