use Rattle.ynl_cluster.proofs.requests.Tables.{tabled}
use Rattle.ynl_cluster.proofs.requests.laws.sound_rows_are_tabled.Goals as goal

pub returns : goal.returns
returns c = tabled
