use Rattle.ynl_cluster.proofs.ledger.Means.{totals-mean}
use Rattle.ynl_cluster.proofs.ledger.meaning.totals_are_told.Goals as goal

pub returns : goal.returns
returns c = λ v sound stops maxima p has. totals-mean v sound p has stops maxima
