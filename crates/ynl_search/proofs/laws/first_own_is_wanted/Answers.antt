use Rattle.ynl_search.proofs.LeafFirst.{leaf-wanted}
use Rattle.ynl_search.proofs.laws.first_own_is_wanted.Goals as goal

pub returns : goal.returns
returns c = leaf-wanted
