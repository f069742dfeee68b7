use Rattle.ynl_search.proofs.LeafFirst.{leaf-first}
use Rattle.ynl_search.proofs.laws.first_own_is_the_models.Goals as goal

pub returns : goal.returns
returns c = leaf-first
