use Rattle.std.proofs.Common.{ap₂}
use Rattle.std.specs.Prelude.{◌==◌}
use Rattle.ynl_config.proofs.faults.ConfigFault.is.Goals as goal

-- the search would look into the ranks of all pairs
pub returns : goal.returns
returns c = ap₂ (λ a b. a == b) c.rank.ensures c.rank-2.ensures
