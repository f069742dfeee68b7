use Rattle.ynl_laws.proofs.Lives.Entitled.{may_leaves_use_homes}
use Rattle.ynl_laws.proofs.entitlement.leaves_may_use_homes.Goals as goal

pub returns : goal.returns
returns c = may_leaves_use_homes
