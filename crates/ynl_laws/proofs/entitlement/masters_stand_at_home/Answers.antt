use Rattle.ynl_laws.proofs.Lives.Homes.{are_masters_at_home}
use Rattle.ynl_laws.proofs.entitlement.masters_stand_at_home.Goals as goal

pub returns : goal.returns
returns c = are_masters_at_home
