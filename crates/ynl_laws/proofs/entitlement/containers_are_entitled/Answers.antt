use Rattle.ynl_laws.proofs.Lives.Entitled.{are_all_entitled}
use Rattle.ynl_laws.proofs.entitlement.containers_are_entitled.Goals as goal

pub returns : goal.returns
returns c = are_all_entitled
