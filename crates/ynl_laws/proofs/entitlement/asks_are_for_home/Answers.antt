use Rattle.ynl_laws.proofs.Lives.Entitled.{are_asks_for_home}
use Rattle.ynl_laws.proofs.entitlement.asks_are_for_home.Goals as goal

pub returns : goal.returns
returns c = are_asks_for_home
