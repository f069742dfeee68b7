use Rattle.ynl_laws.proofs.Isolating.Isolated.{is_isolated}
use Rattle.ynl_laws.proofs.isolation.tenants_are_isolated.Goals as goal

pub returns : goal.returns
returns c = is_isolated
