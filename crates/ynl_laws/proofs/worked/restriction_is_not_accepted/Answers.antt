use Rattle.ynl_laws.proofs.Computed.Examples.{restriction_is_not_accepted}
use Rattle.ynl_laws.proofs.worked.restriction_is_not_accepted.Goals as goal

pub returns : goal.returns
returns c = restriction_is_not_accepted
