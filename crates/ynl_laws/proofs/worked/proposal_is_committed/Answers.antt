use Rattle.ynl_laws.proofs.Computed.Examples.{proposal_is_committed}
use Rattle.ynl_laws.proofs.worked.proposal_is_committed.Goals as goal

pub returns : goal.returns
returns c = proposal_is_committed
