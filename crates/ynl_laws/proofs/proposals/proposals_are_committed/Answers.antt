use Rattle.ynl_laws.proofs.Service.Proposed.{are_proposals_committed}
use Rattle.ynl_laws.proofs.proposals.proposals_are_committed.Goals as goal

pub returns : goal.returns
returns c = are_proposals_committed
