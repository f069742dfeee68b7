use Rattle.ynl_laws.proofs.Service.Proposed.{are_accessible_choices_committed}
use Rattle.ynl_laws.proofs.proposals.accessible_choices_are_committed.Goals as goal

pub returns : goal.returns
returns c = are_accessible_choices_committed
