use Rattle.ynl_laws.proofs.Service.Proposed.{are_choices_committed}
use Rattle.ynl_laws.proofs.proposals.choices_are_committed.Goals as goal

pub returns : goal.returns
returns c = are_choices_committed
