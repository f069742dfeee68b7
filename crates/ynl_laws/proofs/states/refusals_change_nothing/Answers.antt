use Rattle.ynl_laws.proofs.Events.Refused.{refusal_changes_nothing}
use Rattle.ynl_laws.proofs.states.refusals_change_nothing.Goals as goal

pub returns : goal.returns
returns c = refusal_changes_nothing
