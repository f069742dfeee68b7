use Rattle.ynl_laws.proofs.Events.Replies.{are_heartbeats_bounded}
use Rattle.ynl_laws.proofs.states.heartbeats_are_bounded.Goals as goal

pub returns : goal.returns
returns c = are_heartbeats_bounded
