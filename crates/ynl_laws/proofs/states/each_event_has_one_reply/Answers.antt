use Rattle.ynl_laws.proofs.Soundness.Sound.{has_one_reply_each}
use Rattle.ynl_laws.proofs.states.each_event_has_one_reply.Goals as goal

pub returns : goal.returns
returns c = has_one_reply_each
