use Rattle.ynl_model.specs.declared.replies.Reply.TheVariants.{Usage}
use Rattle.ynl_model.specs.Events.{usage}
use Rattle.ynl_replies.proofs.polling.usage.Goals as goal

pub returns : goal.returns
unfolding usage
returns c = λ i. Usage (c.used-used.ensures.value i).used (c.guaranteed.ensures i) (c.maximum.ensures i) (c.used-used.ensures.value i).masters (c.used-used.ensures.value i).guests
