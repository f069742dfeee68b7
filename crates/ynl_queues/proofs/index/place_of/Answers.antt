use Rattle.std.proofs.Common.{◌∙◌}
use Rattle.ynl_queues.proofs.index.place_of.Goals as goal

pub returns : goal.returns
returns c = λ rows are. c.copied.ensures ∙ c.get.ensures.value ∙ are c.args.queue.now
