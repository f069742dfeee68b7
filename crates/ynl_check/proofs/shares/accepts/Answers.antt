use Rattle.std.proofs.Common.{◌&&◌, not, ap, sym, ◌∙◌}
use Rattle.ynl_resource.specs.Names.{is_within}
use Rattle.ynl_model.specs.Queues.{accepts}
use Rattle.ynl_model.specs.declared.queues.StopRow.{StopRow}
use Rattle.ynl_queues.proofs.Mapped.{any_mapped}
use Rattle.ynl_check.proofs.shares.accepts.Goals as goal

pub returns : goal.returns
unfolding accepts
returns c = ap not (c.is_stopped.ensures ∙ sym (any_mapped (λ (row : StopRow). row.stopped && is_within row.queue c.args.queue.now) _ c.args.config.now.queues))
