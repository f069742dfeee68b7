use Rattle.std.proofs.Common.{◌∙◌}
use Rattle.ynl_queues.proofs.Totals.{StandBelow, adds_up_by_totals}
use Rattle.ynl_queues.proofs.draft.Draft.adds_up.Goals as goal

pub returns : goal.returns
returns c =
    let below : StandBelow c.args.self.now c.args.queue.now c.deref.result.now = rw c.deref.ensures.value c.in_ok-below.ensures.capacities in
    c.come_to_whole.ensures ∙ adds_up_by_totals c.args.self.now c.args.queue.now c.labels.result.now c.deref.result.now c.labels.ensures below
