use Rattle.std.proofs.Common.{sym}
use Rattle.ynl_queues.proofs.draft.Draft.new.Goals as goal

pub invariant_of-draft : goal.invariant_of-draft
invariant_of-draft c = c.in_ok-index.ensures _ (sym c.deref.ensures.value)
