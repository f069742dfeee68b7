use Rattle.std.proofs.Common.{◌+◌, [], ◌∷◌, length, length-append, ap, ◌∙◌}
use Rattle.ynl_search.proofs.notes.Rowwise.{empty-more}
use Rattle.ynl_search.proofs.notes.note_table.NoteTable.new.Goals as goal

pub loop-partition-preserved : goal.loop-partition-preserved
loop-partition-preserved c = (
  empty-more c.loop-partition._partition c.args.queues c.loop-partition.rows.items c.push.new.self.items c.in_ok-unknown.field-0 c.loop-partition.invariant.0 c.loop-partition.invariant.1
      c.in_ok-push.ensures.items c.in_ok-unknown.ensures.has c.in_ok-unknown.ensures.noted,
  ap length c.in_ok-push.ensures.items ∙ length-append c.loop-partition.rows.items (c.in_ok-unknown.field-0 ∷ []) ∙ ap (λ n. n + 1) c.loop-partition.invariant.1,
)
