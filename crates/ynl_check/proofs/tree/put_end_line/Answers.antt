use Rattle.ynl_check.specs.Tree.{end_line}
use Rattle.ynl_check.proofs.tree.put_end_line.Goals as goal

pub returns : goal.returns
unfolding end_line
returns c =
    simp (c.text.ensures, c.number.ensures, c.number-2.ensures, c.number-3.ensures, c.leaves.ensures, c.labels.ensures, c.rows.ensures, c.queues.ensures, c.deref.ensures, c.deref-2.ensures) at c.put_object.ensures
