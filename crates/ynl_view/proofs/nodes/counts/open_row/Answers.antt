use Rattle.std.proofs.Common.{sym, ◌∙◌}
use Rattle.ynl_view.proofs.nodes.Counted.{opened}
use Rattle.std.specs.BTreeMap.{get}
use Rattle.ynl_view.specs.nodes.Counts.{label_order}
use Rattle.ynl_view.proofs.nodes.counts.open_row.Goals as goal

pub returns-in_ok-insert-clause-counts : goal.returns-in_ok-insert-clause-counts
returns-in_ok-insert-clause-counts c =
    opened (get label_order c.args.counts.now) (get label_order c.insert.new.self) c.args.label.now (sym c.contains_key.ensures ∙ c.if-not-contains_key.true) c.in_ok-insert.ensures.updates.0
