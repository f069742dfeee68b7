use Rattle.std.proofs.Common.{◌-◌, sym, ap, arith, is_some}
use Rattle.std.specs.BTreeMap.{get}
use Rattle.ynl_view.specs.nodes.Counts.{label_order}
use Rattle.ynl_view.proofs.nodes.Counted.{written}
use Rattle.ynl_view.proofs.nodes.counts.lower.Goals as goal

pub returns-in-Some : goal.returns-in-Some
returns-in-Some c =
    let here = c.in-Some.ensures.value in
    let count = c.saturating_sub.result in
    written (get label_order c.args.counts.now) (get label_order (c.get_mut.follows.lender count)) c.args.label.now c.in-Some.count.now count (λ a b. a - b) (sym here) ((c.get_mut.follows.holds count).3 (sym (ap is_some here))).0 c.saturating_sub.ensures (λ m. omega arith)
