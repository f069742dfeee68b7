use Rattle.std.proofs.Common.{◌+◌, sym, ap, refl, arith, is_some}
use Rattle.std.specs.BTreeMap.{get}
use Rattle.std.specs.Option.{unwrap_or}
use Rattle.ynl_view.specs.nodes.Counts.{label_order}
use Rattle.ynl_view.proofs.nodes.Counted.{written}
use Rattle.ynl_view.proofs.nodes.counts.raise.Goals as goal

pub overflow_add-count : goal.overflow_add-count
overflow_add-count c = let here = ap (λ o. unwrap_or o 0) c.in-Some.ensures.value in omega (arith, here, c.requires.few)

pub returns-in-Some : goal.returns-in-Some
returns-in-Some c =
    let here = c.in-Some.ensures.value in
    let count = c.in-Some.count.now in
    written (get label_order c.args.counts.now) (get label_order (c.get_mut.follows.lender (count + 1))) c.args.label.now count (count + 1) (λ a b. a + b) (sym here) ((c.get_mut.follows.holds (count + 1)).3 (sym (ap is_some here))).0 refl (λ m. omega arith)
