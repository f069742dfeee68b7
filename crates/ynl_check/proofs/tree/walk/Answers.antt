use Rattle.std.proofs.Common.{map, rules, subst, IsPermutation}
use Rattle.std.specs.Borrow.{Bor}
use Rattle.std.specs.Cmp.Lexicographic.{lists_total, nat_list_cmp_total}
use Rattle.std.proofs.lemmas.List.Sorted.{IsPermutation-map, answers_always, ranks_by}
use Rattle.ynl_model.specs.Queues.{QueueRow}
use Rattle.ynl_check.specs.Tree.{path_order}
use Rattle.ynl_check.proofs.Lists.{sorted-map}
use Rattle.ynl_check.proofs.tree.walk.Goals as goal

pub returns : goal.returns
returns c =
    let now : Bor QueueRow → QueueRow = λ row. row.now in
    record {
      all = subst (λ rows. IsPermutation rows (map now c.sort_by.new.self.items)) c.in_ok-rows.ensures (IsPermutation-map now _ _ c.in_ok-sort_by.ensures.permutation);
      order = sorted-map now path_order _ (c.in_ok-sort_by.ensures.sorted _ (ranks_by (lists_total nat_list_cmp_total) (λ (row : Bor QueueRow). row.now.path)) (answers_always _ _ _ (λ f a r h called. search rules)));
    }
