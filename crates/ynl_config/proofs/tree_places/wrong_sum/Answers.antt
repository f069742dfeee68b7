use Rattle.std.proofs.Common.{◌∙◌, ap, sym}
use Rattle.std.specs.Prelude.{Some, option_map}
use Rattle.ynl_queues.specs.Grants.{total_at}
use Rattle.ynl_config.specs.Lent.{label_of}
use Rattle.ynl_config.specs.RowPlaces.{at_sum}
use Rattle.ynl_config.proofs.Granted.{odd_place, sum_alike}
use Rattle.ynl_config.proofs.tree_places.wrong_sum.Goals as goal

pub returns-in_default : goal.returns-in_default
returns-in_default c =
    ap (λ odd. option_map (at_sum c.args.config.now c.args.queue.now) (option_map label_of odd)) (sym c.in_default.is)
    ∙ odd_place _ _ _ _ _ c.labels-labels.ensures c.deref.ensures.value c.in_ok-below.ensures.capacities _ c.odd_partition.ensures

pub returns : goal.returns
returns c =
    ap Some (
    c.sum_place.ensures
    ∙ sum_alike _ _ _ _ _ c.labels-labels.ensures c.deref-2.ensures.value c.in_ok-below.ensures.capacities _ _ _ _ c.requires.text c.text.ensures (c.total_capacity-sum.ensures ∙ ap (total_at _ _) c.label.ensures)
    )
    ∙ ap (λ odd. option_map (at_sum c.args.config.now c.args.queue.now) (option_map label_of odd)) (sym c.in-Some.is)
    ∙ odd_place _ _ _ _ _ c.labels-labels.ensures c.deref.ensures.value c.in_ok-below.ensures.capacities _ c.odd_partition.ensures
