use Rattle.std.proofs.Common.{◌≡◌, Some, find, sym, ap, subst, ◌∙◌}
use Rattle.std.specs.List.{All}
use Rattle.ynl_resource.specs.Names.{same_label}
use Rattle.ynl_queues.specs.Index.{AreShares, capacities_on}
use Rattle.ynl_queues.specs.declared.index.LabelShares.{LabelShares}
use Rattle.ynl_queues.proofs.Places.{found_has, same_label_equal}
use Rattle.ynl_queues.proofs.draft.Draft.capacities.Goals as goal

pub returns-in-Some : goal.returns-in-Some
returns-in-Some c =
    let config = c.args.self.now in
    let label = c.args.label.now in
    let row : LabelShares = c.in-Some.shares.now in
    let all : All (AreShares config) c.deref.result.now = subst (All (AreShares config)) (sym c.deref.ensures.value) c.index-index.ensures.shares in
    let found : Some row ≡ find (λ (row : LabelShares). same_label row.label label) c.deref.result.now = c.in-Some.ensures in
    let kept = found_has (AreShares config) (λ (row : LabelShares). same_label row.label label) c.deref.result.now row all (sym found) in
    c.deref-in-Some.ensures.value ∙ kept.0 ∙ ap (capacities_on config) (same_label_equal row.label label kept.1)
