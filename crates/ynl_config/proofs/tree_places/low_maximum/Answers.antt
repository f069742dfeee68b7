use Rattle.std.proofs.Common.{rules, ◌≡◌, ◌∙◌, Some, ap, sym}
use Rattle.std.specs.Prelude.{find, option_map}
use Rattle.ynl_resource.specs.Texts.{label_text}
use Rattle.ynl_model.specs.Nodes.{partition_labels}
use Rattle.ynl_config.specs.GrantTests as test
use Rattle.ynl_config.specs.Lent.{label_of}
use Rattle.ynl_config.specs.RowPlaces.{low_maximum}
use Rattle.ynl_config.proofs.tree_places.low_maximum.Goals as goal

pub returns : goal.returns
unfolding low_maximum
returns c =
    let label = c.label-label.result in
    let found : Some label ≡ find (test.is_low c.labels-labels.result.now c.grant-queue.result) (partition_labels c.labels-labels.result.now) =
    ap Some c.label-label.ensures ∙ ap (option_map label_of) (sym c.in-Some.is) ∙ c.low_partition.ensures in
    let named : c.text.result.now ≡ label_text label = c.text.ensures ∙ ap label_text (sym c.label-label.ensures) in
    search (rules, found, named)
