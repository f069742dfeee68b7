-- Whether each partition had a line.
use Rattle.std.proofs.Common.{◌∙◌, ◌&&◌, List, map, sym, ap}
use Rattle.std.specs.List.{list_all, list_any}
use Rattle.std.proofs.lemmas.List.Folds.{list_all-map}
use Rattle.ynl_resource.specs.Names.{same_label}
use Rattle.ynl_resource.specs.declared.labels.Label.{Label}
use Rattle.ynl_resource.specs.declared.labels.Label.TheVariants.{Named, Unlabelled}
use Rattle.ynl_model.specs.declared.labels.LabelRow.{LabelRow}
use Rattle.ynl_model.specs.Nodes.{partition_labels}
use Rattle.ynl_snapshots.specs.restoring.Telling.{Telling}
use Rattle.ynl_snapshots.proofs.restoring.Restoring.has_all.Goals as goal

pub returns-then-not-has_label : goal.returns-then-not-has_label
returns-then-not-has_label c =
    ap (λ b. b && list_all (λ label. list_any (same_label label) c.args.self.now.partitions) (map (λ (row : LabelRow). Named row.name) c.args.self.now.cluster.config.labels.rows))
    (sym c.if-not-has_label.true ∙ c.has_label.ensures ∙ ap (list_any (same_label Unlabelled)) c.deref.ensures.value ∙ ap (λ (t : Telling). list_any (same_label Unlabelled) t.partitions) c.self.view_is)

pub returns : goal.returns
returns c =
    rw (c.rows.ensures, c.labels.ensures, c.deref-3.ensures, c.config.ensures) at c.has_rows.ensures
    ∙ ap (λ (labels : List Label). list_all (λ (row : LabelRow). list_any (same_label (Named row.name)) labels) c.self.inside.cluster.config.labels.rows) c.deref-2.ensures.value
    ∙ sym (list_all-map (λ label. list_any (same_label label) c.self.inside.partitions.items) (λ (row : LabelRow). Named row.name) c.self.inside.cluster.config.labels.rows)
    ∙ ap (λ b. b && list_all (λ label. list_any (same_label label) c.self.inside.partitions.items) (map (λ (row : LabelRow). Named row.name) c.self.inside.cluster.config.labels.rows))
    (sym c.if-not-has_label.false ∙ c.has_label.ensures ∙ ap (list_any (same_label Unlabelled)) c.deref.ensures.value)
    ∙ ap (λ (t : Telling). list_all (λ label. list_any (same_label label) t.partitions) (partition_labels t.cluster.config.labels)) c.self.view_is
