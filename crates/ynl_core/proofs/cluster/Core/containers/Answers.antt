use Rattle.std.proofs.Common.{sym, ap, ◌∙◌, true≢false}
use Rattle.std.specs.Option.{option_map_or}
use Rattle.ynl_resource.specs.Names.{same_label}
use Rattle.ynl_resource.specs.declared.labels.Label.TheVariants.{Unlabelled}
use Rattle.ynl_model.specs.Cluster.{containers_on}
use Rattle.ynl_laws.proofs.Names.{same-label_path}
use Rattle.ynl_inventory.specs.Rows.{PartitionRow}
use Rattle.ynl_inventory.proofs.ContainersFound.{no-partition}
use Rattle.ynl_inventory.proofs.Finding.{not-true}
use Rattle.std.proofs.lemmas.Option.{slice_get_within}
use Rattle.ynl_replies.proofs.admission.LabelsKnown.{label-known}
use Rattle.ynl_cluster.specs.Cluster.{maxima_in, stops_in}
use Rattle.ynl_core.specs.World.{World}
use Rattle.ynl_core.proofs.cluster.Core.containers.Goals as goal

pub returns-in-None : goal.returns-in-None
returns-in-None c =
    let w = c.self.inside.cluster in
    let label = c.args.label.now in
    c.new.ensures.items
    ∙ sym (no-partition w.rows label
    (λ p row at. not-true (same_label row.label label)
    (λ same. true≢false (sym (label-known w.config w.rows c.inventory.ensures.configured label p (slice_get_within w.rows.partitions p row at)
    (ap (λ o. option_map_or (λ (row : PartitionRow). row.label) o Unlabelled) at ∙ same-label_path row.label label same)) ∙ sym c.in-None.ensures.known)))
    (stops_in w) (maxima_in w))
    ∙ ap (λ (v : World). containers_on v.state label) c.self.view_is
