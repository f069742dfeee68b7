-- Before any line.
use Rattle.std.proofs.Common.{◌∙◌, length, map, replicate, refl, sym, ap, subst}
use Rattle.std.specs.List.{AllByRecursion, list_any}
use Rattle.std.proofs.lemmas.List.{length-map}
use Rattle.ynl_resource.specs.Names.{same_label}
use Rattle.ynl_model.specs.Accepted.{is_accepted}
use Rattle.ynl_model.specs.Cluster.{State}
use Rattle.ynl_model.specs.Nodes.{partition_labels}
use Rattle.ynl_model.specs.Queues.{Config}
use Rattle.ynl_inventory.specs.Rows.{PartitionRow}
use Rattle.ynl_saved.specs.Restoring.{nothing_restored}
use Rattle.ynl_saved.proofs.Restored.{IsRestored, restored-first}
use Rattle.ynl_snapshots.specs.restoring.Placing.{last_of}
use Rattle.ynl_snapshots.specs.restoring.Telling.{IsCellIn, is_cell_of}
use Rattle.ynl_snapshots.proofs.restoring.Tells.{no-lasts}
use Rattle.ynl_snapshots.proofs.restoring.Restoring.new.Goals as goal

pub returns-clause-told : goal.returns-clause-told
returns-clause-told c = record {
  state = sym c.in_ok-cluster.ensures.state;
  accepted = ap is_accepted c.in_ok-cluster.ensures.config ∙ c.requires;
  known = subst (λ configured. IsRestored configured (nothing_restored c.args.config)) (sym c.in_ok-cluster.ensures.config) (restored-first c.args.config c.requires);
  partitions = λ label. ap (list_any (same_label label)) c.new.ensures.items;
  maxima = record {
    there = subst (AllByRecursion (IsCellIn c.in_ok-cluster.cluster.config)) (sym c.new-2.ensures.items) tt;
    same = λ queue label. ap (list_any (is_cell_of c.in_ok-cluster.cluster.config queue label)) c.new-2.ensures.items;
  };
  lasts =
      ap (λ (s : State). map last_of s.partitions) c.in_ok-cluster.ensures.state
      ∙ no-lasts (partition_labels c.args.config.labels)
      ∙ ap (λ n. replicate n 0)
      (ap (λ (configured : Config). length (partition_labels configured.labels)) (sym c.in_ok-cluster.ensures.config) ∙ ap length (sym c.inventory.ensures.configured.labels)
      ∙ length-map c.in_ok-cluster.cluster.rows.partitions (λ (row : PartitionRow). row.label) ∙ sym (rw c.inventory.ensures.value at c.partition_count.ensures.count))
      ∙ sym c.in_ok-lasts.ensures;
  lines = refl;
}
