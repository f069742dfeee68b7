-- The parts of a cluster before any event.
use Rattle.std.proofs.Common.{◌≡◌, ◌+◌, ◌≤◌, ◌^◌, ◌∷◌, length, replicate, refl, ap, subst, ◌∙◌, arith}
use Rattle.ynl_resource.specs.Names.{root}
use Rattle.ynl_model.specs.Nodes.{partition_labels}
use Rattle.ynl_model.specs.Queues.{Config}
use Rattle.ynl_inventory.specs.layout.Paths.{paths_of}
use Rattle.ynl_cluster.specs.uses.Tallies.{no_use, IsTable}
use Rattle.ynl_lanes.specs.table.Lanes.{no_seats}
use Rattle.ynl_cluster.specs.ledger.Totals.{no_total}
use Rattle.ynl_cluster.proofs.Opening.{many-labels, many-queues, opened-means, parts-opened, settings-opened}
use Rattle.ynl_cluster.proofs.cluster.Cluster.new.Goals as goal

-- how many partitions there are
partitions : (c : goal.After-partition_count) → length c.rows-labels.result.now + 1 ≡ length (partition_labels c.args.config.labels)
partitions c =
    many-labels c.args.config.labels (length c.rows-labels.result.now)
    (ap length (c.rows-labels.ensures ∙ ap (λ labels. labels.rows) (c.labels.ensures ∙ ap (λ (d : Config). d.labels) c.deref.ensures)))

-- and how many queues
queues : (c : goal.After-partition_count) → length c.queues-below_root.result.now + 1 ≡ length (root ∷ paths_of c.args.config)
queues c = many-queues c.args.config (length c.queues-below_root.result.now) (ap length (c.queues-below_root.ensures ∙ ap (λ (d : Config). d.queues) c.deref-2.ensures))

few-labels : (c : goal.After-partition_count) → length (partition_labels c.args.config.labels) ≤ 2 ^ 8
few-labels c = let many = partitions c in let few : length c.rows-labels.result.now ≤ 255 = omega (arith, c.if-labels.false) in omega (arith, many, few)

few-queues : (c : goal.After-partition_count) → length (root ∷ paths_of c.args.config) ≤ 2 ^ 32
few-queues c = let many = queues c in let few : length c.queues-below_root.result.now ≤ 4294967295 = omega (arith, c.if-below_root.false) in omega (arith, many, few)

pub invariant_of-result : goal.invariant_of-result
invariant_of-result c = record {
  settings = settings-opened c.args.config c.in_ok-shares.shares c.in_ok-stops.stops c.in_ok-shares.ensures c.in_ok-stops.ensures;
  parts =
      parts-opened c.args.config c.in_ok-inventory.inventory.rows c.in_ok-uses.uses c.in_ok-totals.totals c.in_ok-lanes.lanes c.in_ok-inventory.ensures.rows c.in_ok-inventory.ensures.config c.partition_count.ensures.sound
      (subst (λ n. IsTable n (length (root ∷ paths_of c.args.config)) no_use c.in_ok-uses.uses) (partitions c)
      (subst (λ n. IsTable (length c.rows-labels.result.now + 1) n no_use c.in_ok-uses.uses) (queues c) c.in_ok-uses.ensures))
      (c.in_ok-totals.ensures ∙ ap (λ n. replicate n no_total) (partitions c))
      (c.in_ok-lanes.ensures ∙ (λ i. replicate (partitions c i) (replicate (queues c i) no_seats)))
      (few-labels c) (few-queues c);
}

pub returns-clause-state : goal.returns-clause-state
returns-clause-state c =
    opened-means c.args.config
    (record { config = c.args.config; rows = c.in_ok-inventory.inventory.rows; rooms = c.in_ok-inventory.inventory.rooms; stops = c.in_ok-stops.stops; shares = c.in_ok-shares.shares; ready = c.in_ok-inventory.inventory.ready })
    refl c.in_ok-inventory.ensures.state c.in_ok-shares.ensures c.in_ok-stops.ensures
