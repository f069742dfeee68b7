-- A container stands as its line tells.
use Rattle.std.proofs.Common.{◌∙◌, slice_set, sym, ap, subst}
use Rattle.std.specs.Option.{option_map_or}
use Rattle.std.proofs.lemmas.Option.{same_Some}
use Rattle.ynl_model.specs.declared.containers.Placed.{Placed}
use Rattle.ynl_model.specs.Cluster.{State}
use Rattle.ynl_inventory.specs.Parts.{node_row}
use Rattle.ynl_inventory.specs.Rows.{NodeRow}
use Rattle.ynl_cluster.specs.Cluster.{ClusterView, label_of, state_in}
use Rattle.ynl_saved.specs.declared.lines.StateLine.TheVariants.{Container}
use Rattle.ynl_model.specs.Changes.{with_container}
use Rattle.ynl_saved.specs.Restoring.{with_line}
use Rattle.ynl_snapshots.specs.restoring.Placing.{AreLasts}
use Rattle.ynl_snapshots.proofs.restoring.Lasts.{last-set}
use Rattle.ynl_snapshots.proofs.restoring.Taken.{taken}
use Rattle.ynl_snapshots.proofs.restoring.placements.take_container.Goals as goal

pub returns-clause-takes : goal.returns-clause-takes
unfolding with_line
returns-clause-takes c r is =
    taken c.args.cluster.now c.stand.new.self r (Container c.args.placed.now) (c.in-Some.ensures.sound r is) (ap (λ (w : ClusterView). w.config) c.in_ok-stand.ensures.rows)
    (c.in_ok-stand.ensures.state ∙ ap (λ (p : Placed). with_container p (state_in c.args.cluster.now)) c.in-Some.ensures.placed.is)

pub returns-clause-lasts : goal.returns-clause-lasts
returns-clause-lasts c =
    let placed = c.in-Some.ensures.placed in
    let can = placed.can.standable in
    let is = same_Some (node_row c.node.result.now) can.node_row (sym (rw c.inventory.ensures.value at c.node.ensures) ∙ can.node_found) in
    let there = sym (ap (λ o. label_of c.args.cluster.now (option_map_or (λ (row : NodeRow). row.partition) o 0)) can.node_found) in
    let own = there ∙ ap (λ (p : Placed). p.id.label) placed.is in
    subst (λ (s : State). AreLasts s (slice_set c.args.lasts.now c.node.result.now.partition c.args.placed.now.id.clock))
    (sym (c.in_ok-stand.ensures.state ∙ ap (λ (p : Placed). with_container p (state_in c.args.cluster.now)) placed.is))
    (subst (λ (row : NodeRow). AreLasts (with_container c.args.placed.now (state_in c.args.cluster.now)) (slice_set c.args.lasts.now row.partition c.args.placed.now.id.clock)) (sym is)
    (last-set c.args.cluster.now c.inventory.ensures.sound can.node_row.partition can.partition can.partition_found c.args.lasts.now c.requires.lasts c.args.placed.now own))
