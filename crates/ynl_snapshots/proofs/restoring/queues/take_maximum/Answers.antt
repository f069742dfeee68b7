-- A maximum is set as its line says.
use Rattle.std.proofs.Common.{◌≡◌, ◌∙◌, ◌&&◌, true, false, sym, ap, true≢false}
use Rattle.std.specs.List.{list_any}
use Rattle.ynl_resource.specs.Names.{same_label, same_path}
use Rattle.ynl_model.specs.Queues.{set_maximum}
use Rattle.ynl_cluster.specs.Cluster.{ClusterView, state_in}
use Rattle.ynl_saved.specs.declared.lines.StateLine.TheVariants.{Maximum}
use Rattle.ynl_saved.specs.Restoring.{with_line}
use Rattle.ynl_snapshots.proofs.restoring.Cells.{told-by-number}
use Rattle.ynl_snapshots.proofs.restoring.Marks.{maximum-told}
use Rattle.ynl_snapshots.proofs.restoring.Taken.{refused, taken}
use Rattle.ynl_snapshots.proofs.restoring.queues.take_maximum.Goals as goal

pub returns-in_default-clause-takes : goal.returns-in_default-clause-takes
returns-in_default-clause-takes c r is are =
    refused c.args.cluster.now r (Maximum c.args.queue.now c.args.label.now c.args.share)
    (maximum-told c.args.cluster.now.config r c.args.queue.now c.args.label.now c.args.share (λ new. c.in_default.ensures.sound r new))

pub returns-then-has_cell-clause-takes : goal.returns-then-has_cell-clause-takes
returns-then-has_cell-clause-takes c r is are =
    let told : list_any (λ set. same_path set.0 c.args.queue.now && same_label set.1 c.args.label.now) r.maxima ≡ true =
    told-by-number c.args.cluster.now c.inventory.ensures.sound c.inventory.ensures.configured c.args.queue.now c.args.label.now c.in-Some.cell c.in-Some.ensures.cell c.args.told.now r.maxima are ∙ sym c.has_cell.ensures ∙ c.if-has_cell.true
    in
    refused c.args.cluster.now r (Maximum c.args.queue.now c.args.label.now c.args.share)
    (maximum-told c.args.cluster.now.config r c.args.queue.now c.args.label.now c.args.share (λ new. absurd (true≢false (sym told ∙ new))))

pub returns-clause-takes : goal.returns-clause-takes
unfolding with_line
returns-clause-takes c r is are =
    let new : list_any (λ set. same_path set.0 c.args.queue.now && same_label set.1 c.args.label.now) r.maxima ≡ false =
    told-by-number c.args.cluster.now c.inventory.ensures.sound c.inventory.ensures.configured c.args.queue.now c.args.label.now c.in-Some.cell c.in-Some.ensures.cell c.args.told.now r.maxima are ∙ sym c.has_cell.ensures ∙ c.if-has_cell.false
    in
    taken c.args.cluster.now c.set_maximum.new.self r (Maximum c.args.queue.now c.args.label.now c.args.share) (c.in-Some.ensures.sound r new) (ap (λ (w : ClusterView). w.config) c.set_maximum.ensures.rows)
    (c.set_maximum.ensures.state
    ∙ (λ i. record (state_in c.args.cluster.now) { maxima = set_maximum (c.in-Some.ensures.cell.queue.queue.own i) (c.in-Some.ensures.cell.partition.own i) c.args.share (state_in c.args.cluster.now).maxima }))
