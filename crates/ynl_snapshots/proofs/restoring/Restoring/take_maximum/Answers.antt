-- A maximum's line is taken.
use Rattle.std.proofs.Common.{◌∙◌, ◌∷◌, List, false, true, ap, map, refl, subst, sym}
use Rattle.ynl_model.specs.Cluster.{State}
use Rattle.ynl_replies.specs.declared.admission.queues.CellNumbers.{CellNumbers}
use Rattle.ynl_saved.specs.declared.lines.StateLine.TheVariants.{Maximum}
use Rattle.ynl_saved.specs.Restoring.{with_line}
use Rattle.ynl_snapshots.specs.restoring.Placing.{last_of}
use Rattle.ynl_snapshots.specs.restoring.Telling.{AreMaxima, Telling, Tells, TakesKind, telling_of}
use Rattle.ynl_snapshots.proofs.restoring.Cells.{cells-more}
use Rattle.ynl_snapshots.proofs.restoring.Tells.{kind-off, kind-taken}
use Rattle.ynl_snapshots.proofs.restoring.Restoring.take_maximum.Goals as goal

pub returns-in_default : goal.returns-in_default
returns-in_default c r h =
    let told = subst (λ (t : Telling). Tells t r) (sym c.self.view_is) h in
    subst (λ (t : Telling). TakesKind t r (Maximum c.args.queue.now c.args.label.now c.args.share) (record (telling_of c.self.inside) { cluster = c.take_maximum-taken.new.cluster }) false) c.self.view_is
    (kind-off (telling_of c.self.inside) r told (Maximum c.args.queue.now c.args.label.now c.args.share) c.take_maximum-taken.new.cluster
    (c.in_default.ensures.takes r told.state (subst (λ (cells : List CellNumbers). AreMaxima c.self.inside.cluster.config cells r.maxima) (sym c.deref.ensures.value) told.maxima)))

pub returns : goal.returns
unfolding with_line
returns c r h =
    let told = subst (λ (t : Telling). Tells t r) (sym c.self.view_is) h in
    let takes = c.in-Some.ensures.takes r told.state (subst (λ (cells : List CellNumbers). AreMaxima c.self.inside.cluster.config cells r.maxima) (sym c.deref.ensures.value) told.maxima) in
    subst (λ (t : Telling). TakesKind t r (Maximum c.args.queue.now c.args.label.now c.args.share) (record (telling_of c.self.inside) { cluster = c.take_maximum-taken.new.cluster; maxima = c.push.new.self.items }) true) c.self.view_is
    (kind-taken (telling_of c.self.inside) r told (Maximum c.args.queue.now c.args.label.now c.args.share) tt takes.sound c.take_maximum-taken.new.cluster takes.config (takes.told refl) c.self.inside.partitions.items told.partitions
    c.push.new.self.items
    (subst (λ (cells : List CellNumbers). AreMaxima c.self.inside.cluster.config cells ((c.args.queue.now, c.args.label.now) ∷ r.maxima)) (sym c.in_ok-push.ensures.items)
    (cells-more c.self.inside.cluster c.inventory.ensures.sound c.inventory.ensures.configured c.args.queue.now c.args.label.now c.in-Some.cell c.in-Some.ensures.cell c.self.inside.maxima.items r.maxima told.maxima))
    c.self.inside.lasts.items
    (ap (λ (s : State). map last_of s.partitions) (takes.told refl) ∙ told.lasts))
