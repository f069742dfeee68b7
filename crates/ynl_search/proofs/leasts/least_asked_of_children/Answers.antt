use Rattle.std.proofs.Common.{ℕ, ◌<◌, ◌+◌, get_or, subst, sym, arith}
use Rattle.ynl_resource.specs.declared.amounts.Resource.{Resource}
use Rattle.ynl_resource.specs.declared.labels.Label.{Label}
use Rattle.ynl_resource.specs.declared.labels.Label.TheVariants.{Unlabelled}
use Rattle.ynl_model.specs.Service.{asks_for}
use Rattle.ynl_cluster.specs.Cluster.{path_of, state_in}
use Rattle.ynl_search.specs.notes.Shut.{AreAtLeast}
use Rattle.ynl_search.proofs.Below.{HaveLeaves, asks-stand}
use Rattle.ynl_search.proofs.LeastBelow.{least-all, least-more}
use Rattle.ynl_search.proofs.leasts.least_asked_of_children.Goals as goal

pub loop-i-init : goal.loop-i-init
loop-i-init c = λ k below. absurd (omega (arith, below))

pub loop-i-preserved : goal.loop-i-preserved
loop-i-preserved c =
    let w = c.args.cluster.now in
    let items = asks_for (state_in w) Unlabelled in
    let queues = c.args.queue.now.children.now in
    subst (λ (least : Resource). (k : ℕ) → k < c.loop-i.i + 1 → AreAtLeast items (path_of w (get_or queues k 0)) least) (sym c.less_of-least.ensures)
    (least-more w items queues c.loop-i.i c.loop-i.least c.least_asked_below.result c.loop-i.invariant c.least_asked_below.ensures)

pub returns : goal.returns
returns c =
    let w = c.args.cluster.now in
    let q = c.args.queue.now in
    let r = c.requires.reached in
    least-all w (asks_for (state_in w) Unlabelled) q.place q.children.now r Unlabelled
    (subst (λ (label : Label). HaveLeaves w.rows (asks_for (state_in w) label)) r.sound.default (asks-stand w r.sound)) c.loop-i.least
    (λ k below. c.loop-i.invariant k (omega (arith, below, c.loop-i-test.false))) c.requires.some
