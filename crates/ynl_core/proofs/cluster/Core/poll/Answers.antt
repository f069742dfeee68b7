use Rattle.std.proofs.Common.{refl, subst}
use Rattle.ynl_model.specs.declared.events.Event.TheVariants.{Poll}
use Rattle.ynl_core.specs.World.{Answers, World}
use Rattle.ynl_core.proofs.Accepted as does
use Rattle.ynl_core.proofs.Stepping.{answers}
use Rattle.ynl_core.proofs.cluster.Core.poll.Goals as goal

pub returns-clause-ok : goal.returns-clause-ok
returns-clause-ok c =
    let w = c.self.inside.cluster in
    let app = c.in-Ok.ensures.app in
    let reply = c.in_ok-held.held in
    subst (λ (v : World). Answers v (Poll c.args.tenant.now c.args.name.now c.args.label.now) v reply) c.self.view_is
    (answers w w (Poll c.args.tenant.now c.args.name.now c.args.label.now) reply c.in-Ok.ensures.free refl
    (does.polls w c.inventory.ensures.sound c.args.tenant.now c.args.name.now c.args.label.now c.in-Ok.inquiry.app app c.in-Ok.inquiry.partition c.in-Ok.ensures.partition reply (c.in_ok-held.ensures app.row app.found)))
