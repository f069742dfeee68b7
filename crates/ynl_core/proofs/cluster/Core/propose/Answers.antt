use Rattle.std.proofs.Common.{refl, subst}
use Rattle.ynl_model.specs.declared.events.Event.TheVariants.{Exited, Finish, Heartbeat, Lost, Maximum, Register, Relabel, Release, Submit}
use Rattle.ynl_model.specs.declared.events.Event.TheVariants as event
use Rattle.ynl_core.specs.World.{Answers, World}
use Rattle.ynl_core.proofs.Accepted as does
use Rattle.ynl_core.proofs.Stepping.{answers, world_in}
use Rattle.ynl_model.specs.declared.replies.Reply.TheVariants.{Proposed}
use Rattle.ynl_core.proofs.cluster.Core.propose.Goals as goal

pub invariant_of-self : goal.invariant_of-self
invariant_of-self c = record { working = c.self.invariant.working; shut = c.proposed.ensures.shut; lists = c.self.invariant.lists }

pub returns-clause-ok : goal.returns-clause-ok
returns-clause-ok c =
    let node = c.in-Ok.ensures.node.node in
    subst (λ (v : World). Answers v (event.Propose c.args.name.now) (world_in c.self.inside.cluster) (Proposed c.proposed.result)) c.self.view_is
    (answers c.self.inside.cluster c.self.inside.cluster (event.Propose c.args.name.now) (Proposed c.proposed.result) c.in-Ok.ensures.free_too refl
    (does.proposes c.self.inside.cluster c.args.name.now c.in-Ok.node node c.proposed.result (c.proposed.ensures.value node.row node.found)))
