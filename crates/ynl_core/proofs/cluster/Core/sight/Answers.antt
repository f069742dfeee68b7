use Rattle.std.proofs.Common.{subst}
use Rattle.std.specs.Prelude.{IfOk}
use Rattle.std.proofs.lemmas.Result.{IfOk-weaker}
use Rattle.ynl_model.specs.declared.events.Event.TheVariants.{Propose}
use Rattle.ynl_core.specs.Sightings.{IsSighting, reply_by}
use Rattle.ynl_core.specs.World.{World, Answers}
use Rattle.ynl_core.proofs.Sighting.{sighting-told}
use Rattle.ynl_core.proofs.Stepping.{world_in}
use Rattle.ynl_core.proofs.cluster.Core.sight.Goals as goal

pub returns-clause-told : goal.returns-clause-told
returns-clause-told c =
    let name = c.args.node.now in
    subst (λ (v : World). IfOk c.look.result (λ sighted. Answers v (Propose name) v (reply_by sighted))) c.self.view_is
    (IfOk-weaker c.look.result (IsSighting (world_in c.self.inside.cluster) name) _ (sighting-told (world_in c.self.inside.cluster) name) c.look.ensures.sighting)
