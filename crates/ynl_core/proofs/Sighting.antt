-- What a propose is answered, by what is seen for its node.
use Rattle.std.proofs.Common.{◌≡◌, Option, Some, None, sym, ap, ◌∙◌}
use Rattle.std.specs.Option.{option_map_or}
use Rattle.ynl_resource.specs.Refusals.{first_that_holds}
use Rattle.ynl_resource.specs.declared.names.Name.{Name}
use Rattle.ynl_resource.specs.declared.refusals.Refusal.{Refusal}
use Rattle.ynl_model.specs.declared.nodes.Node.{Node}
use Rattle.ynl_model.specs.declared.replies.Reply.TheVariants as reply
use Rattle.ynl_model.specs.declared.events.Event.TheVariants.{Propose}
use Rattle.ynl_model.specs.Check.{proposed}
use Rattle.ynl_model.specs.Cluster.{node_of}
use Rattle.ynl_model.specs.Events.{Outcome, answered, reasons, accepted, step}
use Rattle.ynl_sights.specs.Sights.{Seen as Sees, sighted, planned}
use Rattle.ynl_sights.proofs.Decide.{sights_decide}
use Rattle.ynl_core.specs.Sightings.{IsSighting, reply_by}
use Rattle.ynl_core.specs.World.{World, Answers}
use Rattle.ynl_core.specs.declared.sightings.Sighted.{Sighted}
use Rattle.ynl_core.specs.declared.sightings.Sighted.TheVariants.{Refused, Seen}
use Rattle.ynl_core.proofs.Stepping.{accepts, refuses}

told-by : (w : World) (name : Name) (outcome : Outcome) → step w.config w.state (Propose name) ≡ outcome → outcome.state ≡ w.state → Answers w (Propose name) w outcome.reply
told-by w name outcome e same = record {
  told = sym (ap (λ (o : Outcome). o.reply) e);
  left = λ i. record { config = w.config; state = (sym same ∙ sym (ap (λ (o : Outcome). o.state) e)) i };
}

told-refused : (w : World) (name : Name) (refusal : Refusal) → first_that_holds (reasons w.config w.state (Propose name)) ≡ Some refusal → Answers w (Propose name) w (reply.Refused refusal)
told-refused w name refusal e = told-by w name (answered w.state (reply.Refused refusal)) (refuses w.config w.state (Propose name) refusal e) (λ i. w.state)

seen-step : (w : World) (name : Name) (node : Node) → first_that_holds (reasons w.config w.state (Propose name)) ≡ None → node_of w.state name ≡ Some node → step w.config w.state (Propose name) ≡ answered w.state (reply.Proposed (proposed w.config w.state node))
unfolding accepted
seen-step w name node free there =
    accepts w.config w.state (Propose name) free
    ∙ ap (λ (o : Option Node). option_map_or (λ (n : Node). answered w.state (reply.Proposed (proposed w.config w.state n))) o (answered w.state reply.Done)) there

told-seen : (w : World) (name : Name) (node : Node) (seen : Sees) → first_that_holds (reasons w.config w.state (Propose name)) ≡ None → node_of w.state name ≡ Some node → seen ≡ sighted w.config w.state node → Answers w (Propose name) w (reply.Proposed (planned seen))
told-seen w name node seen free there is =
    told-by w name (answered w.state (reply.Proposed (planned seen)))
    (seen-step w name node free there ∙ ap (λ o. answered w.state (reply.Proposed o)) (sym (ap planned is ∙ sights_decide w.config w.state node))) (λ i. w.state)

-- whatever is seen
pub sighting-told : (w : World) (name : Name) (sighted : Sighted) → IsSighting w name sighted → Answers w (Propose name) w (reply_by sighted)
unfolding reasons
sighting-told w name (Refused refusal) is = told-refused w name refusal is
sighting-told w name (Seen seen) is = told-seen w name is.1.0 seen is.0 is.1.1 is.1.2
