-- What is seen of a cluster for a choice on a node.
use Rattle.std.specs.Prelude.{◌≡◌, Some, None, Option}
use Rattle.ynl_resource.specs.declared.names.Name.{Name}
use Rattle.ynl_resource.specs.Refusals.{first_that_holds}
use Rattle.ynl_model.specs.declared.nodes.Node.{Node}
use Rattle.ynl_model.specs.declared.replies.Reply.{Reply}
use Rattle.ynl_model.specs.declared.replies.Reply.TheVariants as reply
use Rattle.ynl_model.specs.Check.{placing_reasons}
use Rattle.ynl_model.specs.Cluster.{node_of}
use Rattle.ynl_sights.specs.Sights.{sighted, planned}
use Rattle.ynl_core.specs.World.{World}
use Rattle.ynl_core.specs.declared.sightings.Sighted.{Sighted}
use Rattle.ynl_core.specs.declared.sightings.Sighted.TheVariants.{Refused, Seen}

-- the first reason for which nothing is to be placed on the node of a name; or, where there is none, what is seen of the cluster for that node
abbrev pub IsSighting : World → Name → Sighted → Type 0
IsSighting w name (Refused refusal) = first_that_holds (placing_reasons w.config w.state name) ≡ Some refusal
IsSighting w name (Seen seen) = (first_that_holds (placing_reasons w.config w.state name) ≡ None) × ((node : Node) × (node_of w.state name ≡ Some node) × (seen ≡ sighted w.config w.state node))

-- the reply to a propose that is worked out of it: the refusal, or the choice from what was seen
abbrev pub reply_by : Sighted → Reply
reply_by (Refused refusal) = reply.Refused refusal
reply_by (Seen seen) = reply.Proposed (planned seen)

-- what is written down of that reply before the choice is made: a refusal, or nothing
abbrev pub reply_before : Sighted → Option Reply
reply_before (Refused refusal) = Some (reply.Refused refusal)
reply_before (Seen seen) = None
