-- What is seen is of the node that was asked for.
use Rattle.std.proofs.Common.{List, [], ◌∷◌, ap, ◌∙◌}
use Rattle.std.specs.List.{AllByRecursion}
use Rattle.ynl_laws.proofs.Lists.{Each-find}
use Rattle.ynl_laws.proofs.Names.{same-name_sym}
use Rattle.ynl_resource.specs.Names.{same_name}
use Rattle.ynl_resource.specs.declared.names.Name.{Name}
use Rattle.ynl_model.specs.declared.nodes.Node.{Node}
use Rattle.ynl_sights.specs.Sights.{Seen as Sighting}
use Rattle.ynl_core.specs.World.{World}
use Rattle.ynl_core.specs.Sightings.{IsSighting}
use Rattle.ynl_core.specs.declared.sightings.Sighted.{Sighted}
use Rattle.ynl_core.specs.declared.sightings.Sighted.TheVariants.{Refused, Seen}
use Rattle.ynl_live.specs.Sightings.{IsOfNode}

any : (nodes : List Node) → AllByRecursion (λ (node : Node). Unit {0}) nodes
any [] = tt
any (node ∷ nodes) = (tt, any nodes)

pub of-node : (w : World) (name : Name) (sighted : Sighted) → IsSighting w name sighted → IsOfNode name sighted
of-node w name (Refused refusal) h = tt
of-node w name (Seen seen) h =
    let node : Node = h.1.0 in
    ap (λ (s : Sighting). s.node.name) h.1.2
    ∙ same-name_sym node.name name (Each-find (λ (n : Node). Unit {0}) (λ n. same_name n.name name) w.state.nodes (any w.state.nodes) node h.1.1).1
