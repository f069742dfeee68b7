use Rattle.ynl_model.specs.Events.{reasons}
use Rattle.ynl_inventory.specs.Meaning.{node_of}
use Rattle.ynl_core.proofs.sightings.look.Goals as goal

pub returns-clause-sighting : goal.returns-clause-sighting
unfolding reasons
returns-clause-sighting c =
    let node = c.in-Ok.ensures.node.node in
    (c.in-Ok.ensures.free_too, (node_of c.args.cluster.now.rows.partitions node.row, node.named, c.in_ok-copy.ensures.sight node.row node.found))
