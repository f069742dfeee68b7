use Rattle.ynl_service.proofs.reading.Nodes.{is-here, not-gone}
use Rattle.ynl_service.proofs.reading.gathering.number_of.Goals as goal

pub unreachable-requires : goal.unreachable-requires
unreachable-requires c = not-gone c.args.cluster.now c.inventory.ensures.sound c.args.node.now c.requires c.in_default.ensures.none

pub returns : goal.returns
returns c = is-here c.args.cluster.now c.inventory.ensures.sound c.args.node.now c.requires c.in-Some.number c.in-Some.ensures.some
