use Rattle.ynl_journal.specs.Journal.{replayed_from}
use Rattle.ynl_live.proofs.Sightings.{of-node}
use Rattle.ynl_live.proofs.calling.see.Goals as goal

pub returns-clause-node : goal.returns-clause-node
returns-clause-node c = of-node (replayed_from c.args.book.now.config c.args.book.now.begun c.args.book.now.entries) c.args.node.now _ c.in-Ok.ensures.sighting
