use Rattle.ynl_cluster.specs.ledger.Totals.{shrunk}
use Rattle.ynl_cluster.proofs.ledger.Places.{set-changed}
use Rattle.ynl_cluster.proofs.ledger.totals.Totals.take.Goals as goal

pub returns : goal.returns
returns c = set-changed (shrunk c.args.size) c.self.inside.rows.items c.args.self.now c.self.view_is c.args.partition c.index.result.now c.shrunk.result c.requires c.index.ensures c.shrunk.ensures
