use Rattle.ynl_cluster.specs.ledger.Totals.{grown}
use Rattle.ynl_cluster.proofs.ledger.Places.{set-changed}
use Rattle.ynl_cluster.proofs.ledger.totals.Totals.add.Goals as goal

pub returns : goal.returns
returns c = set-changed (grown c.args.size) c.self.inside.rows.items c.args.self.now c.self.view_is c.args.partition c.index.result.now c.grown.result c.requires.partition c.index.ensures c.grown.ensures
