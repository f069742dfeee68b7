use Rattle.std.proofs.Common.{arith}
use Rattle.ynl_lanes.proofs.firsts.Ordered.{root_below}
use Rattle.ynl_lanes.proofs.firsts.tree.root.Goals as goal

pub returns-else-tree-lt2-clause-below : goal.returns-else-tree-lt2-clause-below
returns-else-tree-lt2-clause-below g c k d within =
    let laws = g.met.T.Least in
    laws.transitive _ _ _ c.least.ensures.first (root_below g.T.Least.below laws.reflexive laws.transitive c.args.tree.now c.requires.ordered c.index-tree-1.result c.index-tree-1.is (omega arith) k d within)
