use Rattle.std.proofs.Common.{◌+◌, ◌*◌, ◌^◌, refl, sym, subst, arith}
use Rattle.std.proofs.lemmas.Bool.{iff_false}
use Rattle.ynl_lanes.proofs.firsts.Searched.{IsPassed, reached_first, reached_down, reached_at, left_down, left_behind, leaf_behind, none_passes, passed_node}
use Rattle.ynl_lanes.proofs.firsts.tree.search.Goals as goal

pub nodes-init : goal.nodes-init
nodes-init g c = reached_first (g.P.Test.passes c.args.test.now) c.args.tree.now c.requires.shape c.args.from _ _ (omega arith) refl refl

pub nodes-preserved-then-passes : goal.nodes-preserved-then-passes
nodes-preserved-then-passes g c = reached_down (g.P.Test.passes c.args.test.now) c.args.tree.now c.requires.shape c.args.from c.nodes.node c.nodes.height (omega arith) c.nodes.invariant

pub nodes-smaller-then-passes : goal.nodes-smaller-then-passes
nodes-smaller-then-passes g c = left_down (g.P.Test.passes c.args.test.now) c.args.tree.now c.requires.shape c.args.from c.nodes.node c.nodes.height (omega arith)

pub nodes-preserved : goal.nodes-preserved
nodes-preserved g c =
    let laws = g.met.T.Least in
    let at = c.nodes in
    let holds = g.P.Test.passes c.args.test.now in
    let behind = leaf_behind holds c.args.tree.now c.requires.shape c.args.from at.node at.height at.invariant in
    let passed = passed_node g.T.Least.below laws.reflexive laws.transitive holds (g.met.P.Test.passes_below c.args.test.now) c.args.tree.now c.requires.shape c.requires.ordered c.args.from at.node at.height c.index-tree-node.result at.invariant c.index-tree-node.is (iff_false c.passes.ensures c.if-passes.false) in
    reached_at holds c.args.tree.now c.requires.shape c.args.from _ _ (omega (arith, behind, at.invariant.low)) c.if-next-tree.false (subst (IsPassed holds c.args.tree.now c.args.from) (sym behind) passed) refl

pub nodes-smaller : goal.nodes-smaller
nodes-smaller g c =
    let at = c.nodes in
    let holds = g.P.Test.passes c.args.test.now in
    left_behind holds c.args.tree.now c.requires.shape c.args.from at.node at.height _ at.invariant (leaf_behind holds c.args.tree.now c.requires.shape c.args.from at.node at.height at.invariant) c.if-next-tree.false

pub returns-then-next-tree-clause-none : goal.returns-then-next-tree-clause-none
returns-then-next-tree-clause-none g c =
    let laws = g.met.T.Least in
    let at = c.nodes in
    let holds = g.P.Test.passes c.args.test.now in
    let behind = leaf_behind holds c.args.tree.now c.requires.shape c.args.from at.node at.height at.invariant in
    let passed = passed_node g.T.Least.below laws.reflexive laws.transitive holds (g.met.P.Test.passes_below c.args.test.now) c.args.tree.now c.requires.shape c.requires.ordered c.args.from at.node at.height c.index-tree-node.result at.invariant c.index-tree-node.is (iff_false c.passes.ensures c.if-passes.false) in
    none_passes holds c.args.tree.now c.requires.shape c.args.from ((at.node + 1) * 2 ^ at.height) passed (omega (arith, behind, c.if-next-tree.true))
