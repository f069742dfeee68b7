use Rattle.ynl_search.specs.Scenes.{node_at, own_scene}
use Rattle.ynl_search.proofs.Below.{own-stand}
use Rattle.ynl_search.proofs.NodeIs.{label-is}
use Rattle.ynl_search.proofs.Trees.{all-of}
use Rattle.ynl_search.proofs.own_tree.OwnTreeTree.children.Goals as goal

pub returns-clause-all : goal.returns-clause-all
returns-clause-all c =
    let t = c.args.self.now in
    let w = t.cluster.now in
    let q = c.args.queue.now in
    let node = node_at w t.node in
    λ some. all-of w q.place q.children.now c.requires.reached (own_scene w node)
    (own-stand w c.requires.reached.sound t.partition c.requires.node.has node (label-is w t.node t.partition t.room c.requires.node)) some
