use Rattle.ynl_search.specs.Scenes.{guest_scene, node_at}
use Rattle.ynl_search.proofs.Below.{guests-stand}
use Rattle.ynl_search.proofs.Trees.{all-of}
use Rattle.ynl_search.proofs.guest_tree.GuestTreeTree.children.Goals as goal

pub returns-clause-all : goal.returns-clause-all
returns-clause-all c =
    let w = c.args.self.now.cluster.now in
    let q = c.args.queue.now in
    let node = node_at w c.args.self.now.node in
    λ some. all-of w q.place q.children.now c.requires.reached (guest_scene w node) (guests-stand w c.requires.reached.sound node) some
