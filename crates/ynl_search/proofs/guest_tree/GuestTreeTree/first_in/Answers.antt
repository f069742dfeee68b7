use Rattle.ynl_search.specs.Scenes.{guest_scene, node_at}
use Rattle.ynl_search.proofs.Below.{guests-stand}
use Rattle.ynl_search.proofs.Trees.{leaf-of, none-in}
use Rattle.ynl_search.proofs.guest_tree.GuestTreeTree.first_in.Goals as goal

pub returns-then-leaf-eq0-clause-first : goal.returns-then-leaf-eq0-clause-first
returns-then-leaf-eq0-clause-first c =
    let w = c.args.self.now.cluster.now in
    let q = c.args.leaf.now in
    let node = node_at w c.args.self.now.node in
    none-in w q.place q.children.now c.requires.queue.reached (guest_scene w node) (guests-stand w c.requires.queue.reached.sound node) c.requires.leaf c.if-leaf-eq0.true

pub first_guest_in_leaf-requires-clause-leaf : goal.first_guest_in_leaf-requires-clause-leaf
first_guest_in_leaf-requires-clause-leaf c =
    let w = c.args.self.now.cluster.now in
    let q = c.args.leaf.now in
    leaf-of w q.place q.children.now c.requires.queue.reached c.requires.leaf c.if-leaf-eq0.false
