use Rattle.std.proofs.Common.{subst}
use Rattle.ynl_resource.specs.declared.amounts.Resource.{Resource}
use Rattle.ynl_search.specs.Scenes.{IsPlaceOf, node_at, own_scene}
use Rattle.ynl_search.proofs.Below.{own-stand}
use Rattle.ynl_search.proofs.NodeIs.{label-is}
use Rattle.ynl_search.proofs.Trees.{leaf-of, none-in}
use Rattle.ynl_search.proofs.own_tree.OwnTreeTree.first_in.Goals as goal

pub returns-then-leaf-eq0-clause-first : goal.returns-then-leaf-eq0-clause-first
returns-then-leaf-eq0-clause-first c =
    let t = c.args.self.now in
    let w = t.cluster.now in
    let q = c.args.leaf.now in
    let is = c.requires.queue in
    let node = node_at w t.node in
    none-in w q.place q.children.now is.reached (own_scene w node)
    (own-stand w is.reached.sound t.partition is.node.has node (label-is w t.node t.partition t.room is.node)) c.requires.leaf c.if-leaf-eq0.true

pub first_in_leaf-found-requires-clause-leaf : goal.first_in_leaf-found-requires-clause-leaf
first_in_leaf-found-requires-clause-leaf c =
    let t = c.args.self.now in
    let q = c.args.leaf.now in
    leaf-of t.cluster.now q.place q.children.now c.requires.queue.reached c.requires.leaf c.if-leaf-eq0.false

pub note_leaf-requires-clause-leaf : goal.note_leaf-requires-clause-leaf
note_leaf-requires-clause-leaf c =
    let t = c.args.self.now in
    let q = c.args.leaf.now in
    leaf-of t.cluster.now q.place q.children.now c.requires.queue.reached c.requires.leaf c.if-leaf-eq0.false

pub returns-then-is_none-clause-first : goal.returns-then-is_none-clause-first
returns-then-is_none-clause-first c =
    let t = c.args.self.now in
    let w = t.cluster.now in
    let q = c.args.leaf.now in
    let is = c.requires.queue in
    c.first_in_leaf-found.ensures.first (node_at w t.node) (label-is w t.node t.partition t.room is.node)
    (subst (λ (room : Resource). IsPlaceOf w t.partition room q.place) is.node.free_is is.way)

pub returns-else-is_none-clause-first : goal.returns-else-is_none-clause-first
returns-else-is_none-clause-first c =
    let t = c.args.self.now in
    let w = t.cluster.now in
    let q = c.args.leaf.now in
    let is = c.requires.queue in
    c.first_in_leaf-found.ensures.first (node_at w t.node) (label-is w t.node t.partition t.room is.node)
    (subst (λ (room : Resource). IsPlaceOf w t.partition room q.place) is.node.free_is is.way)
