use Rattle.std.proofs.Common.{[], get_or, subst}
use Rattle.ynl_resource.specs.declared.amounts.Resource.{Resource}
use Rattle.ynl_inventory.specs.layout.Paths.{names_of}
use Rattle.ynl_search.specs.Scenes.{IsPlaceOf, node_at}
use Rattle.ynl_search.proofs.NodeIs.{label-is}
use Rattle.ynl_search.proofs.ShutBelow.{closed-has-none}
use Rattle.ynl_search.proofs.Trees.{path-there}
use Rattle.ynl_search.proofs.own_tree.OwnTreeTree.is_open.Goals as goal

pub returns : goal.returns
returns c = λ closed.
    let t = c.args.self.now in
    let w = t.cluster.now in
    let q = c.args.queue.now in
    let is = c.requires.queue in
    closed-has-none w t.partition (node_at w t.node) (label-is w t.node t.partition t.room is.node) q.place
    (subst (λ (room : Resource). IsPlaceOf w t.partition room q.place) is.node.free_is is.way)
    (get_or q.children.now c.args.place 0) (get_or (names_of w.rows.paths q.children.now) c.args.place [])
    (path-there w q.place q.children.now is.reached c.args.place c.requires.place) (c.is_child_open.ensures closed)
