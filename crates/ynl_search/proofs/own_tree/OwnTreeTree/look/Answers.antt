use Rattle.std.proofs.Common.{[], get_or, sym, subst, ◌∙◌}
use Rattle.ynl_resource.specs.declared.amounts.Resource.{Resource}
use Rattle.ynl_inventory.specs.layout.Paths.{names_of}
use Rattle.ynl_cluster.specs.Cluster.{label_of, path_of, state_in}
use Rattle.ynl_search.specs.Shut.{IsRightIn}
use Rattle.ynl_search.specs.Scenes.{IsPlaceOf, node_at, own_scene}
use Rattle.ynl_search.proofs.NodeIs.{label-is}
use Rattle.ynl_search.proofs.ShutBelow.{closed-has-none, passed, shut-above}
use Rattle.ynl_search.proofs.Trees.{child-at, child-stands, path-there}
use Rattle.ynl_search.proofs.own_tree.OwnTreeTree.look.Goals as goal

pub standing_at-requires-clause-child : goal.standing_at-requires-clause-child
standing_at-requires-clause-child c =
    let q = c.args.queue.now in
    child-at c.args.self.now.cluster.now q.place q.children.now c.requires.queue.reached c.args.place c.requires.place

pub returns-clause-standing : goal.returns-clause-standing
returns-clause-standing c =
    let t = c.args.self.now in
    let w = t.cluster.now in
    let q = c.args.queue.now in
    let is = c.requires.queue in
    let node = node_at w t.node in
    child-stands w q.place q.children.now is.reached c.args.place c.requires.place
    t.partition (own_scene w node).items node.label (sym (label-is w t.node t.partition t.room is.node))
    c.standing_at.result c.standing_at.ensures.place c.standing_at.ensures.used
    (c.standing_at.ensures.guaranteed (record { guaranteed = is.way.guaranteed; most = is.way.most }))

pub returns-then-is_passed-clause-none : goal.returns-then-is_passed-clause-none
returns-then-is_passed-clause-none c =
    let t = c.args.self.now in
    let w = t.cluster.now in
    let q = c.args.queue.now in
    let is = c.requires.queue in
    let child = get_or q.children.now c.args.place 0 in
    let there = child-at w q.place q.children.now is.reached c.args.place c.requires.place in
    let right : IsRightIn w t.partition child c.noted-noted.result =
    subst (IsRightIn w t.partition child) (sym c.noted-noted.ensures) (c.requires.notes.own t.partition child (record { partition = is.node.has; queue = there.there })) in
    closed-has-none w t.partition (node_at w t.node) (label-is w t.node t.partition t.room is.node) q.place
    (subst (λ (room : Resource). IsPlaceOf w t.partition room q.place) is.node.free_is is.way)
    child (get_or (names_of w.rows.paths q.children.now) c.args.place [])
    (path-there w q.place q.children.now is.reached c.args.place c.requires.place)
    (shut-above w t.partition child q.place.headroom
    (passed w.config (state_in w) (label_of w t.partition) (path_of w child) c.noted-noted.result q.place.headroom.room right (sym c.is_passed.ensures ∙ c.if-is_passed.true)))
