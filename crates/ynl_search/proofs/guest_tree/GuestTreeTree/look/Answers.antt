use Rattle.std.proofs.Common.{[], get_or, subst}
use Rattle.ynl_resource.specs.declared.paths.Path.{Path}
use Rattle.ynl_laws.specs.Decided.{below}
use Rattle.ynl_inventory.specs.layout.Paths.{names_of}
use Rattle.ynl_cluster.specs.Cluster.{path_of, state_in}
use Rattle.ynl_search.specs.Shut.{IsGuestless}
use Rattle.ynl_search.specs.Scenes.{guest_scene, node_at}
use Rattle.ynl_search.proofs.GuestShut.{guestless-none}
use Rattle.ynl_search.proofs.Trees.{child-at, child-stands, path-there}
use Rattle.ynl_search.proofs.guest_tree.GuestTreeTree.look.Goals as goal

pub standing_at-requires-clause-child : goal.standing_at-requires-clause-child
standing_at-requires-clause-child c =
    let q = c.args.queue.now in
    child-at c.args.self.now.cluster.now q.place q.children.now c.requires.queue.reached c.args.place c.requires.place

pub returns-clause-standing : goal.returns-clause-standing
returns-clause-standing c =
    let w = c.args.self.now.cluster.now in
    let q = c.args.queue.now in
    let is = c.requires.queue in
    let scene = guest_scene w (node_at w c.args.self.now.node) in
    child-stands w q.place q.children.now is.reached c.args.place c.requires.place 0 scene.items scene.label is.reached.sound.default
    c.standing_at.result c.standing_at.ensures.place c.standing_at.ensures.used
    (c.standing_at.ensures.guaranteed (record { guaranteed = is.way.guaranteed; most = is.way.most }))

pub returns-then-is_guestless-clause-none : goal.returns-then-is_guestless-clause-none
returns-then-is_guestless-clause-none c =
    let t = c.args.self.now in
    let w = t.cluster.now in
    let q = c.args.queue.now in
    let is = c.requires.queue in
    guestless-none w (node_at w t.node) t.room is.free_is (below (path_of w q.place.queue) (get_or (names_of w.rows.paths q.children.now) c.args.place []))
    (subst (λ (path : Path). IsGuestless (state_in w) path t.room) (path-there w q.place q.children.now is.reached c.args.place c.requires.place) (c.is_guestless.ensures c.if-is_guestless.true))
