use Rattle.std.proofs.Common.{◌<◌, sym, subst}
use Rattle.ynl_cluster.specs.Cluster.{path_of}
use Rattle.ynl_search.specs.declared.place.Place.{Place}
use Rattle.ynl_search.specs.Scenes.{IsOwnQueue, queues_below}
use Rattle.ynl_search.proofs.Trees.{child-lower}
use Rattle.ynl_search.proofs.own_tree.OwnTreeTree.child.Goals as goal

pub returns-clause-queue : goal.returns-clause-queue
returns-clause-queue c =
    let t = c.args.self.now in
    subst (λ (place : Place). IsOwnQueue t.cluster.now t.node t.partition t.room place c.reach.result.children.now) (sym c.reach.ensures.place)
    (record {
      reached = c.reach.ensures.reached;
      way = c.child_in-child.ensures.place t.room c.requires.queue.way;
      node = c.requires.queue.node;
    })

pub returns-clause-height : goal.returns-clause-height
returns-clause-height c =
    let t = c.args.self.now in
    let w = t.cluster.now in
    let q = c.args.queue.now in
    subst (λ (place : Place). queues_below w.rows.paths (path_of w place.queue) < queues_below w.rows.paths (path_of w q.place.queue)) (sym c.reach.ensures.place)
    (child-lower w q.place q.children.now c.requires.queue.reached c.args.place c.requires.place c.child_in-child.result c.child_in-child.ensures.queue)
