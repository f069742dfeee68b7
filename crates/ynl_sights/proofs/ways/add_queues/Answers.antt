-- Each queue on the line stands below the one before.
use Rattle.std.proofs.Common.{◌≡◌, ◌+◌, ◌-◌, ◌<◌, List, [], ◌∷◌, ◌++◌, length, refl, sym, ap, subst, ◌∙◌, arith}
use Rattle.std.proofs.lemmas.List.{append_assoc}
use Rattle.std.specs.Prelude.{slice_index_or}
use Rattle.ynl_resource.specs.Amounts.{nothing}
use Rattle.ynl_resource.specs.declared.paths.Path.{Path}
use Rattle.ynl_inventory.specs.layout.Paths.{IsChild, IsLine}
use Rattle.ynl_inventory.specs.Parts.{Held}
use Rattle.ynl_cluster.specs.Cluster.{path_of}
use Rattle.ynl_search.proofs.Along.{next-below}
use Rattle.ynl_sights.specs.declared.rows.QueueSight.{QueueSight}
use Rattle.ynl_sights.specs.Copying.{IsQueueOf}
use Rattle.ynl_sights.proofs.Steps.{queues-more}
use Rattle.ynl_sights.proofs.ways.add_queues.Goals as goal

pub child_at-requires-clause-child : goal.child_at-requires-clause-child
child_at-requires-clause-child c =
    let paths = c.args.cluster.now.rows.paths in
    let depth = c.loop-depth.depth in
    let are : c.layout.result.now ≡ paths = c.layout.ensures ∙ ap (λ (h : Held). h.rows.paths) c.inventory-inventory.ensures.value in
    let line : IsLine paths c.args.leaf c.line-line.result.now = subst (λ (ps : List Path). IsLine ps c.args.leaf c.line-line.result.now) are c.line-line.ensures.line in
    let back : depth + 1 - 1 ≡ depth = omega arith in
    subst (λ q. IsChild paths q (slice_index_or c.line-line.result.now (depth + 1) 0)) (ap (λ n. slice_index_or c.line-line.result.now n 0) back ∙ sym c.loop-depth.invariant.place.queue)
    (next-below paths c.args.leaf c.line-line.result.now line (depth + 1) (omega arith) (omega (arith, c.loop-depth-test.true)))

pub queue_at-requires-clause-place : goal.queue_at-requires-clause-place
queue_at-requires-clause-place c = record {
  is = c.child_at.ensures.place nothing c.loop-depth.invariant.place.is;
  small = c.child_at.ensures.small;
  queue = c.child_at.ensures.queue;
}

pub loop-depth-preserved : goal.loop-depth-preserved
loop-depth-preserved c =
    let w = c.args.cluster.now in
    let depth = c.loop-depth.depth in
    let path = path_of w c.args.leaf in
    let so_far = c.loop-depth.invariant.queues in
    let are : c.layout.result.now ≡ w.rows.paths = c.layout.ensures ∙ ap (λ (h : Held). h.rows.paths) c.inventory-inventory.ensures.value in
    let line : IsLine w.rows.paths c.args.leaf c.line-line.result.now = subst (λ (ps : List Path). IsLine ps c.args.leaf c.line-line.result.now) are c.line-line.ensures.line in
    let inside : depth + 1 < length c.line-line.result.now = omega (arith, c.loop-depth-test.true) in
    let long : length c.line-line.result.now ≡ length path + 1 = line.len in
    let deep : depth < length path = omega (arith, inside, long) in
    record {
      place = record {
        is = c.child_at.ensures.place nothing c.loop-depth.invariant.place.is;
        small = c.child_at.ensures.small;
        queue = c.child_at.ensures.queue;
      };
      queues = record {
        more = so_far.more ++ c.queue_at.result ∷ [];
        is =
            c.in_ok-push.ensures.items ∙ ap (λ (rows : List QueueSight). rows ++ c.queue_at.result ∷ []) so_far.is
            ∙ append_assoc c.args.queues.now.items so_far.more (c.queue_at.result ∷ []);
        queues =
            queues-more w c.args.p path depth so_far.more (so_far.more ++ c.queue_at.result ∷ []) c.queue_at.result deep refl so_far.queues
            (subst (λ (queue : Path). IsQueueOf w c.args.p queue c.queue_at.result) (line.path (depth + 1) 0 inside) c.queue_at.ensures);
      };
    }
