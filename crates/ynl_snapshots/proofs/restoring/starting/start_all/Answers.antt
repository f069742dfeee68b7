-- All run once the last has been started.
use Rattle.std.proofs.Common.{◌≡◌, ◌≤◌, ◌∙◌, length, List, sym, ap, subst}
use Rattle.std.proofs.lemmas.List.{length-map, take_all}
use Rattle.ynl_model.specs.Queues.{Config, QueueRow}
use Rattle.ynl_inventory.specs.layout.Paths.{paths_of}
use Rattle.ynl_cluster.specs.Cluster.{state_in}
use Rattle.ynl_snapshots.proofs.restoring.Started.{start, start-all}
use Rattle.ynl_snapshots.proofs.restoring.starting.start_all.Goals as goal

pub returns-clause-state : goal.returns-clause-state
returns-clause-state c =
    let w = c.args.cluster.now in
    let queues = c.queues-i-end.ensures ∙ ap (λ (x : Config). x.queues) (c.deref.ensures ∙ c.config.ensures) in
    let past : length w.config.queues ≤ c.loop-i.i = subst (λ (rows : List QueueRow). length rows ≤ c.loop-i.i) queues c.loop-i-test.false in
    let many : length w.rows.paths ≡ length w.config.queues = ap length c.inventory.ensures.configured.paths ∙ length-map w.config.queues (λ (row : QueueRow). row.path) in
    c.loop-i.invariant.1
    ∙ ap (λ stops. record (state_in w) { stops = stops })
    (ap (start (state_in w).stops) (take_all c.loop-i.i w.rows.paths (subst (λ n. n ≤ c.loop-i.i) (sym many) past))
    ∙ ap (start (state_in w).stops) c.inventory.ensures.configured.paths
    ∙ start-all (paths_of w.config) w.stops)
