use Rattle.std.proofs.Common.{◌≡◌, [], ◌∷◌, ◌++◌, map, take, rules, sym, ap, ◌∙◌}
use Rattle.std.proofs.lemmas.List.{map_push, take_all, take_more}
use Rattle.ynl_resource.specs.declared.paths.Path.{Path}
use Rattle.ynl_model.specs.Queues.{QueueRow, capacity_on}
use Rattle.ynl_queues.specs.declared.grants.Grant.{Grant}
use Rattle.ynl_queues.specs.Grants.{capacity_at}
use Rattle.ynl_queues.proofs.index.all_grants.Goals as goal

pub loop-row-preserved : goal.loop-row-preserved
loop-row-preserved c = λ label.
    let config = c.args.config.now in
    let rows = c.queues-row-items.result.now in
    let i = c.loop-row.row-index in
    let row = c.row-item.result in
    let stood = λ (s : Grant). capacity_at config.labels s label in
    let stands = λ (r : QueueRow). capacity_on config r.path label in
    let same : stood c.grant.result ≡ stands row = c.grant.ensures.capacity label ∙ ap (λ (path : Path). capacity_on config path label) (search rules) in
    ap (map stood) c.in_ok-push.ensures.items
    ∙ map_push stood c.loop-row.grants.items c.grant.result
    ∙ (λ k. c.loop-row.invariant label k ++ same k ∷ [])
    ∙ sym (map_push stands (take i rows) row)
    ∙ ap (map stands) (ap (λ (r : QueueRow). take i rows ++ r ∷ []) c.row-item.is ∙ sym (take_more rows i row c.loop-row-test.true))

pub returns : goal.returns
returns c = λ label.
    let stands = λ (r : QueueRow). capacity_on c.args.config.now r.path label in
    c.loop-row.invariant label
    ∙ ap (map stands) (take_all c.loop-row.row-index c.queues-row-items.result.now c.loop-row-test.false ∙ c.queues-row-items.ensures)
