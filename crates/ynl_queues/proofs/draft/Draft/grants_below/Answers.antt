use Rattle.std.proofs.Common.{◌≡◌, ◌++◌, ◌∷◌, [], true, false, map, length, rules, arith, sym, ap, ◌∙◌, length-append}
use Rattle.std.proofs.lemmas.List.{take_all}
use Rattle.std.specs.List.{filter}
use Rattle.ynl_resource.specs.Names.{same_path}
use Rattle.ynl_resource.specs.declared.labels.Label.{Label}
use Rattle.ynl_resource.specs.declared.paths.Path.{Path}
use Rattle.ynl_model.specs.Queues.{QueueRow, capacity_on}
use Rattle.ynl_model.specs.Accepted.{parent_of}
use Rattle.ynl_queues.specs.Grants.{capacity_at}
use Rattle.ynl_queues.proofs.Gathered.{gathered, passed_over}
use Rattle.ynl_queues.proofs.draft.Draft.grants_below.Goals as goal
use Rattle.ynl_queues.proofs.draft.Draft.grants_below.Goals.{then-eq+in_ok-push, else-eq}

pub loop-row-preserved : goal.loop-row-preserved
loop-row-preserved c =
    let config = c.args.self.now in
    let queue = c.args.queue.now in
    let rows = c.queues-row-items.result.now in
    let i = c.loop-row.row-index in
    let row = c.row-item.result in
    elim c.if-eq.branch [
      | then-eq+in_ok-push w ↦
          let pushed : c.if-eq.below.items ≡ c.loop-row.below.items ++ w.grant.result ∷ [] = search rules in
          let passes : same_path (parent_of row.path) queue ≡ true = search rules in
          let stands = λ (label : Label). w.grant.ensures.capacity label ∙ ap (λ (path : Path). capacity_on config path label) (search rules) in
          record {
            few = omega (arith, simp length-append at (ap length pushed));
            capacities = λ label.
                ap (map (λ s. capacity_at config.labels s label)) pushed
                ∙ gathered (λ s. capacity_at config.labels s label) (λ (r : QueueRow). capacity_on config r.path label) (λ (r : QueueRow). same_path (parent_of r.path) queue) c.loop-row.below.items rows i w.grant.result row c.loop-row-test.true c.row-item.is passes (stands label) (c.loop-row.invariant.capacities label);
          }
      | else-eq w ↦
          let same : c.if-eq.below.items ≡ c.loop-row.below.items = ap (λ v. v.items) w.below-is in
          let fails : same_path (parent_of row.path) queue ≡ false = search rules in
          record {
            few = omega (arith, ap length same);
            capacities = λ label.
                ap (map (λ s. capacity_at config.labels s label)) same
                ∙ c.loop-row.invariant.capacities label
                ∙ ap (map (λ (r : QueueRow). capacity_on config r.path label)) (sym (passed_over (λ (r : QueueRow). same_path (parent_of r.path) queue) rows i row c.loop-row-test.true c.row-item.is fails));
          }
    ]

pub returns-clause-capacities : goal.returns-clause-capacities
returns-clause-capacities c = λ label.
    let config = c.args.self.now in
    let queue = c.args.queue.now in
    c.loop-row.invariant.capacities label
    ∙ ap (λ (rows : _). map (λ (r : QueueRow). capacity_on config r.path label) (filter (λ (r : QueueRow). same_path (parent_of r.path) queue) rows)) (take_all c.loop-row.row-index c.queues-row-items.result.now c.loop-row-test.false ∙ c.queues-row-items.ensures)
