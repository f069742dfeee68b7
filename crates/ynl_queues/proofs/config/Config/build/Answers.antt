use Rattle.std.proofs.Common.{◌≡◌, List, true, false, rules, sym, ap, ◌∙◌}
use Rattle.std.proofs.lemmas.Result.{IfOk-weaker}
use Rattle.std.specs.List.{list_any}
use Rattle.ynl_resource.specs.Refusals.{first_that_holds}
use Rattle.ynl_model.specs.Queues.{Config, QueueRow}
use Rattle.ynl_model.specs.Accepted.{tree_faults}
use Rattle.ynl_queues.specs.Written.{is_too_deep, are_too_many, configured, is_crowded, made_of, unless_fault}
use Rattle.ynl_queues.proofs.Crowds.{not_crowded}
use Rattle.ynl_queues.proofs.Told.{told_deep, told_many, told_bad, told_tree}
use Rattle.ynl_queues.proofs.config.Config.build.Goals as goal

pub returns-then-any_too_deep-clause-built : goal.returns-then-any_too_deep-clause-built
returns-then-any_too_deep-clause-built c =
    let deep : list_any (λ row. is_too_deep row.path) c.args.rows.items ≡ true = search rules in
    sym (told_deep c.args.labels c.args.rows.items c.args.containers_per_heartbeat c.args.maximum_allocation deep)

pub returns-then-are_too_many-clause-built : goal.returns-then-are_too_many-clause-built
returns-then-are_too_many-clause-built c =
    let deep : list_any (λ row. is_too_deep row.path) c.args.rows.items ≡ false = search rules in
    let many : are_too_many c.args.rows.items ≡ true = search rules in
    sym (told_many c.args.labels c.args.rows.items c.args.containers_per_heartbeat c.args.maximum_allocation deep many)

pub returns-in-None-clause-built : goal.returns-in-None-clause-built
returns-in-None-clause-built c =
    let below = rw c.in-None.is at c.in_ok-rows.ensures in
    let deep : list_any (λ row. is_too_deep row.path) c.args.rows.items ≡ false = search rules in
    let many : are_too_many c.args.rows.items ≡ false = search rules in
    sym (told_bad c.args.labels c.args.rows.items c.args.containers_per_heartbeat c.args.maximum_allocation deep many below)

pub accept-requires-clause-apart : goal.accept-requires-clause-apart
unfolding configured
accept-requires-clause-apart c =
    let read = rw c.in-Some.is at c.in_ok-rows.ensures in
    let many : are_too_many c.args.rows.items ≡ false = search rules in
    ap is_crowded c.in_ok-draft-in-Some.ensures
    ∙ ap (λ (rows : List QueueRow). is_crowded (configured c.args.labels rows)) read.1
    ∙ not_crowded c.args.labels c.args.rows.items many read.0

pub returns-in_ok-draft-in-Some-clause-built : goal.returns-in_ok-draft-in-Some-clause-built
returns-in_ok-draft-in-Some-clause-built c =
    let labels = c.args.labels in
    let rows = c.args.rows.items in
    let n = c.args.containers_per_heartbeat in
    let size = c.args.maximum_allocation in
    let read = rw c.in-Some.is at c.in_ok-rows.ensures in
    let deep : list_any (λ row. is_too_deep row.path) rows ≡ false = search rules in
    let many : are_too_many rows ≡ false = search rules in
    let made : c.in_ok-draft-in-Some.draft ≡ made_of labels rows n size =
    c.in_ok-draft-in-Some.ensures ∙ ap (λ (queues : List QueueRow). record { labels = labels; queues = queues; containers_per_heartbeat = n; maximum_allocation = size }) read.1 in
    IfOk-weaker c.accept.result _ _ (λ built h. h ∙ ap (λ (d : Config). unless_fault (first_that_holds (tree_faults d)) d) made ∙ sym (told_tree labels rows n size deep many read.0)) c.accept.ensures
