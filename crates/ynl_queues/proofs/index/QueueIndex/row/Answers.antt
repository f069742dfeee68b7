use Rattle.std.proofs.Common.{◌≡◌, true, rules, sym, ◌∙◌}
use Rattle.ynl_resource.specs.Names.{same_path}
use Rattle.ynl_queues.proofs.Places.{same_path_equal}
use Rattle.ynl_queues.proofs.index.QueueIndex.row.Goals as goal

pub returns-then-eq-clause-path : goal.returns-then-eq-clause-path
returns-then-eq-clause-path c =
    let same : same_path c.names.result.now c.args.path.now ≡ true = search rules in
    sym c.names.ensures.names ∙ same_path_equal c.names.result.now c.args.path.now same

pub returns-then-eq-clause-kept : goal.returns-then-eq-clause-kept
returns-then-eq-clause-kept c = λ rows all. c.in_ok-row.ensures.kept rows all
