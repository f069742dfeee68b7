use Rattle.std.proofs.Common.{sym, ap, ◌∙◌}
use Rattle.ynl_model.specs.Accepted.{parent_of}
use Rattle.ynl_queues.proofs.Paths.{parent_of-push}
use Rattle.ynl_queues.proofs.ways.parent_of.Goals as goal

pub returns-in-Some : goal.returns-in-Some
returns-in-Some c = sym (ap parent_of c.in-Some.ensures.cases.0 ∙ parent_of-push c.in-Some.above.now c.in-Some.field-0-0.now)
