use Rattle.std.proofs.Common.{ap, ◌∙◌}
use Rattle.ynl_sights.specs.Sights.{planned}
use Rattle.ynl_sights.proofs.Decide.{sights_decide}
use Rattle.ynl_sights.proofs.planning.plan.Goals as goal

pub returns-clause-choice : goal.returns-clause-choice
returns-clause-choice c = λ config s node e. c.propose.ensures ∙ ap planned e ∙ sights_decide config s node
