use Rattle.std.proofs.Common.{◌∙◌}
use Rattle.ynl_search.proofs.Chosen.{eligible-found}
use Rattle.ynl_search.proofs.choosing.some_own.Goals as goal

pub returns-clause-some : goal.returns-clause-some
returns-clause-some c = λ row at.
    let own = c.first_own_on in
    c.is_some.ensures ∙ eligible-found c.args.cluster.now own.ensures.sound c.args.node row at own.result (own.ensures.first row at)
