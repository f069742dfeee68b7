use Rattle.std.proofs.Common.{◌≡◌, subst, ◌∙◌, true, rules}
use Rattle.std.specs.Prelude.{IsTrue}
use Rattle.ynl_resource.specs.Amounts.{amount, fits_in}
use Rattle.ynl_resource.specs.declared.amounts.Resource.{Resource}
use Rattle.ynl_resource.specs.declared.labels.Label.{Label}
use Rattle.ynl_resource.specs.declared.paths.Path.{Path}
use Rattle.ynl_model.specs.Queues.{Config}
use Rattle.ynl_model.specs.Cluster.{State}
use Rattle.ynl_search.specs.limits.Limits.{limit_of, AreLimitsOf}
use Rattle.ynl_search.proofs.limits.UserLimit.{limit_is, limit-grows}
use Rattle.ynl_search.proofs.limits.limits.Limits.limit.Goals as goal

pub returns-clause-meaning : goal.returns-clause-meaning
unfolding limit_of
returns-clause-meaning c = λ (config : Config) (s : State) (leaf : Path) (label : Label) (are : AreLimitsOf config s leaf label c.args.self.now).
    let value : amount c.min.result c.min-2.result ≡ limit_of c.args.self.now c.args.ask.now = search rules in
    value ∙ limit_is config s leaf label c.args.self.now are c.args.ask.now

pub returns-clause-grows : goal.returns-clause-grows
unfolding limit_of
returns-clause-grows c = λ (lesser : Resource) (within : IsTrue (fits_in lesser c.args.ask.now)).
    let value : limit_of c.args.self.now c.args.ask.now ≡ amount c.min.result c.min-2.result = cc in
    subst (λ (most : Resource). fits_in (limit_of c.args.self.now lesser) most ≡ true) value
    (limit-grows c.args.self.now lesser c.args.ask.now within)
