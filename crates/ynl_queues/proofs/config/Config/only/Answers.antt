use Rattle.std.proofs.Common.{◌≡◌, rules, sym, subst}
use Rattle.ynl_model.specs.View.{restrict}
use Rattle.ynl_queues.specs.Trees.{HasTree}
use Rattle.ynl_queues.proofs.Trees.{alone}
use Rattle.ynl_queues.proofs.config.Config.only.Goals as goal

pub invariant_of-result : goal.invariant_of-result
invariant_of-result c =
    let same : c.in_ok-draft.draft ≡ restrict c.self.inside.draft c.args.tenant.now = search rules in
    subst HasTree (sym same) (alone c.self.inside.draft c.self.invariant c.args.tenant.now)
