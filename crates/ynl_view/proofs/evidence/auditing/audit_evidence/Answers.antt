use Rattle.std.proofs.lemmas.Result.{IfOk-weaker}
use Rattle.ynl_view.proofs.evidence.Right.{flawless_is_right}
use Rattle.ynl_view.proofs.evidence.auditing.audit_evidence.Goals as goal

pub returns-in-Ok-clause-right : goal.returns-in-Ok-clause-right
returns-in-Ok-clause-right c = IfOk-weaker c.audit_on.result _ _ (λ _ none. flawless_is_right c.args.config c.args.tenant.now c.args.label.now c.args.placed.now none) c.audit_on.ensures.ok
