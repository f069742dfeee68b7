use Rattle.std.proofs.Common.{◌≡◌, true, subst, IfOk}
use Rattle.ynl_model.specs.Accepted.{is_accepted}
use Rattle.ynl_config.proofs.Ranges.{accepted_if}
use Rattle.ynl_config.proofs.law.meaning_is_accepted.Goals as goal

pub returns : goal.returns
returns c text config h = subst (λ r. IfOk r (λ c. is_accepted c ≡ true)) h (accepted_if text)
