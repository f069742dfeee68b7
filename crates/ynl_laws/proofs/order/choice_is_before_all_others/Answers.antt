use Rattle.ynl_laws.proofs.Service.Untied.{is_choice_before_all_others}
use Rattle.ynl_laws.proofs.order.choice_is_before_all_others.Goals as goal

pub returns : goal.returns
returns c = is_choice_before_all_others
