use Rattle.ynl_laws.proofs.Limits.Within.{is_only_lowered_into}
use Rattle.ynl_laws.proofs.maxima.maxima_are_only_lowered_into.Goals as goal

pub returns : goal.returns
returns c = is_only_lowered_into
