use Rattle.ynl_laws.proofs.Limits.Within.{is_never_over}
use Rattle.ynl_laws.proofs.maxima.no_allocation_exceeds_a_maximum.Goals as goal

pub returns : goal.returns
returns c = is_never_over
