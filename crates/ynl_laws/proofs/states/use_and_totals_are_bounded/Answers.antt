use Rattle.ynl_laws.proofs.Soundness.Bounds.{is_always_bounded}
use Rattle.ynl_laws.proofs.states.use_and_totals_are_bounded.Goals as goal

pub returns : goal.returns
returns c = is_always_bounded
