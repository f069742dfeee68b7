use Rattle.ynl_view.proofs.evidence.Right.{flawless_is_right}
use Rattle.ynl_view.proofs.evidence.laws.passing_evidence_is_right.Goals as goal

pub returns : goal.returns
returns c = flawless_is_right
