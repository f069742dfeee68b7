use Rattle.ynl_view.proofs.evidence.Others.{has_no_others}
use Rattle.ynl_view.proofs.evidence.laws.passing_evidence_has_no_others.Goals as goal

pub returns : goal.returns
returns c = has_no_others
