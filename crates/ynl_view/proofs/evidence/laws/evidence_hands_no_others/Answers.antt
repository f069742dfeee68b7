use Rattle.ynl_view.proofs.evidence.Others.{hands_no_others}
use Rattle.ynl_view.proofs.evidence.laws.evidence_hands_no_others.Goals as goal

pub returns : goal.returns
returns c = hands_no_others
