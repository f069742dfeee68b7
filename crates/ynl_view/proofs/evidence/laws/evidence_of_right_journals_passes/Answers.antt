use Rattle.ynl_view.proofs.evidence.Passing.{evidence_passes}
use Rattle.ynl_view.proofs.evidence.laws.evidence_of_right_journals_passes.Goals as goal

pub returns : goal.returns
returns c = evidence_passes
