use Rattle.ynl_commands.proofs.Handed.{passing_hands_right}
use Rattle.ynl_commands.proofs.evidence_laws.passing_journals_hand_right_evidence.Goals as goal

pub returns : goal.returns
returns c = passing_hands_right
