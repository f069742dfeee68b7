use Rattle.ynl_commands.proofs.Handed.{audited_is_right}
use Rattle.ynl_commands.proofs.evidence_laws.audited_evidence_is_right.Goals as goal

pub returns : goal.returns
returns c = audited_is_right
