use Rattle.ynl_commands.proofs.Audited.{passing_agree}
use Rattle.ynl_commands.proofs.audit_laws.passing_journals_agree.Goals as goal

pub returns : goal.returns
returns c = passing_agree
