use Rattle.ynl_commands.proofs.Audited.{agreeing_pass}
use Rattle.ynl_commands.proofs.audit_laws.agreeing_journals_pass.Goals as goal

pub returns : goal.returns
returns c = agreeing_pass
