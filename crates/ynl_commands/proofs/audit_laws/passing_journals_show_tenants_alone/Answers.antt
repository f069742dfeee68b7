use Rattle.ynl_commands.proofs.Audited.{passing_show_alone}
use Rattle.ynl_commands.proofs.audit_laws.passing_journals_show_tenants_alone.Goals as goal

pub returns : goal.returns
returns c = passing_show_alone
