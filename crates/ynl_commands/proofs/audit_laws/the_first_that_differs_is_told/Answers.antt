use Rattle.ynl_commands.proofs.Audited.{first_is_told}
use Rattle.ynl_commands.proofs.audit_laws.the_first_that_differs_is_told.Goals as goal

pub returns : goal.returns
returns c = first_is_told
