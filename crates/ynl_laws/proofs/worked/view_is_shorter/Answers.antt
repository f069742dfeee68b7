use Rattle.ynl_laws.proofs.Computed.Examples.{view_is_shorter}
use Rattle.ynl_laws.proofs.worked.view_is_shorter.Goals as goal

pub returns : goal.returns
returns c = view_is_shorter
