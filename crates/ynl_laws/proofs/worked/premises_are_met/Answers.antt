use Rattle.ynl_laws.proofs.Computed.Examples.{premises_are_met}
use Rattle.ynl_laws.proofs.worked.premises_are_met.Goals as goal

pub returns : goal.returns
returns c = premises_are_met
