use Rattle.ynl_laws.proofs.Computed.Examples.{both_are_placed}
use Rattle.ynl_laws.proofs.worked.both_are_placed.Goals as goal

pub returns : goal.returns
returns c = both_are_placed
