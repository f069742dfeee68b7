use Rattle.ynl_saved_text.proofs.Ranged.{each-ranged}
use Rattle.ynl_saved_text.proofs.read.StateReader.read.Goals as goal

pub returns-clause-ranged : goal.returns-clause-ranged
returns-clause-ranged c = each-ranged _ _ _ _ c.take.ensures.line
