use Rattle.ynl_config.proofs.Found.{first_told}
use Rattle.ynl_config.proofs.law.first_fault_is_told.Goals as goal

pub returns : goal.returns
returns c = first_told
