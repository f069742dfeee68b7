use Rattle.ynl_saved.proofs.Telling.{tells_state}
use Rattle.ynl_saved.proofs.laws.states_are_told.Goals as goal

pub returns : goal.returns
returns c = tells_state
