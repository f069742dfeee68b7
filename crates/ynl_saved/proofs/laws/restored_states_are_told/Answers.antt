use Rattle.ynl_saved.proofs.Restored.{restored-all}
use Rattle.ynl_saved.proofs.Retelling.{reached-tells}
use Rattle.ynl_saved.proofs.laws.restored_states_are_told.Goals as goal

pub returns : goal.returns
returns _ c lines r h events = reached-tells c h.accepted r (restored-all c h.accepted lines r h.sized h.told) events
