use Rattle.ynl_saved.proofs.Restored.{restored-all}
use Rattle.ynl_saved.proofs.Retelling.{reached-works}
use Rattle.ynl_saved.proofs.laws.restored_states_work.Goals as goal

pub returns : goal.returns
returns _ c lines r h events ranged = reached-works c r (restored-all c h.accepted lines r h.sized h.told) events ranged
