use Rattle.ynl_saved.proofs.Restored.{restored-all}
use Rattle.ynl_saved.proofs.Retelling.{reached-within}
use Rattle.ynl_saved.proofs.Within.{within-all}
use Rattle.ynl_saved.proofs.laws.restored_asks_stay_within.Goals as goal

pub returns : goal.returns
returns _ c lines r h told events counted =
    reached-within c h.accepted r (restored-all c h.accepted lines r h.sized h.told) (within-all c h.accepted lines r h.sized told h.told) events counted
