use Rattle.std.proofs.Common.{◌≡◌}
use Rattle.std.specs.Prelude.{nat_lt}
use Rattle.ynl_search.specs.notes.Upkeep.{AreLeft}
use Rattle.ynl_search.proofs.notes.upkeep.change_way_on_all.Given as goal

abbrev pub invariant-loop-p : goal.invariant-loop-p
invariant-loop-p l = AreLeft l.cluster l.leaf (λ r. nat_lt r l.p) l.fn.shut.own l.shut.own × (l.shut.guests ≡ l.fn.shut.guests)
