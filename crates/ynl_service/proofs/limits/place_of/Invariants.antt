-- The place is that of the queue before the next one on the line.
use Rattle.std.proofs.Common.{◌≡◌, ◌≤◌, ◌-◌}
use Rattle.std.specs.Prelude.{slice_index_or}
use Rattle.ynl_search.specs.Places.{IsSmallPlace}
use Rattle.ynl_search.specs.Scenes.{IsPlaceOf}
use Rattle.ynl_service.proofs.limits.place_of.Given as goal

abbrev pub invariant-loop-at : goal.invariant-loop-at
invariant-loop-at l = IsPlaceOf l.cluster l.p l.fn.room l.place × IsSmallPlace l.place × (l.place.queue ≡ slice_index_or l.line (l.at - 1) 0) × (1 ≤ l.at)
