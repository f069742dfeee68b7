use Rattle.std.proofs.Common.{◌≡◌, ◌+◌, ◌-◌, ◌≤◌, take, length, vec_len, vec_capacity}
use Rattle.ynl_service.specs.reading.reasons.Facts.{guests_among}
use Rattle.ynl_service.proofs.reading.reasons.grounds.guests_among.Given as goal

abbrev pub invariant-loop-label : goal.invariant-loop-label
invariant-loop-label g l = record {
  so_far : l.guests.items ≡ guests_among (g.F.Facts.config l.facts) (g.F.Facts.state l.facts) l.what (take l.label-index l.labels);
  capacity : vec_len l.guests + (length l.labels - l.label-index) ≤ vec_capacity l.guests;
}
