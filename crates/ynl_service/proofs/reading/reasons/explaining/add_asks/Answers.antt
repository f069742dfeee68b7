use Rattle.ynl_waits.specs.Grounds.{guest_grounds}
use Rattle.ynl_service.proofs.reading.reasons.explaining.add_asks.Goals as goal

-- whether partitions take guests of a label does not rest on the priority
pub add_wait-requires-clause-guests : goal.add_wait-requires-clause-guests
unfolding guest_grounds
add_wait-requires-clause-guests g c = c.requires.guests
