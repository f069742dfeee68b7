use Rattle.std.proofs.Common.{◌≡◌, ◌+◌, drop}
use Rattle.ynl_config.specs.Misplaced.{place_at_queue}
use Rattle.ynl_config.specs.Places.{first_from}
use Rattle.ynl_config.proofs.tree_places.place_in_queues.Given as goal

abbrev pub invariant-loop-i : goal.invariant-loop-i
invariant-loop-i l = first_from (place_at_queue l.fault l.config) 1 l.rows ≡ first_from (place_at_queue l.fault l.config) (l.i + 1) (drop l.i l.rows)
