use Rattle.std.proofs.Common.{◌≡◌, ◌+◌, drop}
use Rattle.ynl_config.specs.Misplaced.{place_at_text}
use Rattle.ynl_config.specs.Places.{first_from}
use Rattle.ynl_config.proofs.row_places.place_in_texts.Given as goal

abbrev pub invariant-loop-i : goal.invariant-loop-i
invariant-loop-i l = first_from (place_at_text l.fault l.rows) 1 l.rows ≡ first_from (place_at_text l.fault l.rows) (l.i + 1) (drop l.i l.rows)
