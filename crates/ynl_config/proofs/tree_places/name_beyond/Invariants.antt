use Rattle.std.proofs.Common.{◌≡◌, drop, find, map}
use Rattle.ynl_config.specs.RowPlaces.{goes_beyond, names_of}
use Rattle.ynl_config.proofs.tree_places.name_beyond.Given as goal

abbrev pub invariant-loop-i : goal.invariant-loop-i
invariant-loop-i l = find (goes_beyond l.config l.queue) (names_of l.config) ≡ find (goes_beyond l.config l.queue) (map (λ row. row.name) (drop l.i l.rows))
