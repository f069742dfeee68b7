use Rattle.std.proofs.Common.{◌≡◌, drop, find, map}
use Rattle.ynl_config.specs.RowPlaces.{is_unknown}
use Rattle.ynl_config.proofs.tree_places.unknown_share.Given as goal

abbrev pub invariant-loop-i : goal.invariant-loop-i
invariant-loop-i l = find (is_unknown l.config) (map (λ given. given.label) l.shares) ≡ find (is_unknown l.config) (map (λ given. given.label) (drop l.i l.shares))
