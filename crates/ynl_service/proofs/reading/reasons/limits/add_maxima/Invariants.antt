use Rattle.std.proofs.Common.{◌≡◌, ◌∷◌, ◌++◌, take}
use Rattle.std.specs.Prelude.{flat_map}
use Rattle.ynl_resource.specs.Names.{root, way_to}
use Rattle.ynl_waits.specs.Waits.{maximum_of_told}
use Rattle.ynl_service.proofs.reading.reasons.limits.add_maxima.Given as goal

abbrev pub invariant-loop-depth : goal.invariant-loop-depth
invariant-loop-depth g l = l.told.items ≡ l.fn.told.items ++ flat_map (maximum_of_told (g.F.Facts.state l.facts) l.app l.request) (root ∷ take l.depth (way_to l.app.leaf))
