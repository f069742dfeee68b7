use Rattle.std.proofs.Common.{◌≡◌, ◌∷◌, take}
use Rattle.std.specs.List.{list_all}
use Rattle.ynl_resource.specs.Names.{root, way_to}
use Rattle.ynl_waits.specs.Waits.{keeps_maximum}
use Rattle.ynl_service.proofs.reading.reasons.limits.within_maxima.Given as goal

abbrev pub invariant-loop-depth : goal.invariant-loop-depth
invariant-loop-depth g l = l.within ≡ list_all (keeps_maximum (g.F.Facts.state l.facts) l.request) (root ∷ take l.depth (way_to l.app.leaf))
