use Rattle.std.proofs.Common.{◌≡◌, ◌∷◌, ◌+◌, map, take}
use Rattle.ynl_inventory.proofs.layout.building.line_to.Given as goal

abbrev pub invariant-loop-step : goal.invariant-loop-step
invariant-loop-step l = l.line.items ≡ 0 ∷ map (λ k. k + 1) (take l.step-index l.steps)
