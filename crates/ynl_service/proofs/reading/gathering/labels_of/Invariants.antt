use Rattle.std.proofs.Common.{◌≡◌, ◌∷◌, map, take}
use Rattle.ynl_resource.specs.declared.labels.Label.TheVariants.{Unlabelled, Named}
use Rattle.ynl_service.proofs.reading.gathering.labels_of.Given as goal

abbrev pub invariant-loop-row : goal.invariant-loop-row
invariant-loop-row l = l.labels.items ≡ Unlabelled ∷ map (λ row. Named row.name) (take l.row-index l.row-items)
