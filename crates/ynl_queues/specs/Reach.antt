-- The labels that a queue may use, looked up once for all labels.
use Rattle.std.specs.Prelude.{Bool, true, List, map, Option, Some, None}
use Rattle.std.specs.List.{list_any}
use Rattle.ynl_resource.specs.Names.{same_name}
use Rattle.ynl_resource.specs.declared.names.Name.{Name}
use Rattle.ynl_resource.specs.declared.labels.Label.{Label}
use Rattle.ynl_resource.specs.declared.labels.Label.TheVariants.{Unlabelled, Named}
use Rattle.ynl_model.specs.Nodes.{Labels}

-- the labels that are reached: those given, or all that are configured
abbrev pub reached : Labels → Option (List Name) → List Name
reached labels None = map (λ row. row.name) labels.rows
reached labels (Some names) = names

-- whether a label is among names; DEFAULT always is
abbrev pub is_among : List Name → Label → Bool
is_among names Unlabelled = true
is_among names (Named name) = list_any (same_name name) names
