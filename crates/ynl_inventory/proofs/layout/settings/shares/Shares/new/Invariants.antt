use Rattle.std.proofs.Common.{◌≡◌, ◌∷◌, map, take}
use Rattle.ynl_resource.specs.declared.labels.Label.TheVariants.{Unlabelled, Named}
use Rattle.ynl_model.specs.declared.labels.LabelRow.{LabelRow}
use Rattle.ynl_inventory.specs.layout.settings.Shares.{configured_on}
use Rattle.ynl_inventory.specs.layout.settings.Fields.{shares_of}
use Rattle.ynl_inventory.proofs.layout.settings.shares.Shares.new.Given as goal

abbrev pub invariant-loop-row : goal.invariant-loop-row
invariant-loop-row l =
    shares_of (record { rows = l.rows }) ≡ configured_on l.config Unlabelled ∷ map (λ (row : LabelRow). configured_on l.config (Named row.name)) (take l.row-index l.config.labels.rows)
