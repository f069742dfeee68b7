use Rattle.std.proofs.Common.{◌∙◌, ◌∷◌, ◌≤◌, List, length, map, sym, ap, subst}
use Rattle.std.proofs.lemmas.List.{take_all}
use Rattle.ynl_resource.specs.declared.labels.Label.TheVariants.{Unlabelled, Named}
use Rattle.ynl_model.specs.declared.labels.LabelRow.{LabelRow}
use Rattle.ynl_laws.proofs.Lists.{map-map}
use Rattle.ynl_inventory.specs.layout.settings.Shares.{configured_on}
use Rattle.ynl_inventory.proofs.layout.settings.shares.Shares.new.Goals as goal

pub returns : goal.returns
returns c =
    let labels-are = c.rows-labels.ensures ∙ ap (λ l. l.rows) (c.labels.ensures ∙ ap (λ d. d.labels) c.deref.ensures) in
    c.loop-row.invariant
    ∙ ap (λ (rows : List LabelRow). configured_on c.args.config.now Unlabelled ∷ map (λ (row : LabelRow). configured_on c.args.config.now (Named row.name)) rows)
    (take_all c.loop-row.row-index c.args.config.now.labels.rows (subst (λ (rows : List LabelRow). length rows ≤ c.loop-row.row-index) labels-are c.loop-row-test.false))
    ∙ ap (λ rows. configured_on c.args.config.now Unlabelled ∷ rows) (sym (map-map (configured_on c.args.config.now) (λ (row : LabelRow). Named row.name) c.args.config.now.labels.rows))
