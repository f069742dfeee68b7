-- An application runs where it has a master.
use Rattle.std.proofs.Common.{sym, subst, ap, is_some, ◌∙◌}
use Rattle.ynl_slots.specs.Slots.{IsLive}
use Rattle.ynl_inventory.specs.Parts.{Held}
use Rattle.ynl_inventory.proofs.AppParts.{app-live}
use Rattle.ynl_inventory.proofs.MastersRead.{runs-read}
use Rattle.ynl_inventory.proofs.inventory.Inventory.runs.Goals as goal

pub index-row-requires : goal.index-row-requires
index-row-requires c = app-live c.self.inside c.args.app (subst (λ (h : Held). IsLive c.args.app h.rows.apps) (sym c.self.view_is) c.requires)

pub returns : goal.returns
returns c = runs-read c.self.inside c.args.self.now c.self.view_is c.self.invariant c.args.app c.index-row.result.now c.index-row.ensures c.is_some.result (c.is_some.ensures ∙ ap is_some c.get.ensures)
