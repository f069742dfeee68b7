-- The number that was read is that of the application's master.
use Rattle.std.proofs.Common.{sym, subst}
use Rattle.ynl_slots.specs.Slots.{IsLive}
use Rattle.ynl_inventory.specs.Parts.{Held}
use Rattle.ynl_inventory.proofs.AppParts.{app-live}
use Rattle.ynl_inventory.proofs.MastersRead.{master-read}
use Rattle.ynl_inventory.proofs.inventory.Inventory.master.Goals as goal

pub index-row-requires : goal.index-row-requires
index-row-requires c = app-live c.self.inside c.args.app (subst (λ (h : Held). IsLive c.args.app h.rows.apps) (sym c.self.view_is) c.requires)

pub returns : goal.returns
returns c = rw c.get.ensures (master-read c.self.inside c.args.self.now c.self.view_is c.self.invariant c.args.app c.index-row.result.now c.index-row.ensures)
