-- An application's chain in a partition leads to its first container there.
use Rattle.std.proofs.Common.{sym, subst}
use Rattle.ynl_slots.specs.Slots.{IsLive}
use Rattle.ynl_inventory.specs.Parts.{Held}
use Rattle.ynl_inventory.proofs.AppParts.{app-live}
use Rattle.ynl_inventory.proofs.RoomParts.{part-read}
use Rattle.ynl_inventory.proofs.ChainsRead.{app-first}
use Rattle.ynl_inventory.proofs.inventory.Inventory.first_of_app.Goals as goal

pub chain_in-chain-requires : goal.chain_in-chain-requires
chain_in-chain-requires c = app-live c.self.inside c.args.app (subst (λ (h : Held). IsLive c.args.app h.rows.apps) (sym c.self.view_is) c.requires.app)

pub returns : goal.returns
returns c =
    app-first c.self.inside c.args.self.now c.self.view_is c.self.invariant c.args.app c.args.p c.requires.app c.index-part.result.now
    (part-read c.self.inside c.args.self.now c.args.p c.self.view_is c.requires.partition c.index-part.result.now c.index-part.ensures) c.chain_in-chain.result c.chain_in-chain.ensures
    c.first_of_app.result c.first_of_app.ensures
