-- The containers of a partition are those of its part.
use Rattle.std.proofs.Common.{◌≡◌, map, sym, ap, subst, ◌∙◌}
use Rattle.std.specs.Prelude.{IfOk}
use Rattle.ynl_inventory.specs.Parts.{Held, containers_of}
use Rattle.ynl_inventory.proofs.ChainsRead.{containers-are}
use Rattle.ynl_inventory.proofs.RoomParts.{part-read}
use Rattle.ynl_inventory.proofs.inventory.Inventory.containers.Goals as goal

pub returns : goal.returns
returns c =
    subst (λ es. IfOk c.copies.result (λ list. list.items ≡ map (λ e. e.1) es))
    (sym (ap (λ (h : Held). containers_of h.rows c.args.p) (sym c.self.view_is)
    ∙ containers-are c.self.inside c.args.p c.index-part.result.now (part-read c.self.inside c.args.self.now c.args.p c.self.view_is c.requires c.index-part.result.now c.index-part.ensures)))
    c.copies.ensures
