-- The containers of a partition are those of its part.
use Rattle.std.proofs.Common.{sym, ap, ◌∙◌}
use Rattle.ynl_slots.specs.Slots.{number_in}
use Rattle.ynl_inventory.specs.Parts.{Held, containers_of}
use Rattle.ynl_inventory.proofs.ChainsRead.{containers-are}
use Rattle.ynl_inventory.proofs.RoomParts.{part-read}
use Rattle.ynl_inventory.proofs.inventory.Inventory.first_container.Goals as goal

pub returns : goal.returns
returns c =
    c.first.ensures
    ∙ ap (λ es. number_in es 0)
    (sym (containers-are c.self.inside c.args.p c.index-part.result.now (part-read c.self.inside c.args.self.now c.args.p c.self.view_is c.requires c.index-part.result.now c.index-part.ensures))
    ∙ ap (λ (h : Held). containers_of h.rows c.args.p) c.self.view_is)
