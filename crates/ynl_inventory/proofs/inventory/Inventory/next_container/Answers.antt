-- The containers of a partition are those of its part.
use Rattle.std.proofs.Common.{◌≡◌, sym, ap, subst, ◌∙◌}
use Rattle.ynl_slots.specs.Slots.{IsAfter, IsLive}
use Rattle.ynl_inventory.specs.Parts.{Held, containers_of}
use Rattle.ynl_inventory.proofs.ChainsRead.{containers-are}
use Rattle.ynl_inventory.proofs.RoomParts.{part-read}
use Rattle.ynl_inventory.proofs.inventory.Inventory.next_container.Goals as goal

pub next-requires : goal.next-requires
next-requires c =
    subst (λ es. IsLive c.args.number es)
    (sym (ap (λ (h : Held). containers_of h.rows c.args.p) c.self.view_is)
    ∙ containers-are c.self.inside c.args.p c.index-part.result.now (part-read c.self.inside c.args.self.now c.args.p c.self.view_is c.requires.partition c.index-part.result.now c.index-part.ensures))
    c.requires.live

pub returns : goal.returns
returns c =
    subst (λ es. IsAfter c.args.number es c.next.result)
    (sym (containers-are c.self.inside c.args.p c.index-part.result.now (part-read c.self.inside c.args.self.now c.args.p c.self.view_is c.requires.partition c.index-part.result.now c.index-part.ensures))
    ∙ ap (λ (h : Held). containers_of h.rows c.args.p) c.self.view_is)
    c.next.ensures
