-- Tickets are set: an application keeps all else.
use Rattle.std.proofs.Common.{sym, ap, subst, ◌∙◌}
use Rattle.ynl_slots.specs.Slots.{IsLive}
use Rattle.ynl_inventory.specs.Changes.{with_tickets}
use Rattle.ynl_inventory.specs.Parts.{Held}
use Rattle.ynl_inventory.proofs.AppParts.{app-live, tickets-held, tickets-inventory}
use Rattle.ynl_inventory.proofs.inventory.Inventory.set_tickets.Goals as goal

pub set_tickets-requires : goal.set_tickets-requires
set_tickets-requires c = app-live c.self.inside c.args.app (subst (λ (h : Held). IsLive c.args.app h.rows.apps) (sym c.self.view_is) c.requires)

pub invariant_of-self : goal.invariant_of-self
invariant_of-self c =
    tickets-inventory c.self.inside c.args.app c.args.tickets c.set_tickets.new.self c.set_tickets.ensures c.self.invariant
    (subst (λ (h : Held). IsLive c.args.app h.rows.apps) (sym c.self.view_is) c.requires)

pub returns : goal.returns
returns c =
    tickets-held c.self.inside c.args.app c.args.tickets c.set_tickets.new.self c.set_tickets.ensures
    ∙ ap (λ (h : Held). record h { rows = with_tickets c.args.app c.args.tickets h.rows }) c.self.view_is
