use Rattle.std.proofs.Common.{◌∙◌, sym, ap}
use Rattle.std.proofs.lemmas.Option.{none-some}
use Rattle.ynl_lanes.specs.lane.Levels.{stands_at}
use Rattle.ynl_lanes.proofs.lane.Found.{in_line-at, none_at}
use Rattle.ynl_lanes.proofs.lane.levels.seat_at.Goals as goal

pub returns-in_default-clause-none : goal.returns-in_default-clause-none
returns-in_default-clause-none g c ticket row found at =
    none-some ticket (sym c.in_default.is ∙ c.ticket.ensures ∙ in_line-at c.args.level c.args.line.now.tickets c.args.seats.now.entries ticket c.args.slot row c.requires found at)

pub returns-in_default-get-clause-none : goal.returns-in_default-get-clause-none
returns-in_default-get-clause-none g c =
    none_at c.args.level c.args.line.now.tickets c.args.seats.now.entries c.in-Some.ticket c.args.slot c.requires
    (sym c.ticket.ensures ∙ c.in-Some.is)
    (ap (stands_at c.args.level c.args.slot) (sym c.in_default-get.ensures.value))

pub returns-then-not-is_at-clause-none : goal.returns-then-not-is_at-clause-none
returns-then-not-is_at-clause-none g c =
    none_at c.args.level c.args.line.now.tickets c.args.seats.now.entries c.in-Some.ticket c.args.slot c.requires
    (sym c.ticket.ensures ∙ c.in-Some.is)
    (ap (stands_at c.args.level c.args.slot) (sym c.in-Some-get.ensures.value) ∙ sym c.is_at.ensures ∙ c.if-not-is_at.true)
