use Rattle.std.proofs.Common.{◌≡◌, ℕ, Some, refl, ap, subst, sym, ◌∙◌, is_some, nat_eq, length, ◌<◌, arith}
use Rattle.std.specs.Map.{lookup}
use Rattle.std.proofs.lemmas.Option.{slice_get_within}
use Rattle.ynl_lanes.specs.declared.lane.levels.Level.TheVariants.{User}
use Rattle.ynl_lanes.specs.declared.lane.rows.Rows.{Rows}
use Rattle.ynl_lanes.specs.declared.lane.rows.SeatRow.{SeatRow}
use Rattle.ynl_lanes.specs.lane.Changes.{HasValuesAt, SetsWaits, ShowSame}
use Rattle.ynl_lanes.specs.lane.Rows.{IsSeated}
use Rattle.ynl_lanes.proofs.lane.Lists.{found_written}
use Rattle.ynl_lanes.proofs.lane.Found.{in_line-at}
use Rattle.ynl_lanes.proofs.lane.Searching.{own_line, own_slot-in}
use Rattle.ynl_lanes.proofs.lane.Standing.{user_live}
use Rattle.ynl_lanes.proofs.lane.Changing.{seated_entered, but_entered, shown_entered, waits_entered, waits_same}
use Rattle.ynl_lanes.proofs.lane.rows.Rows.enter.Goals as goal

-- the user's line has values at the slot of a seat
inside : (rows : Rows) → IsSeated rows → (ticket : ℕ) (seat : SeatRow) → lookup (nat_eq ticket) rows.seats.entries ≡ Some seat → HasValuesAt seat.user seat.own_slot rows.users.entries
inside rows seated ticket seat there row found =
    let line = own_line rows seated seat.user row found in
    let within : seat.own_slot < length row.line.tickets = slice_get_within row.line.tickets seat.own_slot ticket (in_line-at (User seat.user) row.line.tickets rows.seats.entries ticket seat.own_slot seat line.1 there (own_slot-in seat.user seat refl)) in
    (omega (arith, within, line.0.masters), omega (arith, within, line.0.asks))

pub has_values-requires-clause-live : goal.has_values-requires-clause-live
has_values-requires-clause-live c = user_live c.args.self.now c.requires.kept.seated c.args.ticket c.index-row.result.now c.index-row.ensures

pub has_values-requires-clause-inside : goal.has_values-requires-clause-inside
has_values-requires-clause-inside c = inside c.args.self.now c.requires.kept.seated c.args.ticket c.index-row.result.now c.index-row.ensures

pub set_values-requires-clause-live : goal.set_values-requires-clause-live
set_values-requires-clause-live c = user_live c.args.self.now c.requires.kept.seated c.args.ticket c.index-row.result.now c.index-row.ensures

pub set_values-requires-clause-inside : goal.set_values-requires-clause-inside
set_values-requires-clause-inside c = inside c.args.self.now c.requires.kept.seated c.args.ticket c.index-row.result.now c.index-row.ensures

pub stand_anew-requires-clause-seated : goal.stand_anew-requires-clause-seated
stand_anew-requires-clause-seated c = seated_entered c.args.self.now (record c.args.self.now { users = c.set_values.new.users }) c.requires.kept c.args.ticket c.args.waits.now c.index-row.result.now c.index-row.ensures refl c.set_values.ensures refl

pub stand_anew-requires-clause-live : goal.stand_anew-requires-clause-live
stand_anew-requires-clause-live c = ap is_some (ap (λ us. lookup (nat_eq c.index-row.result.now.user) us) c.set_values.ensures.entries ∙ found_written c.index-row.result.now.user c.set_values.ensures.next c.set_values.ensures.row c.args.self.now.users.entries c.set_values.ensures.found)

pub stand_anew-requires-clause-others : goal.stand_anew-requires-clause-others
stand_anew-requires-clause-others c = but_entered c.args.self.now (record c.args.self.now { users = c.set_values.new.users }) c.requires.kept c.args.ticket c.args.waits.now c.index-row.result.now c.index-row.ensures refl c.set_values.ensures refl

pub returns-then-has_values-clause-waits : goal.returns-then-has_values-clause-waits
returns-then-has_values-clause-waits c = waits_same c.args.ticket c.index-row.result.now c.args.waits.now c.args.self.now.seats.entries c.args.self.now.users.entries c.index-row.ensures (c.has_values.ensures c.if-has_values.true)

pub returns-clause-waits : goal.returns-clause-waits
returns-clause-waits c =
    subst (λ us. SetsWaits c.args.ticket c.args.waits.now c.args.self.now.seats.entries c.args.self.now.users.entries us.entries) (sym c.stand_anew.ensures.users)
    (waits_entered c.args.self.now (record c.args.self.now { users = c.set_values.new.users }) c.requires.kept c.args.ticket c.args.waits.now c.index-row.result.now c.index-row.ensures refl c.set_values.ensures refl)

pub returns-clause-users : goal.returns-clause-users
returns-clause-users c =
    subst (λ us. ShowSame c.args.self.now.users.entries us.entries) (sym c.stand_anew.ensures.users)
    (shown_entered c.args.self.now (record c.args.self.now { users = c.set_values.new.users }) c.requires.kept c.args.ticket c.args.waits.now c.index-row.result.now c.index-row.ensures refl c.set_values.ensures refl)
