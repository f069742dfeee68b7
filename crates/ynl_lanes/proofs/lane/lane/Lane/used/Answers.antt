use Rattle.std.proofs.Common.{◌∙◌, Some, option_map, nat_eq, sym, ap}
use Rattle.std.specs.Map.{lookup}
use Rattle.std.specs.Option.{option_map_or}
use Rattle.ynl_resource.specs.Amounts.{nothing}
use Rattle.ynl_lanes.specs.declared.lane.rows.SeatRow.{SeatRow}
use Rattle.ynl_lanes.specs.declared.lane.rows.UserRow.{UserRow}
use Rattle.ynl_lanes.specs.lane.Fields.{seat_of}
use Rattle.ynl_lanes.specs.lane.Seats.{Seat, Seats}
use Rattle.ynl_lanes.proofs.lane.Standing.{user_live}
use Rattle.ynl_lanes.proofs.lane.Views.{seat_found}
use Rattle.ynl_lanes.proofs.lane.Keeping.{live_shown}
use Rattle.ynl_lanes.proofs.lane.lane.Lane.used.Goals as goal

pub index-requires : goal.index-requires
index-requires c = live_shown c.self.inside.rows.users.entries c.args.ticket c.self.inside.rows.seats.entries c.args.self.now.seats (ap (λ (s : Seats). s.seats) c.self.view_is) c.requires

pub index-requires-2 : goal.index-requires-2
index-requires-2 c = user_live c.self.inside.rows c.self.invariant.kept.seated c.args.ticket c.index.result.now c.index.ensures

pub returns-clause-small : goal.returns-clause-small
returns-clause-small c = (c.self.invariant.kept.seated.users c.index.result.now.user c.index-2.result.now c.index-2.ensures).small

pub returns-clause-value : goal.returns-clause-value
returns-clause-value c =
    let users = c.self.inside.rows.users.entries in
    ap (λ (s : Seats). option_map (λ (seat : Seat). seat.used) (lookup (nat_eq c.args.ticket) s.seats)) (sym c.self.view_is)
    ∙ ap (option_map (λ (seat : Seat). seat.used)) (seat_found users c.args.ticket c.self.inside.rows.seats.entries ∙ ap (option_map (λ (row : SeatRow). (seat_of users (c.args.ticket, row)).1)) c.index.ensures)
    ∙ ap Some (ap (λ o. option_map_or (λ (r : UserRow). r.used) o nothing) c.index-2.ensures)
