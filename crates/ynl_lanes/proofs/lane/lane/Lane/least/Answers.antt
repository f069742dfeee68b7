use Rattle.std.proofs.Common.{◌≡◌, ◌∙◌, nat_eq, sym, ap, subst}
use Rattle.std.specs.Map.{lookup}
use Rattle.ynl_lanes.specs.lows.Lows.{IsBelow}
use Rattle.ynl_lanes.specs.lows.Order.{below-trans}
use Rattle.ynl_lanes.specs.lows.Users.{no_user}
use Rattle.ynl_lanes.specs.lane.Kinds.{of_kind}
use Rattle.ynl_lanes.specs.lane.Rows.{waits_in}
use Rattle.ynl_lanes.specs.lane.Seats.{Seat, Seats}
use Rattle.ynl_lanes.specs.lane.Waiting.{IsWaiting}
use Rattle.ynl_lanes.proofs.lane.Standing.{slot_inside}
use Rattle.ynl_lanes.proofs.lane.Views.{of_both, found_seat}
use Rattle.ynl_lanes.proofs.lane.lane.Lane.least.Goals as goal

pub returns : goal.returns
returns c ticket seat there waits =
    let rows = c.self.inside.rows in
    let own = found_seat rows.users.entries ticket rows.seats.entries seat (ap (λ (s : Seats). lookup (nat_eq ticket) s.seats) c.self.view_is ∙ there) in
    let row = own.0 in
    let same : waits_in c.args.kind rows.users.entries row ≡ of_kind c.args.kind seat.waits = sym (of_both c.args.kind rows.users.entries row) ∙ ap (λ (s : Seat). of_kind c.args.kind s.waits) own.2 in
    let stood = c.self.invariant.kept.stood c.args.kind ticket row own.1 (subst IsWaiting (sym same) waits) in
    let below = c.root.ensures stood.stand.slot no_user (slot_inside rows c.self.invariant.kept.seated c.args.kind stood.ticket stood.stand stood.found) in
    subst (IsBelow c.root.result.low) same (below-trans c.root.result.low _ (waits_in c.args.kind rows.users.entries row) below.low stood.low.low)
