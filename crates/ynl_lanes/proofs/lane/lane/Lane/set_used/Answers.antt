use Rattle.std.proofs.Common.{◌≡◌, ◌∙◌, Some, None, IfSome, map, nat_eq, option_map, sym, ap, subst}
use Rattle.std.specs.Map.{lookup}
use Rattle.std.specs.BTreeMap.{get}
use Rattle.std.specs.Option.{option_map_or}
use Rattle.std.specs.Ordering.{nat_cmp}
use Rattle.ynl_lanes.specs.declared.lane.rows.SeatRow.{SeatRow}
use Rattle.ynl_lanes.specs.declared.lane.rows.UserRow.{UserRow}
use Rattle.ynl_lanes.specs.lane.Fields.{seat_of, user_by, AreUsersOf, IsReady}
use Rattle.ynl_lanes.specs.lane.Rows.{WaitSame}
use Rattle.ynl_lanes.specs.lane.Seats.{Seat, Seats, with_used}
use Rattle.ynl_lanes.proofs.lane.Found.{all_from_each}
use Rattle.ynl_lanes.proofs.lane.Standing.{user_live}
use Rattle.ynl_lanes.proofs.lane.Views.{seat_found, view_used, users_used}
use Rattle.ynl_lanes.proofs.lane.Keeping.{live_shown, is_none, keyed_of, have_rows, live_row}
use Rattle.ynl_lanes.proofs.lane.lane.Lane.set_used.Goals as goal

pub index-requires : goal.index-requires
index-requires c = live_shown c.self.inside.rows.users.entries c.args.ticket c.self.inside.rows.seats.entries c.args.self.now.seats (ap (λ (s : Seats). s.seats) c.self.view_is ∙ c.give_up_room.ensures.seats) c.requires.seat

pub use_other-requires-clause-live : goal.use_other-requires-clause-live
use_other-requires-clause-live c = user_live c.self.inside.rows c.self.invariant.kept.seated c.args.ticket c.index.result.now c.index.ensures

pub invariant_of-self : goal.invariant_of-self
invariant_of-self c =
    let none = is_none (λ user. user_by user c.self.inside.rows.users.entries) c.self.inside.ready (ap (λ (s : Seats). s.ready) c.self.view_is ∙ c.give_up_room.ensures.ready) in
    record {
      kept = c.use_other.ensures.kept;
      users = subst (λ ready. AreUsersOf (λ n. get nat_cmp c.self.inside.numbers n) ready c.use_other.new.self.seats.entries c.use_other.new.self.users.entries) (sym none)
          (subst (λ es. AreUsersOf (λ n. get nat_cmp c.self.inside.numbers n) None es c.use_other.new.self.users.entries) (sym c.use_other.ensures.seats)
          (users_used (λ n. get nat_cmp c.self.inside.numbers n) c.index.result.now.user c.args.used c.self.inside.rows.seats.entries c.self.inside.rows.users.entries c.use_other.new.self.users.entries
          (subst (λ ready. AreUsersOf (λ n. get nat_cmp c.self.inside.numbers n) ready c.self.inside.rows.seats.entries c.self.inside.rows.users.entries) none c.self.invariant.users) c.use_other.ensures.users));
      ready = subst (λ ready. IfSome ready (IsReady c.use_other.new.self)) (sym none) tt;
    }

pub returns-clause-seats : goal.returns-clause-seats
returns-clause-seats c =
    let users = c.self.inside.rows.users.entries in
    let view = ap (λ (s : Seats). s.seats) c.self.view_is ∙ c.give_up_room.ensures.seats in
    let own = live_row c.index.result.now.user users (user_live c.self.inside.rows c.self.invariant.kept.seated c.args.ticket c.index.result.now c.index.ensures) in
    let user_is : user_by c.index.result.now.user users ≡ own.0.user = ap (λ o. option_map_or (λ (r : UserRow). r.user) o 0) own.1 in
    let seen : lookup (nat_eq c.args.ticket) c.args.self.now.seats ≡ Some (seat_of users (c.args.ticket, c.index.result.now)).1 =
    ap (lookup (nat_eq c.args.ticket)) (sym view) ∙ seat_found users c.args.ticket c.self.inside.rows.seats.entries ∙ ap (option_map (λ (row : SeatRow). (seat_of users (c.args.ticket, row)).1)) c.index.ensures in
    let changed = ap (map (seat_of c.use_other.new.self.users.entries)) c.use_other.ensures.seats
    ∙ view_used (λ n. get nat_cmp c.self.inside.numbers n) users (keyed_of (λ n. get nat_cmp c.self.inside.numbers n) c.self.inside.ready c.self.inside.rows.seats.entries users c.self.invariant.users) c.index.result.now.user own.0 own.1 c.args.used c.use_other.new.self.users.entries c.use_other.ensures.users c.self.inside.rows.seats.entries (have_rows c.self.inside.rows c.self.invariant.kept)
    (all_from_each (λ e. WaitSame users c.use_other.new.self.users.entries e.1) c.self.inside.rows.seats.entries c.self.invariant.kept.seated.distinct c.use_other.ensures.waits)
    ∙ ap (λ n. with_used n c.args.used (map (seat_of users) c.self.inside.rows.seats.entries)) (sym user_is) ∙ ap (with_used (user_by c.index.result.now.user users) c.args.used) view in
    subst (λ o. IfSome o (λ (seat : Seat). map (seat_of c.use_other.new.self.users.entries) c.use_other.new.self.seats.entries ≡ with_used seat.user c.args.used c.args.self.now.seats)) (sym seen) changed
