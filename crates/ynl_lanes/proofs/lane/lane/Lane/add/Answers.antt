use Rattle.std.proofs.Common.{◌≡◌, ◌∙◌, Some, IfSome, map, option_map, sym, ap, subst}
use Rattle.std.specs.BTreeMap.{get}
use Rattle.std.specs.Ordering.{nat_cmp}
use Rattle.ynl_lanes.specs.lane.Fields.{seat_of, user_by, AreUsersOf, IsReady}
use Rattle.ynl_lanes.specs.lane.Seats.{Seats, Adds}
use Rattle.ynl_lanes.proofs.lane.Keeping.{users_pushed, seats_added, live_row}
use Rattle.ynl_lanes.proofs.lane.lane.Lane.add.Goals as goal

pub invariant_of-self : goal.invariant_of-self
invariant_of-self c = record {
  kept = c.push.ensures.kept;
  users = users_pushed (λ n. get nat_cmp c.self.inside.numbers n) c.args.app c.in-Some.user c.push.result c.self.inside.rows c.push.new.self c.self.invariant.kept c.push.ensures.seats c.push.ensures.users
      (subst (λ ready. AreUsersOf (λ n. get nat_cmp c.self.inside.numbers n) ready c.self.inside.rows.seats.entries c.self.inside.rows.users.entries) c.in-Some.is c.self.invariant.users);
  ready = tt;
}

pub returns-clause-seats : goal.returns-clause-seats
returns-clause-seats c =
    let rows = c.self.inside.rows in
    let is_ready : IsReady rows c.in-Some.user = subst (λ ready. IfSome ready (IsReady rows)) c.in-Some.is c.self.invariant.ready in
    let own = live_row c.in-Some.user rows.users.entries is_ready.live in
    let ready : c.args.self.now.ready ≡ Some (user_by c.in-Some.user rows.users.entries) = ap (λ (s : Seats). s.ready) (sym c.self.view_is) ∙ ap (option_map (λ user. user_by user rows.users.entries)) c.in-Some.is in
    let added = seats_added (λ n. get nat_cmp c.self.inside.numbers n) c.args.app c.in-Some.user c.push.result rows c.push.new.self c.self.invariant.kept c.push.ensures.seats c.push.ensures.users
    (subst (λ ready. AreUsersOf (λ n. get nat_cmp c.self.inside.numbers n) ready rows.seats.entries rows.users.entries) c.in-Some.is c.self.invariant.users) c.push.ensures.waits own.0 own.1 in
    subst (λ o. IfSome o (λ user. Adds c.args.app c.push.result user c.args.self.now.seats (map (seat_of c.push.new.self.users.entries) c.push.new.self.seats.entries))) (sym ready)
    (subst (λ seen. Adds c.args.app c.push.result (user_by c.in-Some.user rows.users.entries) seen (map (seat_of c.push.new.self.users.entries) c.push.new.self.seats.entries)) (ap (λ (s : Seats). s.seats) c.self.view_is) added)
