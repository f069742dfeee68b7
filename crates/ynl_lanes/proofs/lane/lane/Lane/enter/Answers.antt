use Rattle.std.proofs.Common.{◌∙◌, ap}
use Rattle.std.specs.BTreeMap.{get}
use Rattle.std.specs.Ordering.{nat_cmp}
use Rattle.ynl_lanes.specs.lane.Fields.{user_by, IsReady}
use Rattle.ynl_lanes.specs.lane.Seats.{Seats, with_waits}
use Rattle.ynl_lanes.proofs.lane.Keeping.{live_shown, none_ready, users_entered, seats_entered}
use Rattle.ynl_lanes.proofs.lane.lane.Lane.enter.Goals as goal

pub enter-requires-clause-live : goal.enter-requires-clause-live
enter-requires-clause-live c = live_shown c.self.inside.rows.users.entries c.args.ticket c.self.inside.rows.seats.entries c.args.self.now.seats (ap (λ (s : Seats). s.seats) c.self.view_is ∙ c.give_up_room.ensures.seats) c.requires

pub invariant_of-self : goal.invariant_of-self
invariant_of-self c = record {
  kept = c.enter.ensures.kept;
  users = users_entered (λ n. get nat_cmp c.self.inside.numbers n) c.self.inside.ready c.self.inside.rows c.enter.new.self c.self.invariant.kept c.enter.ensures.seats c.args.ticket c.args.waits.now c.enter.ensures.waits c.enter.ensures.users c.self.invariant.users;
  ready = none_ready (λ user. user_by user c.self.inside.rows.users.entries) (IsReady c.enter.new.self) c.self.inside.ready (ap (λ (s : Seats). s.ready) c.self.view_is ∙ c.give_up_room.ensures.ready);
}

pub returns-clause-seats : goal.returns-clause-seats
returns-clause-seats c =
    seats_entered (λ n. get nat_cmp c.self.inside.numbers n) c.self.inside.ready c.self.inside.rows c.enter.new.self c.self.invariant.kept c.enter.ensures.seats c.args.ticket c.args.waits.now c.enter.ensures.waits c.enter.ensures.users
    ∙ ap (with_waits c.args.ticket c.args.waits.now) (ap (λ (s : Seats). s.seats) c.self.view_is ∙ c.give_up_room.ensures.seats)
