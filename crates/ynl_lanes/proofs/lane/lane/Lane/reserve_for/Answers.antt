use Rattle.std.proofs.Common.{◌∙◌, sym, ap, subst}
use Rattle.std.specs.BTreeMap.{get}
use Rattle.std.specs.Ordering.{nat_cmp}
use Rattle.ynl_lanes.specs.lane.Fields.{AreUsersOf, IsReady, user_by}
use Rattle.ynl_lanes.specs.lane.Seats.{Seats}
use Rattle.ynl_lanes.proofs.lane.Keeping.{is_none, none_ready}
use Rattle.ynl_lanes.proofs.lane.lane.Lane.reserve_for.Goals as goal

pub make_room_for-requires-clause-users : goal.make_room_for-requires-clause-users
make_room_for-requires-clause-users c =
    subst (λ ready. AreUsersOf (λ n. get nat_cmp c.self.inside.numbers n) ready c.self.inside.rows.seats.entries c.self.inside.rows.users.entries)
    (is_none (λ user. user_by user c.self.inside.rows.users.entries) c.self.inside.ready (ap (λ (s : Seats). s.ready) c.self.view_is ∙ c.give_up_room.ensures.ready))
    c.self.invariant.users

pub invariant_of-self-in-Err : goal.invariant_of-self-in-Err
invariant_of-self-in-Err c = record {
  kept = c.make_room_for.ensures.kept;
  users = subst (λ ready. AreUsersOf (λ n. get nat_cmp c.make_room_for.new.numbers n) ready c.make_room_for.new.rows.seats.entries c.make_room_for.new.rows.users.entries)
      (sym (is_none (λ user. user_by user c.self.inside.rows.users.entries) c.self.inside.ready (ap (λ (s : Seats). s.ready) c.self.view_is ∙ c.give_up_room.ensures.ready)))
      c.in-Err.ensures.users;
  ready = none_ready (λ user. user_by user c.self.inside.rows.users.entries) (IsReady c.make_room_for.new.rows) c.self.inside.ready (ap (λ (s : Seats). s.ready) c.self.view_is ∙ c.give_up_room.ensures.ready);
}
