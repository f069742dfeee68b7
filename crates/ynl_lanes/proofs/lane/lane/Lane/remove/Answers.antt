use Rattle.std.proofs.Common.{◌∙◌, None, IfSome, map, sym, ap, subst}
use Rattle.std.specs.BTreeMap.{get}
use Rattle.std.specs.Ordering.{nat_cmp}
use Rattle.ynl_slots.specs.Slots.{without}
use Rattle.ynl_lanes.specs.lane.Fields.{seat_of, user_by, AreUsersOf, IsReady}
use Rattle.ynl_lanes.specs.lane.Seats.{Seats, nothing_waits}
use Rattle.ynl_lanes.proofs.lane.Keeping.{live_shown, is_none, users_closed, seats_closed, left_live, left_idle, left_some, gone_live, gone_users, gone_seats, gone_none, gone_other, gone_keyed, without_idle}
use Rattle.ynl_lanes.proofs.lane.lane.Lane.remove.Goals as goal

pub enter-requires-clause-live : goal.enter-requires-clause-live
enter-requires-clause-live c = live_shown c.self.inside.rows.users.entries c.args.ticket c.self.inside.rows.seats.entries c.args.self.now.seats (ap (λ (s : Seats). s.seats) c.self.view_is ∙ c.give_up_room.ensures.seats) c.requires

pub pull-user-requires-clause-live : goal.pull-user-requires-clause-live
pull-user-requires-clause-live c = left_live (λ n. get nat_cmp c.self.inside.numbers n) c.self.inside.rows c.enter.new.self c.enter.new.self c.self.invariant.kept c.enter.ensures.kept c.args.ticket c.enter.ensures.seats c.enter.ensures.waits c.enter.ensures.users

pub pull-user-requires-clause-nothing : goal.pull-user-requires-clause-nothing
pull-user-requires-clause-nothing c = left_idle (λ n. get nat_cmp c.self.inside.numbers n) c.self.inside.rows c.enter.new.self c.enter.new.self c.self.invariant.kept c.enter.ensures.kept c.args.ticket c.enter.ensures.seats c.enter.ensures.waits c.enter.ensures.users

pub pull-user-requires-clause-some : goal.pull-user-requires-clause-some
pull-user-requires-clause-some c = left_some (λ n. get nat_cmp c.self.inside.numbers n) c.self.inside.rows c.enter.new.self c.enter.new.self c.self.invariant.kept c.enter.ensures.kept c.args.ticket c.enter.ensures.seats c.enter.ensures.waits c.enter.ensures.users (subst (λ ready. AreUsersOf (λ n. get nat_cmp c.self.inside.numbers n) ready c.self.inside.rows.seats.entries c.self.inside.rows.users.entries) (is_none (λ user. user_by user c.self.inside.rows.users.entries) c.self.inside.ready (ap (λ (s : Seats). s.ready) c.self.view_is ∙ c.give_up_room.ensures.ready)) c.self.invariant.users)

pub index-requires : goal.index-requires
index-requires c = gone_live (λ n. get nat_cmp c.self.inside.numbers n) c.self.inside.rows c.enter.new.self c.pull-user.new.self c.self.invariant.kept c.enter.ensures.kept c.args.ticket c.enter.ensures.seats c.enter.ensures.waits c.enter.ensures.users (subst (λ ready. AreUsersOf (λ n. get nat_cmp c.self.inside.numbers n) ready c.self.inside.rows.seats.entries c.self.inside.rows.users.entries) (is_none (λ user. user_by user c.self.inside.rows.users.entries) c.self.inside.ready (ap (λ (s : Seats). s.ready) c.self.view_is ∙ c.give_up_room.ensures.ready)) c.self.invariant.users) c.pull-user.result c.pull-user.ensures.user c.pull-user.ensures.seats c.pull-user.ensures.users

pub close-requires-clause-none : goal.close-requires-clause-none
close-requires-clause-none c = gone_none (λ n. get nat_cmp c.self.inside.numbers n) c.self.inside.rows c.enter.new.self c.pull-user.new.self c.self.invariant.kept c.enter.ensures.kept c.args.ticket c.enter.ensures.seats c.enter.ensures.waits c.enter.ensures.users (subst (λ ready. AreUsersOf (λ n. get nat_cmp c.self.inside.numbers n) ready c.self.inside.rows.seats.entries c.self.inside.rows.users.entries) (is_none (λ user. user_by user c.self.inside.rows.users.entries) c.self.inside.ready (ap (λ (s : Seats). s.ready) c.self.view_is ∙ c.give_up_room.ensures.ready)) c.self.invariant.users) c.pull-user.result c.pull-user.ensures.user c.pull-user.ensures.seats c.pull-user.ensures.users c.index.result.now c.index.ensures c.if-index-eq0.true

pub close-requires-clause-keyed : goal.close-requires-clause-keyed
close-requires-clause-keyed c = gone_keyed (λ n. get nat_cmp c.self.inside.numbers n) c.self.inside.rows c.enter.new.self c.pull-user.new.self c.self.invariant.kept c.enter.ensures.kept c.args.ticket c.enter.ensures.seats c.enter.ensures.waits c.enter.ensures.users (subst (λ ready. AreUsersOf (λ n. get nat_cmp c.self.inside.numbers n) ready c.self.inside.rows.seats.entries c.self.inside.rows.users.entries) (is_none (λ user. user_by user c.self.inside.rows.users.entries) c.self.inside.ready (ap (λ (s : Seats). s.ready) c.self.view_is ∙ c.give_up_room.ensures.ready)) c.self.invariant.users) c.pull-user.result c.pull-user.ensures.user c.pull-user.ensures.seats c.pull-user.ensures.users

pub invariant_of-self : goal.invariant_of-self
invariant_of-self c = record {
  kept = c.close.ensures.kept;
  users = subst (λ ready. AreUsersOf (λ n. get nat_cmp c.close.new.numbers n) ready c.close.new.rows.seats.entries c.close.new.rows.users.entries) (sym (is_none (λ user. user_by user c.self.inside.rows.users.entries) c.self.inside.ready (ap (λ (s : Seats). s.ready) c.self.view_is ∙ c.give_up_room.ensures.ready)))
      (users_closed (λ n. get nat_cmp c.self.inside.numbers n) (λ n. get nat_cmp c.close.new.numbers n) None c.pull-user.result c.pull-user.new.self c.close.new.rows c.pull-user.ensures.kept c.close.ensures.seats c.close.ensures.users c.close.ensures.keyed (gone_other (λ n. get nat_cmp c.self.inside.numbers n) c.self.inside.rows c.enter.new.self c.pull-user.new.self c.self.invariant.kept c.enter.ensures.kept c.args.ticket c.enter.ensures.seats c.enter.ensures.waits c.enter.ensures.users (subst (λ ready. AreUsersOf (λ n. get nat_cmp c.self.inside.numbers n) ready c.self.inside.rows.seats.entries c.self.inside.rows.users.entries) (is_none (λ user. user_by user c.self.inside.rows.users.entries) c.self.inside.ready (ap (λ (s : Seats). s.ready) c.self.view_is ∙ c.give_up_room.ensures.ready)) c.self.invariant.users) c.pull-user.result c.pull-user.ensures.user c.pull-user.ensures.seats c.pull-user.ensures.users));
  ready = subst (λ ready. IfSome ready (IsReady c.close.new.rows)) (sym (is_none (λ user. user_by user c.self.inside.rows.users.entries) c.self.inside.ready (ap (λ (s : Seats). s.ready) c.self.view_is ∙ c.give_up_room.ensures.ready))) tt;
}

pub invariant_of-self-else-index-eq0 : goal.invariant_of-self-else-index-eq0
invariant_of-self-else-index-eq0 c = record {
  kept = c.pull-user.ensures.kept;
  users = subst (λ ready. AreUsersOf (λ n. get nat_cmp c.self.inside.numbers n) ready c.pull-user.new.self.seats.entries c.pull-user.new.self.users.entries) (sym (is_none (λ user. user_by user c.self.inside.rows.users.entries) c.self.inside.ready (ap (λ (s : Seats). s.ready) c.self.view_is ∙ c.give_up_room.ensures.ready))) (gone_users (λ n. get nat_cmp c.self.inside.numbers n) c.self.inside.rows c.enter.new.self c.pull-user.new.self c.self.invariant.kept c.enter.ensures.kept c.args.ticket c.enter.ensures.seats c.enter.ensures.waits c.enter.ensures.users (subst (λ ready. AreUsersOf (λ n. get nat_cmp c.self.inside.numbers n) ready c.self.inside.rows.seats.entries c.self.inside.rows.users.entries) (is_none (λ user. user_by user c.self.inside.rows.users.entries) c.self.inside.ready (ap (λ (s : Seats). s.ready) c.self.view_is ∙ c.give_up_room.ensures.ready)) c.self.invariant.users) c.pull-user.result c.pull-user.ensures.user c.pull-user.ensures.seats c.pull-user.ensures.users c.index.result.now c.index.ensures c.if-index-eq0.false);
  ready = subst (λ ready. IfSome ready (IsReady c.pull-user.new.self)) (sym (is_none (λ user. user_by user c.self.inside.rows.users.entries) c.self.inside.ready (ap (λ (s : Seats). s.ready) c.self.view_is ∙ c.give_up_room.ensures.ready))) tt;
}

pub returns-then-index-eq0-clause-seats : goal.returns-then-index-eq0-clause-seats
returns-then-index-eq0-clause-seats c =
    seats_closed (λ n. get nat_cmp c.self.inside.numbers n) (λ n. get nat_cmp c.close.new.numbers n) None c.pull-user.result c.pull-user.new.self c.close.new.rows c.pull-user.ensures.kept c.close.ensures.seats c.close.ensures.users c.close.ensures.keyed (gone_none (λ n. get nat_cmp c.self.inside.numbers n) c.self.inside.rows c.enter.new.self c.pull-user.new.self c.self.invariant.kept c.enter.ensures.kept c.args.ticket c.enter.ensures.seats c.enter.ensures.waits c.enter.ensures.users (subst (λ ready. AreUsersOf (λ n. get nat_cmp c.self.inside.numbers n) ready c.self.inside.rows.seats.entries c.self.inside.rows.users.entries) (is_none (λ user. user_by user c.self.inside.rows.users.entries) c.self.inside.ready (ap (λ (s : Seats). s.ready) c.self.view_is ∙ c.give_up_room.ensures.ready)) c.self.invariant.users) c.pull-user.result c.pull-user.ensures.user c.pull-user.ensures.seats c.pull-user.ensures.users c.index.result.now c.index.ensures c.if-index-eq0.true)
    ∙ gone_seats (λ n. get nat_cmp c.self.inside.numbers n) c.self.inside.rows c.enter.new.self c.pull-user.new.self c.self.invariant.kept c.enter.ensures.kept c.args.ticket c.enter.ensures.seats c.enter.ensures.waits c.enter.ensures.users (subst (λ ready. AreUsersOf (λ n. get nat_cmp c.self.inside.numbers n) ready c.self.inside.rows.seats.entries c.self.inside.rows.users.entries) (is_none (λ user. user_by user c.self.inside.rows.users.entries) c.self.inside.ready (ap (λ (s : Seats). s.ready) c.self.view_is ∙ c.give_up_room.ensures.ready)) c.self.invariant.users) c.pull-user.result c.pull-user.ensures.user c.pull-user.ensures.seats c.pull-user.ensures.users c.pull-user.ensures.waits ∙ without_idle c.args.ticket nothing_waits (map (seat_of c.self.inside.rows.users.entries) c.self.inside.rows.seats.entries) ∙ ap (without c.args.ticket) (ap (λ (s : Seats). s.seats) c.self.view_is ∙ c.give_up_room.ensures.seats)

pub returns-else-index-eq0-clause-seats : goal.returns-else-index-eq0-clause-seats
returns-else-index-eq0-clause-seats c = gone_seats (λ n. get nat_cmp c.self.inside.numbers n) c.self.inside.rows c.enter.new.self c.pull-user.new.self c.self.invariant.kept c.enter.ensures.kept c.args.ticket c.enter.ensures.seats c.enter.ensures.waits c.enter.ensures.users (subst (λ ready. AreUsersOf (λ n. get nat_cmp c.self.inside.numbers n) ready c.self.inside.rows.seats.entries c.self.inside.rows.users.entries) (is_none (λ user. user_by user c.self.inside.rows.users.entries) c.self.inside.ready (ap (λ (s : Seats). s.ready) c.self.view_is ∙ c.give_up_room.ensures.ready)) c.self.invariant.users) c.pull-user.result c.pull-user.ensures.user c.pull-user.ensures.seats c.pull-user.ensures.users c.pull-user.ensures.waits ∙ without_idle c.args.ticket nothing_waits (map (seat_of c.self.inside.rows.users.entries) c.self.inside.rows.seats.entries) ∙ ap (without c.args.ticket) (ap (λ (s : Seats). s.seats) c.self.view_is ∙ c.give_up_room.ensures.seats)
