use Rattle.std.proofs.Common.{◌∙◌, None, sym, ap, subst}
use Rattle.std.specs.BTreeMap.{get}
use Rattle.std.proofs.lemmas.Option.{same_Some}
use Rattle.std.specs.Ordering.{nat_cmp}
use Rattle.ynl_lanes.specs.lane.Fields.{AreUsersOf}
use Rattle.ynl_lanes.specs.lane.Seats.{Seats}
use Rattle.ynl_lanes.proofs.lane.Keeping.{keyed_of, none_of_count, users_closed, users_left, seats_closed}
use Rattle.ynl_lanes.proofs.lane.lane.Lane.give_up_room.Goals as goal

pub close-requires-clause-none : goal.close-requires-clause-none
close-requires-clause-none c =
    none_of_count c.in-Some.user c.self.inside.rows.seats.entries (sym (c.self.invariant.users c.in-Some.user c.index.result.now c.index.ensures).counted ∙ c.if-index-eq0.true)

pub close-requires-clause-keyed : goal.close-requires-clause-keyed
close-requires-clause-keyed c = keyed_of (λ n. get nat_cmp c.self.inside.numbers n) c.self.inside.ready c.self.inside.rows.seats.entries c.self.inside.rows.users.entries c.self.invariant.users

pub invariant_of-self : goal.invariant_of-self
invariant_of-self c = record {
  kept = c.close.ensures.kept;
  users = users_closed (λ n. get nat_cmp c.self.inside.numbers n) (λ n. get nat_cmp c.close.new.numbers n) None c.in-Some.user c.self.inside.rows c.close.new.rows c.self.invariant.kept c.close.ensures.seats c.close.ensures.users c.close.ensures.keyed
      (λ n row apart there. (let known = c.self.invariant.users n row there in record { keyed = known.keyed; counted = known.counted; some = λ none. known.some (λ is. apart (sym (same_Some _ _ (sym c.in-Some.is ∙ is)))); spare = known.spare }));
  ready = tt;
}

pub returns-then-index-eq0-clause-seats : goal.returns-then-index-eq0-clause-seats
returns-then-index-eq0-clause-seats c =
    seats_closed (λ n. get nat_cmp c.self.inside.numbers n) (λ n. get nat_cmp c.close.new.numbers n) None c.in-Some.user c.self.inside.rows c.close.new.rows c.self.invariant.kept c.close.ensures.seats c.close.ensures.users c.close.ensures.keyed
    (none_of_count c.in-Some.user c.self.inside.rows.seats.entries (sym (c.self.invariant.users c.in-Some.user c.index.result.now c.index.ensures).counted ∙ c.if-index-eq0.true))
    ∙ ap (λ (s : Seats). s.seats) c.self.view_is

pub invariant_of-self-else-index-eq0 : goal.invariant_of-self-else-index-eq0
invariant_of-self-else-index-eq0 c = record {
  kept = c.self.invariant.kept;
  users = users_left (λ n. get nat_cmp c.self.inside.numbers n) c.in-Some.user c.index.result.now c.self.inside.rows.seats.entries c.self.inside.rows.users.entries
      (subst (λ ready. AreUsersOf (λ n. get nat_cmp c.self.inside.numbers n) ready c.self.inside.rows.seats.entries c.self.inside.rows.users.entries) c.in-Some.is c.self.invariant.users)
      c.index.ensures c.if-index-eq0.false;
  ready = tt;
}
