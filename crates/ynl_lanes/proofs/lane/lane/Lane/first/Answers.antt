use Rattle.std.proofs.Common.{IfSome, sym, ap, subst, arith}
use Rattle.ynl_lanes.specs.lane.Seats.{Seats, IsSeat}
use Rattle.ynl_lanes.proofs.lane.Keeping.{live_shown}
use Rattle.ynl_lanes.proofs.lane.Fronts.{all_none, all_some, before_none, before_some, given_shown}
use Rattle.ynl_lanes.proofs.lane.lane.Lane.first.Goals as goal
use Rattle.ynl_lanes.proofs.lane.lane.Lane.first.Goals.{in-Some, in-None}

pub index-requires : goal.index-requires
index-requires g c =
    live_shown c.self.inside.rows.users.entries c.in-Some.ticket c.self.inside.rows.seats.entries c.args.self.now.seats (ap (λ (s : Seats). s.seats) c.self.view_is)
    (subst (λ before. IfSome before (λ ticket. IsSeat ticket c.args.self.now.seats)) c.in-Some.is c.requires.before)

pub first-requires-clause-may : goal.first-requires-clause-may
first-requires-clause-may g c =
    given_shown c.self.inside.rows c.args.kind (g.T.UserTest.may c.args.test.now) (g.R.Request.gives c.args.request.now) c.args.self.now.seats (ap (λ (s : Seats). s.seats) c.self.view_is) c.requires.passes

pub returns-in-Some-first : goal.returns-in-Some-first
returns-in-Some-first g c =
    let view = ap (λ (s : Seats). s.seats) c.self.view_is in
    elim c.match-before.branch [
      | in-Some w ↦ rw w.in-Some.is (sym (before_some c.self.inside.rows c.self.invariant.kept c.args.kind (g.R.Request.gives c.args.request.now) c.args.self.now.seats view w.in-Some.ticket c.match-before.end w.index.result.now w.index.ensures w.end-is c.in-Some-first.found c.in-Some-first.ensures.some))
      | in-None w ↦ rw w.in-None.is (sym (all_some c.self.inside.rows c.self.invariant.kept c.args.kind (g.R.Request.gives c.args.request.now) c.args.self.now.seats view c.match-before.end (omega (arith, w.end-is, w.len-end.ensures)) c.in-Some-first.found c.in-Some-first.ensures.some))
    ]

pub returns-in-None-first : goal.returns-in-None-first
returns-in-None-first g c =
    let view = ap (λ (s : Seats). s.seats) c.self.view_is in
    elim c.match-before.branch [
      | in-Some w ↦ rw w.in-Some.is (sym (before_none c.self.inside.rows c.self.invariant.kept c.args.kind (g.R.Request.gives c.args.request.now) c.args.self.now.seats view w.in-Some.ticket c.match-before.end w.index.result.now w.index.ensures w.end-is c.in-None-first.ensures.none))
      | in-None w ↦ rw w.in-None.is (sym (all_none c.self.inside.rows c.self.invariant.kept c.args.kind (g.R.Request.gives c.args.request.now) c.args.self.now.seats view c.match-before.end (omega (arith, w.end-is, w.len-end.ensures)) c.in-None-first.ensures.none))
    ]
