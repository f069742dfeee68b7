use Rattle.std.proofs.Common.{arith, sym}
use Rattle.ynl_lanes.proofs.lane.Searching.{own_line, own_none, own_over, own_behind, own_found, own_past, own_nothing}
use Rattle.ynl_lanes.proofs.lane.rows.Rows.first_own.Goals as goal
use Rattle.ynl_lanes.proofs.lane.rows.Rows.first_own.Goals.{in-Some-seat_at+else-row-end+in_default-of, in_default-seat_at}

pub seat_at-requires : goal.seat_at-requires
seat_at-requires g c = (own_line c.args.self.now c.requires.seated c.args.user c.index.result.now c.index.ensures).1

pub returns-then-own-len-clause-none : goal.returns-then-own-len-clause-none
returns-then-own-len-clause-none g c =
    own_past c.args.self.now c.requires.seated c.args.user c.args.kind (g.P.Test.passes c.args.test.now) (g.R.Request.gives c.args.request.now) c.args.end c.index.result.now c.index.ensures c.loop-own.from c.in-Some.own c.in-Some.ensures.first c.loop-own.invariant
    (omega (arith, c.len.ensures, c.if-own-len.true))

pub returns-then-row-end-clause-none : goal.returns-then-row-end-clause-none
returns-then-row-end-clause-none g c n seat there own given =
    let least = own_behind c.args.self.now c.requires.seated c.args.user c.args.kind (g.P.Test.passes c.args.test.now) (g.R.Request.gives c.args.request.now) c.args.end c.index.result.now c.index.ensures c.loop-own.from c.in-Some.own c.in-Some.ensures.first c.loop-own.invariant c.in-Some-seat_at.ticket c.in-Some-seat_at.row c.in-Some-seat_at.ensures.found n seat there own given in
    omega (arith, least, c.if-row-end.true)

pub returns-in-Some-of-clause-some : goal.returns-in-Some-of-clause-some
returns-in-Some-of-clause-some g c =
    own_found c.args.self.now c.requires.seated c.args.user c.args.kind (g.P.Test.passes c.args.test.now) (g.R.Request.gives c.args.request.now) c.args.end c.index.result.now c.index.ensures c.loop-own.from c.in-Some.own c.in-Some.ensures.first c.loop-own.invariant c.in-Some-seat_at.ticket c.in-Some-seat_at.row c.in-Some-seat_at.ensures.found c.if-row-end.false c.in-Some-of.given (sym c.in-Some-of.ensures)

pub loop-own-preserved : goal.loop-own-preserved
loop-own-preserved g c =
    own_over c.args.self.now c.requires.seated c.args.user c.args.kind (g.P.Test.passes c.args.test.now) (g.R.Request.gives c.args.request.now) c.args.end c.index.result.now c.index.ensures c.loop-own.from c.in-Some.own c.in-Some.ensures.first c.loop-own.invariant
    (elim c.match-seat_at.branch [
      | in-Some-seat_at+else-row-end+in_default-of w ↦ own_nothing c.args.self.now c.requires.seated c.args.user c.args.kind (g.P.Test.passes c.args.test.now) (g.R.Request.gives c.args.request.now) c.args.end c.index.result.now c.index.ensures c.in-Some.own w.in-Some-seat_at.ticket w.in-Some-seat_at.row w.in-Some-seat_at.ensures.found (sym w.in_default-of.ensures)
      | in_default-seat_at w ↦ λ n seat there at given. w.in_default-seat_at.ensures.none n seat there at
    ])

pub returns-clause-none : goal.returns-clause-none
returns-clause-none g c =
    own_none c.args.self.now c.requires.seated c.args.user c.args.kind (g.P.Test.passes c.args.test.now) (g.R.Request.gives c.args.request.now) c.args.end c.index.result.now c.index.ensures c.loop-own.from c.in_default.ensures.none c.loop-own.invariant
