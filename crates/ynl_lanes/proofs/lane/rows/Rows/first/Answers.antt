use Rattle.ynl_lanes.proofs.lane.Standing.{finish_none, finish_behind}
use Rattle.ynl_lanes.proofs.lane.rows.Rows.first.Goals as goal

pub returns-then-stand-end-clause-none : goal.returns-then-stand-end-clause-none
returns-then-stand-end-clause-none g c =
    (finish_behind c.args.self.now c.requires.kept c.args.kind (g.T.Test.passes c.args.test.now) (g.T.UserTest.may c.args.test.now)
    (λ user used size below may. g.met.T.Test.passes_below c.args.test.now user (record { low = size; used = used }) below (g.met.T.UserTest.passes_may c.args.test.now used size may))
    (g.R.Request.gives c.args.request.now) c.requires.may c.args.before c.loop-stand.best c.loop-stand.end c.loop-stand.from c.in-Some.stand c.loop-stand.invariant c.in-Some.ensures.first c.if-stand-end.true).0

pub returns-then-stand-end-clause-some : goal.returns-then-stand-end-clause-some
returns-then-stand-end-clause-some g c =
    (finish_behind c.args.self.now c.requires.kept c.args.kind (g.T.Test.passes c.args.test.now) (g.T.UserTest.may c.args.test.now)
    (λ user used size below may. g.met.T.Test.passes_below c.args.test.now user (record { low = size; used = used }) below (g.met.T.UserTest.passes_may c.args.test.now used size may))
    (g.R.Request.gives c.args.request.now) c.requires.may c.args.before c.loop-stand.best c.loop-stand.end c.loop-stand.from c.in-Some.stand c.loop-stand.invariant c.in-Some.ensures.first c.if-stand-end.true).1

pub returns-clause-none : goal.returns-clause-none
returns-clause-none g c =
    (finish_none c.args.self.now c.requires.kept c.args.kind (g.T.Test.passes c.args.test.now) (g.T.UserTest.may c.args.test.now)
    (λ user used size below may. g.met.T.Test.passes_below c.args.test.now user (record { low = size; used = used }) below (g.met.T.UserTest.passes_may c.args.test.now used size may))
    (g.R.Request.gives c.args.request.now) c.requires.may c.args.before c.loop-stand.best c.loop-stand.end c.loop-stand.from c.loop-stand.invariant c.in_default.ensures.none).0

pub returns-clause-some : goal.returns-clause-some
returns-clause-some g c =
    (finish_none c.args.self.now c.requires.kept c.args.kind (g.T.Test.passes c.args.test.now) (g.T.UserTest.may c.args.test.now)
    (λ user used size below may. g.met.T.Test.passes_below c.args.test.now user (record { low = size; used = used }) below (g.met.T.UserTest.passes_may c.args.test.now used size may))
    (g.R.Request.gives c.args.request.now) c.requires.may c.args.before c.loop-stand.best c.loop-stand.end c.loop-stand.from c.loop-stand.invariant c.in_default.ensures.none).1
