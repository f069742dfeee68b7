use Rattle.std.proofs.Common.{ℕ, ◌-◌, refl, sym, subst, arith}
use Rattle.std.specs.Vec.{vec_capacity}
use Rattle.ynl_service.proofs.Beaten.{Serving, begun, ended-all, ended-none, goes-on}
use Rattle.ynl_service.proofs.serving.serve.Goals as goal

pub loop-left-init : goal.loop-left-init
loop-left-init c =
    begun c.args.cluster.now c.args.node c.args.times c.args.placed.now.items c.args.shut.now (vec_capacity c.args.placed.now) c.requires.working c.requires.shut c.requires.live c.requires.room c.requires.list

pub serve_one-requires-clause-list : goal.serve_one-requires-clause-list
serve_one-requires-clause-list c = omega (arith, c.loop-left.invariant.list, c.loop-left-test.true)

pub returns-then-not-serve_one-clause-served : goal.returns-then-not-serve_one-clause-served
returns-then-not-serve_one-clause-served c =
    ended-none c.args.cluster.now c.args.node c.args.times c.args.placed.now.items c.loop-left.cluster c.serve_one.new.cluster c.loop-left.shut c.serve_one.new.shut c.loop-left.left (vec_capacity c.loop-left.placed)
    c.loop-left.placed.items c.serve_one.new.placed.items c.loop-left.invariant (c.if-not-serve_one.ensures.none refl)

pub loop-left-preserved : goal.loop-left-preserved
loop-left-preserved c =
    subst (λ (k : ℕ). Serving c.args.cluster.now c.args.node c.args.times c.args.placed.now.items c.serve_one.new.cluster c.serve_one.new.shut (c.loop-left.left - 1) k c.serve_one.new.placed.items) (sym c.serve_one.ensures.capacity)
    (goes-on c.args.cluster.now c.args.node c.args.times c.args.placed.now.items c.loop-left.cluster c.serve_one.new.cluster c.loop-left.shut c.serve_one.new.shut c.loop-left.left (vec_capacity c.loop-left.placed)
    c.loop-left.placed.items c.serve_one.new.placed.items c.loop-left.invariant c.loop-left-test.true (c.if-not-serve_one.ensures.one refl) c.serve_one.ensures.config c.serve_one.ensures.shut)

pub returns-clause-served : goal.returns-clause-served
returns-clause-served c =
    ended-all c.args.cluster.now c.args.node c.args.times c.args.placed.now.items c.loop-left.cluster c.loop-left.cluster c.loop-left.shut c.loop-left.shut c.loop-left.left (vec_capacity c.loop-left.placed)
    c.loop-left.placed.items c.loop-left.placed.items c.loop-left.invariant (omega (arith, c.loop-left-test.false))
