use Rattle.std.proofs.Common.{subst}
use Rattle.ynl_service.specs.Serving.{IsNext}
use Rattle.ynl_service.proofs.Going.{no-step, step}
use Rattle.ynl_service.proofs.serving.serve_one.Goals as goal

pub returns-in_default-clause-none : goal.returns-in_default-clause-none
returns-in_default-clause-none c = λ no. no-step c.args.cluster.now c.args.node c.args.placed.now.items (subst (IsNext c.args.cluster.now c.args.node) c.in_default.is c.next.ensures.next)

pub returns-clause-one : goal.returns-clause-one
returns-clause-one c = λ yes.
    step c.args.cluster.now c.place.new.cluster c.args.node c.in-Some.found c.in-Some.ensures.can c.next.ensures.sound c.requires.working c.next.ensures.rooms
    (subst (IsNext c.args.cluster.now c.args.node) c.in-Some.is c.next.ensures.next) c.place.ensures.rows.0 c.place.ensures.rows.1 c.place.ensures.rooms c.place.ensures.state c.place.result c.place.ensures.told
    c.args.placed.now.items c.tell.new.list.items c.tell.ensures.items
