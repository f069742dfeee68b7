use Rattle.std.proofs.Common.{get_or, subst}
use Rattle.ynl_workers.specs.declared.working.WorkerEnd.{WorkerEnd}
use Rattle.ynl_workers.specs.Rounds.{IsWorkOf}
use Rattle.ynl_workers.proofs.rounds.run_all.Goals as goal

pub returns : goal.returns
returns g c = λ k d e inside.
    let h = (c.for_each_mut.ensures k d inside).1 in
    let free = g.G.Gate.is_free c.args.gate.now in
    let nodes = (get_or c.args.lists.now k e).items in
    let A : WorkerEnd → Type 0 = λ x. IsWorkOf free x.seat nodes h.after_call.now in
    let B : WorkerEnd → Type 0 = λ x. IsWorkOf free (get_or c.args.ends.now k d).seat nodes x in
    subst B h.left (subst A h.argument_is (h.call e))
