use Rattle.std.proofs.Common.{ℕ, sym, subst, ap}
use Rattle.ynl_model.specs.declared.uses.Use.{Use}
use Rattle.ynl_cluster.specs.Cluster.{label_of, path_of, state_in}
use Rattle.ynl_search.specs.Places.{IsPlace}
use Rattle.ynl_search.proofs.queues.root_at.Goals as goal

pub returns-clause-place : goal.returns-clause-place
returns-clause-place c =
    let w = c.args.cluster.now in
    let label = label_of w c.args.p in
    subst (λ (q : ℕ). IsPlace w.config (state_in w) label c.args.free (path_of w q) c.root.result) (sym c.root.ensures.queue)
    (c.root.ensures.place w.config (state_in w) label c.total.ensures.value (ap (λ (u : Use). u.used) c.used.ensures.value))
