use Rattle.ynl_waits.specs.Laws.{AreNextPlaced, IsNotPlaced, IsNotCommitted, IsTold}
use Rattle.ynl_waits.proofs.Following.{IsKnown, each-next-placed, each-not-placed, each-not-committed, each-told}
use Rattle.ynl_cluster.specs.Cluster.{state_in}
use Rattle.ynl_core.proofs.Explaining.{as-seen, known}
use Rattle.ynl_core.proofs.cluster.Core.explain.Goals as goal

-- what the laws rest on is so of the cluster
module _ (c : goal.In_ok-explain) where
  is-known : IsKnown c.self.inside.cluster.config (state_in c.self.inside.cluster)
  is-known = known c.self.inside.cluster c.inventory.ensures.sound c.inventory.ensures.configured c.self.invariant.working.works

pub returns-clause-next : goal.returns-clause-next
returns-clause-next c =
    let w = c.self.inside.cluster in
    as-seen (λ config state. AreNextPlaced config state c.args.tenant.now c.args.app.now) w c.args.self.now _ c.in_ok-explain.field-0 c.self.view_is c.in_ok-explain.ensures
    (each-next-placed w.config (state_in w) (is-known c) c.args.tenant.now c.args.app.now)

pub returns-clause-others : goal.returns-clause-others
returns-clause-others c =
    let w = c.self.inside.cluster in
    as-seen (λ config state. IsNotPlaced config state c.args.tenant.now c.args.app.now) w c.args.self.now _ c.in_ok-explain.field-0 c.self.view_is c.in_ok-explain.ensures
    (each-not-placed w.config (state_in w) (is-known c) c.args.tenant.now c.args.app.now)

pub returns-clause-commits : goal.returns-clause-commits
returns-clause-commits c =
    let w = c.self.inside.cluster in
    as-seen (λ config state. IsNotCommitted config state c.args.tenant.now c.args.app.now) w c.args.self.now _ c.in_ok-explain.field-0 c.self.view_is c.in_ok-explain.ensures
    (each-not-committed w.config (state_in w) (is-known c) c.args.tenant.now c.args.app.now)

pub returns-clause-told : goal.returns-clause-told
returns-clause-told c =
    let w = c.self.inside.cluster in
    as-seen IsTold w c.args.self.now _ c.in_ok-explain.field-0 c.self.view_is c.in_ok-explain.ensures
    (each-told w.config (state_in w) (is-known c) c.args.tenant.now c.args.app.now)
