use Rattle.std.proofs.Common.{◌≡◌, [], slice_index_or, ap, subst, sym, ◌∙◌}
use Rattle.std.proofs.lemmas.Option.{get_or_from_slice_get}
use Rattle.ynl_model.specs.declared.events.Event.TheVariants.{Submit}
use Rattle.ynl_model.specs.declared.replies.Reply.TheVariants.{Done}
use Rattle.ynl_model.specs.Applications.{in_leaf, new_app, submitted}
use Rattle.ynl_model.specs.Events.{accepted, done}
use Rattle.ynl_core.specs.Reached.{WorksAndIsTold}
use Rattle.ynl_inventory.specs.layout.Paths.{path_at}
use Rattle.ynl_inventory.specs.Meaning.{label_at}
use Rattle.ynl_cluster.specs.Cluster.{ClusterView, state_in}
use Rattle.ynl_core.specs.World.{Answers, World}
use Rattle.ynl_core.proofs.Accepted as does
use Rattle.ynl_inventory.specs.Rows.{Rows}
use Rattle.ynl_sights.specs.Lists.{AreListsOf}
use Rattle.ynl_sights.proofs.Staying.{lists-stay}
use Rattle.ynl_sights.proofs.Submitted.{submitted-elsewhere}
use Rattle.ynl_core.proofs.Known.{shut-stays, user-leaves}
use Rattle.ynl_core.proofs.Listing.{lists-known}
use Rattle.ynl_core.proofs.Stepping.{answers, works, world_in}
use Rattle.ynl_core.proofs.cluster.Core.submit.Goals as goal

module _ (c : goal.After-forget) where
  abbrev w : ClusterView
  w = c.self.inside.cluster

  abbrev known : ClusterView
  known = c.user.new.self

  abbrev u : ClusterView
  u = c.submit-2.new.cluster

  partitions : known.rows.partitions ≡ w.rows.partitions
  partitions = ap (λ (v : ClusterView). v.rows.partitions) c.in_ok-user.ensures.ok ∙ (user-leaves c.args.user.now w.rows).0

  paths : known.rows.paths ≡ w.rows.paths
  paths = ap (λ (v : ClusterView). v.rows.paths) c.in_ok-user.ensures.ok ∙ (user-leaves c.args.user.now w.rows).1

  user : slice_index_or known.rows.users c.in_ok-user.field-0 [] ≡ c.args.user.now
  user = get_or_from_slice_get known.rows.users c.in_ok-user.field-0 c.args.user.now [] c.in_ok-user.ensures.own

  config : u.config ≡ w.config
  config = ap (λ (v : ClusterView). v.config) c.in_ok-submit.ensures.rows.1 ∙ ap (λ (v : ClusterView). v.config) c.in_ok-user.ensures.ok

  state : state_in u ≡ record (state_in w) {
    leaves = in_leaf (path_at w.rows.paths c.in-Ok.numbers.leaf) (submitted (new_app (path_at w.rows.paths c.in-Ok.numbers.leaf) c.args.app.now c.args.user.now (label_at w.rows.partitions c.in-Ok.numbers.home) c.args.master.now)) (state_in w).leaves;
  }
  state = c.in_ok-submit.ensures.state ∙ (λ i. record (c.in_ok-user.ensures.state i) {
    leaves = in_leaf (path_at (paths i) c.in-Ok.numbers.leaf) (submitted (new_app (path_at (paths i) c.in-Ok.numbers.leaf) c.args.app.now (user i) (label_at (partitions i) c.in-Ok.numbers.home) c.args.master.now)) (c.in_ok-user.ensures.state i).leaves;
  })

  submits : accepted w.config (state_in w) (Submit c.args.queue.now c.args.app.now c.args.user.now c.args.label.now c.args.master.now) ≡ done (state_in u)
  submits = does.submits w u c.args.queue.now c.args.app.now c.args.user.now c.args.label.now c.args.master.now c.in-Ok.numbers c.in-Ok.ensures.comes state

pub invariant_of-self-2 : goal.invariant_of-self-2
invariant_of-self-2 c = record {
  working =
      works (w c) (u c) (Submit c.args.queue.now c.args.app.now c.args.user.now c.args.label.now c.args.master.now) Done (c.in-Ok.ensures.free c.args.user.now) (config c) (submits c) c.amount-sized.ensures.range c.self.invariant.working;
  shut = c.in_ok-submit.ensures.shut (shut-stays (w c) (known c) c.self.inside.shut (ap (λ (v : ClusterView). v.config) c.in_ok-user.ensures.ok) c.in_ok-user.ensures.state (partitions c) (paths c) c.self.invariant.shut);
  lists =
      let v = (known c).rows in
      subst (λ (rows : Rows). AreListsOf rows c.forget.new.self) (sym (ap (λ (v : ClusterView). v.rows) c.in_ok-submit.ensures.rows.1))
      (lists-stay v c.inventory-2.ensures.sound _ c.in-Ok.numbers.leaf
      (submitted-elsewhere v c.inventory-2.ensures.sound _ c.in_ok-submit.ensures.unused c.in_ok-submit.ensures.rows.0 c.args.app.now c.in-Ok.numbers.tenant c.in-Ok.numbers.leaf c.in_ok-user.field-0 c.in-Ok.numbers.home _)
      c.self.inside.lists c.forget.new.self c.forget.ensures.gone c.forget.ensures.others
      (lists-known (w c).rows v c.inventory.ensures.sound c.args.user.now (ap (λ (v : ClusterView). v.rows) c.in_ok-user.ensures.ok) c.self.inside.lists c.self.invariant.lists));
}

pub returns-clause-ok : goal.returns-clause-ok
returns-clause-ok c =
    subst (λ (v : World). Answers v (Submit c.args.queue.now c.args.app.now c.args.user.now c.args.label.now c.args.master.now) (world_in (u c)) Done) c.self.view_is
    (answers (w c) (u c) (Submit c.args.queue.now c.args.app.now c.args.user.now c.args.label.now c.args.master.now) Done (c.in-Ok.ensures.free c.args.user.now) (config c) (submits c))

-- where memory is refused nothing has changed but that the user may be known
pub invariant_of-self-in_err-submit : goal.invariant_of-self-in_err-submit
invariant_of-self-in_err-submit c =
    let w = c.self.inside.cluster in
    let known = c.user.new.self in
    let same : c.submit-2.new.cluster ≡ c.user.new.self = c.in_err-submit.ensures.err in
    let config = ap (λ (v : ClusterView). v.config) c.in_ok-user.ensures.ok in
    let partitions = ap (λ (v : ClusterView). v.rows.partitions) c.in_ok-user.ensures.ok ∙ (user-leaves c.args.user.now w.rows).0 in
    let paths = ap (λ (v : ClusterView). v.rows.paths) c.in_ok-user.ensures.ok ∙ (user-leaves c.args.user.now w.rows).1 in
    record {
      working =
          subst (λ (v : ClusterView). WorksAndIsTold v.config (state_in v)) (sym same)
          (subst (λ configured. WorksAndIsTold configured (state_in known)) (sym config) (subst (WorksAndIsTold w.config) (sym c.in_ok-user.ensures.state) c.self.invariant.working));
      shut = c.in_err-submit.ensures.shut (shut-stays w known c.self.inside.shut config c.in_ok-user.ensures.state partitions paths c.self.invariant.shut);
      lists =
          subst (λ (v : ClusterView). AreListsOf v.rows c.self.inside.lists) (sym same)
          (lists-known w.rows known.rows c.inventory.ensures.sound c.args.user.now (ap (λ (v : ClusterView). v.rows) c.in_ok-user.ensures.ok) c.self.inside.lists c.self.invariant.lists);
    }
