use Rattle.std.proofs.Common.{◌≡◌, None, sym, ap, subst, ◌∙◌}
use Rattle.ynl_resource.specs.Refusals.{first_that_holds}
use Rattle.ynl_model.specs.declared.events.Event.TheVariants.{Commit}
use Rattle.ynl_model.specs.declared.replies.Reply.TheVariants.{Committed}
use Rattle.ynl_model.specs.Changes.{container_of, place}
use Rattle.ynl_model.specs.Events.{accepted, reasons}
use Rattle.ynl_inventory.specs.Meaning.{item_of, node_of}
use Rattle.ynl_inventory.specs.Changes.{with_placed}
use Rattle.ynl_inventory.specs.Parts.{app_row}
use Rattle.ynl_inventory.specs.Rows.{Rows}
use Rattle.ynl_inventory.specs.Sound.{IsPlaceable}
use Rattle.ynl_sights.specs.Lists.{AreListsOf}
use Rattle.ynl_sights.proofs.Placed.{placed-elsewhere}
use Rattle.ynl_sights.proofs.Staying.{lists-stay}
use Rattle.ynl_cluster.specs.Cluster.{ClusterView, state_in}
use Rattle.ynl_core.specs.World.{Answers, World}
use Rattle.ynl_core.proofs.Accepted as does
use Rattle.ynl_core.proofs.Known.{shut-stays}
use Rattle.ynl_core.proofs.Stepping.{answers, works, world_in}
use Rattle.ynl_core.proofs.cluster.Core.commit.Goals as goal

module _ (c : goal.After-forget) where
  abbrev w : ClusterView
  w = c.self.inside.cluster

  -- there may be more room in it
  abbrev roomy : ClusterView
  roomy = c.reserve_for.new.self

  abbrev u : ClusterView
  u = c.place-placed.new.cluster

  config : u.config ≡ w.config
  config = ap (λ (v : ClusterView). v.config) c.place-placed.ensures.rows.1 ∙ ap (λ (v : ClusterView). v.config) c.reserve_for.ensures.rows

  state : state_in u ≡ place w.config (node_of w.rows.partitions c.in-Ok.ensures.placement.placeable.node_row)
      (item_of w.rows c.in-Ok.ensures.placement.placeable.app_row c.in-Ok.placement.role c.in-Ok.placement.size) (state_in w)
  state =
      subst (λ (v : ClusterView). (can : IsPlaceable v.rows c.in-Ok.placement.node c.in-Ok.placement.app c.in-Ok.placement.role)
      → state_in u ≡ place v.config (node_of v.rows.partitions can.node_row) (item_of v.rows can.app_row c.in-Ok.placement.role c.in-Ok.placement.size) (state_in v)) c.reserve_for.ensures.rows
      c.place-placed.ensures.state c.in-Ok.ensures.placement.placeable

  told : c.place-placed.result ≡ container_of w.config (state_in w) (node_of w.rows.partitions c.in-Ok.ensures.placement.placeable.node_row)
      (item_of w.rows c.in-Ok.ensures.placement.placeable.app_row c.in-Ok.placement.role c.in-Ok.placement.size)
  told =
      subst (λ (v : ClusterView). (can : IsPlaceable v.rows c.in-Ok.placement.node c.in-Ok.placement.app c.in-Ok.placement.role)
      → c.place-placed.result ≡ container_of v.config (state_in v) (node_of v.rows.partitions can.node_row) (item_of v.rows can.app_row c.in-Ok.placement.role c.in-Ok.placement.size)) c.reserve_for.ensures.rows
      c.place-placed.ensures.told c.in-Ok.ensures.placement.placeable

  does-it : accepted w.config (state_in w) (Commit c.args.proposal.now) ≡ record { state = state_in u; reply = Committed c.place-placed.result }
  does-it = does.committed w u c.args.proposal.now c.in-Ok.placement c.in-Ok.ensures.placement c.place-placed.result state told

  free : first_that_holds (reasons w.config (state_in w) (Commit c.args.proposal.now)) ≡ None
  unfolding reasons
  free = c.in-Ok.ensures.free

pub invariant_of-self-2 : goal.invariant_of-self-2
invariant_of-self-2 c = record {
  working = works (w c) (u c) (Commit c.args.proposal.now) (Committed c.place-placed.result) (free c) (config c) (does-it c) c.amount-sized.ensures.range c.self.invariant.working;
  shut =
      c.place-placed.ensures.shut
      (shut-stays (w c) (roomy c) c.check.new.shut (ap (λ (v : ClusterView). v.config) c.reserve_for.ensures.rows) (ap state_in c.reserve_for.ensures.rows) (ap (λ (v : ClusterView). v.rows.partitions) c.reserve_for.ensures.rows)
      (ap (λ (v : ClusterView). v.rows.paths) c.reserve_for.ensures.rows) c.check.ensures.shut);
  lists =
      subst (λ (v : Rows). AreListsOf v c.forget.new.self) (sym (ap (λ (v : ClusterView). v.rows) c.place-placed.ensures.rows.1 ∙ ap (λ (v : ClusterView). with_placed c.place-placed.ensures.rows.0 c.in-Ok.placement.node c.in-Ok.placement.app c.in-Ok.placement.role c.in-Ok.placement.size v.rows) c.reserve_for.ensures.rows))
      (lists-stay (w c).rows c.inventory-inventory.ensures.sound _ c.app.result.now.leaf
      (placed-elsewhere (w c).rows c.inventory-inventory.ensures.sound c.place-placed.ensures.rows.0 c.in-Ok.placement.node c.in-Ok.placement.app c.in-Ok.placement.role c.in-Ok.placement.size (app_row c.app.result.now)
      (rw c.inventory-inventory.ensures.value at c.app.ensures))
      c.self.inside.lists c.forget.new.self c.forget.ensures.gone c.forget.ensures.others c.self.invariant.lists);
}

pub returns-clause-ok : goal.returns-clause-ok
returns-clause-ok c =
    subst (λ (v : World). Answers v (Commit c.args.proposal.now) (world_in (u c)) (Committed c.place-placed.result)) c.self.view_is
    (answers (w c) (u c) (Commit c.args.proposal.now) (Committed c.place-placed.result) (free c) (config c) (does-it c))
