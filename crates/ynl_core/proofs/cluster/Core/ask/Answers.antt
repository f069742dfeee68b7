use Rattle.std.proofs.Common.{sym, ap, subst}
use Rattle.ynl_model.specs.declared.events.Event.TheVariants.{Exited, Finish, Heartbeat, Lost, Maximum, Register, Relabel, Release, Submit}
use Rattle.ynl_model.specs.declared.events.Event.TheVariants as event
use Rattle.ynl_model.specs.declared.replies.Reply.TheVariants.{Done}
use Rattle.ynl_cluster.specs.Cluster.{ClusterView}
use Rattle.ynl_core.specs.World.{Answers, World}
use Rattle.ynl_core.proofs.Accepted as does
use Rattle.ynl_inventory.specs.Changes.{with_asked}
use Rattle.ynl_inventory.specs.Parts.{app_row}
use Rattle.ynl_inventory.specs.Rows.{Rows}
use Rattle.ynl_sights.specs.Lists.{AreListsOf}
use Rattle.ynl_sights.proofs.Asked.{asked-elsewhere}
use Rattle.ynl_sights.proofs.Staying.{lists-stay}
use Rattle.ynl_core.proofs.Stepping.{answers, works, world_in}
use Rattle.ynl_core.proofs.cluster.Core.ask.Goals as goal

pub invariant_of-self-2 : goal.invariant_of-self-2
invariant_of-self-2 c =
    let asks = c.in-Ok.ensures.asks in
    record {
      working =
          works c.self.inside.cluster c.ask-2.new.cluster (event.Ask c.args.tenant.now c.args.name.now c.args.row.now.label c.args.row.now.priority c.args.row.now.count c.args.row.now.size) Done c.in-Ok.ensures.free
          (ap (λ (w : ClusterView). w.config) c.in_ok-ask.ensures.ok)
          (does.asks c.self.inside.cluster c.ask-2.new.cluster c.args.tenant.now c.args.name.now c.args.row.now c.in-Ok.asking asks (c.in_ok-ask.ensures.state asks.app.row asks.app.found)) c.amount-sized.ensures.range c.self.invariant.working;
      shut = c.in_ok-ask.ensures.shut c.self.invariant.shut;
      lists =
          let v = c.self.inside.cluster.rows in
          subst (λ (rows : Rows). AreListsOf rows c.forget.new.self) (sym (ap (λ (w : ClusterView). w.rows) c.in_ok-ask.ensures.ok))
          (lists-stay v c.inventory.ensures.sound (with_asked c.in-Ok.asking.app c.in-Ok.asking.ask v) c.app.result.now.leaf
          (asked-elsewhere v c.inventory.ensures.sound c.in-Ok.asking.app c.in-Ok.asking.ask (app_row c.app.result.now) (rw c.inventory.ensures.value at c.app.ensures)) c.self.inside.lists c.forget.new.self
          c.forget.ensures.gone c.forget.ensures.others c.self.invariant.lists);
    }

pub returns-clause-ok : goal.returns-clause-ok
returns-clause-ok c =
    let asks = c.in-Ok.ensures.asks in
    subst (λ (v : World). Answers v (event.Ask c.args.tenant.now c.args.name.now c.args.row.now.label c.args.row.now.priority c.args.row.now.count c.args.row.now.size) (world_in c.ask-2.new.cluster) Done) c.self.view_is
    (answers c.self.inside.cluster c.ask-2.new.cluster (event.Ask c.args.tenant.now c.args.name.now c.args.row.now.label c.args.row.now.priority c.args.row.now.count c.args.row.now.size) Done c.in-Ok.ensures.free
    (ap (λ (w : ClusterView). w.config) c.in_ok-ask.ensures.ok)
    (does.asks c.self.inside.cluster c.ask-2.new.cluster c.args.tenant.now c.args.name.now c.args.row.now c.in-Ok.asking asks (c.in_ok-ask.ensures.state asks.app.row asks.app.found)))
