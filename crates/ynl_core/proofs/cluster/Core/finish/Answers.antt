use Rattle.std.proofs.Common.{◌≡◌, sym, ap, subst, ◌∙◌}
use Rattle.std.proofs.lemmas.Option.{same_Some}
use Rattle.ynl_inventory.specs.Parts.{app_row}
use Rattle.ynl_sights.proofs.Finished.{finished-elsewhere}
use Rattle.ynl_sights.proofs.Staying.{lists-stay}
use Rattle.ynl_model.specs.declared.events.Event.TheVariants.{Finish}
use Rattle.ynl_model.specs.declared.replies.Reply.TheVariants.{Done}
use Rattle.ynl_cluster.specs.Cluster.{ClusterView}
use Rattle.ynl_core.proofs.Accepted as does
use Rattle.ynl_core.proofs.Stepping.{works}
use Rattle.std.specs.Prelude.{IfSome}
use Rattle.ynl_inventory.specs.Rows.{AppRow}
use Rattle.ynl_inventory.specs.Changes.{with_app_gone}
use Rattle.ynl_core.proofs.cluster.Core.finish.Goals as goal

pub invariant_of-self : goal.invariant_of-self
invariant_of-self c =
    let w = c.self.inside.cluster in
    let u = c.finish-2.new.cluster in
    let app = c.in-Ok.ensures.app in
    let state = c.finish-2.ensures.state app.row app.found in
    let rows =
    subst (λ o. IfSome o (λ (row : AppRow). u ≡ record w {
      rows = record (with_app_gone c.in-Ok.app row.tenant row.turn w.rows) { partitions = u.rows.partitions; nodes = u.rows.nodes };
      rooms = u.rooms;
    })) app.found c.finish-2.ensures.rows in
    let leaf = ap (λ (row : AppRow). row.leaf) (same_Some (app_row c.app.result.now) app.row (sym (rw c.inventory.ensures.value at c.app.ensures) ∙ app.found)) in
    record {
      working =
          works w u (Finish c.args.tenant.now c.args.name.now) Done c.in-Ok.ensures.free (ap (λ (w : ClusterView). w.config) rows)
          (does.finishes w u c.args.tenant.now c.args.name.now c.in-Ok.app app state) tt c.self.invariant.working;
      shut = c.finish-2.ensures.shut c.self.invariant.shut;
      lists =
          lists-stay w.rows c.inventory.ensures.sound u.rows c.app.result.now.leaf
          (λ q apart.
          finished-elsewhere w u c.inventory.ensures.sound c.inventory-2.ensures.sound c.inventory.ensures.configured c.inventory-2.ensures.configured c.self.invariant.working.works c.in-Ok.app app.row app.found rows state q
          (λ same. apart (same ∙ sym leaf)))
          c.self.inside.lists c.forget.new.self c.forget.ensures.gone c.forget.ensures.others c.self.invariant.lists;
    }
