-- An application comes and finishes, as its line says.
use Rattle.std.proofs.Common.{◌<◌, ℕ, length, sym, ap, subst, ◌∙◌}
use Rattle.ynl_resource.specs.declared.labels.Label.TheVariants.{Unlabelled}
use Rattle.ynl_model.specs.Changes.{app_finishes}
use Rattle.ynl_inventory.specs.Meaning.{app_of}
use Rattle.ynl_cluster.specs.Cluster.{ClusterView, path_of, state_in}
use Rattle.ynl_saved.specs.declared.lines.StateLine.TheVariants.{Finished}
use Rattle.ynl_saved.specs.Restoring.{with_line}
use Rattle.ynl_snapshots.proofs.restoring.Coming.{can-submit, live-told, same}
use Rattle.ynl_snapshots.proofs.restoring.Finishing.{come-unused, finished-numbers, finished-sound, finished-told, its-row, row-found, row-leaf, row-live, row-name, unused-missing}
use Rattle.ynl_snapshots.proofs.restoring.Taken.{refused, taken}
use Rattle.ynl_resource.specs.Names.{tenant_of}
use Rattle.ynl_snapshots.proofs.restoring.applications.take_finished.Goals as goal

pub tenant_name-user-requires-clause-below_root : goal.tenant_name-user-requires-clause-below_root
tenant_name-user-requires-clause-below_root c = c.in-Some.ensures.comes.below_root

pub returns-in_default : goal.returns-in_default
returns-in_default c r is =
    refused c.args.cluster.now r (Finished c.args.queue.now c.args.app.now)
    (finished-sound c.args.cluster.now.config r (state_in c.args.cluster.now) is c.args.queue.now c.args.app.now ∙ c.in_default.ensures.sound)

pub submit-requires : goal.submit-requires
submit-requires c =
    can-submit c.args.cluster.now c.user.new.self c.tenant_name-user.result c.in_ok-user.ensures.ok
    c.args.queue.now c.args.app.now Unlabelled (record { tenant = c.in-Some.coming.tenant; leaf = c.in-Some.coming.leaf; home = 0 }) (finished-numbers c.args.cluster.now c.inventory.ensures.sound c.args.queue.now c.args.app.now c.in-Some.coming c.in-Some.ensures.comes) c.in_ok-user.field-0 c.in_ok-user.ensures.own c.maximum_allocation.result

pub finish-requires : goal.finish-requires
finish-requires c =
    let there : c.in-Some.coming.tenant < length c.args.cluster.now.rows.tenants = subst (λ (n : ℕ). c.in-Some.coming.tenant < n) (sym c.inventory.ensures.sound.many) c.in-Some.ensures.comes.there in
    let inside : c.in-Some.coming.tenant < length c.user.new.self.rows.tenants = subst (λ (w : ClusterView). c.in-Some.coming.tenant < length w.rows.tenants) (sym (same c.args.cluster.now c.user.new.self c.tenant_name-user.result c.in_ok-user.ensures.ok)) there in
    row-live c.user.new.self c.submit.new.self c.in_ok-number.number c.args.app.now c.in-Some.coming.tenant c.in-Some.coming.leaf c.in_ok-user.field-0 0 c.maximum_allocation.result c.in_ok-number.ensures.rows.0 c.in_ok-number.ensures.rows.1 c.in_ok-number.ensures.unused inside

pub returns : goal.returns
unfolding with_line
returns c r is =
    let there : c.in-Some.coming.tenant < length c.args.cluster.now.rows.tenants = subst (λ (n : ℕ). c.in-Some.coming.tenant < n) (sym c.inventory.ensures.sound.many) c.in-Some.ensures.comes.there in
    let inside : c.in-Some.coming.tenant < length c.user.new.self.rows.tenants = subst (λ (w : ClusterView). c.in-Some.coming.tenant < length w.rows.tenants) (sym (same c.args.cluster.now c.user.new.self c.tenant_name-user.result c.in_ok-user.ensures.ok)) there in
    let unused = come-unused c.args.cluster.now.config (state_in c.args.cluster.now) c.args.queue.now c.args.app.now c.in-Some.ensures.sound in
    let came =
    live-told c.args.cluster.now c.user.new.self c.tenant_name-user.result c.in_ok-user.ensures.ok
    c.args.queue.now c.args.app.now Unlabelled (record { tenant = c.in-Some.coming.tenant; leaf = c.in-Some.coming.leaf; home = 0 }) (finished-numbers c.args.cluster.now c.inventory.ensures.sound c.args.queue.now c.args.app.now c.in-Some.coming c.in-Some.ensures.comes) c.in_ok-user.field-0 c.in_ok-user.ensures.own c.maximum_allocation.result c.in_ok-user.ensures.state (state_in c.submit.new.self) c.in_ok-number.ensures.state
    in
    let row = its-row c.user.new.self c.submit.new.self c.in_ok-number.number c.args.app.now c.in-Some.coming.tenant c.in-Some.coming.leaf c.in_ok-user.field-0 0 c.maximum_allocation.result c.in_ok-number.ensures.rows.0 c.in_ok-number.ensures.rows.1 c.in_ok-number.ensures.unused inside in
    taken c.args.cluster.now c.finish.new.self r (Finished c.args.queue.now c.args.app.now)
    (finished-sound c.args.cluster.now.config r (state_in c.args.cluster.now) is c.args.queue.now c.args.app.now ∙ c.in-Some.ensures.sound)
    (ap (λ (w : ClusterView). w.config) c.finish.ensures.same ∙ ap (λ (w : ClusterView). w.config) c.in_ok-number.ensures.rows.1 ∙ ap (λ (w : ClusterView). w.config) c.in_ok-user.ensures.ok)
    (c.finish.ensures.state row (row-found c.user.new.self c.submit.new.self c.in_ok-number.number c.args.app.now c.in-Some.coming.tenant c.in-Some.coming.leaf c.in_ok-user.field-0 0 c.maximum_allocation.result c.in_ok-number.ensures.rows.0 c.in_ok-number.ensures.rows.1 c.in_ok-number.ensures.unused inside)
    ∙ ap (app_finishes c.submit.new.self.config (app_of c.submit.new.self.rows (c.in_ok-number.number, row))) came
    ∙ finished-told c.args.cluster.now c.inventory.ensures.sound c.args.queue.now c.args.app.now (unused-missing (state_in c.args.cluster.now) (tenant_of c.args.queue.now) c.args.app.now unused) c.tenant_name-user.result Unlabelled c.maximum_allocation.result
    c.submit.new.self.config (app_of c.submit.new.self.rows (c.in_ok-number.number, row))
    (row-leaf c.user.new.self c.submit.new.self c.in_ok-number.number c.args.app.now c.in-Some.coming.tenant c.in-Some.coming.leaf c.in_ok-user.field-0 0 c.maximum_allocation.result c.in_ok-number.ensures.rows.0 c.in_ok-number.ensures.rows.1 c.in_ok-number.ensures.unused inside ∙ ap (λ (w : ClusterView). path_of w c.in-Some.coming.leaf) (same c.args.cluster.now c.user.new.self c.tenant_name-user.result c.in_ok-user.ensures.ok) ∙ c.in-Some.ensures.comes.queue_is.own)
    (row-name c.user.new.self c.submit.new.self c.in_ok-number.number c.args.app.now c.in-Some.coming.tenant c.in-Some.coming.leaf c.in_ok-user.field-0 0 c.maximum_allocation.result c.in_ok-number.ensures.rows.0 c.in_ok-number.ensures.rows.1 c.in_ok-number.ensures.unused inside))
