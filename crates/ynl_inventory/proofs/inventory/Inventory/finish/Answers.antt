-- An application is live no more: it had no containers, and its tenant keeps its name.
use Rattle.std.proofs.Common.{◌≡◌, ◌<◌, length, slice_get, Some, refl, sym, subst}
use Rattle.std.proofs.lemmas.Option.{slice_get_read}
use Rattle.ynl_slots.specs.Slots.{IsLive}
use Rattle.ynl_inventory.specs.Sound.{OwnsNoContainers}
use Rattle.ynl_inventory.specs.Parts.{Held}
use Rattle.ynl_inventory.proofs.AppParts.{app-live, tenant-inside, turn-inside, finished-sound, finished-linked, finished-some}
use Rattle.ynl_inventory.proofs.inventory.Inventory.finish.Goals as goal

pub remove-row-requires : goal.remove-row-requires
remove-row-requires c = app-live c.self.inside c.args.app (subst (λ (h : Held). IsLive c.args.app h.rows.apps) (sym c.self.view_is) c.requires.live)

pub index_mut-submissions-requires : goal.index_mut-submissions-requires
index_mut-submissions-requires c =
    subst (λ n. c.remove-row.result.tenant < n) (sym c.self.inside.tenants.ok.0)
    (tenant-inside c.self.inside c.self.invariant c.args.app c.remove-row.result c.remove-row.ensures.value)

pub finish-requires : goal.finish-requires
finish-requires c =
    turn-inside c.self.inside c.self.invariant c.args.app c.remove-row.result c.remove-row.ensures.value c.index_mut-submissions.result.now
    (slice_get_read c.self.inside.tenants.items (length c.self.inside.tenants.items) c.remove-row.result.tenant c.index_mut-submissions.result.now refl
    (tenant-inside c.self.inside c.self.invariant c.args.app c.remove-row.result c.remove-row.ensures.value) c.index_mut-submissions.ensures.value)

pub invariant_of-self : goal.invariant_of-self
invariant_of-self c =
    let there : slice_get c.self.inside.tenants.items c.remove-row.result.tenant ≡ Some c.index_mut-submissions.result.now =
    slice_get_read c.self.inside.tenants.items (length c.self.inside.tenants.items) c.remove-row.result.tenant c.index_mut-submissions.result.now refl
    (tenant-inside c.self.inside c.self.invariant c.args.app c.remove-row.result c.remove-row.ensures.value) c.index_mut-submissions.ensures.value
    in
    record {
      sound =
          finished-sound c.self.inside c.self.invariant c.args.app c.remove-row.result c.remove-row.ensures.value c.index_mut-submissions.result.now there c.remove-row.new.self
          c.remove-row.ensures.entries c.finish.new.self c.finish.ensures (subst (λ (h : Held). OwnsNoContainers h.rows c.args.app) (sym c.self.view_is) c.requires.empty);
      linked =
          finished-linked c.self.inside c.self.invariant c.args.app c.remove-row.result c.remove-row.ensures.value c.index_mut-submissions.result.now there c.remove-row.new.self
          c.remove-row.ensures.entries c.finish.new.self c.finish.ensures;
    }

pub returns-clause-rows : goal.returns-clause-rows
returns-clause-rows c =
    let there : slice_get c.self.inside.tenants.items c.remove-row.result.tenant ≡ Some c.index_mut-submissions.result.now =
    slice_get_read c.self.inside.tenants.items (length c.self.inside.tenants.items) c.remove-row.result.tenant c.index_mut-submissions.result.now refl
    (tenant-inside c.self.inside c.self.invariant c.args.app c.remove-row.result c.remove-row.ensures.value) c.index_mut-submissions.ensures.value
    in
    finished-some c.self.inside c.self.invariant c.args.app c.remove-row.result c.remove-row.ensures.value c.index_mut-submissions.result.now there c.remove-row.new.self
    c.remove-row.ensures.entries c.finish.new.self c.finish.ensures c.args.self.now c.self.view_is
