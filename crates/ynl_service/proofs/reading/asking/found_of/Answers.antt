-- The row of a live application is that of the model's.
use Rattle.std.proofs.Common.{◌≡◌, ◌<◌, length, nat_eq, slice_get, Option, Some, ap, subst, sym, ◌∙◌}
use Rattle.std.specs.Prelude.{IfSome}
use Rattle.std.specs.Map.{lookup}
use Rattle.std.proofs.lemmas.Option.{same_Some}
use Rattle.ynl_inventory.specs.Rows.{AppRow}
use Rattle.ynl_inventory.specs.Apps.{runs_at}
use Rattle.ynl_inventory.specs.Meaning.{app_name, app_of, label_at}
use Rattle.ynl_inventory.specs.Parts.{Held, app_row}
use Rattle.ynl_inventory.specs.Sound.{HasPartition}
use Rattle.ynl_cluster.specs.Cluster.{state_in}
use Rattle.ynl_service.specs.reading.reasons.Facts.{found_of}
use Rattle.ynl_service.proofs.reading.Askers.{found-told, leaf-below_root, leaf-there}
use Rattle.ynl_service.proofs.reading.asking.found_of.Goals as goal

pub path_of-requires-clause-below_root : goal.path_of-requires-clause-below_root
path_of-requires-clause-below_root c =
    leaf-below_root c.args.cluster.now c.inventory-inventory.ensures.sound c.args.app (app_row c.app-row.result.now) (rw c.inventory-inventory.ensures.value at c.app-row.ensures)

pub path_of-requires-clause-there : goal.path_of-requires-clause-there
path_of-requires-clause-there c =
    leaf-there c.args.cluster.now c.inventory-inventory.ensures.sound c.args.app (app_row c.app-row.result.now) (rw c.inventory-inventory.ensures.value at c.app-row.ensures)

pub user_name-requires : goal.user_name-requires
user_name-requires c =
    subst (λ (h : Held). c.app-row.result.now.user < length h.rows.users) (sym c.inventory-inventory.ensures.value)
    (c.inventory-inventory.ensures.sound.apps c.args.app (app_row c.app-row.result.now) (rw c.inventory-inventory.ensures.value at c.app-row.ensures)).user

pub label-requires : goal.label-requires
label-requires c =
    subst (λ (h : Held). HasPartition h.rows c.app-row.result.now.home) (sym c.inventory-inventory.ensures.value)
    (c.inventory-inventory.ensures.sound.apps c.args.app (app_row c.app-row.result.now) (rw c.inventory-inventory.ensures.value at c.app-row.ensures)).home

pub returns : goal.returns
returns c row found =
    let w = c.args.cluster.now in
    let own = app_row c.app-row.result.now in
    let own-found : lookup (nat_eq c.args.app) w.rows.apps ≡ Some own = ap (λ (h : Held). lookup (nat_eq c.args.app) h.rows.apps) (sym c.inventory-inventory.ensures.value) ∙ c.app-row.ensures in
    let named : IfSome (lookup (nat_eq c.args.app) w.rows.apps) (λ row. c.app_name.result.now ≡ app_name w.rows.tenants row.tenant row.turn) =
    subst (λ (h : Held). IfSome (lookup (nat_eq c.args.app) h.rows.apps) (λ row. c.app_name.result.now ≡ app_name h.rows.tenants row.tenant row.turn)) c.inventory-inventory.ensures.value c.app_name.ensures in
    let running : IfSome (lookup (nat_eq c.args.app) w.rows.apps) (λ row. c.runs.result ≡ runs_at w.rows c.args.app row) =
    subst (λ (h : Held). IfSome (lookup (nat_eq c.args.app) h.rows.apps) (λ row. c.runs.result ≡ runs_at h.rows c.args.app row)) c.inventory-inventory.ensures.value c.runs.ensures in
    found-told w c.inventory-inventory.ensures.sound c.args.app own own-found c.path_of.result c.app_name.result.now c.user_name.result.now c.runs.result c.label.result.now c.path_of.ensures
    (subst (λ (o : Option AppRow). IfSome o (λ row. c.app_name.result.now ≡ app_name w.rows.tenants row.tenant row.turn)) own-found named)
    (ap (λ (h : Held). slice_get h.rows.users own.user) (sym c.inventory-inventory.ensures.value) ∙ c.user_name.ensures)
    (subst (λ (o : Option AppRow). IfSome o (λ row. c.runs.result ≡ runs_at w.rows c.args.app row)) own-found running)
    (c.label.ensures ∙ ap (λ (h : Held). label_at h.rows.partitions own.home) c.inventory-inventory.ensures.value)
    ∙ ap (λ (row : AppRow). found_of (state_in w) (app_of w.rows (c.args.app, row))) (same_Some own row (sym own-found ∙ found))
