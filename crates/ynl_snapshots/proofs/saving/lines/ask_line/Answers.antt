-- An ask is told as the model has it.
use Rattle.std.proofs.Common.{◌≡◌, ◌<◌, length, nat_eq, slice_get, Some, List, ap, refl, subst, sym, ◌∙◌}
use Rattle.std.specs.Prelude.{IfSome}
use Rattle.std.specs.Map.{lookup}
use Rattle.std.proofs.lemmas.Option.{same_Some, slice_get_read}
use Rattle.ynl_resource.specs.Names.{tenant_of}
use Rattle.ynl_tables.specs.declared.apps.asks.Ask.{Ask}
use Rattle.ynl_inventory.specs.layout.Paths.{HasNumber}
use Rattle.ynl_inventory.specs.Rows.{AppRow}
use Rattle.ynl_inventory.specs.Meaning.{app_name, app_of, ask_of, label_at, tenant_name}
use Rattle.ynl_inventory.specs.Parts.{Held, app_row}
use Rattle.ynl_inventory.specs.Sound.{HasPartition}
use Rattle.ynl_inventory.proofs.PlacedRead.{tenant-below}
use Rattle.ynl_tables.proofs.containers.Removing.{at_live}
use Rattle.ynl_saved.specs.declared.lines.StateLine.TheVariants.{Ask as AskLine}
use Rattle.ynl_snapshots.proofs.saving.Apps.{ask-partition, ask-told, tenant-number}
use Rattle.ynl_snapshots.proofs.saving.lines.ask_line.Goals as goal

pub tenant_name-requires-clause-below_root : goal.tenant_name-requires-clause-below_root
tenant_name-requires-clause-below_root c =
    tenant-below c.args.cluster.now.rows c.inventory-inventory.ensures.sound c.args.app (app_row c.app-row.result.now) (rw c.inventory-inventory.ensures.value at c.app-row.ensures)

pub tenant_name-requires-clause-there : goal.tenant_name-requires-clause-there
tenant_name-requires-clause-there c =
    subst (λ (h : Held). HasNumber h.rows.paths c.app-row.result.now.tenant) (sym c.inventory-inventory.ensures.value)
    (tenant-number c.args.cluster.now.rows c.inventory-inventory.ensures.sound c.args.app (app_row c.app-row.result.now) (rw c.inventory-inventory.ensures.value at c.app-row.ensures))

pub label-requires : goal.label-requires
label-requires c =
    let w = c.args.cluster.now in
    let own = app_row c.app-row.result.now in
    let own-found : lookup (nat_eq c.args.app) w.rows.apps ≡ Some own = ap (λ (h : Held). lookup (nat_eq c.args.app) h.rows.apps) (sym c.inventory-inventory.ensures.value) ∙ c.app-row.ensures in
    let inside : c.args.place < length own.asks = at_live (λ (row : AppRow). c.args.place < length row.asks) (lookup (nat_eq c.args.app) w.rows.apps) own c.requires.there own-found in
    let there : slice_get own.asks c.args.place ≡ Some c.index-as_slice-place.result =
    ap (λ (asks : List Ask). slice_get asks c.args.place) (sym c.as_slice.ensures.value)
    ∙ slice_get_read c.as_slice.result.now (length c.as_slice.result.now) c.args.place c.index-as_slice-place.result refl (subst (λ (asks : List Ask). c.args.place < length asks) (sym c.as_slice.ensures.value) inside) c.index-as_slice-place.is
    in
    subst (λ (h : Held). HasPartition h.rows c.index-as_slice-place.result.partition) (sym c.inventory-inventory.ensures.value)
    (ask-partition w.rows c.inventory-inventory.ensures.sound c.args.app own own-found c.args.place c.index-as_slice-place.result there)

pub returns : goal.returns
returns c row ask found at =
    let w = c.args.cluster.now in
    let own = app_row c.app-row.result.now in
    let own-found : lookup (nat_eq c.args.app) w.rows.apps ≡ Some own = ap (λ (h : Held). lookup (nat_eq c.args.app) h.rows.apps) (sym c.inventory-inventory.ensures.value) ∙ c.app-row.ensures in
    let same : own ≡ row = same_Some own row (sym own-found ∙ found) in
    let inside : c.args.place < length own.asks = at_live (λ (row : AppRow). c.args.place < length row.asks) (lookup (nat_eq c.args.app) w.rows.apps) own c.requires.there own-found in
    let there : slice_get own.asks c.args.place ≡ Some c.index-as_slice-place.result =
    ap (λ (asks : List Ask). slice_get asks c.args.place) (sym c.as_slice.ensures.value)
    ∙ slice_get_read c.as_slice.result.now (length c.as_slice.result.now) c.args.place c.index-as_slice-place.result refl (subst (λ (asks : List Ask). c.args.place < length asks) (sym c.as_slice.ensures.value) inside) c.index-as_slice-place.is
    in
    let its : c.index-as_slice-place.result ≡ ask = same_Some c.index-as_slice-place.result ask (sym there ∙ ap (λ (r : AppRow). slice_get r.asks c.args.place) same ∙ at) in
    let named : IfSome (lookup (nat_eq c.args.app) w.rows.apps) (λ row. c.app_name.result.now ≡ app_name w.rows.tenants row.tenant row.turn) =
    subst (λ (h : Held). IfSome (lookup (nat_eq c.args.app) h.rows.apps) (λ row. c.app_name.result.now ≡ app_name h.rows.tenants row.tenant row.turn)) c.inventory-inventory.ensures.value c.app_name.ensures in
    ask-told w.rows c.inventory-inventory.ensures.sound c.args.app own own-found c.index-as_slice-place.result c.tenant_name.result c.app_name.result.now c.label.result.now
    (c.tenant_name.ensures ∙ ap (λ (h : Held). tenant_name h.rows.paths own.tenant) c.inventory-inventory.ensures.value)
    (at_live (λ (row : AppRow). c.app_name.result.now ≡ app_name w.rows.tenants row.tenant row.turn) (lookup (nat_eq c.args.app) w.rows.apps) own named own-found)
    (c.label.ensures ∙ ap (λ (h : Held). label_at h.rows.partitions c.index-as_slice-place.result.partition) c.inventory-inventory.ensures.value)
    ∙ (λ i. AskLine (tenant_of (app_of w.rows (c.args.app, same i)).leaf) (app_of w.rows (c.args.app, same i)).name (ask_of w.rows.partitions (its i)))
