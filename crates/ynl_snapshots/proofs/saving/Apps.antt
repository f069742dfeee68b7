-- Live applications in places, and what the model has of them.
use Rattle.std.proofs.Common.{◌≡◌, ◌<◌, ℕ, List, [], length, map, slice_get, Some, option_map, nat_eq, sym, ap, subst, ◌∙◌}
use Rattle.std.specs.Prelude.{IfSome, slice_index_or}
use Rattle.std.specs.List.{AllByRecursion}
use Rattle.std.specs.Map.{lookup}
use Rattle.std.specs.Option.{option_and_then, option_map_or}
use Rattle.std.proofs.lemmas.Option.{get_or_from_slice_get, same_Some, slice_get-map, slice_get_within}
use Rattle.ynl_resource.specs.Names.{tenant_of}
use Rattle.ynl_resource.specs.declared.labels.Label.{Label}
use Rattle.ynl_resource.specs.declared.names.Name.{Name}
use Rattle.ynl_resource.specs.declared.paths.Path.{Path}
use Rattle.ynl_inventory.specs.layout.Paths.{HasNumber, path_at}
use Rattle.ynl_tables.specs.declared.apps.asks.Ask.{Ask}
use Rattle.ynl_tables.specs.declared.submissions.submissions.Submission.{Submission}
use Rattle.ynl_inventory.specs.Rows.{Rows, AppRow}
use Rattle.ynl_inventory.specs.Meaning.{app_name, app_of, application_of, ask_of, label_at, live_of, submitted_to, tenant_name}
use Rattle.ynl_inventory.specs.Sound.{HasPartition, IsSound}
use Rattle.ynl_inventory.proofs.Submitted.{app-submission, submission, tenant-there}
use Rattle.ynl_inventory.proofs.Asked.{asked-there}
use Rattle.ynl_inventory.proofs.Lookups.{in-place, place-there}
use Rattle.ynl_slots.proofs.Lists.{all_from}
use Rattle.ynl_inventory.proofs.Tenants.{tenant-named}
use Rattle.ynl_inventory.specs.Parts.{Held}
use Rattle.ynl_cluster.specs.Cluster.{ClusterView, held_in}
use Rattle.ynl_saved.specs.declared.lines.StateLine.{StateLine}
use Rattle.ynl_saved.specs.declared.lines.StateLine.TheVariants.{Ask as AskLine, Live as LiveLine}
use Rattle.ynl_saved.specs.Saving.{live_line}

module _ (v : Rows) (sound : IsSound v) (app : ℕ) (row : AppRow) (found : lookup (nat_eq app) v.apps ≡ Some row) where
  -- an application's tenant is that of its leaf
  pub tenant-own : tenant_name v.paths row.tenant ≡ tenant_of (path_at v.paths row.leaf)
  tenant-own =
      let is = app-submission v sound app row found in
      ap (tenant_name v.paths) (sym is.tenant) ∙ tenant-named v.paths sound.tree row.leaf is.there is.leaf

  -- the tenant is a queue
  pub tenant-number : HasNumber v.paths row.tenant
  tenant-number =
      let is = app-submission v sound app row found in
      let n = slice_get_within v.tenants row.tenant (submitted_to v.tenants row.tenant) (tenant-there v.tenants row.tenant row.turn ((sound.apps app row found).name, record { leaf = row.leaf; app = Some app }) (sound.apps app row found).submitted) in
      subst (λ (k : ℕ). row.tenant < k) sound.many n

  -- what it asks for it asks for on partitions that are there
  pub each-asked : AllByRecursion (λ (ask : Ask). HasPartition v ask.partition) row.asks
  each-asked = let its = sound.apps app row found in all_from (λ (ask : Ask). HasPartition v ask.partition) row.asks (asked-there v sound row.home its.home row.asks its.asked)

  pub ask-partition : (place : ℕ) (ask : Ask) → slice_get row.asks place ≡ Some ask → HasPartition v ask.partition
  ask-partition place ask at = in-place (λ (ask : Ask). HasPartition v ask.partition) row.asks place ask each-asked at

  -- what is told of it is what the model has
  pub live-told : (leaf : Path) (name user : Name) (home : Label) → leaf ≡ path_at v.paths row.leaf → name ≡ app_name v.tenants row.tenant row.turn → slice_get v.users row.user ≡ Some user
      → home ≡ label_at v.partitions row.home → LiveLine leaf name user home row.master ≡ live_line (app_of v (app, row))
  live-told leaf name user home leaf-is name-is user-is home-is =
      let user-named : user ≡ slice_index_or v.users row.user [] = sym (get_or_from_slice_get v.users row.user user [] user-is) in
      λ i. LiveLine (leaf-is i) (name-is i) (user-named i) (home-is i) row.master

  -- and of an ask of it
  pub ask-told : (ask : Ask) (tenant name : Name) (label : Label) → tenant ≡ tenant_name v.paths row.tenant → name ≡ app_name v.tenants row.tenant row.turn → label ≡ label_at v.partitions ask.partition
      → AskLine tenant name (record { label = label; priority = ask.priority; count = ask.count; size = ask.size }) ≡ AskLine (tenant_of (app_of v (app, row)).leaf) (app_of v (app, row)).name (ask_of v.partitions ask)
  ask-told ask tenant name label tenant-is name-is label-is =
      λ i. AskLine ((tenant-is ∙ tenant-own) i) (name-is i) (record { label = label-is i; priority = ask.priority; count = ask.count; size = ask.size })

  -- the line of an ask is the one in its place
  pub ask-line-there : (place : ℕ) (ask : Ask) → slice_get row.asks place ≡ Some ask → (line : StateLine)
      → line ≡ AskLine (tenant_of (app_of v (app, row)).leaf) (app_of v (app, row)).name (ask_of v.partitions ask)
      → slice_get (map (AskLine (tenant_of (app_of v (app, row)).leaf) (app_of v (app, row)).name) (app_of v (app, row)).asks) place ≡ Some line
  ask-line-there place ask at line is =
      slice_get-map (AskLine (tenant_of (app_of v (app, row)).leaf) (app_of v (app, row)).name) (app_of v (app, row)).asks place
      ∙ ap (option_map (AskLine (tenant_of (app_of v (app, row)).leaf) (app_of v (app, row)).name)) (slice_get-map (ask_of v.partitions) row.asks place ∙ ap (option_map (ask_of v.partitions)) at)
      ∙ ap (λ (line : StateLine). Some line) (sym is)

-- a live submission's application is that of its number
pub live-is : (v : Rows) → IsSound v → (t turn : ℕ) (e : Name × Submission) → slice_get (submitted_to v.tenants t) turn ≡ Some e → (app : ℕ) → e.1.app ≡ Some app → (row : AppRow) → lookup (nat_eq app) v.apps ≡ Some row
    → live_of v e ≡ Some (app_of v (app, row))
live-is v sound t turn e at app is row found =
    ap (λ o. option_map (application_of v e.0) (option_and_then (λ n. lookup (nat_eq n) v.apps) o)) is ∙ ap (option_map (application_of v e.0)) found
    ∙ ap (λ name. Some (application_of v name row)) named
  where
    own : (row.tenant ≡ t) × ((row.turn ≡ turn) × (row.leaf ≡ e.1.leaf))
    own = (submission v sound t turn e at).row app row is found

    named : e.0 ≡ app_name v.tenants row.tenant row.turn
    named =
        sym (ap (λ o. option_map_or (λ (f : Name × Submission). f.0) o []) (subst (λ u. slice_get (submitted_to v.tenants u) row.turn ≡ Some e) (sym own.0) (subst (λ k. slice_get (submitted_to v.tenants t) k ≡ Some e) (sym own.1.0) at)))

-- ---- the asks of an application, as they are counted

module _ (w : ClusterView) (h : Held) (is : h ≡ held_in w) (app : ℕ) (own : AppRow) (found : lookup (nat_eq app) h.rows.apps ≡ Some own) (asks : List Ask) (are : asks ≡ own.asks) where
  -- they are those of its row
  pub asks-row : (row : AppRow) → lookup (nat_eq app) w.rows.apps ≡ Some row → asks ≡ row.asks
  asks-row row at = are ∙ ap (λ (r : AppRow). r.asks) (same_Some own row (sym found ∙ ap (λ (h : Held). lookup (nat_eq app) h.rows.apps) is ∙ at))

  pub ask-counted : (i : ℕ) → i < length asks → IfSome (lookup (nat_eq app) w.rows.apps) (λ row. i < length row.asks)
  ask-counted i inside =
      subst (λ (h : Held). IfSome (lookup (nat_eq app) h.rows.apps) (λ row. i < length row.asks)) is
      (subst (λ o. IfSome o (λ (row : AppRow). i < length row.asks)) (sym found) (subst (λ (asks : List Ask). i < length asks) are inside))

  -- the line of one of them is the one in its place
  pub ask-line-counted : IsSound w.rows → (i : ℕ) → i < length asks → (row : AppRow) → (at : lookup (nat_eq app) w.rows.apps ≡ Some row) → (line : StateLine)
      → ((row : AppRow) (ask : Ask) → lookup (nat_eq app) w.rows.apps ≡ Some row → slice_get row.asks i ≡ Some ask → line ≡ AskLine (tenant_of (app_of w.rows (app, row)).leaf) (app_of w.rows (app, row)).name (ask_of w.rows.partitions ask))
      → slice_get (map (AskLine (tenant_of (app_of w.rows (app, row)).leaf) (app_of w.rows (app, row)).name) (app_of w.rows (app, row)).asks) i ≡ Some line
  ask-line-counted sound i inside row at line told =
      let there = place-there row.asks i (subst (λ (asks : List Ask). i < length asks) (asks-row row at) inside) in
      ask-line-there w.rows sound app row at i there.0 there.1 line (told row there.0 at there.1)
