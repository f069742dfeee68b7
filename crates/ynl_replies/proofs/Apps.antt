-- What is told of an application: its containers of a partition, and what it asks for there.
use Rattle.std.proofs.Common.{◌≡◌, ℕ, ◌-◌, ◌≤◌, length, drop, List, [], filter, map, nat_eq, Some, option_map, sym, ap, ◌∙◌, arith}
use Rattle.std.specs.List.{AllByRecursion}
use Rattle.std.specs.Map.{lookup}
use Rattle.std.specs.Option.{option_map_or}
use Rattle.std.proofs.lemmas.Option.{same_Some}
use Rattle.ynl_resource.specs.Names.{same_label}
use Rattle.ynl_model.specs.declared.applications.AskRow.{AskRow}
use Rattle.ynl_model.specs.declared.queues.StopRow.{StopRow}
use Rattle.ynl_model.specs.declared.queues.MaximumRow.{MaximumRow}
use Rattle.ynl_model.specs.Applications.{find_app}
use Rattle.ynl_model.specs.Changes.{own_containers}
use Rattle.ynl_model.specs.Cluster.{containers_on, is_of}
use Rattle.ynl_model.specs.Events.{pending, pending_on, sorted}
use Rattle.ynl_laws.proofs.Lists.{filter-agree, filter-map}
use Rattle.ynl_slots.proofs.Lists.{all_from}
use Rattle.ynl_tables.specs.declared.apps.app.AppRow.{AppRow as AppPart}
use Rattle.ynl_tables.specs.declared.apps.asks.Ask.{Ask}
use Rattle.ynl_tables.specs.declared.containers.container.Container.{Container}
use Rattle.ynl_inventory.specs.Rows.{Rows, PartitionRow, AppRow}
use Rattle.ynl_inventory.specs.Apps.{containers_of}
use Rattle.ynl_inventory.specs.Meaning.{app_of, application_of, ask_of, label_at, placed_of, state_of}
use Rattle.ynl_inventory.specs.Parts.{Held, app_row}
use Rattle.ynl_inventory.specs.Sound.{HasPartition, IsApp, IsSound}
use Rattle.ynl_inventory.proofs.AppsFound.{app-found}
use Rattle.ynl_inventory.proofs.Asked.{asked-there}
use Rattle.ynl_inventory.proofs.Finding.{containers-at, own-label}
use Rattle.ynl_inventory.proofs.Lookups.{place-there}
use Rattle.ynl_inventory.proofs.Submitted.{app-submitted}
use Rattle.ynl_cluster.proofs.ledger.Means.{label-tells}
use Rattle.ynl_cluster.specs.Cluster.{ClusterView, held_in, label_of, maxima_in, name_in, stops_in, tenant_in}
use Rattle.ynl_cluster.proofs.Own.{own-means}
use Rattle.ynl_replies.specs.Pending.{pending_at}

-- the containers of a partition are those of its row
pub containers-mean : (v : Rows) → IsSound v → (stops : List StopRow) (maxima : List MaximumRow) (p : ℕ) → HasPartition v p
    → map (λ e. placed_of v (label_at v.partitions p) e.1) (containers_of v p) ≡ containers_on (state_of v stops maxima) (label_at v.partitions p)
containers-mean v sound stops maxima p has =
    let part = place-there v.partitions p has in
    let label = own-label v sound p part.0 part.1 in
    ap (λ o. map (λ e. placed_of v (label_at v.partitions p) e.1) (option_map_or (λ (row : PartitionRow). row.containers) o [])) part.1
    ∙ ap (λ l. map (λ (e : ℕ × Container). placed_of v l e.1) part.0.containers) label
    ∙ sym (containers-at v sound p part.0 part.1 stops maxima)
    ∙ ap (containers_on (state_of v stops maxima)) (sym label)

module _ (v : Rows) (sound : IsSound v) (stops : List StopRow) (maxima : List MaximumRow) (app : ℕ) (row : AppRow) (found : lookup (nat_eq app) v.apps ≡ Some row) where
  -- the application's containers are those with its number
  pub own-mean : (p : ℕ) → HasPartition v p
      → map (λ e. placed_of v (label_at v.partitions p) e.1) (filter (λ e. nat_eq e.1.app app) (containers_of v p))
      ≡ own_containers (state_of v stops maxima) (tenant_in v row) (name_in v row) (label_at v.partitions p)
  own-mean p has =
      let part = place-there v.partitions p has in
      let label = own-label v sound p part.0 part.1 in
      ap (λ o. map (λ e. placed_of v (label_at v.partitions p) e.1) (filter (λ e. nat_eq e.1.app app) (option_map_or (λ (row : PartitionRow). row.containers) o []))) part.1
      ∙ ap (λ l. map (λ (e : ℕ × Container). placed_of v l e.1) (filter (λ e. nat_eq e.1.app app) part.0.containers)) label
      ∙ sym (own-means v sound app row found p part.0 part.1)
      ∙ ap (filter (is_of (tenant_in v row) (name_in v row)))
      (sym (containers-at v sound p part.0 part.1 stops maxima) ∙ ap (containers_on (state_of v stops maxima)) (sym label))

  -- it is found by its tenant and name
  pub app-is : find_app (state_of v stops maxima).leaves (tenant_in v row) (name_in v row) ≡ Some (app_of v (app, row))
  app-is =
      app-found v sound row.tenant row.turn (name_in v row) (record { leaf = row.leaf; app = Some app }) (app-submitted v sound app row found)
      ∙ ap (option_map (application_of v (name_in v row))) found

  -- and its asks for a partition are those with its number
  pub pending-means : (p : ℕ) → HasPartition v p → pending_at v.partitions p row.asks ≡ pending_on (label_at v.partitions p) (app_of v (app, row))
  pending-means p has =
      ap (λ asks. map pending (sorted asks))
      (ap (map (ask_of v.partitions))
      (filter-agree (λ (ask : Ask). HasPartition v ask.partition) (λ ask. nat_eq ask.partition p) (λ ask. same_label (label_at v.partitions ask.partition) (label_at v.partitions p))
      (λ ask there. sym (label-tells v sound p has ask.partition there)) row.asks each)
      ∙ sym (filter-map (ask_of v.partitions) (λ (ask : AskRow). same_label ask.label (label_at v.partitions p)) row.asks))
    where
      its : IsApp v app row
      its = sound.apps app row found

      each : AllByRecursion (λ ask. HasPartition v ask.partition) row.asks
      each = all_from (λ (ask : Ask). HasPartition v ask.partition) row.asks (asked-there v sound row.home its.home row.asks its.asked)

-- where all asks of the application that was read came to their places, they are what is told
pub all-asked : (w : ClusterView) → IsSound w.rows → (app p : ℕ) → HasPartition w.rows p → (h : Held) → h ≡ held_in w → (part : AppPart) → lookup (nat_eq app) h.rows.apps ≡ Some (app_row part)
    → (asks : List Ask) → asks ≡ part.asks → (i : ℕ) → length asks ≤ i → (row : AppRow) → lookup (nat_eq app) w.rows.apps ≡ Some row
    → pending_at w.rows.partitions p (drop (length asks - i) asks) ≡ pending_on (label_of w p) (app_of w.rows (app, row))
all-asked w sound app p has h is part at asks asks-are i all row found =
    let none : length asks - i ≡ 0 = omega (arith, all) in
    let one : app_row part ≡ row = same_Some (app_row part) row (sym at ∙ ap (λ (h : Held). lookup (nat_eq app) h.rows.apps) is ∙ found) in
    ap (λ n. pending_at w.rows.partitions p (drop n asks)) none
    ∙ ap (pending_at w.rows.partitions p) (asks-are ∙ ap (λ (row : AppRow). row.asks) one)
    ∙ pending-means w.rows sound (stops_in w) (maxima_in w) app row found p has
