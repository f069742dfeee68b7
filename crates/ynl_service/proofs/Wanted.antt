-- What an application wants by numbers is what the model says.
use Rattle.std.proofs.Common.{◌≡◌, ℕ, Bool, true, false, not, ◌&&◌, cond, nat_eq, List, [], ◌∷◌, map, find, slice_get, IsSome, Option, None, Some, refl, sym, ap, ◌∙◌, arith, true≢false}
use Rattle.std.specs.List.{AllByRecursion}
use Rattle.std.specs.Map.{lookup}
use Rattle.std.specs.Option.{option_map_or}
use Rattle.std.proofs.lemmas.Bool.{and_parts}
use Rattle.std.proofs.lemmas.Bool.Decides.{nat_tests}
use Rattle.ynl_resource.specs.declared.amounts.Resource.{Resource}
use Rattle.ynl_resource.specs.declared.names.Name.{Name}
use Rattle.ynl_model.specs.declared.applications.AskRow.{AskRow}
use Rattle.ynl_model.specs.Applications.{is_ask_of as is_model_ask}
use Rattle.ynl_model.specs.Check.{has_access, same_size, wants}
use Rattle.ynl_slots.proofs.Lists.{all_from}
use Rattle.ynl_tables.specs.declared.apps.asks.Ask.{Ask}
use Rattle.ynl_tables.specs.apps.Asks.{find_ask, is_ask_of}
use Rattle.ynl_tables.specs.declared.containers.container.Role.{Role}
use Rattle.ynl_tables.specs.declared.containers.container.Role.TheVariants.{Master, Ask as Asked}
use Rattle.ynl_inventory.specs.Rows.{AppRow, PartitionRow}
use Rattle.ynl_inventory.specs.Apps.{runs_at}
use Rattle.ynl_inventory.specs.Meaning.{app_of, ask_of, what_of}
use Rattle.ynl_inventory.specs.Sound.{CanTake, HasPartition, IsAskedThere, IsFor, IsSound}
use Rattle.ynl_inventory.proofs.Asked.{asked-there}
use Rattle.ynl_inventory.proofs.Asking.{same-ask, same-label}
use Rattle.ynl_cluster.proofs.requests.Running.{runs-means}
use Rattle.ynl_cluster.specs.Cluster.{ClusterView, label_of, maxima_in, state_in, stops_in}
use Rattle.ynl_service.specs.Checking.{is_wanted_at}
use Rattle.ynl_service.proofs.Accessing.{open-tells}

module _ (w : ClusterView) (sound : IsSound w.rows) (n : ℕ) (row : AppRow) (found : lookup (nat_eq n) w.rows.apps ≡ Some row) where
  home : HasPartition w.rows row.home
  home = (sound.apps n row found).home

  asked : AllByRecursion (λ ask. HasPartition w.rows ask.partition) row.asks
  asked = all_from (λ ask. HasPartition w.rows ask.partition) row.asks (asked-there w.rows sound row.home home row.asks (sound.apps n row found).asked)

  -- the ask of a partition and a priority is of a size where the model's is
  sizes-alike : (q priority : ℕ) → HasPartition w.rows q → (size : Resource) (asks : List Ask) → AllByRecursion (λ ask. HasPartition w.rows ask.partition) asks
      → option_map_or (λ (ask : AskRow). same_size ask.size size) (find (is_model_ask (label_of w q) priority) (map (ask_of w.rows.partitions) asks)) false
      ≡ option_map_or (λ (ask : Ask). same_size ask.size size) (find (is_ask_of q priority) asks) false
  sizes-alike q priority there size [] h = refl
  sizes-alike q priority there size (ask ∷ asks) h =
      ap (λ (b : Bool). option_map_or (λ (ask : AskRow). same_size ask.size size) (cond b (Some (ask_of w.rows.partitions ask)) (find (is_model_ask (label_of w q) priority) (map (ask_of w.rows.partitions) asks))) false)
      (same-ask w.rows sound q priority there ask h.0)
      ∙ step (is_ask_of q priority ask) (sizes-alike q priority there size asks h.1)
    where
      step : (b : Bool)
          → option_map_or (λ (ask : AskRow). same_size ask.size size) (find (is_model_ask (label_of w q) priority) (map (ask_of w.rows.partitions) asks)) false
          ≡ option_map_or (λ (ask : Ask). same_size ask.size size) (find (is_ask_of q priority) asks) false
          → option_map_or (λ (ask : AskRow). same_size ask.size size) (cond b (Some (ask_of w.rows.partitions ask)) (find (is_model_ask (label_of w q) priority) (map (ask_of w.rows.partitions) asks))) false
          ≡ option_map_or (λ (ask : Ask). same_size ask.size size) (cond b (Some ask) (find (is_ask_of q priority) asks)) false
      step true rest = refl
      step false rest = rest

  module _ (p : ℕ) (there : HasPartition w.rows p) (size : Resource) where
    pub wanted-told : (role : Role) → IsAskedThere w.rows role
        → wants (state_in w) (label_of w p) (what_of w.rows.partitions role) size (app_of w.rows (n, row)) ≡ is_wanted_at (runs_at w.rows n row) p row role size
    wanted-told Master on = λ i. not (runs-means w.rows sound (stops_in w) (maxima_in w) n row found i) && same-label w.rows sound row.home p home there i && same_size row.master size
    wanted-told (Asked q priority) on = λ i. runs-means w.rows sound (stops_in w) (maxima_in w) n row found i && sizes-alike q priority on size row.asks asked i

    -- what is wanted, and may be placed, can be taken
    pub wanted-taken : IsFor w.config w.rows → (tenant : Name) (role : Role) → IsAskedThere w.rows role → has_access w.config (label_of w p) tenant (what_of w.rows.partitions role) ≡ true
        → is_wanted_at (runs_at w.rows n row) p row role size ≡ true → (part : PartitionRow) → slice_get w.rows.partitions p ≡ Some part → CanTake w.rows n p part.guests row role
    wanted-taken configured tenant Master on open_to wanted part at =
        let parts = and_parts (not (runs_at w.rows n row) && nat_eq row.home p) (same_size row.master size) wanted in
        let both = and_parts (not (runs_at w.rows n row)) (nat_eq row.home p) parts.0 in
        let here : nat_eq row.home p ≡ true = both.1 in
        (grind (arith, nat_tests, here), waits (runs_at w.rows n row) both.0)
      where
        waits : (b : Bool) → not b ≡ true → b ≡ false
        waits true h = absurd (true≢false (sym h))
        waits false h = refl
    wanted-taken configured tenant (Asked q priority) on open_to wanted part at = (
      some (find_ask q priority row.asks) (and_parts (runs_at w.rows n row) (option_map_or (λ (ask : Ask). same_size ask.size size) (find_ask q priority row.asks) false) wanted).1,
      open-tells w sound configured p there tenant q priority on open_to part at,
    )
      where
        some : (o : Option Ask) → option_map_or (λ (ask : Ask). same_size ask.size size) o false ≡ true → IsSome o
        some None h = absurd (true≢false (sym h))
        some (Some ask) h = refl
