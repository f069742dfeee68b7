-- What is tested of an ask by numbers is what the model tests.
use Rattle.std.proofs.Common.{◌≡◌, ℕ, Bool, true, false, cond, not, ◌+◌, ◌&&◌, nat_eq, nat_le, nat_lt, is_some, List, [], ◌∷◌, map, find, count_by, Some, refl, sym, ap, ◌∙◌}
use Rattle.std.specs.List.{AllByRecursion}
use Rattle.std.specs.Map.{lookup}
use Rattle.std.specs.Option.{option_map_or}
use Rattle.std.proofs.lemmas.List.Sums.{sum_by-cons}
use Rattle.std.proofs.lemmas.Option.{same_Some}
use Rattle.ynl_resource.specs.Names.{is_default, same_label}
use Rattle.ynl_resource.specs.Ranges.{most_asks}
use Rattle.ynl_resource.specs.declared.names.Name.{Name}
use Rattle.ynl_resource.specs.declared.labels.Label.{Label}
use Rattle.ynl_resource.specs.declared.labels.Label.TheVariants.{Named, Unlabelled}
use Rattle.ynl_model.specs.declared.applications.AskRow.{AskRow}
use Rattle.ynl_model.specs.Applications.{Application, is_ask_of as is_model_ask}
use Rattle.ynl_model.specs.Check.{app_that}
use Rattle.ynl_model.specs.Events.{is_foreign, is_one_too_many}
use Rattle.ynl_slots.proofs.Lists.{all_from}
use Rattle.ynl_tables.specs.declared.apps.asks.Ask.{Ask}
use Rattle.ynl_tables.specs.apps.Asks.{find_ask, is_ask_of}
use Rattle.ynl_inventory.specs.Rows.{AppRow}
use Rattle.ynl_inventory.specs.Meaning.{app_of, ask_of}
use Rattle.ynl_inventory.specs.Sound.{HasPartition, IsSound}
use Rattle.ynl_inventory.proofs.Asked.{asked-there}
use Rattle.ynl_inventory.proofs.Asking.{same-ask, same-label}
use Rattle.ynl_cluster.specs.Cluster.{ClusterView, label_of, state_in}
use Rattle.ynl_replies.specs.admission.Asks.{is_foreign_at, is_one_too_many_at}
use Rattle.ynl_replies.specs.admission.Named.{IsAppNamed, IsPartitionOf}

default-same : (label : Label) → is_default label ≡ same_label label Unlabelled
default-same Unlabelled = refl
default-same (Named name) = refl

module _ (w : ClusterView) (sound : IsSound w.rows) (p : ℕ) (there : HasPartition w.rows p) where
  -- a partition is DEFAULT where its number is 0
  default-told : is_default (label_of w p) ≡ nat_eq p 0
  default-told = default-same (label_of w p) ∙ ap (same_label (label_of w p)) (sym sound.default) ∙ same-label w.rows sound p 0 there sound.some

  module _ (asks : List Ask) (asked : AllByRecursion (λ ask. HasPartition w.rows ask.partition) asks) where
    -- the ask of a partition and a priority is there where the model's is
    found-alike : (priority : ℕ) → is_some (find (is_model_ask (label_of w p) priority) (map (ask_of w.rows.partitions) asks)) ≡ is_some (find_ask p priority asks)
    found-alike priority = go asks asked
      where
        go : (asks : List Ask) → AllByRecursion (λ ask. HasPartition w.rows ask.partition) asks
            → is_some (find (is_model_ask (label_of w p) priority) (map (ask_of w.rows.partitions) asks)) ≡ is_some (find (is_ask_of p priority) asks)
        go [] h = refl
        go (ask ∷ asks) h =
            ap (λ (b : Bool). is_some (cond b (Some (ask_of w.rows.partitions ask)) (find (is_model_ask (label_of w p) priority) (map (ask_of w.rows.partitions) asks))))
            (same-ask w.rows sound p priority there ask h.0)
            ∙ step (is_ask_of p priority ask) (go asks h.1)
          where
            step : (b : Bool) → is_some (find (is_model_ask (label_of w p) priority) (map (ask_of w.rows.partitions) asks)) ≡ is_some (find (is_ask_of p priority) asks)
                → is_some (cond b (Some (ask_of w.rows.partitions ask)) (find (is_model_ask (label_of w p) priority) (map (ask_of w.rows.partitions) asks))) ≡ is_some (cond b (Some ask) (find (is_ask_of p priority) asks))
            step true rest = refl
            step false rest = rest

    -- and there are as many of the partition
    count-alike : count_by (λ ask. same_label ask.label (label_of w p)) (map (ask_of w.rows.partitions) asks) ≡ count_by (λ ask. nat_eq ask.partition p) asks
    count-alike = go asks asked
      where
        go : (asks : List Ask) → AllByRecursion (λ ask. HasPartition w.rows ask.partition) asks
            → count_by (λ ask. same_label ask.label (label_of w p)) (map (ask_of w.rows.partitions) asks) ≡ count_by (λ ask. nat_eq ask.partition p) asks
        go [] h = refl
        go (ask ∷ asks) h =
            sum_by-cons (λ (ask : AskRow). cond (same_label ask.label (label_of w p)) 1 0) (ask_of w.rows.partitions ask) (map (ask_of w.rows.partitions) asks)
            ∙ (λ i. cond (same-label w.rows sound ask.partition p h.0 there i) 1 0 + go asks h.1 i)
            ∙ sym (sum_by-cons (λ (ask : Ask). cond (nat_eq ask.partition p) 1 0) ask asks)

module _ (w : ClusterView) (sound : IsSound w.rows) (tenant name : Name) (app : ℕ) (its : IsAppNamed w tenant name app) (row : AppRow) (found : lookup (nat_eq app) w.rows.apps ≡ Some row)
    (label : Label) (p : ℕ) (on : IsPartitionOf w label p) where
  row-is : its.row ≡ row
  row-is = same_Some its.row row (sym its.found ∙ found)

  that-is : (test : Application → Bool) → app_that (state_in w) tenant name test ≡ test (app_of w.rows (app, row))
  that-is test = ap (λ o. option_map_or test o false) its.named ∙ ap (λ (row : AppRow). test (app_of w.rows (app, row))) row-is

  home : HasPartition w.rows row.home
  home = (sound.apps app row found).home

  -- an ask is foreign where the model says so
  pub foreign-told : app_that (state_in w) tenant name (is_foreign label) ≡ is_foreign_at p row.home
  foreign-told =
      that-is (is_foreign label)
      ∙ ap (λ (label : Label). not (is_default label) && not (same_label (label_of w row.home) label)) (sym on.own)
      ∙ (λ i. not (default-told w sound p on.there i) && not (same-label w.rows sound row.home p home on.there i))

  asked : AllByRecursion (λ ask. HasPartition w.rows ask.partition) row.asks
  asked = all_from (λ ask. HasPartition w.rows ask.partition) row.asks (asked-there w.rows sound row.home home row.asks (sound.apps app row found).asked)

  -- and it is one too many where the model says so
  pub many-told : (priority count : ℕ) → app_that (state_in w) tenant name (is_one_too_many label priority count) ≡ is_one_too_many_at p priority count row.asks
  many-told priority count =
      that-is (is_one_too_many label priority count)
      ∙ ap (λ (label : Label). is_one_too_many label priority count (app_of w.rows (app, row))) (sym on.own)
      ∙ (λ i. nat_lt 0 count && not (found-alike w sound p on.there row.asks asked priority i) && nat_le most_asks (count-alike w sound p on.there row.asks asked i))
