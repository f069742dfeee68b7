-- What is tested of what a line's container is to its application.
use Rattle.std.proofs.Common.{◌≡◌, ℕ, true, false, not, ◌&&◌, ◌||◌, ◌==◌, nat_eq, slice_get, Some, refl, sym, ap, subst, ◌∙◌, arith, true≢false}
use Rattle.std.specs.Prelude.{slice_index_or}
use Rattle.std.specs.Map.{lookup}
use Rattle.std.proofs.lemmas.Bool.Decides.{nat_tests}
use Rattle.std.proofs.lemmas.Option.{slice_get-get_or, same_Some}
use Rattle.ynl_resource.specs.Names.{is_default, same_label}
use Rattle.ynl_resource.specs.declared.labels.Label.{Label}
use Rattle.ynl_resource.specs.declared.labels.Label.TheVariants.{Named, Unlabelled}
use Rattle.ynl_model.specs.declared.containers.Placed.{Placed}
use Rattle.ynl_model.specs.declared.proposals.What.TheVariants.{Master, Ask as Asked}
use Rattle.ynl_model.specs.Nodes.{has_label, is_exclusive}
use Rattle.ynl_model.specs.Queues.{Config}
use Rattle.ynl_model.specs.Service.{takes_guests}
use Rattle.ynl_laws.proofs.Names.{same-label_path}
use Rattle.ynl_inventory.specs.Apps.{runs_at}
use Rattle.ynl_inventory.specs.Meaning.{app_of}
use Rattle.ynl_inventory.specs.Rows.{AppRow, PartitionRow}
use Rattle.ynl_inventory.specs.Sound.{HasPartition, IsFor, IsSound}
use Rattle.ynl_inventory.proofs.Asking.{same-label}
use Rattle.ynl_inventory.proofs.Finding.{not-true, own-label}
use Rattle.ynl_cluster.specs.Cluster.{ClusterView, label_of, maxima_in, state_in, stops_in}
use Rattle.ynl_cluster.proofs.requests.Running.{runs-means}
use Rattle.ynl_saved.specs.Restoring.{asks_on, may_have}
use Rattle.ynl_saved.proofs.Served.{same-number_self}
use Rattle.ynl_replies.specs.admission.Named.{IsPartitionOf}
use Rattle.ynl_snapshots.proofs.restoring.NewAsks.{home-known}

default-same : (label : Label) → is_default label ≡ same_label label Unlabelled
default-same Unlabelled = refl
default-same (Named name) = refl

-- where DEFAULT's requests are taken the label is not exclusive
guests-open : (c : Config) (label : Label) → not (is_exclusive c.labels label) ≡ takes_guests c label
guests-open c Unlabelled = refl
guests-open c (Named name) = refl

module _ (w : ClusterView) (sound : IsSound w.rows) (configured : IsFor w.config w.rows) (n : ℕ) (row : AppRow) (found : lookup (nat_eq n) w.rows.apps ≡ Some row) (p : ℕ) (there : HasPartition w.rows p) (placed : Placed) (own : label_of w p ≡ placed.id.label) where
  -- a partition takes guests where its row says so
  guests-told : (part : PartitionRow) → slice_get w.rows.partitions p ≡ Some part → not (is_exclusive w.config.labels placed.id.label) ≡ part.guests
  guests-told part at =
      let is : slice_index_or w.rows.partitions p part ≡ part = same_Some (slice_index_or w.rows.partitions p part) part (sym (slice_get-get_or w.rows.partitions p part there) ∙ at) in
      guests-open w.config placed.id.label ∙ ap (takes_guests w.config) (sym own) ∙ ap (takes_guests w.config) (own-label w.rows sound p part at)
      ∙ sym (subst (λ (r : PartitionRow). r.guests ≡ takes_guests w.config r.label) is (configured.guests p part there))

  -- ---- what was asked for

  module _ (label : Label) (asked : ℕ) (is : IsPartitionOf w label asked) where
    default-told : is_default label ≡ nat_eq asked 0
    default-told = ap is_default (sym is.own) ∙ default-same (label_of w asked) ∙ ap (same_label (label_of w asked)) (sym sound.default) ∙ same-label w.rows sound asked 0 is.there sound.some

    at-told : (q : ℕ) → HasPartition w.rows q → same_label label (label_of w q) ≡ nat_eq asked q
    at-told q has = ap (λ l. same_label l (label_of w q)) (sym is.own) ∙ same-label w.rows sound asked q is.there has

    -- it may stand where the numbers say so
    pub asked-told : (part : PartitionRow) → slice_get w.rows.partitions p ≡ Some part → (priority : ℕ)
        → may_have w.config (state_in w) placed (Asked label priority) (app_of w.rows (n, row)) ≡ ((nat_eq asked 0 || nat_eq asked row.home) && (nat_eq asked p || (nat_eq asked 0 && part.guests)))
    asked-told part at priority = λ i.
        (default-told i || at-told row.home (sound.apps n row found).home i)
        && ((ap (same_label label) (sym own) ∙ at-told p there) i || (default-told i && guests-told part at i))

  -- under a label that is not configured nothing was asked for
  pub unknown-asked : (label : Label) → has_label w.config.labels label ≡ false → (priority : ℕ) → may_have w.config (state_in w) placed (Asked label priority) (app_of w.rows (n, row)) ≡ false
  unknown-asked label unknown priority = ap (λ b. b && (same_label label placed.id.label || (is_default label && not (is_exclusive w.config.labels placed.id.label)))) (nowhere label unknown)
    where
      nowhere : (label : Label) → has_label w.config.labels label ≡ false → asks_on (app_of w.rows (n, row)) label ≡ false
      nowhere Unlabelled unknown = absurd (true≢false unknown)
      nowhere (Named name) unknown =
          not-true (same_label (Named name) (label_of w row.home))
          (λ same. true≢false (sym (home-known w sound n row found configured) ∙ ap (has_label w.config.labels) (sym (same-label_path (Named name) (label_of w row.home) same)) ∙ unknown))

  -- ---- masters

  master-told : may_have w.config (state_in w) placed Master (app_of w.rows (n, row))
      ≡ (nat_eq p row.home && (placed.size.memory == row.master.memory) && (placed.size.vcores == row.master.vcores) && not (runs_at w.rows n row))
  master-told = λ i.
      (ap (λ l. same_label l (label_of w row.home)) (sym own) ∙ same-label w.rows sound p row.home there (sound.apps n row found).home) i
      && (placed.size.memory == row.master.memory) && (placed.size.vcores == row.master.vcores) && not (runs-means w.rows sound (stops_in w) (maxima_in w) n row found i)

  -- no master stands away from home
  pub master-away : (row.home ≡ p → ⊥) → may_have w.config (state_in w) placed Master (app_of w.rows (n, row)) ≡ false
  master-away away =
      let other : nat_eq p row.home ≡ false = not-true (nat_eq p row.home) (λ same. away (grind (arith, nat_tests, same))) in
      master-told ∙ ap (λ b. b && (placed.size.memory == row.master.memory) && (placed.size.vcores == row.master.vcores) && not (runs_at w.rows n row)) other

  -- one at home and of the size stands where there is none yet
  pub master-free : row.home ≡ p → row.master ≡ placed.size → may_have w.config (state_in w) placed Master (app_of w.rows (n, row)) ≡ not (runs_at w.rows n row)
  master-free home size =
      let here : nat_eq p row.home ≡ true = grind (arith, nat_tests, home) in
      master-told
      ∙ (λ i. here i && (placed.size.memory == (size i).memory) && (placed.size.vcores == (size i).vcores) && not (runs_at w.rows n row))
      ∙ (λ i. same-number_self placed.size.memory i && same-number_self placed.size.vcores i && not (runs_at w.rows n row))
