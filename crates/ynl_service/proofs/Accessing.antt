-- What is told of access by numbers is what the model tests.
use Rattle.std.proofs.Common.{◌≡◌, ◌⊎◌, ℕ, Bool, true, false, ◌&&◌, ◌||◌, nat_eq, slice_get, Some, inl, inr, refl, sym, ap, subst, ◌∙◌, arith, true≢false}
use Rattle.std.specs.Prelude.{IfSome, slice_index_or}
use Rattle.std.proofs.lemmas.Bool.{and_parts}
use Rattle.std.proofs.lemmas.Bool.Decides.{nat_tests}
use Rattle.std.proofs.lemmas.Option.{slice_get-get_or, same_Some}
use Rattle.ynl_resource.specs.Names.{is_default, same_label, top_level}
use Rattle.ynl_resource.specs.declared.names.Name.{Name}
use Rattle.ynl_resource.specs.declared.labels.Label.{Label}
use Rattle.ynl_resource.specs.declared.labels.Label.TheVariants.{Named, Unlabelled}
use Rattle.ynl_model.specs.declared.proposals.What.{What}
use Rattle.ynl_model.specs.declared.proposals.What.TheVariants.{Master as MasterWanted, Ask as AskWanted}
use Rattle.ynl_model.specs.Nodes.{has_label}
use Rattle.ynl_model.specs.Queues.{is_queue, may_use}
use Rattle.ynl_model.specs.Service.{takes_guests}
use Rattle.ynl_model.specs.Check.{comes_as_guest, has_access}
use Rattle.ynl_laws.proofs.Names.{same-label_path}
use Rattle.ynl_tables.specs.declared.containers.container.Role.{Role}
use Rattle.ynl_tables.specs.declared.containers.container.Role.TheVariants.{Master, Ask as Asked}
use Rattle.ynl_inventory.specs.Rows.{PartitionRow}
use Rattle.ynl_inventory.specs.Meaning.{what_of}
use Rattle.ynl_inventory.specs.Sound.{HasPartition, IsAskedThere, IsFor, IsSound}
use Rattle.ynl_inventory.proofs.Asking.{same-label}
use Rattle.ynl_inventory.proofs.Finding.{not-true, own-label}
use Rattle.ynl_inventory.proofs.Lookups.{place-there}
use Rattle.ynl_cluster.specs.Cluster.{ClusterView, label_of}
use Rattle.ynl_replies.proofs.admission.LabelsKnown.{label-known}
use Rattle.ynl_service.specs.Checking.{is_known, is_on_default}

default-same : (label : Label) → is_default label ≡ same_label label Unlabelled
default-same Unlabelled = refl
default-same (Named name) = refl

module _ (w : ClusterView) (sound : IsSound w.rows) where
  -- a partition is DEFAULT where its number is 0
  default-told : (p : ℕ) → HasPartition w.rows p → is_default (label_of w p) ≡ nat_eq p 0
  default-told p there = default-same (label_of w p) ∙ ap (same_label (label_of w p)) (sym sound.default) ∙ same-label w.rows sound p 0 there sound.some

  module _ (configured : IsFor w.config w.rows) (p : ℕ) (there : HasPartition w.rows p) where
    its : (part : PartitionRow) × (slice_get w.rows.partitions p ≡ Some part)
    its = place-there w.rows.partitions p there

    -- a partition takes guests where its row says so
    guests-told : (part : PartitionRow) → slice_get w.rows.partitions p ≡ Some part → part.guests ≡ takes_guests w.config (label_of w p)
    guests-told part at =
        let is : slice_index_or w.rows.partitions p part ≡ part = same_Some (slice_index_or w.rows.partitions p part) part (sym (slice_get-get_or w.rows.partitions p part there) ∙ at) in
        subst (λ (r : PartitionRow). r.guests ≡ takes_guests w.config r.label) is (configured.guests p part there)
        ∙ ap (takes_guests w.config) (sym (own-label w.rows sound p part at))

    takes-told : (takes : Bool) → IfSome (slice_get w.rows.partitions p) (λ part. takes ≡ part.guests) → takes ≡ takes_guests w.config (label_of w p)
    takes-told takes read = subst (λ o. IfSome o (λ (part : PartitionRow). takes ≡ part.guests)) its.1 read ∙ guests-told its.0 its.1

    -- what comes as a guest
    pub guest-told : (takes : Bool) → IfSome (slice_get w.rows.partitions p) (λ part. takes ≡ part.guests) → (role : Role) → IsAskedThere w.rows role
        → (is_on_default role && takes) ≡ comes_as_guest w.config (label_of w p) (what_of w.rows.partitions role)
    guest-told takes read Master asked = refl
    guest-told takes read (Asked q priority) asked = λ i. sym (default-told q asked) i && takes-told takes read i

    -- nobody may place what was asked for on a label of no partition
    pub unknown-closed : (tenant : Name) (what : What) → is_known w.config what ≡ false → has_access w.config (label_of w p) tenant what ≡ false
    unfolding has_access
    unknown-closed tenant MasterWanted h = absurd (true≢false h)
    unknown-closed tenant (AskWanted label priority) h =
        (λ i. is_queue w.config (top_level tenant) && ((unlabelled label h i && takes_guests w.config (label_of w p)) || (may_use w.config (top_level tenant) (label_of w p) && other i)))
        ∙ closed (is_queue w.config (top_level tenant)) (may_use w.config (top_level tenant) (label_of w p))
      where
        unlabelled : (label : Label) → has_label w.config.labels label ≡ false → is_default label ≡ false
        unlabelled Unlabelled k = k
        unlabelled (Named name) k = refl

        other : same_label label (label_of w p) ≡ false
        other = not-true (same_label label (label_of w p)) (λ same. true≢false (sym (label-known w.config w.rows configured label p there (sym (same-label_path label (label_of w p) same))) ∙ h))

        closed : (a d : Bool) → (a && (false || (d && false))) ≡ false
        closed true true = refl
        closed true false = refl
        closed false d = refl

    -- what may be placed was asked for there, or comes as a guest
    pub open-tells : (tenant : Name) (q priority : ℕ) → HasPartition w.rows q → has_access w.config (label_of w p) tenant (what_of w.rows.partitions (Asked q priority)) ≡ true
        → (part : PartitionRow) → slice_get w.rows.partitions p ≡ Some part → (q ≡ p) ⊎ ((q ≡ 0) × (part.guests ≡ true))
    unfolding has_access
    open-tells tenant q priority asked h part at =
        go (comes_as_guest w.config (label_of w p) (what_of w.rows.partitions (Asked q priority))) refl
        (and_parts (is_queue w.config (top_level tenant)) _ h).1
      where
        guest : comes_as_guest w.config (label_of w p) (what_of w.rows.partitions (Asked q priority)) ≡ true → (q ≡ 0) × (part.guests ≡ true)
        guest k =
            let parts = and_parts (is_default (label_of w q)) (takes_guests w.config (label_of w p)) k in
            let zero : nat_eq q 0 ≡ true = sym (default-told q asked) ∙ parts.0 in
            (grind (arith, nat_tests, zero), guests-told part at ∙ parts.1)

        own : same_label (label_of w q) (label_of w p) ≡ true → q ≡ p
        own k = let same : nat_eq q p ≡ true = sym (same-label w.rows sound q p asked there) ∙ k in grind (arith, nat_tests, same)

        go : (b : Bool) → comes_as_guest w.config (label_of w p) (what_of w.rows.partitions (Asked q priority)) ≡ b
            → (b || (may_use w.config (top_level tenant) (label_of w p) && same_label (label_of w q) (label_of w p))) ≡ true
            → (q ≡ p) ⊎ ((q ≡ 0) × (part.guests ≡ true))
        go true k rest = inr (guest k)
        go false k rest = inl (own (and_parts (may_use w.config (top_level tenant) (label_of w p)) _ rest).1)
