-- Clocks that are set, and the lines of partitions.
use Rattle.std.proofs.Common.{◌≡◌, ◌≤◌, ℕ, Bool, true, false, not, cond, nat_eq, nat_le, ◌&&◌, List, [], ◌∷◌, slice_get, Option, Some, refl, sym, ap, subst, ◌∙◌}
use Rattle.std.specs.Prelude.{IfSome}
use Rattle.std.specs.List.{AllByRecursion, list_any}
use Rattle.std.specs.Map.{lookup}
use Rattle.std.proofs.lemmas.Option.{same_Some, slice_get_within}
use Rattle.ynl_resource.specs.Names.{same_label}
use Rattle.ynl_resource.specs.Tables.{update}
use Rattle.ynl_resource.specs.declared.labels.Label.{Label}
use Rattle.ynl_model.specs.declared.nodes.Node.{Node}
use Rattle.ynl_model.specs.Cluster.{Partition, clock, is_partition}
use Rattle.ynl_model.specs.Nodes.{clock_limit, has_label, nodes_of}
use Rattle.ynl_model.specs.Queues.{Config}
use Rattle.ynl_laws.proofs.Lists.{Each-map, Each-unkept, Each-unmap}
use Rattle.ynl_laws.proofs.Names.{same-label_path, same-label_self}
use Rattle.ynl_tables.specs.declared.containers.container.Container.{Container}
use Rattle.ynl_tables.proofs.containers.Removing.{at_live}
use Rattle.ynl_inventory.specs.Rows.{NodeRow, PartitionRow}
use Rattle.ynl_inventory.specs.Meaning.{label_at, node_of, partition_of}
use Rattle.ynl_inventory.specs.Sound.{CanShow, HasPartition, IsFor, IsSound}
use Rattle.ynl_inventory.proofs.Finding.{clock-at, limit-at, own-label}
use Rattle.ynl_inventory.proofs.Lookups.{each-place, place-there}
use Rattle.ynl_inventory.proofs.Updates.{at-number, each-number}
use Rattle.ynl_cluster.specs.Cluster.{ClusterView, maxima_in, state_in, stops_in}
use Rattle.ynl_replies.specs.admission.Named.{IsPartitionOf}
use Rattle.ynl_saved.specs.declared.lines.StateLine.TheVariants.{Partition as PartitionLine}
use Rattle.ynl_saved.specs.Restoring.{is_sound_line, Restored}

-- ---- rows that are updated twice

-- an update after one that keeps what it tests
pub twice : {X : Type 0} (w : X → Bool) (f g h : X → X) → ((x : X) → w (f x) ≡ w x) → (xs : List X) → AllByRecursion (λ x. w x ≡ true → g (f x) ≡ h x) xs → update w g (update w f xs) ≡ update w h xs
twice w f g h keeps [] both = refl
twice {X} w f g h keeps (x ∷ xs) both = λ i. go (w x) refl i ∷ twice w f g h keeps xs both.1 i
  where
    go : (b : Bool) → w x ≡ b → cond (w (cond b (f x) x)) (g (cond b (f x) x)) (cond b (f x) x) ≡ cond b (h x) x
    go true is = ap (λ b. cond b (g (f x)) (f x)) (keeps x ∙ is) ∙ both.0 is
    go false is = ap (λ b. cond b (g x) x) is

-- two updates that do the same
pub alike : {X : Type 0} (w : X → Bool) (f g : X → X) (xs : List X) → AllByRecursion (λ x. w x ≡ true → f x ≡ g x) xs → update w f xs ≡ update w g xs
alike w f g [] h = refl
alike {X} w f g (x ∷ xs) h = λ i. go (w x) refl i ∷ alike w f g xs h.1 i
  where
    go : (b : Bool) → w x ≡ b → cond b (f x) x ≡ cond b (g x) x
    go true is = h.0 is
    go false is = refl

-- an update to what is there already
pub as-it-is : {X : Type 0} (w : X → Bool) (f : X → X) (xs : List X) → AllByRecursion (λ x. w x ≡ true → f x ≡ x) xs → update w f xs ≡ xs
as-it-is w f [] h = refl
as-it-is {X} w f (x ∷ xs) h = λ i. go (w x) refl i ∷ as-it-is w f xs h.1 i
  where
    go : (b : Bool) → w x ≡ b → cond b (f x) x ≡ x
    go true is = h.0 is
    go false is = refl

-- ---- a partition by its number

module _ (w : ClusterView) (sound : IsSound w.rows) (configured : IsFor w.config w.rows) (label : Label) (p : ℕ) (its : IsPartitionOf w label p) (part : PartitionRow) (part-there : slice_get w.rows.partitions p ≡ Some part) where
  -- its row has the label
  pub part-label : part.label ≡ label
  part-label = sym (own-label w.rows sound p part part-there) ∙ its.own

  -- what its clock shows
  pub clock-shown : clock (state_in w) label ≡ part.clock
  clock-shown = ap (clock (state_in w)) (sym part-label) ∙ clock-at w.rows sound p part part-there (stops_in w) (maxima_in w)

  -- and how far it goes
  pub clock-goes : clock_limit w.config.labels label ≡ part.limit
  clock-goes = ap (clock_limit w.config.labels) (sym part-label) ∙ limit-at w.rows sound p part part-there (stops_in w) (maxima_in w) w.config configured

  -- what is read of its clock
  pub clock-read : (shown : ℕ) → IfSome (slice_get w.rows.partitions p) (λ row. shown ≡ row.clock) → shown ≡ part.clock
  clock-read shown read = at_live (λ (row : PartitionRow). shown ≡ row.clock) (slice_get w.rows.partitions p) part read part-there

  -- each row of the label shows that
  pub clocks-own : AllByRecursion (λ (row : Partition). is_partition label row ≡ true → row.clock ≡ part.clock) (state_in w).partitions
  clocks-own =
      Each-map (λ (row : PartitionRow). same_label row.label label ≡ true → row.clock ≡ part.clock) (λ (row : Partition). is_partition label row ≡ true → row.clock ≡ part.clock) (partition_of w.rows) (λ row k. k) w.rows.partitions
      (each-place (λ (row : PartitionRow). same_label row.label label ≡ true → row.clock ≡ part.clock) w.rows.partitions (λ q other at same. ap (λ (row : PartitionRow). row.clock) (is-own q other at same)))
    where
      is-own : (q : ℕ) (other : PartitionRow) → slice_get w.rows.partitions q ≡ Some other → same_label other.label label ≡ true → other ≡ part
      is-own q other at same =
          let number : q ≡ p = sound.labels q p (inside q other at) its.there (own-label w.rows sound q other at ∙ same-label_path other.label label same ∙ sym its.own) in
          same_Some other part (sym at ∙ ap (slice_get w.rows.partitions) number ∙ part-there)
        where
          inside : (q : ℕ) (other : PartitionRow) → slice_get w.rows.partitions q ≡ Some other → HasPartition w.rows q
          inside q other at = slice_get_within w.rows.partitions q other at

  -- where no node stands no container does
  module _ (none : nodes_of (state_in w).nodes label ≡ []) where
    no-node : (n : ℕ) (row : NodeRow) → lookup (nat_eq n) w.rows.nodes ≡ Some row → row.partition ≡ p → ⊥
    no-node n row found at =
        at-number (λ n row. same_label (label_at w.rows.partitions row.partition) label ≡ true → ⊥) w.rows.nodes n row
        (Each-unmap (λ (e : ℕ × NodeRow). node_of w.rows.partitions e.1) (λ (node : Node). same_label node.label label ≡ true → ⊥) w.rows.nodes
        (Each-unkept (λ (node : Node). ⊥) (λ (node : Node). same_label node.label label) (state_in w).nodes (subst (AllByRecursion (λ (node : Node). ⊥)) (sym none) tt)))
        found (ap (λ l. same_label l label) (ap (label_at w.rows.partitions) at ∙ its.own) ∙ same-label_self label)

    -- so its clock may show anything that is within its limit
    pub may-show : (shown : ℕ) → shown ≤ part.limit → CanShow w.rows p shown
    may-show shown within = record {
      within = subst (λ (o : Option PartitionRow). IfSome o (λ row. shown ≤ row.limit)) (sym part-there) within;
      above =
          subst (λ (o : Option PartitionRow). IfSome o (λ row. AllByRecursion (λ e. e.1.clock ≤ shown) row.containers)) (sym part-there)
          (each-number (λ n (c : Container). c.clock ≤ shown) part.containers (sound.partitions p part part-there).numbers
          (λ n c found. let is = (sound.partitions p part part-there).each n c found in absurd (no-node c.node is.node is.node_found is.node_there)));
    }

-- the model's clock is the one that is read
pub clock-told : (w : ClusterView) → IsSound w.rows → IsFor w.config w.rows → (label : Label) (p : ℕ) → IsPartitionOf w label p → (shown : ℕ) → IfSome (slice_get w.rows.partitions p) (λ row. shown ≡ row.clock) → clock (state_in w) label ≡ shown
clock-told w sound configured label p its shown read =
    let own = place-there w.rows.partitions p its.there in
    clock-shown w sound configured label p its own.0 own.1 ∙ sym (clock-read w sound configured label p its own.0 own.1 shown read)

-- so it may show anything that is within the configured limit
pub may-go : (w : ClusterView) → IsSound w.rows → IsFor w.config w.rows → (label : Label) (p : ℕ) → IsPartitionOf w label p → nodes_of (state_in w).nodes label ≡ [] → (shown : ℕ) → shown ≤ clock_limit w.config.labels label → CanShow w.rows p shown
may-go w sound configured label p its none shown within =
    let own = place-there w.rows.partitions p its.there in
    may-show w sound configured label p its own.0 own.1 none shown (subst (λ limit. shown ≤ limit) (clock-goes w sound configured label p its own.0 own.1) within)

-- what is tested of the line of a partition
pub partition-sound : (c : Config) (r : Restored) (label : Label) (shown : ℕ) (known within : Bool) → list_any (same_label label) r.partitions ≡ false → has_label c.labels label ≡ known → nat_le shown (clock_limit c.labels label) ≡ within
    → is_sound_line c r (PartitionLine label shown) ≡ (known && within)
unfolding is_sound_line
partition-sound c r label shown known within new e f = (λ i. e i && not (new i) && f i) ∙ go known
  where
    go : (b : Bool) → (b && true && within) ≡ (b && within)
    go true = refl
    go false = refl
