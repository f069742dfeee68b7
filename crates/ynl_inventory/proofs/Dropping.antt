-- A node's containers go one by one, and then the node: together that is its leaving.
use Rattle.std.proofs.Common.{◌≡◌, ◌≢◌, ℕ, zero, suc, Bool, true, false, cond, not, List, [], ◌∷◌, filter, slice_get, Some, nat_eq, refl, sym, ap, subst, ◌∙◌, arith}
use Rattle.std.specs.List.{AllByRecursion}
use Rattle.std.specs.Map.{lookup}
use Rattle.std.specs.Option.{option_map_or}
use Rattle.std.proofs.lemmas.Bool.Decides.{nat_tests}
use Rattle.std.proofs.lemmas.Option.{same_Some}
use Rattle.ynl_laws.proofs.Lists.{filter-all}
use Rattle.ynl_slots.specs.Slots.{without}
use Rattle.ynl_slots.proofs.Entries.{itself}
use Rattle.ynl_tables.specs.declared.containers.container.Container.{Container}
use Rattle.ynl_model.specs.Queues.{Config}
use Rattle.ynl_inventory.specs.Rows.{Rows, PartitionRow, NodeRow}
use Rattle.ynl_inventory.specs.Changes.{with_at, partition_of_node, with_left, with_dropped, with_node_gone}
use Rattle.ynl_inventory.specs.Sound.{IsFor, IsPartition, IsSound}
use Rattle.ynl_inventory.proofs.Updates.{each-number}
use Rattle.ynl_inventory.proofs.Filters.{filter-distinct, filter-lookup, filter-masters, filter-rising}
use Rattle.ynl_inventory.proofs.Kept.{kept-container}
use Rattle.ynl_inventory.proofs.PartitionChange.{many, each-partition, moved-sound, moved-for}
use Rattle.ynl_inventory.proofs.Leaving.{left-sound}

module _ {X : Type 0} where
  -- two changes of one row are one
  at-twice : (p : ℕ) (f g h : X → X) (xs : List X) → ((x : X) → slice_get xs p ≡ Some x → f (g x) ≡ h x) → with_at p f (with_at p g xs) ≡ with_at p h xs
  at-twice p f g h [] same = refl
  at-twice zero f g h (x ∷ xs) same = ap (λ y. y ∷ xs) (same x refl)
  at-twice (suc p) f g h (x ∷ xs) same = ap (λ ys. x ∷ ys) (at-twice p f g h xs same)

  -- a change that leaves the row leaves all
  at-none : (p : ℕ) (f : X → X) (xs : List X) → ((x : X) → slice_get xs p ≡ Some x → f x ≡ x) → with_at p f xs ≡ xs
  at-none p f [] same = refl
  at-none zero f (x ∷ xs) same = ap (λ y. y ∷ xs) (same x refl)
  at-none (suc p) f (x ∷ xs) same = ap (λ ys. x ∷ ys) (at-none p f xs same)

  -- what is left out twice is left out once
  filter-once : (p q : X → Bool) (xs : List X) → AllByRecursion (λ x. p x ≡ false → q x ≡ false) xs → filter q (filter p xs) ≡ filter q xs
  filter-once p q [] h = refl
  filter-once p q (x ∷ xs) h = go (p x) refl (filter-once p q xs h.1)
    where
      go : (b : Bool) → p x ≡ b → filter q (filter p xs) ≡ filter q xs → filter q (cond b (x ∷ filter p xs) (filter p xs)) ≡ cond (q x) (x ∷ filter q xs) (filter q xs)
      go true is rest = ap (λ ys. cond (q x) (x ∷ ys) ys) rest
      go false is rest = rest ∙ sym (ap (λ b. cond b (x ∷ filter q xs) (filter q xs)) (h.0 is))

module _ (v : Rows) (sound : IsSound v) (p : ℕ) (row : PartitionRow) (there : slice_get v.partitions p ≡ Some row) (number : ℕ) where
  abbrev after : Rows
  after = with_dropped p number v

  abbrev drop : PartitionRow → PartitionRow
  drop row = record row { containers = without number row.containers }

  kept : (q : ℕ) (other : PartitionRow) (test : ℕ × Container → Bool) → IsPartition v q other → IsPartition after q (record other { containers = filter test other.containers })
  kept q other test is = record {
    numbers = filter-distinct test other.containers is.numbers;
    rising = filter-rising test other.containers is.rising;
    clock = is.clock;
    masters = filter-masters test other.containers is.numbers is.masters;
    each = λ n c at.
        let was = is.each n c (filter-lookup test n c other.containers is.numbers at).0 in
        kept-container v after (many v p drop (λ row. refl) v.nodes) q other.clock other.clock c was (omega arith) (λ app found. (app, found, refl)) (λ node found. (node, found, refl));
  }

  whole : (q : ℕ) (other : PartitionRow) → IsPartition v q other → IsPartition after q other
  whole q other is = record {
    numbers = is.numbers;
    rising = is.rising;
    clock = is.clock;
    masters = is.masters;
    each = λ n c at.
        let was = is.each n c at in
        kept-container v after (many v p drop (λ row. refl) v.nodes) q other.clock other.clock c was (omega arith) (λ app found. (app, found, refl)) (λ node found. (node, found, refl));
  }

  -- the rows stay sound
  pub dropped-sound : IsSound after
  dropped-sound =
      moved-sound v p drop (λ row. refl) v.nodes sound
      (each-partition v p drop (λ row. refl) v.nodes row there (kept p row (λ e. not (nat_eq number e.0)) (sound.partitions p row there)) (λ q other at apart. whole q other (sound.partitions q other at)))
      sound.node_numbers sound.node_names sound.nodes

  -- and are still those of the configuration
  pub dropped-for : (c : Config) → IsFor c v → IsFor c after
  dropped-for c is = moved-for v p drop (λ row. refl) v.nodes c (λ row. refl) (λ row. refl) is

  -- a container that went before its node went with it
  pub dropped-left : (node : ℕ) (nrow : NodeRow) → lookup (nat_eq node) v.nodes ≡ Some nrow → (gone : Container) → lookup (nat_eq number) row.containers ≡ Some gone → gone.node ≡ node
      → with_left node after ≡ with_left node v
  dropped-left node nrow found gone at on = λ i. record v { partitions = partitions i; nodes = without node v.nodes }
    where
      goes : (n : ℕ) (c : Container) → lookup (nat_eq n) row.containers ≡ Some c → not (nat_eq number n) ≡ false → not (nat_eq c.node node) ≡ false
      goes n c it is =
          let same : n ≡ number = grind (arith, nat_tests, is) in
          let own : c ≡ gone = same_Some c gone (sym it ∙ ap (λ m. lookup (nat_eq m) row.containers) same ∙ at) in
          ap not (ap (λ (c : Container). nat_eq c.node node) own ∙ ap (λ m. nat_eq m node) on ∙ itself node)

      once : filter (λ e. not (nat_eq e.1.node node)) (without number row.containers) ≡ filter (λ e. not (nat_eq e.1.node node)) row.containers
      once =
          filter-once (λ e. not (nat_eq number e.0)) (λ e. not (nat_eq e.1.node node)) row.containers
          (each-number (λ n c. not (nat_eq number n) ≡ false → not (nat_eq c.node node) ≡ false) row.containers (sound.partitions p row there).numbers goes)

      stands : partition_of_node v.nodes node ≡ p
      stands =
          let is = (sound.partitions p row there).each number gone at in
          let same : is.node ≡ nrow = same_Some is.node nrow (sym is.node_found ∙ ap (λ m. lookup (nat_eq m) v.nodes) on ∙ found) in
          ap (λ o. option_map_or (λ (row : NodeRow). row.partition) o 0) found ∙ ap (λ (r : NodeRow). r.partition) (sym same) ∙ is.node_there

      emptied : PartitionRow → PartitionRow
      emptied = λ row. record row { containers = filter (λ e. not (nat_eq e.1.node node)) row.containers }

      here : with_at p emptied (with_at p drop v.partitions) ≡ with_at p emptied v.partitions
      here =
          at-twice p emptied drop emptied v.partitions
          (λ other at-p.
          subst (λ (r : PartitionRow). emptied (drop r) ≡ emptied r) (same_Some row other (sym there ∙ at-p)) (λ i. record row { containers = once i }))

      partitions : (with_left node after).partitions ≡ (with_left node v).partitions
      partitions =
          ap (λ q. with_at q emptied (with_at p drop v.partitions)) stands ∙ here ∙ ap (λ q. with_at q emptied v.partitions) (sym stands)

-- where a node has no containers, it leaves alone
pub gone-left : (v : Rows) (node : ℕ)
    → ((p : ℕ) (row : PartitionRow) → slice_get v.partitions p ≡ Some row → AllByRecursion (λ e. e.1.node ≢ node) row.containers)
    → with_left node v ≡ with_node_gone node v
gone-left v node none = λ i. record v { partitions = partitions i; nodes = without node v.nodes }
  where
    all : (es : List (ℕ × Container)) → AllByRecursion (λ e. e.1.node ≢ node) es → AllByRecursion (λ e. not (nat_eq e.1.node node) ≡ true) es
    all [] h = tt
    all (e ∷ es) h = let apart = h.0 in (grind (arith, nat_tests, apart), all es h.1)

    partitions : (with_left node v).partitions ≡ v.partitions
    partitions =
        at-none (partition_of_node v.nodes node) (λ row. record row { containers = filter (λ e. not (nat_eq e.1.node node)) row.containers }) v.partitions
        (λ row at. λ i. record row { containers = filter-all (λ e. not (nat_eq e.1.node node)) row.containers (all row.containers (none (partition_of_node v.nodes node) row at)) i })

-- and the rows stay sound
pub gone-sound : (v : Rows) → IsSound v → (node : ℕ) (nrow : NodeRow) → lookup (nat_eq node) v.nodes ≡ Some nrow
    → ((p : ℕ) (row : PartitionRow) → slice_get v.partitions p ≡ Some row → AllByRecursion (λ e. e.1.node ≢ node) row.containers)
    → IsSound (with_node_gone node v)
gone-sound v sound node nrow found none = subst IsSound (gone-left v node none) (left-sound v sound node nrow found)
