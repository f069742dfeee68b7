-- The state that sound rows mean is tabled, and the asks of its applications differ.
use Rattle.std.proofs.Common.{◌≡◌, ◌⊎◌, ℕ, zero, suc, Bool, true, false, ◌&&◌, ◌==◌, cond, nat_eq, List, [], ◌∷◌, map, find, slice_get, is_some, Option, None, Some, option_map, inl, inr, refl, sym, ap, subst, ◌∙◌, arith, true≢false}
use Rattle.std.specs.Prelude.{IfSome, option_and_then}
use Rattle.std.specs.List.{AllByRecursion, cons_option, filter_map}
use Rattle.std.specs.Map.{lookup}
use Rattle.std.specs.Option.{option_map_or}
use Rattle.std.proofs.lemmas.Bool.{and_from, and_parts}
use Rattle.std.proofs.lemmas.Bool.Decides.{nat_tests}
use Rattle.std.proofs.lemmas.Option.{none-some, same_Some}
use Rattle.ynl_resource.specs.Names.{same_label, same_name, same_path, tenant_of}
use Rattle.ynl_resource.specs.declared.names.Name.{Name}
use Rattle.ynl_resource.specs.declared.labels.Label.{Label}
use Rattle.ynl_model.specs.declared.containers.Placed.{Placed}
use Rattle.ynl_model.specs.declared.queues.StopRow.{StopRow}
use Rattle.ynl_model.specs.declared.queues.MaximumRow.{MaximumRow}
use Rattle.ynl_model.specs.Applications.{Application, LeafApps, find_app}
use Rattle.ynl_model.specs.Cluster.{Partition, is_partition}
use Rattle.ynl_laws.specs.Owners.{owner}
use Rattle.ynl_laws.specs.Tabled.{AreNamed, EachLeaf, IsFoundIn, Tabled}
use Rattle.ynl_laws.specs.Untied.{AllDistinct, Differs, Distinct}
use Rattle.ynl_laws.specs.Working.{Pairs}
use Rattle.ynl_laws.proofs.Lists.{Each-all, Each-both, Each-found, Each-map, Each-weaker, Pairs-filter, find-map, found-passes, pairs-unmap}
use Rattle.ynl_laws.proofs.Names.{same-label_path, same-path}
use Rattle.ynl_inventory.specs.layout.Paths.{HasNumber, path_at}
use Rattle.ynl_tables.specs.declared.apps.asks.Ask.{Ask}
use Rattle.ynl_tables.specs.apps.Asks.{AreApart, is_ask_of}
use Rattle.ynl_tables.specs.declared.containers.container.Container.{Container}
use Rattle.ynl_tables.specs.declared.submissions.submissions.Submission.{Submission}
use Rattle.ynl_inventory.specs.Rows.{Rows, AppRow, PartitionRow}
use Rattle.ynl_inventory.specs.Meaning.{app_name, application_of, ask_of, label_at, leaf_numbers, leaf_of, live_of, owner_of, partition_of, placed_of, state_of, submitted_in, submitted_to, tenant_at}
use Rattle.ynl_inventory.specs.Sound.{HasPartition, IsSound}
use Rattle.ynl_inventory.proofs.AppChange.{path-self}
use Rattle.ynl_inventory.proofs.AppsFound.{app-found, leaves}
use Rattle.ynl_inventory.proofs.Asked.{asked-there}
use Rattle.ynl_inventory.proofs.Finding.{not-true}
use Rattle.ynl_inventory.proofs.Lookups.{each-place, live-found}
use Rattle.ynl_inventory.proofs.Submitted.{app-submitted, each-leaf, each-submitted, submission}
use Rattle.ynl_inventory.proofs.Tenants.{owner-named}
use Rattle.ynl_inventory.proofs.Updates.{each-number}
use Rattle.ynl_slots.proofs.Lists.{all_from}
use Rattle.ynl_cluster.proofs.requests.Members.{Among}
use Rattle.ynl_cluster.proofs.requests.Running.{label-tells}

-- ---- lists

-- the only one of a list that passes is found
find-self : {X : Type 0} (p : X → Bool) (x : X) (xs : List X) → AllByRecursion (λ y. p y ≡ true → y ≡ x) xs → Among x xs → p x ≡ true → find p xs ≡ Some x
find-self p x [] only there passes = absurd there
find-self {X = X} p x (y ∷ ys) only there passes = go (p y) refl there (λ at. find-self p x ys only.1 at passes)
  where
    go : (b : Bool) → p y ≡ b → (y ≡ x) ⊎ Among x ys → (Among x ys → find p ys ≡ Some x) → cond b (Some y) (find p ys) ≡ Some x
    go true q at rest = ap (λ (z : X). Some z) (only.0 q)
    go false q (inl same) rest = absurd (true≢false (sym (ap p same ∙ passes) ∙ q))
    go false q (inr at) rest = rest at

-- each of a list is among it
each-self : {X : Type 0} (xs : List X) → AllByRecursion (λ x. Among x xs) xs
each-self [] = tt
each-self (x ∷ xs) = (inl refl, Each-weaker (λ y. Among y xs) (λ y. Among y (x ∷ xs)) (λ y at. inr at) xs (each-self xs))

-- what holds of what is made of each holds of all that is made
each-made : {X Y : Type 0} (P : Y → Type 0) (f : X → Option Y) (xs : List X) → AllByRecursion (λ x. (y : Y) → f x ≡ Some y → P y) xs → AllByRecursion P (filter_map f xs)
each-made P f [] h = tt
each-made {Y = Y} P f (x ∷ xs) h = go (f x) refl (each-made P f xs h.1)
  where
    go : (o : Option Y) → f x ≡ o → AllByRecursion P (filter_map f xs) → AllByRecursion P (cons_option o (filter_map f xs))
    go None is rest = rest
    go (Some y) is rest = (h.0 y is, rest)

-- so of two that are made
pairs-made : {X Y : Type 0} (R : X → X → Type 0) (S : Y → Y → Type 0) (f : X → Option Y) → ((a b : X) (x y : Y) → f a ≡ Some x → f b ≡ Some y → R a b → S x y)
    → (xs : List X) → Pairs R xs → Pairs S (filter_map f xs)
pairs-made R S f h [] pairs = tt
pairs-made {X = X} {Y = Y} R S f h (a ∷ xs) pairs = go (f a) refl (pairs-made R S f h xs pairs.1)
  where
    go : (o : Option Y) → f a ≡ o → Pairs S (filter_map f xs) → Pairs S (cons_option o (filter_map f xs))
    go None is rest = rest
    go (Some x) is rest = (each-made (S x) f xs (Each-weaker (R a) (λ b. (y : Y) → f b ≡ Some y → S x y) (λ b r y made. h a b x y is made r) xs pairs.0), rest)

-- what was submitted to a tenant that is not there is nothing
some-tenant : (tenants : List (List (Name × Submission))) (t : ℕ) → (slice_get tenants t ≡ Some (submitted_to tenants t)) ⊎ (submitted_to tenants t ≡ [])
some-tenant [] t = inr refl
some-tenant (entries ∷ tenants) zero = inl refl
some-tenant (entries ∷ tenants) (suc t) = some-tenant tenants t

module _ (v : Rows) (sound : IsSound v) where
  -- ---- a live submission has its row

  record IsLiveRow (name : Name) (s : Submission) (app : Application) : Type 0 where
    number : ℕ
    row : AppRow
    live : s.app ≡ Some number
    found : lookup (nat_eq number) v.apps ≡ Some row
    is : application_of v name row ≡ app

  live-row : (name : Name) (s : Submission) (app : Application) → live_of v (name, s) ≡ Some app → IsLiveRow name s app
  live-row name s app made = of-number s.app refl made
    where
      of-row : (n : ℕ) → s.app ≡ Some n → (o : Option AppRow) → lookup (nat_eq n) v.apps ≡ o → option_map (application_of v name) o ≡ Some app → IsLiveRow name s app
      of-row n live None found made = absurd (none-some app made)
      of-row n live (Some row) found made = record { number = n; row = row; live = live; found = found; is = same_Some (application_of v name row) app made }

      of-number : (o : Option ℕ) → s.app ≡ o → option_map (application_of v name) (option_and_then (λ n. lookup (nat_eq n) v.apps) o) ≡ Some app → IsLiveRow name s app
      of-number None live made = absurd (none-some app made)
      of-number (Some n) live made = of-row n live (lookup (nat_eq n) v.apps) refl made

  -- ---- applications are found by their names

  finds-one : (q turn : ℕ) (e : Name × Submission) → slice_get (submitted_to v.tenants (tenant_at v.paths q)) turn ≡ Some e → e.1.leaf ≡ q
      → (app : Application) → live_of v e ≡ Some app → IsFoundIn (leaves v sound) (leaf_of v q) app
  finds-one q turn (name, s) at own app made = record {
    at = leaf ∙ ap (path_at v.paths) own;
    itself = (λ i. find_app (leaves v sound) (tenant_of (leaf i)) (named i)) ∙ app-found v sound (tenant_at v.paths q) turn name s at ∙ made;
  }
    where
      its : IsLiveRow name s app
      its = live-row name s app made

      leaf : app.leaf ≡ path_at v.paths s.leaf
      leaf = ap (λ (a : Application). a.leaf) (sym its.is) ∙ ap (path_at v.paths) ((submission v sound (tenant_at v.paths q) turn (name, s) at).row its.number its.row its.live its.found).1.1

      named : app.name ≡ name
      named = ap (λ (a : Application). a.name) (sym its.is)

  finds : AllByRecursion (λ row. AllByRecursion (IsFoundIn (leaves v sound) row) row.apps) (leaves v sound)
  finds =
      Each-map (HasNumber v.paths) (λ (row : LeafApps). AllByRecursion (IsFoundIn (leaves v sound) row) row.apps) (leaf_of v)
      (λ q inside.
      each-made (IsFoundIn (leaves v sound) (leaf_of v q)) (live_of v) (submitted_in v q)
      (each-submitted v q (λ e. (app : Application) → live_of v e ≡ Some app → IsFoundIn (leaves v sound) (leaf_of v q) app) (finds-one q)))
      (leaf_numbers v.paths) (each-leaf v.paths)

  -- ---- leaves are found by their paths

  leaf-itself : (q : ℕ) → HasNumber v.paths q × Among q (leaf_numbers v.paths) → find (λ other. same_path other.leaf (path_at v.paths q)) (leaves v sound) ≡ Some (leaf_of v q)
  leaf-itself q at =
      find-map (leaf_of v) (λ other. same_path other.leaf (path_at v.paths q)) (leaf_numbers v.paths)
      ∙ ap (option_map (leaf_of v))
      (find-self (λ r. same_path (path_at v.paths r) (path_at v.paths q)) q (leaf_numbers v.paths)
      (Each-weaker (HasNumber v.paths) (λ r. same_path (path_at v.paths r) (path_at v.paths q) ≡ true → r ≡ q)
      (λ r inside same. sound.tree.apart r q inside at.0 (same-path (path_at v.paths r) (path_at v.paths q) same)) (leaf_numbers v.paths) (each-leaf v.paths))
      at.1 (path-self (path_at v.paths q)))

  rows : EachLeaf (leaves v sound)
  rows =
      Each-map (λ q. HasNumber v.paths q × Among q (leaf_numbers v.paths)) (λ (row : LeafApps). find (λ other. same_path other.leaf row.leaf) (leaves v sound) ≡ Some row) (leaf_of v) leaf-itself
      (leaf_numbers v.paths) (Each-both (HasNumber v.paths) (λ q. Among q (leaf_numbers v.paths)) (leaf_numbers v.paths) (each-leaf v.paths) (each-self (leaf_numbers v.paths)))

  -- ---- the names of a leaf's applications differ

  differ : (t : ℕ) → Pairs (λ (a b : Name × Submission). same_name a.0 b.0 ≡ false) (submitted_to v.tenants t)
  differ t = go (some-tenant v.tenants t)
    where
      go : (slice_get v.tenants t ≡ Some (submitted_to v.tenants t)) ⊎ (submitted_to v.tenants t ≡ []) → Pairs (λ (a b : Name × Submission). same_name a.0 b.0 ≡ false) (submitted_to v.tenants t)
      go (inl there) = pairs-unmap (λ (e : Name × Submission). e.0) (λ a b. same_name a b ≡ false) (submitted_to v.tenants t) (sound.tenants t (submitted_to v.tenants t) there).names
      go (inr none) = subst (Pairs (λ (a b : Name × Submission). same_name a.0 b.0 ≡ false)) (sym none) tt

  named : (q : ℕ) → AreNamed (leaf_of v q).apps
  named q =
      pairs-made (λ (a b : Name × Submission). same_name a.0 b.0 ≡ false) (λ (a b : Application). same_name a.name b.name ≡ false) (live_of v)
      (λ a b x y is made apart. (λ i. same_name (own a x is i) (own b y made i)) ∙ apart) (submitted_in v q)
      (Pairs-filter (λ (a b : Name × Submission). same_name a.0 b.0 ≡ false) (λ e. nat_eq e.1.leaf q) (submitted_to v.tenants (tenant_at v.paths q)) (differ (tenant_at v.paths q)))
    where
      own : (e : Name × Submission) (app : Application) → live_of v e ≡ Some app → app.name ≡ e.0
      own (name, s) app made = ap (λ (a : Application). a.name) (sym (live-row name s app made).is)

  names : AllByRecursion (λ row. AreNamed row.apps) (leaves v sound)
  names = Each-map (HasNumber v.paths) (λ (row : LeafApps). AreNamed row.apps) (leaf_of v) (λ q inside. named q) (leaf_numbers v.paths) (each-leaf v.paths)

  -- ---- the application of each container is live

  module _ (label : Label) where
    abbrev IsOwned : Placed → Type 0
    IsOwned k = (k.id.label ≡ label) × (is_some (owner (leaves v sound) k.tenant k.app) ≡ true)

    abbrev AreOwned : Partition → Type 0
    AreOwned row = row.label ≡ label → AllByRecursion IsOwned row.containers

    owned-one : (p : ℕ) (row : PartitionRow) → slice_get v.partitions p ≡ Some row → (n : ℕ) (k : Container) → lookup (nat_eq n) row.containers ≡ Some k
        → is_some (owner (leaves v sound) (owner_of v k.app).0 (owner_of v k.app).1) ≡ true
    owned-one p row at n k there =
        let live = live-found k.app v.apps ((sound.partitions p row at).each n k there).app in
        let own : Name × Submission = (app_name v.tenants live.0.tenant live.0.turn, record { leaf = live.0.leaf; app = Some k.app }) in
        ap (λ (o : Name × Name). is_some (owner (leaves v sound) o.0 o.1)) (owner-named v sound k.app live.0 live.1)
        ∙ ap (λ (o : Option Application). is_some (option_map (λ (app : Application). app.user) o))
        (app-found v sound live.0.tenant live.0.turn own.0 own.1 (app-submitted v sound k.app live.0 live.1) ∙ ap (option_map (application_of v own.0)) live.1)

    owned-row : (p : ℕ) (row : PartitionRow) → slice_get v.partitions p ≡ Some row → AreOwned (partition_of v row)
    owned-row p row at same =
        Each-map (λ (e : ℕ × Container). is_some (owner (leaves v sound) (owner_of v e.1.app).0 (owner_of v e.1.app).1) ≡ true) IsOwned (λ e. placed_of v row.label e.1)
        (λ e h. (same, h)) row.containers
        (each-number (λ n k. is_some (owner (leaves v sound) (owner_of v k.app).0 (owner_of v k.app).1) ≡ true) row.containers (sound.partitions p row at).numbers (owned-one p row at))

    owned : AllByRecursion AreOwned (map (partition_of v) v.partitions)
    owned =
        Each-map (λ row. AreOwned (partition_of v row)) AreOwned (partition_of v) (λ row h. h) v.partitions
        (each-place (λ row. AreOwned (partition_of v row)) v.partitions owned-row)

    live : AllByRecursion IsOwned
        (option_map_or (λ (row : Partition). row.containers) (find (is_partition label) (map (partition_of v) v.partitions)) [])
    live = go (find (is_partition label) (map (partition_of v) v.partitions)) (Each-found AreOwned (is_partition label) (map (partition_of v) v.partitions) owned) (found-passes (is_partition label) (map (partition_of v) v.partitions))
      where
        go : (o : Option Partition) → IfSome o AreOwned → IfSome o (λ row. is_partition label row ≡ true)
            → AllByRecursion IsOwned (option_map_or (λ (row : Partition). row.containers) o [])
        go None own passes = tt
        go (Some row) own passes = own (same-label_path row.label label passes)

  pub tabled : (stops : List StopRow) (maxima : List MaximumRow) → Tabled (state_of v stops maxima)
  tabled stops maxima = record { finds = finds; live = live; rows = rows; names = names }

  -- ---- the asks of an application differ

  differs : (a b : Ask) → HasPartition v a.partition → HasPartition v b.partition → is_ask_of a.partition a.priority b ≡ false → Differs (ask_of v.partitions a) (ask_of v.partitions b)
  differs a b there has apart = not-true (same_label (label_at v.partitions a.partition) (label_at v.partitions b.partition) && (a.priority == b.priority)) both
    where
      both : (same_label (label_at v.partitions a.partition) (label_at v.partitions b.partition) && (a.priority == b.priority)) ≡ true → ⊥
      both same =
          let parts = and_parts (same_label (label_at v.partitions a.partition) (label_at v.partitions b.partition)) (a.priority == b.priority) same in
          let one : (b.partition == a.partition) ≡ true = grind (arith, nat_tests, sym (label-tells v sound a.partition b.partition there has) ∙ parts.0) in
          let two : (b.priority == a.priority) ≡ true = grind (arith, nat_tests, parts.1) in
          true≢false (sym (and_from (b.partition == a.partition) (b.priority == a.priority) one two) ∙ apart)

  asks-differ : (asks : List Ask) → AllByRecursion (λ ask. HasPartition v ask.partition) asks → AreApart asks → Pairs Differs (map (ask_of v.partitions) asks)
  asks-differ [] there apart = tt
  asks-differ (ask ∷ asks) there apart = (
    Each-map (λ (other : Ask). HasPartition v other.partition × (is_ask_of ask.partition ask.priority other ≡ false)) (Differs (ask_of v.partitions ask)) (ask_of v.partitions)
        (λ other h. differs ask other there.0 h.0 h.1) asks
        (Each-both (λ (other : Ask). HasPartition v other.partition) (λ other. is_ask_of ask.partition ask.priority other ≡ false) asks there.1 apart.0),
    asks-differ asks there.1 apart.1,
  )

  distinct-one : (e : Name × Submission) (app : Application) → live_of v e ≡ Some app → Distinct app
  distinct-one (name, s) app made =
      let its : IsLiveRow name s app = live-row name s app made in
      let is = sound.apps its.number its.row its.found in
      subst Distinct its.is (asks-differ its.row.asks (all_from (λ (ask : Ask). HasPartition v ask.partition) its.row.asks (asked-there v sound its.row.home is.home its.row.asks is.asked)) is.asks.apart)

  pub distinct : (stops : List StopRow) (maxima : List MaximumRow) → AllDistinct (state_of v stops maxima).leaves
  distinct stops maxima =
      Each-map (HasNumber v.paths) (λ (row : LeafApps). AllByRecursion Distinct row.apps) (leaf_of v)
      (λ q inside. each-made Distinct (live_of v) (submitted_in v q) (Each-all (λ e. (app : Application) → live_of v e ≡ Some app → Distinct app) distinct-one (submitted_in v q)))
      (leaf_numbers v.paths) (each-leaf v.paths)
