-- An application is submitted: the rows stay sound, and mean what the model's submission gives.
use Rattle.std.proofs.Common.{◌≡◌, ◌≢◌, ◌<◌, ℕ, zero, suc, Bool, true, false, cond, List, [], ◌∷◌, ◌++◌, map, filter, length, slice_get, Option, Some, is_some, option_map, nat_eq, refl, sym, ap, subst, ◌∙◌, arith, inl, inr}
use Rattle.std.specs.Prelude.{IfSome, slice_index_or}
use Rattle.std.specs.List.{AllByRecursion, cons_option, filter_map}
use Rattle.std.specs.Map.{lookup}
use Rattle.std.proofs.lemmas.Bool.{cases_eq}
use Rattle.std.proofs.lemmas.List.Elements.{filter-append, filter_map-append}
use Rattle.std.proofs.lemmas.List.{append-nil, map-append}
use Rattle.std.proofs.lemmas.Option.{get_or_from_slice_get, same_Some, none-some, IfSome_then, slice_get_within}
use mathlib.Core.Logic.{◌⊎◌}
use Rattle.ynl_resource.specs.declared.amounts.Resource.{Resource}
use Rattle.ynl_resource.specs.declared.names.Name.{Name}
use Rattle.ynl_resource.specs.Names.{same_name}
use Rattle.ynl_model.specs.declared.queues.StopRow.{StopRow}
use Rattle.ynl_model.specs.declared.queues.MaximumRow.{MaximumRow}
use Rattle.ynl_model.specs.Applications.{Application, in_leaf, submitted, new_app as new_model_app}
use Rattle.ynl_laws.specs.Numbers.{Differ}
use Rattle.ynl_laws.proofs.Lists.{Each-map, Pairs-last}
use Rattle.ynl_inventory.specs.layout.Paths.{HasNumber, path_at}
use Rattle.ynl_slots.specs.Slots.{IsLive, IsUnused}
use Rattle.ynl_slots.proofs.Entries.{distinct_push, itself, lookup-push-other, other as apart_numbers}
use Rattle.ynl_slots.proofs.Lookups.{lookup-push}
use Rattle.ynl_tables.specs.declared.containers.container.Container.{Container}
use Rattle.ynl_tables.specs.declared.submissions.submissions.Submission.{Submission}
use Rattle.ynl_inventory.specs.Rows.{Rows, PartitionRow, AppRow}
use Rattle.ynl_inventory.specs.Meaning.{app_name, application_of, has_none_below, label_at, leaf_of, live_of, owner_of, partition_of, placed_of, state_of, submitted_in, submitted_to, tenant_at}
use Rattle.ynl_inventory.specs.Changes.{new_app, with_at, with_submitted}
use Rattle.ynl_inventory.specs.Apps.{IsBefore}
use Rattle.ynl_inventory.specs.Sound.{HasPartition, IsApp, IsPartition, IsSound, IsSubmission, IsTenant}
use Rattle.ynl_inventory.proofs.Lookups.{each-place, length-at, place-push, place-there, pushed-live}
use Rattle.ynl_inventory.proofs.Naming.{app_name-push, live-same, owner-same, placed-same}
use Rattle.ynl_inventory.proofs.Updates.{each-number}
use Rattle.ynl_inventory.proofs.Kept.{kept-container}
use Rattle.ynl_inventory.proofs.AppChange.{made-same}
use Rattle.ynl_inventory.proofs.Leaves.{one-leaf}
use Rattle.ynl_inventory.proofs.Submitted.{each-submitted, submission}

-- ---- lists of submissions

-- the submissions of the tenant, and of others
module _ (change : List (Name × Submission) → List (Name × Submission)) where
  pub submitted-own : (tenants : List (List (Name × Submission))) (t : ℕ) → t < length tenants → submitted_to (with_at t change tenants) t ≡ change (submitted_to tenants t)
  submitted-own [] t h = absurd (omega arith)
  submitted-own (entries ∷ tenants) zero h = refl
  submitted-own (entries ∷ tenants) (suc t) h = submitted-own tenants t (omega (arith, h))

  pub submitted-other : (tenants : List (List (Name × Submission))) (t other : ℕ) → other ≢ t → submitted_to (with_at t change tenants) other ≡ submitted_to tenants other
  submitted-other [] t other apart = refl
  submitted-other (entries ∷ tenants) zero zero apart = absurd (apart refl)
  submitted-other (entries ∷ tenants) zero (suc other) apart = refl
  submitted-other (entries ∷ tenants) (suc t) zero apart = refl
  submitted-other (entries ∷ tenants) (suc t) (suc other) apart = submitted-other tenants t other (λ same. apart (ap suc same))

-- what stands behind the last of a list is the one that came
last-or : {X : Type 0} (x : X) (xs : List X) (i : ℕ) (y : X) → slice_get (xs ++ x ∷ []) i ≡ Some y → (slice_get xs i ≡ Some y) ⊎ ((i ≡ length xs) × (x ≡ y))
last-or x [] zero y at = inr (refl, same_Some x y at)
last-or x [] (suc i) y at = absurd (none-some y at)
last-or x (z ∷ xs) zero y at = inl at
last-or x (z ∷ xs) (suc i) y at = go (last-or x xs i y at)
  where
    go : ((slice_get xs i ≡ Some y) ⊎ ((i ≡ length xs) × (x ≡ y))) → (slice_get (z ∷ xs) (suc i) ≡ Some y) ⊎ ((suc i ≡ suc (length xs)) × (x ≡ y))
    go (inl k) = inl k
    go (inr k) = inr (ap suc k.0, k.1)

at-last : {X : Type 0} (x : X) (xs : List X) → slice_get (xs ++ x ∷ []) (length xs) ≡ Some x
at-last x [] = refl
at-last x (y ∷ xs) = at-last x xs

-- what is made of each alike is made alike
pub map-each : {X Y : Type 0} (f g : X → Y) (xs : List X) → AllByRecursion (λ x. f x ≡ g x) xs → map f xs ≡ map g xs
map-each f g [] h = refl
map-each f g (x ∷ xs) h = λ i. h.0 i ∷ map-each f g xs h.1 i

module _ (v : Rows) (number : ℕ) (name : Name) (tenant leaf user home : ℕ) (master : Resource) where
  abbrev pub after : Rows
  after = with_submitted number name tenant leaf user home master v

  abbrev pub entries : List (Name × Submission)
  entries = submitted_to v.tenants tenant

  abbrev pub entry : Name × Submission
  entry = (name, record { leaf = leaf; app = Some number })

  abbrev pub row : AppRow
  row = new_app tenant (length entries) leaf user home master

  -- what has to be so of the application
  pub record IsNew : Type 0 where
    pub unused : IsUnused number v.apps
    pub other_name : AllByRecursion (λ (e : Name × Submission). same_name e.0 name ≡ false) entries
    pub there : HasNumber v.paths leaf
    pub none_below : has_none_below v.paths (path_at v.paths leaf) ≡ true
    pub own_tenant : tenant_at v.paths leaf ≡ tenant
    pub inside : tenant < length v.tenants
    pub own_user : user < length v.users
    pub own_home : HasPartition v home

  module _ (sound : IsSound v) (new : IsNew) where
    own-entries : submitted_to after.tenants tenant ≡ entries ++ entry ∷ []
    own-entries = submitted-own (λ es. es ++ entry ∷ []) v.tenants tenant new.inside

    other-entries : (t : ℕ) → t ≢ tenant → submitted_to after.tenants t ≡ submitted_to v.tenants t
    other-entries t apart = submitted-other (λ es. es ++ entry ∷ []) v.tenants tenant t apart

    -- what was submitted before stands where it stood
    stays : (t turn : ℕ) (e : Name × Submission) → slice_get (submitted_to v.tenants t) turn ≡ Some e → slice_get (submitted_to after.tenants t) turn ≡ Some e
    stays t turn e at =
        elim (cases_eq t tenant) [
          | inl same ↦
              subst (λ (k : ℕ). slice_get (submitted_to after.tenants k) turn ≡ Some e) (sym same)
              (ap (λ (es : List (Name × Submission)). slice_get es turn) own-entries
              ∙ place-push entries (entry ∷ []) turn (slice_get_within entries turn e (ap (λ (k : ℕ). slice_get (submitted_to v.tenants k) turn) (sym same) ∙ at))
              ∙ ap (λ (k : ℕ). slice_get (submitted_to v.tenants k) turn) (sym same) ∙ at)
          | inr apart ↦ ap (λ (es : List (Name × Submission)). slice_get es turn) (other-entries t apart) ∙ at
        ]

    -- and nothing else but the new one
    was : (t turn : ℕ) (e : Name × Submission) → slice_get (submitted_to after.tenants t) turn ≡ Some e
        → (slice_get (submitted_to v.tenants t) turn ≡ Some e) ⊎ ((t ≡ tenant) × (turn ≡ length entries) × (entry ≡ e))
    was t turn e at =
        elim (cases_eq t tenant) [
          | inl same ↦
              go same (last-or entry entries turn e (sym (ap (λ (es : List (Name × Submission)). slice_get es turn) own-entries) ∙ ap (λ (k : ℕ). slice_get (submitted_to after.tenants k) turn) (sym same) ∙ at))
          | inr apart ↦ inl (sym (ap (λ (es : List (Name × Submission)). slice_get es turn) (other-entries t apart)) ∙ at)
        ]
      where
        go : t ≡ tenant → ((slice_get entries turn ≡ Some e) ⊎ ((turn ≡ length entries) × (entry ≡ e)))
            → (slice_get (submitted_to v.tenants t) turn ≡ Some e) ⊎ ((t ≡ tenant) × (turn ≡ length entries) × (entry ≡ e))
        go same (inl k) = inl (ap (λ (m : ℕ). slice_get (submitted_to v.tenants m) turn) same ∙ k)
        go same (inr k) = inr (same, k.0, k.1)

    found-new : lookup (nat_eq number) after.apps ≡ Some row
    found-new = lookup-push number number row v.apps new.unused ∙ ap (λ (b : Bool). cond b (Some row) (lookup (nat_eq number) v.apps)) (itself number)

    found-old : (n : ℕ) → IsLive n v.apps → lookup (nat_eq n) after.apps ≡ lookup (nat_eq n) v.apps
    found-old n live = pushed-live n number row v.apps live

    live-old : (n : ℕ) → IsLive n v.apps → IsLive n after.apps
    live-old n live = ap is_some (found-old n live) ∙ live

    -- ---- the rows stay sound

    old-app : (n : ℕ) (r : AppRow) → IsApp v n r → IsApp after n r
    old-app n r is = record {
      name = is.name;
      submitted = stays r.tenant r.turn _ is.submitted;
      user = is.user;
      home = is.home;
      asks = is.asks;
      asked = is.asked;
    }

    own-app : IsApp after number row
    own-app = record {
      name = name;
      submitted = ap (λ (es : List (Name × Submission)). slice_get es (length entries)) own-entries ∙ at-last entry entries;
      user = new.own_user;
      home = new.own_home;
      asks = record { apart = tt; counted = tt };
      asked = λ i d h. absurd (omega (arith, h));
    }

    each-app : (n : ℕ) (r : AppRow) → lookup (nat_eq n) after.apps ≡ Some r → IsApp after n r
    each-app n r at =
        elim (cases_eq n number) [
          | inl same ↦
              let is : row ≡ r = same_Some row r (sym found-new ∙ ap (λ (m : ℕ). lookup (nat_eq m) after.apps) (sym same) ∙ at) in
              subst (λ (m : ℕ). IsApp after m r) (sym same) (subst (IsApp after number) is own-app)
          | inr apart ↦ old-app n r (sound.apps n r (sym (lookup-push-other n number row v.apps new.unused apart) ∙ at))
        ]

    old-submission : (t turn : ℕ) (s : Submission) → IsSubmission v t turn s → IsSubmission after t turn s
    old-submission t turn s is = record {
      there = is.there;
      leaf = is.leaf;
      tenant = is.tenant;
      live = IfSome_then s.app is.live live-old;
      row = λ n r own at. is.row n r own (sym (found-old n (subst (λ (o : Option ℕ). IfSome o (λ m. IsLive m v.apps)) own is.live)) ∙ at);
    }

    own-submission : IsSubmission after tenant (length entries) entry.1
    own-submission = record {
      there = new.there;
      leaf = new.none_below;
      tenant = new.own_tenant;
      live = ap is_some found-new;
      row = λ n r own at.
          let same : number ≡ n = same_Some number n own in
          let is : row ≡ r = same_Some row r (sym found-new ∙ ap (λ (m : ℕ). lookup (nat_eq m) after.apps) same ∙ at) in
          (ap (λ (x : AppRow). x.tenant) (sym is), (ap (λ (x : AppRow). x.turn) (sym is), ap (λ (x : AppRow). x.leaf) (sym is)));
    }

    each-submission : (t turn : ℕ) (e : Name × Submission) → slice_get (submitted_to after.tenants t) turn ≡ Some e → IsSubmission after t turn e.1
    each-submission t turn e at = go (was t turn e at)
      where
        go : ((slice_get (submitted_to v.tenants t) turn ≡ Some e) ⊎ ((t ≡ tenant) × (turn ≡ length entries) × (entry ≡ e))) → IsSubmission after t turn e.1
        go (inl k) = old-submission t turn e.1 (submission v sound t turn e k)
        go (inr k) = subst (λ (f : Name × Submission). IsSubmission after t turn f.1) k.2 (subst (λ (m : ℕ). IsSubmission after m turn entry.1) (sym k.0) (subst (λ (m : ℕ). IsSubmission after tenant m entry.1) (sym k.1) own-submission))

    names-differ : (t : ℕ) → Differ (map (λ (e : Name × Submission). e.0) (submitted_to v.tenants t)) → Differ (map (λ (e : Name × Submission). e.0) (submitted_to after.tenants t))
    names-differ t differ =
        elim (cases_eq t tenant) [
          | inl same ↦
              subst (λ (k : ℕ). Differ (map (λ (e : Name × Submission). e.0) (submitted_to after.tenants k))) (sym same)
              (subst (λ (es : List (Name × Submission)). Differ (map (λ (e : Name × Submission). e.0) es)) (sym own-entries)
              (subst Differ (sym (map-append (λ (e : Name × Submission). e.0) entries (entry ∷ [])))
              (Pairs-last _ (map (λ (e : Name × Submission). e.0) entries) name (subst (λ (k : ℕ). Differ (map (λ (e : Name × Submission). e.0) (submitted_to v.tenants k))) same differ)
              (Each-map _ _ (λ (e : Name × Submission). e.0) (λ e h. h) entries new.other_name))))
          | inr apart ↦ subst (λ (es : List (Name × Submission)). Differ (map (λ (e : Name × Submission). e.0) es)) (sym (other-entries t apart)) differ
        ]

    each-tenant : (t : ℕ) (es : List (Name × Submission)) → slice_get after.tenants t ≡ Some es → IsTenant after t es
    each-tenant t es at =
        let old = place-there v.tenants t (subst (λ (n : ℕ). t < n) (length-at tenant (λ es. es ++ entry ∷ []) v.tenants) (slice_get_within after.tenants t es at)) in
        let were : submitted_to v.tenants t ≡ old.0 = get_or_from_slice_get v.tenants t old.0 [] old.1 in
        let are : submitted_to after.tenants t ≡ es = get_or_from_slice_get after.tenants t es [] at in
        record {
          names =
              subst (λ (fs : List (Name × Submission)). Differ (map (λ (e : Name × Submission). e.0) fs)) are
              (names-differ t (subst (λ (fs : List (Name × Submission)). Differ (map (λ (e : Name × Submission). e.0) fs)) (sym were) (sound.tenants t old.0 old.1).names));
          each = λ turn n s there. each-submission t turn (n, s) (ap (λ (fs : List (Name × Submission)). slice_get fs turn) are ∙ there);
        }

    each-partition : (p : ℕ) (r : PartitionRow) → IsPartition v p r → IsPartition after p r
    each-partition p r is = record {
      numbers = is.numbers;
      rising = is.rising;
      clock = is.clock;
      masters = is.masters;
      each = λ n c at.
          kept-container v after refl p r.clock r.clock c (is.each n c at) (omega arith) (λ app there. (app, found-old c.app (is.each n c at).app ∙ there, refl)) (λ node there. (node, there, refl));
    }

    -- the tenant's other applications have lower turns
    came-before : (n : ℕ) (r : AppRow) → lookup (nat_eq n) v.apps ≡ Some r → r.tenant ≡ tenant → r.turn < length entries
    came-before n r at same =
        slice_get_within entries r.turn _ (ap (λ (k : ℕ). slice_get (submitted_to v.tenants k) r.turn) (sym same) ∙ (sound.apps n r at).submitted)

    -- the rows stay sound
    pub submitted-sound : IsSound after
    submitted-sound = record {
      tree = sound.tree;
      default = sound.default;
      some = sound.some;
      labels = sound.labels;
      partitions = λ p r at. each-partition p r (sound.partitions p r at);
      node_numbers = sound.node_numbers;
      node_names = sound.node_names;
      nodes = λ n r at. sound.nodes n r at;
      app_numbers = distinct_push number row v.apps new.unused sound.app_numbers;
      apps = each-app;
      order = Pairs-last IsBefore v.apps (number, row) sound.order (each-number (λ n r. IsBefore (n, r) (number, row)) v.apps sound.app_numbers came-before);
      many = length-at tenant (λ es. es ++ entry ∷ []) v.tenants ∙ sound.many;
      tenants = each-tenant;
      users = sound.users;
    }

    -- ---- they mean what the submission gives

    -- who owns a container that is there stays
    owner-stays : (n : ℕ) → IsLive n v.apps → owner_of after n ≡ owner_of v n
    owner-stays n live = owner-same v after n refl (found-old n live) names
      where
        names : (r : AppRow) → lookup (nat_eq n) v.apps ≡ Some r → app_name after.tenants r.tenant r.turn ≡ app_name v.tenants r.tenant r.turn
        names r at = app_name-push tenant entry v.tenants r.tenant r.turn (slice_get_within (submitted_to v.tenants r.tenant) r.turn _ (sound.apps n r at).submitted)

    partition-stays : (p : ℕ) (r : PartitionRow) → IsPartition v p r → partition_of after r ≡ partition_of v r
    partition-stays p r is = λ i. record {
      label = r.label;
      clock = r.clock;
      containers = map-each (λ e. placed_of after r.label e.1) (λ e. placed_of v r.label e.1) r.containers each i;
    }
      where
        each : AllByRecursion (λ (e : ℕ × Container). placed_of after r.label e.1 ≡ placed_of v r.label e.1) r.containers
        each = each-number (λ n c. placed_of after r.label c ≡ placed_of v r.label c) r.containers is.numbers (λ n c at. placed-same v after (λ q. refl) r.label c refl (owner-stays c.app (is.each n c at).app))

    partitions-stay : map (partition_of after) v.partitions ≡ map (partition_of v) v.partitions
    partitions-stay = map-each (partition_of after) (partition_of v) v.partitions (each-place _ v.partitions (λ p r at. partition-stays p r (sound.partitions p r at)))

    live-stays : (t turn : ℕ) (e : Name × Submission) → slice_get (submitted_to v.tenants t) turn ≡ Some e → live_of after e ≡ live_of v e
    live-stays t turn e at =
        live-same v after (λ q. refl) e refl (λ n is. found-old n (subst (λ (o : Option ℕ). IfSome o (λ m. IsLive m v.apps)) is (submission v sound t turn e at).live)) (λ n r is there. refl)

    old-apps : (q : ℕ) → filter_map (live_of after) (submitted_in v q) ≡ filter_map (live_of v) (submitted_in v q)
    old-apps q =
        made-same (live_of v) (live_of after) (submitted_in v q)
        (each-submitted v q (λ e. live_of after e ≡ live_of v e) (λ turn e at is. live-stays (tenant_at v.paths q) turn e at))

    abbrev pub application : Application
    application = new_model_app (path_at v.paths leaf) name (slice_index_or v.users user []) (label_at v.partitions home) master

    own-live : live_of after entry ≡ Some application
    own-live = ap (option_map (application_of after name)) found-new

    abbrev pub of : ℕ → List (Name × Submission) → List (Name × Submission)
    of q es = filter (λ e. nat_eq e.1.leaf q) es

    own-in : submitted_in after leaf ≡ submitted_in v leaf ++ entry ∷ []
    own-in =
        ap (λ (t : ℕ). of leaf (submitted_to after.tenants t)) new.own_tenant
        ∙ ap (of leaf) own-entries
        ∙ filter-append (λ e. nat_eq e.1.leaf leaf) entries (entry ∷ [])
        ∙ ap (λ (b : Bool). of leaf entries ++ cond b (entry ∷ []) []) (itself leaf)
        ∙ ap (λ (t : ℕ). of leaf (submitted_to v.tenants t) ++ entry ∷ []) (sym new.own_tenant)

    own-leaf : leaf_of after leaf ≡ submitted application (leaf_of v leaf)
    own-leaf = λ i. record {
      leaf = path_at v.paths leaf;
      names = (ap (map (λ (e : Name × Submission). e.0)) own-in ∙ map-append (λ (e : Name × Submission). e.0) (submitted_in v leaf) (entry ∷ [])) i;
      apps = (ap (filter_map (live_of after)) own-in ∙ filter_map-append (live_of after) (submitted_in v leaf) (entry ∷ []) ∙ (λ j. old-apps leaf j ++ cons_option (own-live j) [])) i;
    }

    other-in : (q : ℕ) → q ≢ leaf → submitted_in after q ≡ submitted_in v q
    other-in q apart =
        elim (cases_eq (tenant_at v.paths q) tenant) [
          | inl same ↦
              ap (λ (t : ℕ). of q (submitted_to after.tenants t)) same
              ∙ ap (of q) own-entries
              ∙ filter-append (λ e. nat_eq e.1.leaf q) entries (entry ∷ [])
              ∙ ap (λ (b : Bool). of q entries ++ cond b (entry ∷ []) []) (apart_numbers leaf q (λ is. apart (sym is)))
              ∙ append-nil (of q entries)
              ∙ ap (λ (t : ℕ). of q (submitted_to v.tenants t)) (sym same)
          | inr else ↦ ap (of q) (other-entries (tenant_at v.paths q) else)
        ]

    other-leaf : (q : ℕ) → q ≢ leaf → leaf_of after q ≡ leaf_of v q
    other-leaf q apart = λ i. record {
      leaf = path_at v.paths q;
      names = map (λ (e : Name × Submission). e.0) (other-in q apart i);
      apps = (ap (filter_map (live_of after)) (other-in q apart) ∙ old-apps q) i;
    }

    -- the rows mean what the submission gives
    pub submitted-means : (stops : List StopRow) (maxima : List MaximumRow)
        → state_of after stops maxima ≡ record (state_of v stops maxima) { leaves = in_leaf (path_at v.paths leaf) (submitted application) (state_of v stops maxima).leaves }
    submitted-means stops maxima = λ i. record {
      nodes = (state_of v stops maxima).nodes;
      partitions = partitions-stay i;
      leaves = one-leaf v after sound.tree leaf new.there (submitted application) own-leaf other-leaf i;
      stops = stops;
      maxima = maxima;
    }
