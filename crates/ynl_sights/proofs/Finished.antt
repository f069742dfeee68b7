-- An application finishes: what is wanted of each other leaf stays as it is.
use Rattle.std.proofs.Common.{◌≡◌, ◌≢◌, ◌<◌, ℕ, zero, suc, Bool, true, false, not, ◌&&◌, ◌||◌, nat_eq, nat_lt, List, [], ◌∷◌, length, map, filter, slice_get, Option, None, Some, option_map, refl, sym, ap, subst, ◌∙◌, arith, true≢false}
use Rattle.std.specs.Prelude.{slice_index_or}
use Rattle.std.specs.List.{list_any}
use Rattle.std.specs.Map.{lookup}
use Rattle.std.specs.Option.{option_map_or}
use Rattle.std.proofs.lemmas.Bool.{and_parts, eqb-true}
use Rattle.std.proofs.lemmas.Bool.Decides.{nat_tests}
use Rattle.std.proofs.lemmas.List.{length-map}
use Rattle.std.proofs.lemmas.Option.{none-some, same_Some, slice_get-get_or, slice_get-map, slice_get_within}
use Rattle.ynl_resource.specs.Amounts.{nothing, total_of}
use Rattle.ynl_resource.specs.Names.{is_within, root, same_name, same_path, tenant_of}
use Rattle.ynl_resource.specs.declared.labels.Label.{Label}
use Rattle.ynl_resource.specs.declared.labels.Label.TheVariants.{Unlabelled}
use Rattle.ynl_resource.specs.declared.names.Name.{Name}
use Rattle.ynl_resource.specs.declared.paths.Path.{Path}
use Rattle.ynl_model.specs.declared.containers.Placed.{Placed}
use Rattle.ynl_model.specs.declared.queues.StopRow.{StopRow}
use Rattle.ynl_model.specs.declared.queues.MaximumRow.{MaximumRow}
use Rattle.ynl_model.specs.Applications.{Application, finished, leaf_of}
use Rattle.ynl_model.specs.Changes.{app_finishes}
use Rattle.ynl_model.specs.Cluster.{State, containers_on, is_below, is_guest, is_master, is_of, of_app_that, runs, sizes, user_used}
use Rattle.ynl_model.specs.Nodes.{partition_labels}
use Rattle.ynl_model.specs.Queues.{Config}
use Rattle.ynl_laws.specs.Uses.{counts as counts_below}
use Rattle.ynl_laws.specs.Working.{IsKnown, IsOrdered, IsWorking}
use Rattle.ynl_laws.proofs.Events.Kept.{finished-names, leaf_of-kept}
use Rattle.ynl_laws.proofs.Lists.{Each-all, Each-weaker, any-filter, filter-agree, filter-all, filter-filter, filter-nothing, filter-passes, filter-swap}
use Rattle.ynl_laws.proofs.Logic.{and-false, not-false, not-true as not-true_is}
use Rattle.ynl_laws.proofs.Names.{same-name_sym, same-path, within-self}
use Rattle.ynl_laws.proofs.Totals.Marks.{on-finish}
use Rattle.ynl_laws.proofs.Totals.Owners.{find-finished}
use Rattle.ynl_inventory.specs.layout.Paths.{HasNumber, path_at}
use Rattle.ynl_slots.specs.Slots.{without}
use Rattle.ynl_slots.proofs.Entries.{lookup-without-other, other as differ}
use Rattle.ynl_tables.specs.declared.containers.container.Container.{Container}
use Rattle.ynl_inventory.specs.Rows.{Rows, PartitionRow, AppRow}
use Rattle.ynl_inventory.specs.Apps.{containers_of, is_guest_role, runs_at}
use Rattle.ynl_inventory.specs.Changes.{with_app_gone}
use Rattle.ynl_inventory.specs.Meaning.{app_name, app_of, application_of, has_none_below, label_at, state_of}
use Rattle.ynl_inventory.specs.Sound.{HasPartition, IsFor, IsLeaf, IsSound}
use Rattle.ynl_inventory.proofs.AppsFound.{leaf-found}
use Rattle.ynl_inventory.proofs.Finding.{not-true}
use Rattle.ynl_inventory.proofs.Lookups.{place-there}
use Rattle.ynl_inventory.proofs.Naming.{app_name-finished, application-same}
use Rattle.ynl_inventory.proofs.NodeParts.{found-without}
use Rattle.ynl_inventory.proofs.Submitted.{app-submission, app-submitted}
use Rattle.ynl_cluster.specs.Cluster.{ClusterView, maxima_in, state_in, stops_in}
use Rattle.ynl_cluster.specs.requests.Laws.{in_leaf}
use Rattle.ynl_cluster.specs.seating.Seating.{counts, is_of as is_user_of, user_use}
use Rattle.ynl_cluster.proofs.requests.Running.{runs-means}
use Rattle.ynl_cluster.proofs.seating.Sums.{size_of}
use Rattle.ynl_cluster.proofs.seating.UserUse.{is-user_use}
use Rattle.ynl_sights.proofs.Places.{each-own, IsOwn}
use Rattle.ynl_sights.proofs.Staying.{StaysAt}

-- ---- the model

module _ (c : Config) (s : State) (found : Application) (ordered : IsOrdered c s) (there : IsKnown s.leaves found.leaf found.name) (leaf : Path) (off : is_within leaf found.leaf ≡ false) where
  abbrev t : State
  t = app_finishes c found s

  abbrev its : Placed → Bool
  its k = is_of (tenant_of found.leaf) found.name k

  -- what is of a known application is below the leaf if that is
  below-by : (known : Application) → IsKnown s.leaves known.leaf known.name → (k : Placed) → is_of (tenant_of known.leaf) known.name k ≡ true → is_below s.leaves leaf k ≡ is_within leaf known.leaf
  below-by known is k e =
      let parts = and_parts (same_name k.tenant (tenant_of known.leaf)) (same_name k.app known.name) e in
      (λ i. option_map_or (is_within leaf) (leaf_of s.leaves (same-name_sym k.tenant (tenant_of known.leaf) parts.0 i) (same-name_sym k.app known.name parts.1 i)) false)
      ∙ ap (λ o. option_map_or (is_within leaf) o false) is

  -- what is below the leaf is not the application's
  not-its : (k : Placed) → is_below s.leaves leaf k ≡ true → its k ≡ false
  not-its k below = not-true (its k) (λ e. true≢false (sym below ∙ below-by found there k e ∙ off))

  -- the leaf's applications run if they did
  run-on : (app : Application) → app.leaf ≡ leaf → IsKnown s.leaves app.leaf app.name → runs t app ≡ runs s app
  unfolding runs
  run-on app at is =
      ap (list_any masters) (on-finish c s found ordered app.home)
      ∙ any-filter masters (λ k. not (its k)) (λ k e. ap not (not-its k (below-by app is k ((and_parts (is_master k) _ e).1) ∙ ap (is_within leaf) at ∙ within-self leaf))) (containers_on s app.home)
    where
      masters : Placed → Bool
      masters k = is_master k && is_of (tenant_of app.leaf) app.name k

  -- and a user uses the same there
  use-on : (user : Name) (label : Label) → user_used t leaf user label ≡ user_used s leaf user label
  unfolding user_used app_finishes
  use-on user label =
      ap sizes
      (ap (filter (of_app_that by_user t.leaves))
      (filter-agree (λ k. is_below t.leaves leaf k ≡ is_below s.leaves leaf k) (counts_below t.leaves leaf) (counts_below s.leaves leaf) (λ k e i. not (is_guest k) && e i) (containers_on t label)
      (Each-all _ (λ k. ap (λ o. option_map_or (is_within leaf) o false) (leaf_of-kept found.leaf (finished found.name) (finished-names found.name) s.leaves k.tenant k.app)) (containers_on t label))
      ∙ ap (filter (counts_below s.leaves leaf)) (on-finish c s found ordered label)
      ∙ filter-filter (λ k. not (its k)) (counts_below s.leaves leaf) (λ k e. ap not (not-its k (below k e))) (containers_on s label))
      ∙ filter-agree (λ k. counts_below s.leaves leaf k ≡ true) (of_app_that by_user t.leaves) (of_app_that by_user s.leaves)
      (λ k e. ap (λ o. option_map_or by_user o false) (find-finished found.leaf found.name s.leaves k.tenant k.app (not-its k (below k e))))
      (filter (counts_below s.leaves leaf) (containers_on s label)) (filter-passes (counts_below s.leaves leaf) (containers_on s label)))
    where
      by_user : Application → Bool
      by_user app = same_name app.user user

      below : (k : Placed) → counts_below s.leaves leaf k ≡ true → is_below s.leaves leaf k ≡ true
      below k e = (and_parts (not (is_guest k)) _ e).1

-- ---- leaves

-- of a path that is among some no test passes that none passes
none-among : (test : Path → Bool) (paths : List Path) (k : ℕ) (path : Path) → slice_get paths k ≡ Some path → list_any test paths ≡ false → test path ≡ false
none-among test [] k path at none = absurd (none-some path at)
none-among test (p ∷ ps) zero path at none = ap test (sym (same_Some p path at)) ∙ first (test p) none
  where
    first : (b : Bool) → (b || list_any test ps) ≡ false → b ≡ false
    first true h = absurd (true≢false h)
    first false h = refl
none-among test (p ∷ ps) (suc k) path at none = none-among test ps k path at (rest (test p) none)
  where
    rest : (b : Bool) → (b || list_any test ps) ≡ false → list_any test ps ≡ false
    rest true h = absurd (true≢false h)
    rest false h = h

-- no leaf is within another
leaves-apart : (v : Rows) (sound : IsSound v) (q l : ℕ) → IsLeaf v q → IsLeaf v l → q ≢ l → is_within (path_at v.paths q) (path_at v.paths l) ≡ false
leaves-apart v sound q l leaf other apart =
    not-true (is_within (path_at v.paths q) (path_at v.paths l))
    (λ within.
    let same : same_path (path_at v.paths q) (path_at v.paths l) ≡ true =
    not-false (same_path (path_at v.paths q) (path_at v.paths l)) (sym (ap (λ b. b && not (same_path (path_at v.paths q) (path_at v.paths l))) within) ∙ none (among l refl))
    in
    apart (sound.tree.apart q l leaf.there other.there (same-path (path_at v.paths q) (path_at v.paths l) same)))
  where
    among : (n : ℕ) → l ≡ n → (k : ℕ) × (slice_get v.paths k ≡ Some (path_at v.paths l))
    among zero is = absurd (true≢false (sym (ap (λ m. has_none_below v.paths (path_at v.paths m)) (sym is) ∙ other.none_below)))
    among (suc k) is = let inside : k < length v.paths = omega (arith, other.there, is) in (k, slice_get-get_or v.paths k root inside ∙ ap (λ m. Some (path_at v.paths m)) (sym is))

    none : (k : ℕ) × (slice_get v.paths k ≡ Some (path_at v.paths l)) → (is_within (path_at v.paths q) (path_at v.paths l) && not (same_path (path_at v.paths q) (path_at v.paths l))) ≡ false
    none at =
        none-among (λ path. is_within (path_at v.paths q) path && not (same_path (path_at v.paths q) path)) v.paths at.0 (path_at v.paths l) at.1
        (not-true_is _ (and_parts (not (same_path (path_at v.paths q) root)) _ leaf.none_below).1)

-- the leaf of a live application is one
its-leaf : (v : Rows) (sound : IsSound v) (n : ℕ) (row : AppRow) → lookup (nat_eq n) v.apps ≡ Some row → IsLeaf v row.leaf
its-leaf v sound n row found = let is = app-submission v sound n row found in record { there = is.there; none_below = is.leaf }

-- it is known
known : (v : Rows) (sound : IsSound v) (stops : List StopRow) (maxima : List MaximumRow) (n : ℕ) (row : AppRow) → lookup (nat_eq n) v.apps ≡ Some row
    → IsKnown (state_of v stops maxima).leaves (path_at v.paths row.leaf) (app_name v.tenants row.tenant row.turn)
known v sound stops maxima n row found = leaf-found v sound row.tenant row.turn (app_name v.tenants row.tenant row.turn) (record { leaf = row.leaf; app = Some n }) (app-submitted v sound n row found)

-- ---- labels

abbrev labels_of : List PartitionRow → List Label
labels_of partitions = map (λ row. row.label) partitions

-- the label of a partition is read of the labels
label-read : (partitions : List PartitionRow) (p : ℕ) → label_at partitions p ≡ option_map_or (λ label. label) (slice_get (labels_of partitions) p) Unlabelled
label-read partitions p = by (slice_get partitions p) ∙ ap (λ o. option_map_or (λ (label : Label). label) o Unlabelled) (sym (slice_get-map (λ (row : PartitionRow). row.label) partitions p))
  where
    by : (o : Option PartitionRow) → option_map_or (λ row. row.label) o Unlabelled ≡ option_map_or (λ label. label) (option_map (λ row. row.label) o) Unlabelled
    by None = refl
    by (Some row) = refl

-- ---- what nobody uses

-- where there is no partition nothing is used
nothing-there : (v : Rows) (p q user : ℕ) → slice_get v.partitions p ≡ None → user_use v p q user ≡ nothing
nothing-there v p q user none = ap (λ o. total_of size_of (filter (counts v p q user) (option_map_or (λ (r : PartitionRow). r.containers) o []))) none

-- nor where no live application of the leaf is the user's
nothing-used : (v : Rows) (p q user : ℕ) → ((n : ℕ) (row : AppRow) → lookup (nat_eq n) v.apps ≡ Some row → row.leaf ≡ q → row.user ≡ user → ⊥) → user_use v p q user ≡ nothing
nothing-used v p q user none = ap (total_of size_of) (filter-nothing (counts v p q user) (containers_of v p) (Each-all _ (λ e. by e (lookup (nat_eq e.1.app) v.apps) refl) (containers_of v p)))
  where
    by : (e : ℕ × Container) (o : Option AppRow) → lookup (nat_eq e.1.app) v.apps ≡ o → counts v p q user e ≡ false
    by e None at = ap (λ o. not (is_guest_role p e.1.role) && option_map_or (is_user_of q user) o false) at ∙ and-false (not (is_guest_role p e.1.role))
    by e (Some row) at =
        ap (λ o. not (is_guest_role p e.1.role) && option_map_or (is_user_of q user) o false) at
        ∙ ap (λ b. not (is_guest_role p e.1.role) && b)
        (not-true (is_user_of q user row)
        (λ both. let parts = and_parts (nat_eq row.leaf q) (nat_eq row.user user) both in none e.1.app row at (eqb-true row.leaf q parts.0) (eqb-true row.user user parts.1)))
        ∙ and-false (not (is_guest_role p e.1.role))

-- ---- the rows

module _ (w u : ClusterView) (sound : IsSound w.rows) (after : IsSound u.rows) (was-for : IsFor w.config w.rows) (now-for : IsFor u.config u.rows) (working : IsWorking w.config (state_in w))
    (app : ℕ) (row : AppRow) (found : lookup (nat_eq app) w.rows.apps ≡ Some row)
    (rows : u ≡ record w { rows = record (with_app_gone app row.tenant row.turn w.rows) { partitions = u.rows.partitions; nodes = u.rows.nodes }; rooms = u.rooms })
    (state : state_in u ≡ app_finishes w.config (app_of w.rows (app, row)) (state_in w)) (q : ℕ) (other : q ≢ row.leaf) where
  paths : u.rows.paths ≡ w.rows.paths
  paths = ap (λ (x : ClusterView). x.rows.paths) rows

  apps : u.rows.apps ≡ without app w.rows.apps
  apps = ap (λ (x : ClusterView). x.rows.apps) rows

  users : u.rows.users ≡ w.rows.users
  users = ap (λ (x : ClusterView). x.rows.users) rows

  names : (t turn : ℕ) → app_name u.rows.tenants t turn ≡ app_name w.rows.tenants t turn
  names t turn = ap (λ (x : ClusterView). app_name x.rows.tenants t turn) rows ∙ app_name-finished row.tenant row.turn w.rows.tenants t turn

  all-labels : labels_of u.rows.partitions ≡ labels_of w.rows.partitions
  all-labels = now-for.labels ∙ ap (λ (x : ClusterView). partition_labels x.config.labels) rows ∙ sym was-for.labels

  labels : (p : ℕ) → label_at u.rows.partitions p ≡ label_at w.rows.partitions p
  labels p = label-read u.rows.partitions p ∙ ap (λ ls. option_map_or (λ (label : Label). label) (slice_get ls p) Unlabelled) all-labels ∙ sym (label-read w.rows.partitions p)

  many : length u.rows.partitions ≡ length w.rows.partitions
  many =
      sym (length-map u.rows.partitions (λ (row : PartitionRow). row.label)) ∙ ap length all-labels
      ∙ length-map w.rows.partitions (λ (row : PartitionRow). row.label)

  -- the leaf's applications are others
  apart : (e : ℕ × AppRow) → IsOwn w.rows sound q e → e.0 ≢ app
  apart e its same = other (sym its.own ∙ ap (λ (r : AppRow). r.leaf) (same_Some e.1 row (sym its.found ∙ ap (λ m. lookup (nat_eq m) w.rows.apps) same ∙ found)))

  found-after : (e : ℕ × AppRow) → IsOwn w.rows sound q e → lookup (nat_eq e.0) u.rows.apps ≡ Some e.1
  found-after e its = ap (lookup (nat_eq e.0)) apps ∙ lookup-without-other e.0 app w.rows.apps (apart e its) ∙ its.found

  -- stay in their places
  leaf-stays : in_leaf q u.rows.apps ≡ in_leaf q w.rows.apps
  leaf-stays =
      ap (in_leaf q) apps
      ∙ filter-swap (λ e. not (nat_eq app e.0)) (λ e. nat_eq e.1.leaf q) w.rows.apps
      ∙ filter-all (λ e. not (nat_eq app e.0)) (in_leaf q w.rows.apps)
      (Each-weaker (IsOwn w.rows sound q) (λ e. not (nat_eq app e.0) ≡ true) (λ e its. ap not (differ app e.0 (λ same. apart e its (sym same)))) (in_leaf q w.rows.apps) (each-own w.rows sound q))

  abbrev gone : Application
  gone = app_of w.rows (app, row)

  gone-known : IsKnown (state_in w).leaves gone.leaf gone.name
  gone-known = known w.rows sound (stops_in w) (maxima_in w) app row found

  off : IsLeaf w.rows q → is_within (path_at w.rows.paths q) gone.leaf ≡ false
  off leaf = leaves-apart w.rows sound q row.leaf leaf (its-leaf w.rows sound app row found) other

  -- run if they did
  runs-stay : (e : ℕ × AppRow) → IsOwn w.rows sound q e → runs_at u.rows e.0 e.1 ≡ runs_at w.rows e.0 e.1
  runs-stay e its =
      sym (runs-means u.rows after (stops_in u) (maxima_in u) e.0 e.1 (found-after e its))
      ∙ (λ i. runs (state i) (called i))
      ∙ run-on w.config (state_in w) gone working.ordered gone-known (path_at w.rows.paths q) (off leaf) (app_of w.rows e) (ap (path_at w.rows.paths) its.own)
      (known w.rows sound (stops_in w) (maxima_in w) e.0 e.1 its.found)
      ∙ runs-means w.rows sound (stops_in w) (maxima_in w) e.0 e.1 its.found
    where
      leaf : IsLeaf w.rows q
      leaf = subst (IsLeaf w.rows) its.own (its-leaf w.rows sound e.0 e.1 its.found)

      called : app_of u.rows e ≡ app_of w.rows e
      called =
          ap (λ name. application_of u.rows name e.1) (names e.1.tenant e.1.turn)
          ∙ application-same w.rows u.rows labels (app_name w.rows.tenants e.1.tenant e.1.turn) e.1 paths (ap (λ us. slice_index_or us e.1.user []) users)

  -- ---- and their users use the same

  use-met : (p user : ℕ) → HasPartition w.rows p → IsLeaf w.rows q → user < length w.rows.users → user_use u.rows p q user ≡ user_use w.rows p q user
  use-met p user has leaf named =
      sym (is-user_use u.rows after p q user (subst (λ n. p < n) (sym many) has) leaf-after (subst (λ (us : List Name). user < length us) (sym users) named) (stops_in u) (maxima_in u))
      ∙ (λ i. user_used (state i) (path_at (paths i) q) (slice_index_or (users i) user []) (labels p i))
      ∙ use-on w.config (state_in w) gone working.ordered gone-known (path_at w.rows.paths q) (off leaf) (slice_index_or w.rows.users user []) (label_at w.rows.partitions p)
      ∙ is-user_use w.rows sound p q user has leaf named (stops_in w) (maxima_in w)
    where
      leaf-after : IsLeaf u.rows q
      leaf-after = record {
        there = subst (λ ps. HasNumber ps q) (sym paths) leaf.there;
        none_below = subst (λ ps. has_none_below ps (path_at ps q) ≡ true) (sym paths) leaf.none_below;
      }

  -- where no application of the leaf was the user's none is
  use-none : (p user : ℕ) → ((n : ℕ) (r : AppRow) → lookup (nat_eq n) w.rows.apps ≡ Some r → r.leaf ≡ q → r.user ≡ user → ⊥) → user_use u.rows p q user ≡ user_use w.rows p q user
  use-none p user none =
      nothing-used u.rows p q user (λ n r at. none n r (found-without n app r w.rows.apps (ap (lookup (nat_eq n)) (sym apps) ∙ at)))
      ∙ sym (nothing-used w.rows p q user none)

  use-there : (p user : ℕ) → HasPartition w.rows p → user_use u.rows p q user ≡ user_use w.rows p q user
  use-there p user has = go (nat_lt q (suc (length w.rows.paths))) refl (has_none_below w.rows.paths (path_at w.rows.paths q)) refl (nat_lt user (length w.rows.users)) refl
    where
      go : (a : Bool) → nat_lt q (suc (length w.rows.paths)) ≡ a → (b : Bool) → has_none_below w.rows.paths (path_at w.rows.paths q) ≡ b → (d : Bool) → nat_lt user (length w.rows.users) ≡ d
          → user_use u.rows p q user ≡ user_use w.rows p q user
      go true a true b true d = use-met p user has (record { there = grind (arith, nat_tests, a); none_below = b }) (grind (arith, nat_tests, d))
      go false a b _ d _ =
          use-none p user
          (λ n r at leaf uses.
          let inside : q < suc (length w.rows.paths) = subst (HasNumber w.rows.paths) leaf (its-leaf w.rows sound n r at).there in
          absurd (grind (arith, nat_tests, a, inside)))
      go true a false b d _ =
          use-none p user (λ n r at leaf uses. true≢false (sym (subst (λ m. has_none_below w.rows.paths (path_at w.rows.paths m) ≡ true) leaf (its-leaf w.rows sound n r at).none_below) ∙ b))
      go true a true b false d =
          use-none p user
          (λ n r at leaf uses. let inside : user < length w.rows.users = subst (λ m. m < length w.rows.users) uses (sound.apps n r at).user in absurd (grind (arith, nat_tests, d, inside)))

  use-stays : (p user : ℕ) → user_use u.rows p q user ≡ user_use w.rows p q user
  use-stays p user = go (slice_get w.rows.partitions p) refl
    where
      go : (o : Option PartitionRow) → slice_get w.rows.partitions p ≡ o → user_use u.rows p q user ≡ user_use w.rows p q user
      go (Some r) at = use-there p user (slice_get_within w.rows.partitions p r at)
      go None at = nothing-there u.rows p q user (none (slice_get u.rows.partitions p) refl) ∙ sym (nothing-there w.rows p q user at)
        where
          none : (o : Option PartitionRow) → slice_get u.rows.partitions p ≡ o → o ≡ None
          none None is = refl
          none (Some r) is =
              let has : HasPartition w.rows p = subst (λ n. p < n) many (slice_get_within u.rows.partitions p r is) in
              let there = place-there w.rows.partitions p has in
              absurd (none-some there.0 (sym at ∙ there.1))

  pub finished-elsewhere : StaysAt w.rows sound u.rows q
  finished-elsewhere = record {
    apps = leaf-stays;
    runs = runs-stay;
    uses = use-stays;
    names = λ e its. names e.1.tenant e.1.turn;
    users = λ e its. ap (λ us. slice_index_or us e.1.user []) users;
  }
