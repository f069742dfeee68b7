-- What every state keeps that isolation rests on, and what that says of the tenant's own cluster.
use Rattle.std.proofs.Common.{◌≡◌, Bool, true, false, cond, not, ◌&&◌, ◌||◌, List, [], ◌∷◌, map, Option, Some, None, is_some, option_map, filter, find, refl, sym, ap, subst, ◌∙◌}
use Rattle.std.specs.Prelude.{IfSome}
use Rattle.std.specs.List.{AllByRecursion, list_all, list_any}
use Rattle.std.specs.Option.{option_map_or, option_and_then}
use Rattle.std.specs.Cmp.Lexicographic.{pointwise_decides, bytes_decides}
use mathlib.Core.Bool.{true≢false}
use Rattle.ynl_resource.specs.Amounts.{total_of}
use Rattle.ynl_resource.specs.Names.{same_name, same_label, is_default, root, top_level, same_path, is_within, tenant_of}
use Rattle.ynl_resource.specs.declared.names.Name.{Name}
use Rattle.ynl_resource.specs.declared.labels.Label.{Label}
use Rattle.ynl_resource.specs.declared.paths.Path.{Path}
use Rattle.ynl_model.specs.Nodes.{partition_labels, nodes_of, total as total_on}
use Rattle.ynl_model.specs.declared.nodes.Node.{Node}
use Rattle.ynl_model.specs.Queues.{Config, QueueRow, is_maximum_of, maximum_on, queue_row, may_use, is_leaf}
use Rattle.ynl_model.specs.declared.queues.MaximumRow.{MaximumRow}
use Rattle.ynl_model.specs.Applications.{Application, LeafApps, row_of, leaf_of, find_app, all_apps, in_leaf, submitted, with_app, finished, set_ask}
use Rattle.ynl_model.specs.Cluster.{State, Partition, is_partition, in_partition, containers_on, is_guest, opening}
use Rattle.ynl_model.specs.declared.containers.Placed.{Placed as Container}
use Rattle.ynl_model.specs.Service.{Item, takes_guests}
use Rattle.ynl_model.specs.Changes.{node_joins, node_leaves, changed_at, place, end, taken, all_own, all_end, app_finishes}
use Rattle.ynl_model.specs.Events.{is_foreign, step, after, state_after}
use Rattle.ynl_model.specs.declared.events.Event.{Event}
use Rattle.ynl_laws.specs.Working.{Pairs, on_in, IsKnown, Apart, places, Kept}
use Rattle.ynl_laws.proofs.Soundness.Tracked.{place-same}
use Rattle.ynl_laws.proofs.Events.Changed.{kept-opening, kept-place, step-keeps}
use Rattle.ynl_laws.proofs.Events.Found.{IsFound, FindsAll, is_found, place-finds, step-finds}
use Rattle.ynl_laws.proofs.Events.Wanted.{IsWanted}
use Rattle.ynl_laws.proofs.Events.Lasting.{Lasts, step-lasts}
use Rattle.ynl_laws.proofs.Lives.Homes.{Homely, homely-lasts, opening-each}
use Rattle.ynl_laws.proofs.Lives.Entitled.{Fitting, fitting-found, Entitled, entitled-lasts, entitled-after}
use Rattle.ynl_laws.proofs.Soundness.Apart.{step-apart}
use Rattle.ynl_laws.proofs.Isolating.Alone.{Alone}
use Rattle.ynl_laws.proofs.Isolating.Own.{tenant-within, only, app-own, Holds, of_tenant, keeps_home}
use Rattle.ynl_laws.proofs.Isolating.Mirrored.{Mirrors, on-same, share_found}
use Rattle.ynl_laws.proofs.Lists.{Each-filter, Each-map, Each-unmap, Each-flat, Each-weaker, Each-both, Each-with, Each-find, Each-found, found-passes, each-of, all-each, filter-filter, map-map, Each-update, map-update}
use Rattle.ynl_laws.proofs.Names.{same-path, same-name_sym, same-name_self, same-label_path, same-label_self}
use Rattle.std.proofs.lemmas.Bool.{and_parts}

-- each leaf that has a row is configured
abbrev pub Configured : Config → List LeafApps → Type 0
Configured c leaves = AllByRecursion (λ row. is_some (queue_row c row.leaf) ≡ true) leaves

-- what every state keeps of applications, containers, leaves, nodes and partitions
pub record Firm (c : Config) (s : State) : Type 0 where
  pub kept : Kept s
  pub finds : FindsAll s.leaves
  pub entitled : Entitled c s
  pub homely : Homely s.leaves s.partitions
  pub rows : Configured c s.leaves
  pub apart : Apart (places s)
  pub labels : map (λ row. row.label) s.partitions ≡ partition_labels c.labels

-- ---- how it stays

rows-lasts : (c : Config) → Lasts (λ s. Configured c s.leaves) c
unfolding node_joins node_leaves end place changed_at app_finishes
rows-lasts c = record {
  joins = λ s name label size h. h;
  leaves = λ s node h. h;
  ends = λ s container h. h;
  placed = λ s node item h kept finds known wanted. changed s.leaves item.leaf (with_app item.app (taken item.what)) (λ row k. k) h;
  submits = λ s app h kept finds unused may none. changed s.leaves app.leaf (submitted app) (λ row k. k) h;
  asks = λ s tenant name found ask h finds e own. changed s.leaves found.leaf (with_app name (set_ask ask)) (λ row k. k) h;
  finishes = λ s found h finds. changed s.leaves found.leaf (finished found.name) (λ row k. k) h;
  elsewhere = λ s u nodes rows leaves h. subst (Configured c) leaves h;
}
  where
    changed : (leaves : List LeafApps) (leaf : Path) (change : LeafApps → LeafApps) → ((row : LeafApps) → is_some (queue_row c row.leaf) ≡ true → is_some (queue_row c (change row).leaf) ≡ true) → Configured c leaves → Configured c (in_leaf leaf change leaves)
    changed leaves leaf change keeps h = Each-update (λ row. is_some (queue_row c row.leaf) ≡ true) (λ row. same_path row.leaf leaf) change keeps leaves h

same-labels : (label : Label) (change : Partition → Partition) → ((row : Partition) → (change row).label ≡ row.label) → (rows : List Partition) → map (λ row. row.label) (in_partition label change rows) ≡ map (λ row. row.label) rows
same-labels label change keeps rows = map-update (λ row. row.label) (is_partition label) change keeps rows

labels-lasts : (c : Config) → Lasts (λ s. map (λ row. row.label) s.partitions ≡ partition_labels c.labels) c
unfolding node_joins node_leaves end place changed_at app_finishes
labels-lasts c = record {
  joins = λ s name label size h. same-labels label _ (λ row. refl) s.partitions ∙ h;
  leaves = λ s node h. same-labels node.label _ (λ row. refl) s.partitions ∙ h;
  ends = λ s container h. same-labels container.id.label _ (λ row. refl) s.partitions ∙ h;
  placed = λ s node item h kept finds known wanted. same-labels node.label _ (λ row. refl) s.partitions ∙ h;
  submits = λ s app h kept finds unused may none. h;
  asks = λ s tenant name found ask h finds e own. h;
  finishes = λ s found h finds. all-end (all_own s (tenant_of found.leaf) found.name) s ∙ h;
  elsewhere = λ s u nodes rows leaves h. ap (map (λ (row : Partition). row.label)) (sym rows) ∙ h;
}
  where
    all-end : (containers : List Container) (s : State) → map (λ row. row.label) (all_end c containers s).partitions ≡ map (λ row. row.label) s.partitions
    all-end [] s = refl
    all-end (container ∷ containers) s = all-end containers (end c s container) ∙ same-labels container.id.label _ (λ row. refl) s.partitions

-- each row is found by its path
each-there : (rows : List QueueRow) → AllByRecursion (λ row. is_some (find (λ other. same_path other.path row.path) rows) ≡ true) rows
each-there [] = tt
each-there (row ∷ rows) = (
  (λ i. is_some (cond ((pointwise_decides bytes_decides row.path row.path).1 refl i) (Some row) (find (λ other. same_path other.path row.path) rows))),
  Each-weaker _ _ (λ other k. later (same_path row.path other.path) (find (λ another. same_path another.path other.path) rows) k) rows (each-there rows),
)
  where
    later : (b : Bool) (o : Option QueueRow) → is_some o ≡ true → is_some (cond b (Some row) o) ≡ true
    later true o k = refl
    later false o k = k

pub firm-opening : (c : Config) → Firm c (opening c)
firm-opening c = record {
  kept = kept-opening c;
  finds = is_found c [];
  entitled = entitled-after c [];
  homely = λ p. opening-each _ c.labels p;
  rows = Each-map (λ (row : QueueRow). is_some (queue_row c row.path) ≡ true) (λ row. is_some (queue_row c row.leaf) ≡ true) _ (λ row k. k) (filter (λ row. is_leaf c row.path) c.queues)
      (Each-filter _ (λ row. is_leaf c row.path) c.queues (each-there c.queues));
  apart = tt;
  labels = map-map (λ (row : Partition). row.label) (λ label. record { label = label; clock = 0; containers = [] }) (partition_labels c.labels) ∙ as-is (partition_labels c.labels);
}
  where
    as-is : (labels : List Label) → map (λ label. label) labels ≡ labels
    as-is [] = refl
    as-is (label ∷ labels) = ap (λ more. label ∷ more) (as-is labels)

pub firm-step : (c : Config) (s : State) (event : Event) → Firm c s → Firm c (step c s event).state
firm-step c s event h = record {
  kept = step-keeps c s event h.kept;
  finds = step-finds c s event h.kept h.finds;
  entitled = step-lasts (Entitled c) c (entitled-lasts c) s event h.kept h.finds h.entitled;
  homely = step-lasts (λ s. Homely s.leaves s.partitions) c (homely-lasts c) s event h.kept h.finds h.homely;
  rows = step-lasts (λ s. Configured c s.leaves) c (rows-lasts c) s event h.kept h.finds h.rows;
  apart = step-apart c s event h.apart;
  labels = step-lasts (λ s. map (λ row. row.label) s.partitions ≡ partition_labels c.labels) c (labels-lasts c) s event h.kept h.finds h.labels;
}

-- so each state keeps it
pub firm-after : (c : Config) (events : List Event) → Firm c (state_after c events)
firm-after c events = go events (opening c) (firm-opening c)
  where
    go : (events : List Event) (s : State) → Firm c s → Firm c (after c s events)
    go [] s h = h
    go (event ∷ events) s h = go events (step c s event).state (firm-step c s event h)

-- a request that fits and is wanted is placed
pub firm-place : (c : Config) (s : State) (node : Node) (item : Item) → Firm c s → IsKnown s.leaves item.leaf item.app → IsWanted c s node.label item → Firm c (place c node item s)
firm-place c s node item h known wanted = record {
  kept = kept-place c node item s h.kept known;
  finds = place-finds c node item s h.kept h.finds;
  entitled = (entitled-lasts c).placed s node item h.entitled h.kept h.finds known wanted;
  homely = (homely-lasts c).placed s node item h.homely h.kept h.finds known wanted;
  rows = (rows-lasts c).placed s node item h.rows h.kept h.finds known wanted;
  apart = subst Apart (sym (place-same c node item s)) h.apart;
  labels = (labels-lasts c).placed s node item h.labels h.kept h.finds known wanted;
}

-- ---- rows of partitions

-- where labels differ each row is the one that its label finds
rows-found : (rows : List Partition) → Pairs (λ a b. same_label a b ≡ false) (map (λ row. row.label) rows) → AllByRecursion (λ row. on_in rows row.label ≡ row.containers) rows
rows-found [] h = tt
rows-found (row ∷ rows) h = (
  (λ i. option_map_or (λ row. row.containers) (cond (same-label_self row.label i) (Some row) (find (is_partition row.label) rows)) []),
  Each-with (λ other. same_label row.label other.label ≡ false) (λ other. on_in rows other.label ≡ other.containers) (λ other. on_in (row ∷ rows) other.label ≡ other.containers)
      (λ other off e. (λ i. option_map_or (λ row. row.containers) (cond (off i) (Some row) (find (is_partition other.label) rows)) []) ∙ e) rows
      (Each-unmap (λ row. row.label) (λ label. same_label row.label label ≡ false) rows h.0) (rows-found rows h.1),
)

-- so what holds of each container on each partition holds of each in each row
each-row : (P : Label → Container → Type 0) (rows : List Partition) → Pairs (λ a b. same_label a b ≡ false) (map (λ row. row.label) rows) → ((label : Label) → AllByRecursion (P label) (on_in rows label)) →
    AllByRecursion (λ row. AllByRecursion (P row.label) row.containers) rows
each-row P rows apart h = Each-weaker _ _ (λ row e. subst (AllByRecursion (P row.label)) e (h row.label)) rows (rows-found rows apart)

-- ---- what it says of a tenant that alone may use a partition

-- the tenant of a queue below the tenant's
pub within-tenant : (t : Name) (queue : Path) → is_within (top_level t) queue ≡ true → tenant_of queue ≡ t
within-tenant t [] h = absurd (true≢false (sym h))
within-tenant t (name ∷ queue) h = sym (same-name_sym t name (and_parts _ _ h).0)

module _ (c : Config) (t : Name) (p : Label) (a : Alone c t p) where
  -- a configured queue is not root
  below-root : (queue : Path) → is_some (queue_row c queue) ≡ true → not (same_path queue root) ≡ true
  below-root queue there = go (queue_row c queue) there (found-passes (λ row. same_path row.path queue) c.queues) (Each-found _ (λ row. same_path row.path queue) c.queues (each-of (λ row. not (same_path row.path root)) c.queues a.rooted))
    where
      go : (o : Option QueueRow) → is_some o ≡ true → IfSome o (λ row. same_path row.path queue ≡ true) → IfSome o (λ row. not (same_path row.path root) ≡ true) → not (same_path queue root) ≡ true
      go None e at k = absurd (true≢false (sym e))
      go (Some row) e at k = ap (λ q. not (same_path q root)) (sym (same-path row.path queue at)) ∙ k

  pub takes-none : takes_guests c p ≡ false
  takes-none = (λ i. not (a.home i) && not (a.exclusive i))

  module _ (s : State) (h : Firm c s) where
    rooted : list_all (λ row. not (same_path row.leaf root)) s.leaves ≡ true
    rooted = all-each _ s.leaves (Each-weaker _ (λ row. not (same_path row.leaf root) ≡ true) (λ row k. below-root row.leaf k) s.leaves h.rows)

    -- a leaf that is found is configured and the named tenant's
    leaf-found : (tenant name : Name) → IfSome (leaf_of s.leaves tenant name) (λ leaf. (tenant_of leaf ≡ tenant) × (is_some (queue_row c leaf) ≡ true))
    unfolding leaf_of
    leaf-found tenant name = go (row_of s.leaves tenant name) (found-passes _ s.leaves) (Each-found _ _ s.leaves h.rows)
      where
        go : (o : Option LeafApps) → IfSome o (λ row. (same_name (tenant_of row.leaf) tenant && list_any (same_name name) row.names) ≡ true) → IfSome o (λ row. is_some (queue_row c row.leaf) ≡ true) →
            IfSome (option_map (λ row. row.leaf) o) (λ leaf. (tenant_of leaf ≡ tenant) × (is_some (queue_row c leaf) ≡ true))
        go None at k = tt
        go (Some row) at k = (same-name_sym (tenant_of row.leaf) tenant (and_parts _ _ at).0, k)

    -- a container on the partition is the tenant's
    pub owned : AllByRecursion (λ container. container.tenant ≡ t) (containers_on s p)
    owned = Each-with _ _ (λ container. container.tenant ≡ t) (λ container entitled home. go container home.0 (is_guest container) (leaf_of s.leaves container.tenant container.app) (leaf-found container.tenant container.app) entitled) (containers_on s p) (h.entitled.containers p) (h.homely p)
      where
        go : (k : Container) → k.id.label ≡ p → (guest : Bool) (o : Option Path) → IfSome o (λ leaf. (tenant_of leaf ≡ k.tenant) × (is_some (queue_row c leaf) ≡ true)) →
            cond guest (takes_guests c k.id.label) (option_map_or (λ leaf. may_use c leaf k.id.label) o false) ≡ true → k.tenant ≡ t
        go k on true o found may = absurd (true≢false (sym may ∙ ap (takes_guests c) on ∙ takes-none))
        go k on false None found may = absurd (true≢false (sym may))
        go k on false (Some leaf) found may = sym found.0 ∙ within-tenant t leaf (a.own leaf found.1 (ap (may_use c leaf) (sym on) ∙ may))

    -- a container in a row has that row's label, and if that is the partition's it is the tenant's
    pub in-rows : AllByRecursion (λ row. AllByRecursion (λ container. (container.id.label ≡ row.label) × (row.label ≡ p → container.tenant ≡ t)) row.containers) s.partitions
    in-rows = each-row (λ label container. (container.id.label ≡ label) × (label ≡ p → container.tenant ≡ t)) s.partitions (subst (Pairs (λ a b. same_label a b ≡ false)) (sym h.labels) a.apart)
        (λ label. go label (same_label label p) refl)
      where
        go : (label : Label) (b : Bool) → same_label label p ≡ b → AllByRecursion (λ container. (container.id.label ≡ label) × (label ≡ p → container.tenant ≡ t)) (on_in s.partitions label)
        go label true e = Each-with _ _ _ (λ container home own. (home.0, λ _. own)) (on_in s.partitions label) (h.homely label) (subst (λ l. AllByRecursion (λ container. container.tenant ≡ t) (on_in s.partitions l)) (sym (same-label_path label p e)) owned)
        go label false e = Each-weaker _ _ (λ container home. (home.0, λ same. absurd (true≢false (sym (ap (λ l. same_label l p) same ∙ same-label_self p) ∙ e)))) (on_in s.partitions label) (h.homely label)

    -- an application that is found is the named tenant's, and its leaf is configured
    pub found-in : (tenant name : Name) (app : Application) → find_app s.leaves tenant name ≡ Some app → (tenant_of app.leaf ≡ tenant) × (is_some (queue_row c app.leaf) ≡ true)
    unfolding find_app
    found-in tenant name app e = go (row_of s.leaves tenant name) (found-passes _ s.leaves) (Each-found _ _ s.leaves h.rows) (Each-found _ _ s.leaves h.finds) e
      where
        go : (o : Option LeafApps) → IfSome o (λ row. (same_name (tenant_of row.leaf) tenant && list_any (same_name name) row.names) ≡ true) → IfSome o (λ row. is_some (queue_row c row.leaf) ≡ true) →
            IfSome o (λ row. AllByRecursion (IsFound s.leaves row) row.apps) → option_and_then (λ row. find (λ app. same_name app.name name) row.apps) o ≡ Some app → (tenant_of app.leaf ≡ tenant) × (is_some (queue_row c app.leaf) ≡ true)
        go None at k f e = cc
        go (Some row) at k f e =
            let leaf : app.leaf ≡ row.leaf = (Each-find (IsFound s.leaves row) (λ app. same_name app.name name) row.apps f app e).0.at in
            (ap tenant_of leaf ∙ same-name_sym (tenant_of row.leaf) tenant (and_parts _ _ at).0, ap (λ q. is_some (queue_row c q)) leaf ∙ k)

    -- that of the tenant is in a queue of the tenant's
    pub found-within : (name : Name) (app : Application) → find_app s.leaves t name ≡ Some app → is_within (top_level t) app.leaf ≡ true
    found-within name app e = let k = found-in t name app e in tenant-within t app.leaf (below-root app.leaf k.1) (ap (λ n. same_name n t) k.0 ∙ same-name_self t)

    -- and that of another is not
    pub found-other : (tenant name : Name) (app : Application) → same_name tenant t ≡ false → find_app s.leaves tenant name ≡ Some app → is_within (top_level t) app.leaf ≡ false
    found-other tenant name app off e = go (is_within (top_level t) app.leaf) refl
      where
        go : (b : Bool) → is_within (top_level t) app.leaf ≡ b → is_within (top_level t) app.leaf ≡ false
        go true w = absurd (true≢false (sym (ap (same_name tenant) (sym (within-tenant t app.leaf w) ∙ (found-in tenant name app e).0) ∙ same-name_self tenant) ∙ off))
        go false w = w

    -- an application in its row, with all that is known of it
    abbrev Settled : Application → Type 0
    Settled app = Fitting c app × (is_some (queue_row c app.leaf) ≡ true)

    settled : AllByRecursion Settled (all_apps s.leaves)
    settled = Each-flat _ Settled (λ row. row.apps)
        (λ row k. Each-with _ _ Settled (λ app fits found. (fits, ap (λ q. is_some (queue_row c q)) found.at ∙ k.1.1)) row.apps k.0 k.1.0) s.leaves
        (Each-both (λ row. AllByRecursion (Fitting c) row.apps) (λ row. AllByRecursion (IsFound s.leaves row) row.apps × (is_some (queue_row c row.leaf) ≡ true)) s.leaves h.entitled.apps
        (Each-both (λ row. AllByRecursion (IsFound s.leaves row) row.apps) (λ row. is_some (queue_row c row.leaf) ≡ true) s.leaves h.finds h.rows))

    home-own : (app : Application) → Settled app → (not (same_label app.home p) || of_tenant t app) ≡ true
    home-own app k = go (same_label app.home p) refl
      where
        go : (b : Bool) → same_label app.home p ≡ b → (not b || of_tenant t app) ≡ true
        go true e = a.own app.leaf k.1 (ap (may_use c app.leaf) (sym (same-label_path app.home p e)) ∙ k.0.0)
        go false e = refl

    asked-home : (app : Application) → Settled app → keeps_home p app ≡ true
    asked-home app k = go (same_label app.home p) refl
      where
        away : (label : Label) → same_label app.home p ≡ false → is_foreign label app ≡ false → (b : Bool) → same_label label p ≡ b → not (same_label label p) ≡ true
        away label off own false e = ap not e
        away label off own true e =
            let same : label ≡ p = same-label_path label p e in
            absurd (true≢false (sym (λ i. not (a.home i) && not (off i)) ∙ ap (λ l. not (is_default l) && not (same_label app.home l)) (sym same) ∙ own))

        go : (b : Bool) → same_label app.home p ≡ b → (b || list_all (λ ask. not (same_label ask.label p)) app.asks) ≡ true
        go true e = refl
        go false e = all-each (λ ask. not (same_label ask.label p)) app.asks (Each-weaker _ _ (λ ask own. away ask.label e own (same_label ask.label p) refl) app.asks k.0.1)

    -- so the choice on the partition is the same in the tenant's own cluster
    pub holds : (u : State) → Mirrors t p s u → Holds t p s u
    unfolding total_on maximum_on
    holds u m = record {
      total = sym (ap (λ nodes. total_of (λ node. node.size) (nodes_of nodes p)) m.nodes ∙ ap (total_of (λ node. node.size)) (filter-filter (λ node. same_label node.label p) (λ node. same_label node.label p) (λ node e. e) s.nodes));
      leaves = m.leaves;
      maxima = λ queue w. sym (found-share s.maxima queue) ∙ ap (λ o. option_map_or (λ share. share) o 0) (m.maxima queue w) ∙ found-share u.maxima queue;
      on = on-same c t p s u m;
      owned = all-each _ (containers_on s p) (Each-weaker _ (λ container. same_name container.tenant t ≡ true) (λ container same. ap (same_name container.tenant) (sym same) ∙ same-name_self container.tenant) (containers_on s p) owned);
      rooted = rooted;
      placed = all-each _ s.leaves (Each-weaker _ (λ row. list_all (λ app. same_path app.leaf row.leaf) row.apps ≡ true)
          (λ row k. all-each _ row.apps (Each-weaker (IsFound s.leaves row) (λ app. same_path app.leaf row.leaf ≡ true) (λ app found. (pointwise_decides bytes_decides app.leaf row.leaf).1 found.at) row.apps k)) s.leaves h.finds);
      homes = all-each _ (all_apps s.leaves) (Each-weaker Settled (λ app. (not (same_label app.home p) || of_tenant t app) ≡ true) home-own (all_apps s.leaves) settled);
      asked = all-each _ (all_apps s.leaves) (Each-weaker Settled (λ app. keeps_home p app ≡ true) asked-home (all_apps s.leaves) settled);
    }
      where
        found-share : (maxima : List MaximumRow) (queue : Path) → option_map_or (λ share. share) (share_found maxima queue p) 0 ≡ option_map_or (λ row. row.share) (find (is_maximum_of queue p) maxima) 0
        found-share maxima queue = go (find (is_maximum_of queue p) maxima)
          where
            go : (o : Option MaximumRow) → option_map_or (λ share. share) (option_map (λ row. row.share) o) 0 ≡ option_map_or (λ row. row.share) o 0
            go None = refl
            go (Some row) = refl

    -- an application that is found asks for nothing on the partition unless that is its home
    pub app-asked : (tenant name : Name) (app : Application) → find_app s.leaves tenant name ≡ Some app → keeps_home p app ≡ true
    app-asked tenant name app e = asked-home app (fitting-found c s.leaves h.entitled.apps tenant name app e, (found-in tenant name app e).1)

    -- in the tenant's own cluster an application of the tenant's is found as it is, but for what it asks for elsewhere
    pub app-part : (u : State) → Mirrors t p s u → (name : Name) → find_app u.leaves t name ≡ option_map (only p) (find_app s.leaves t name)
    app-part u m name = app-own c t p a.home a.exclusive s u (holds u m) name
