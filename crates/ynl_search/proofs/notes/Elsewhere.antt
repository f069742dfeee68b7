-- What is noted of queues stays right while nodes of other partitions come and go.
use Rattle.std.proofs.Common.{◌≡◌, Bool, true, false, not, ◌&&◌, cond, List, [], ◌∷◌, ◌++◌, map, filter, find, flat_map, Contains, Option, None, Some, option_map, refl, sym, ap, subst, ◌∙◌, append-nil, true≢false}
use Rattle.std.specs.Prelude.{⊤}
use Rattle.std.specs.List.{AllByRecursion, list_any}
use Rattle.std.specs.Option.{option_map_or}
use Rattle.std.proofs.lemmas.Bool.{and_parts}
use Rattle.std.proofs.lemmas.List.Elements.{filter-append}
use Rattle.ynl_resource.specs.Amounts.{fits_in, total_of}
use Rattle.ynl_resource.specs.Names.{is_within, same_label, same_name, tenant_of}
use Rattle.ynl_resource.specs.declared.amounts.Resource.{Resource}
use Rattle.ynl_resource.specs.declared.labels.Label.{Label}
use Rattle.ynl_resource.specs.declared.labels.Label.TheVariants.{Unlabelled}
use Rattle.ynl_resource.specs.declared.names.Name.{Name}
use Rattle.ynl_resource.specs.declared.paths.Path.{Path}
use Rattle.ynl_resource.specs.Tables.{without}
use Rattle.ynl_model.specs.declared.containers.Placed.{Placed as Container}
use Rattle.ynl_model.specs.declared.nodes.Node.{Node}
use Rattle.ynl_model.specs.Nodes.{is_at, joined, left, nodes_of, total as total_on}
use Rattle.ynl_model.specs.Queues.{Config}
use Rattle.ynl_model.specs.Applications.{Application, apps_of, leaf_of}
use Rattle.ynl_model.specs.Changes.{node_joins, node_leaves}
use Rattle.ynl_model.specs.Cluster.{Partition, State, containers_on, is_below, is_master, is_of, is_partition, next_clock, runs, waits}
use Rattle.ynl_model.specs.Service.{Item, asks_for, asks_of, master_item}
use Rattle.ynl_laws.specs.Lulls.{requests_of}
use Rattle.ynl_laws.specs.Owners.{owner}
use Rattle.ynl_laws.specs.Sharers.{sharers}
use Rattle.ynl_laws.proofs.Lists.{Each-all, Each-append, Each-flat, Each-kept, Each-split, Each-unkept, Each-weaker, each-contained, filter-agree, filter-filter, find-other, find-through, find-updated}
use Rattle.ynl_laws.proofs.Names.{same-label_path}
use Rattle.ynl_laws.proofs.Totals.Elsewhere.{Each-unflat, any-left}
use Rattle.ynl_laws.proofs.Totals.Lulls.{lasts-limited}
use Rattle.ynl_laws.proofs.Totals.Placing.{label_sym}
use Rattle.ynl_cluster.proofs.requests.Members.{among-contained, each-among}
use Rattle.ynl_search.specs.notes.Laws.{NoneStarts, StandsStill, StaysStill}
use Rattle.ynl_search.specs.notes.Shut.{AreAtLeast}
use Rattle.ynl_search.proofs.notes.GuestsStay.{hold-fewer, hold-from, hold-to}
use Rattle.ynl_search.proofs.notes.Lasting.{maximum-agrees, used-agrees}
use Rattle.ynl_search.proofs.notes.Stays.{stays}

-- ---- what stays

module _ (s t : State) (label : Label) (still : StandsStill s t label) where
  -- the partition's masters are wanted as they were
  wanted-same : (app : Application) → (waits t app && same_label app.home label) ≡ (waits s app && same_label app.home label)
  unfolding runs
  wanted-same app = go (same_label app.home label) refl
    where
      its : Container → Bool
      its k = is_master k && is_of (tenant_of app.leaf) app.name k

      go : (b : Bool) → same_label app.home label ≡ b → (waits t app && b) ≡ (waits s app && b)
      go true at =
          let home = same-label_path app.home label at in
          ap (λ ks. not (list_any its ks) && true) (ap (containers_on t) home ∙ still.on ∙ ap (containers_on s) (sym home))
      go false at = no-more (waits t app) ∙ sym (no-more (waits s app))
        where
          no-more : (b : Bool) → (b && false) ≡ false
          no-more true = refl
          no-more false = refl

  requests-still : (P : Item → Type 0) (apps : List Application) → AllByRecursion P (requests_of s label apps) → AllByRecursion P (requests_of t label apps)
  requests-still P apps h =
      Each-append P (map master_item (filter (λ app. waits t app && same_label app.home label) apps)) (flat_map (asks_of label) (filter (runs t) apps))
      (subst (λ apps. AllByRecursion P (map master_item apps)) (sym (filter-agree (λ app. ⊤) _ _ (λ app here. wanted-same app) apps (Each-all (λ app. ⊤) (λ app. tt) apps))) parts.0)
      (Each-flat (λ app. AllByRecursion P (asks_of label app)) P (asks_of label) (λ app k. k) (filter (runs t) apps)
      (Each-kept (λ app. AllByRecursion P (asks_of label app)) (runs t) apps
      (Each-weaker (λ app. runs s app ≡ true → AllByRecursion P (asks_of label app)) (λ app. runs t app ≡ true → AllByRecursion P (asks_of label app)) (λ app its run. its (still.apps.runs app run)) apps
      (Each-unkept (λ app. AllByRecursion P (asks_of label app)) (runs s) apps (Each-unflat P (asks_of label) (filter (runs s) apps) parts.1)))))
    where
      parts : AllByRecursion P (map master_item (filter (λ app. waits s app && same_label app.home label) apps)) × AllByRecursion P (flat_map (asks_of label) (filter (runs s) apps))
      parts = Each-split P (map master_item (filter (λ app. waits s app && same_label app.home label) apps)) _ h

pub stays-still : StaysStill
stays-still c s t label queue both still = stays c s t label queue both.tabled both.after
    (λ leaf below.
    lasts-limited c s t label leaf both.kept both.tabled
    (record {
      own = ap (filter (is_below s.leaves leaf)) still.on;
      found = found;
      owners = λ tenant name own. ap (λ rows. owner rows tenant name) still.apps.leaves;
      users = ap (λ rows. sharers rows leaf label) still.apps.leaves;
      nodes = still.total;
      maxima = still.maxima;
    })
    (λ P all. subst (λ rows. AllByRecursion P (requests_of t label (apps_of rows leaf))) (sym still.apps.leaves) (requests-still s t label still P (apps_of s.leaves leaf) all)))
    (λ step below. (used-agrees s t label step still.on found, maximum-agrees s t label step still.total still.maxima))
  where
    found : AllByRecursion (λ k. leaf_of t.leaves k.tenant k.app ≡ leaf_of s.leaves k.tenant k.app) (containers_on t label)
    found = Each-all _ (λ k. ap (λ rows. leaf_of rows k.tenant k.app) still.apps.leaves) (containers_on t label)

-- what each ask below a queue is for at least it is for afterwards
pub guests-still : (s t : State) (queue : Path) (least : Resource) → NoneStarts s t → AreAtLeast (asks_for s Unlabelled) queue least → AreAtLeast (asks_for t Unlabelled) queue least
guests-still s t queue least apps above item below =
    each-among IsLarge item (asks_for t Unlabelled) (hold-from IsLarge Unlabelled t (hold-fewer IsLarge Unlabelled s t apps.leaves apps.runs (hold-to IsLarge Unlabelled s large)))
    (among-contained item (asks_for t Unlabelled) below.among) below.within
  where
    IsLarge : Item → Type 0
    IsLarge item = is_within queue item.leaf ≡ true → fits_in least item.size ≡ true

    large : AllByRecursion IsLarge (asks_for s Unlabelled)
    large =
        Each-weaker (Contains (asks_for s Unlabelled)) IsLarge (λ item among within. above item (record { among = among; within = within })) (asks_for s Unlabelled) (each-contained (asks_for s Unlabelled))

-- ---- two steps

pub starts-then : (s t u : State) → NoneStarts s t → NoneStarts t u → NoneStarts s u
starts-then s t u h k = record { leaves = k.leaves ∙ h.leaves; runs = λ app run. h.runs app (k.runs app run) }

pub still-then : (s t u : State) (label : Label) → StandsStill s t label → StandsStill t u label → StandsStill s u label
still-then s t u label h k = record { apps = starts-then s t u h.apps k.apps; on = k.on ∙ h.on; total = k.total ∙ h.total; maxima = k.maxima ∙ h.maxima }

-- ---- a node joins

module _ (c : Config) (name : Name) (label : Label) (size : Resource) (s : State) where
  abbrev more : State
  more = node_joins c name label size s

  -- containers stay on all partitions
  joins-on : (p : Label) → containers_on more p ≡ containers_on s p
  unfolding node_joins
  joins-on p =
      its (find (is_partition p) more.partitions)
      ∙ ap (λ o. option_map_or (λ (ks : List Container). ks) o [])
      (find-updated (is_partition p) (is_partition label) (λ (row : Partition). row.containers) (λ row. record row { clock = next_clock c.labels s label }) (λ row at. refl) (λ row. refl) s.partitions)
      ∙ sym (its (find (is_partition p) s.partitions))
    where
      its : (o : Option Partition) → option_map_or (λ row. row.containers) o [] ≡ option_map_or (λ (ks : List Container). ks) (option_map (λ row. row.containers) o) []
      its None = refl
      its (Some row) = refl

  pub joins-starts : NoneStarts s more
  unfolding node_joins runs
  joins-starts = record {
    leaves = refl;
    runs = λ app run. sym (ap (list_any (λ k. is_master k && is_of (tenant_of app.leaf) app.name k)) (joins-on app.home)) ∙ run;
  }

  pub joins-still : (p : Label) → same_label label p ≡ false → StandsStill s more p
  unfolding node_joins joined total_on
  joins-still p off = record {
    apps = joins-starts;
    on = joins-on p;
    total =
        ap (total_of (λ node. node.size))
        (filter-append (λ node. same_label node.label p) s.nodes (new ∷ []) ∙ (λ i. nodes_of s.nodes p ++ cond (off i) (new ∷ []) []) ∙ append-nil (nodes_of s.nodes p));
    maxima = refl;
  }
    where
      new : Node
      new = record { name = name; label = label; size = size; stamp = next_clock c.labels s label }

-- ---- a node leaves

module _ (node : Node) (s : State) where
  abbrev fewer : State
  fewer = node_leaves node s

  abbrev stay : Partition → Partition
  stay row = record row { containers = without (λ k. same_name k.node node.name) row.containers }

  leaves-on : (p : Label) → same_label node.label p ≡ false → containers_on fewer p ≡ containers_on s p
  unfolding node_leaves
  leaves-on p off =
      ap (λ o. option_map_or (λ (row : Partition). row.containers) o [])
      (find-other (is_partition p) (is_partition node.label) stay (λ row. refl) (λ row at. ap (λ l. same_label l node.label) (same-label_path row.label p at) ∙ label_sym p node.label ∙ off) s.partitions)

  pub leaves-starts : NoneStarts s fewer
  unfolding node_leaves runs
  leaves-starts = record {
    leaves = refl;
    runs = λ app run. go (λ k. is_master k && is_of (tenant_of app.leaf) app.name k) (find (is_partition app.home) s.partitions)
        (sym (ap (λ o. list_any (λ k. is_master k && is_of (tenant_of app.leaf) app.name k) (option_map_or (λ (row : Partition). row.containers) o [])) (find-through at (is_partition app.home) (λ row. kept app.home row (same_label row.label node.label)) s.partitions)) ∙ run);
  }
    where
      at : Partition → Partition
      at row = cond (same_label row.label node.label) (stay row) row

      kept : (p : Label) (row : Partition) (b : Bool) → same_label (cond b (stay row) row).label p ≡ same_label row.label p
      kept p row true = refl
      kept p row false = refl

      one : (its : Container → Bool) (row : Partition) (b : Bool) → list_any its (cond b (stay row) row).containers ≡ true → list_any its row.containers ≡ true
      one its row true h = any-left its (λ k. not (same_name k.node node.name)) row.containers h
      one its row false h = h

      go : (its : Container → Bool) (o : Option Partition) → list_any its (option_map_or (λ row. row.containers) (option_map at o) []) ≡ true → list_any its (option_map_or (λ row. row.containers) o []) ≡ true
      go its None h = h
      go its (Some row) h = one its row (same_label row.label node.label) h

  pub leaves-still : (p : Label) → same_label node.label p ≡ false → StandsStill s fewer p
  unfolding node_leaves left total_on
  leaves-still p off = record {
    apps = leaves-starts;
    on = leaves-on p off;
    total =
        ap (total_of (λ node. node.size)) (filter-filter (λ other. not (is_at node.name node.label other)) (λ other. same_label other.label p) (λ other at. away other at (is_at node.name node.label other) refl) s.nodes);
    maxima = refl;
  }
    where
      away : (other : Node) → same_label other.label p ≡ true → (b : Bool) → is_at node.name node.label other ≡ b → not b ≡ true
      away other at false e = refl
      away other at true e =
          absurd (true≢false (sym at ∙ ap (λ l. same_label l p) (same-label_path other.label node.label (and_parts (same_name other.name node.name) _ e).1) ∙ off))
