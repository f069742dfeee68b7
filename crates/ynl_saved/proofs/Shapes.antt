-- The rows of partitions, leaves, stops and maxima are those of the configuration, in its order, and a maximum that was set may be set; that stays with each change.
use Rattle.std.proofs.Common.{◌≡◌, ◌⊎◌, inl, inr, ◌≤◌, ℕ, true, false, cond, List, [], ◌∷◌, map, refl, sym, ap, subst, ◌∙◌, arith}
use Rattle.std.specs.Prelude.{⊤, nat_lt, flat_map}
use Rattle.std.specs.List.{AllByRecursion}
use Rattle.std.proofs.lemmas.Bool.Decides.{nat_tests}
use Rattle.std.proofs.lemmas.Bool.{and_parts}
use Rattle.ynl_resource.specs.Names.{same_label, same_path, tenant_of}
use Rattle.ynl_resource.specs.declared.labels.Label.{Label}
use Rattle.ynl_resource.specs.declared.paths.Path.{Path}
use Rattle.ynl_model.specs.Applications.{LeafApps, in_leaf, finished, no_apps}
use Rattle.ynl_model.specs.Changes.{all_end, all_own, app_finishes, changed_at, end, node_joins, node_leaves, place}
use Rattle.ynl_model.specs.Cluster.{State, Partition, is_partition, opening}
use Rattle.ynl_model.specs.Nodes.{partition_labels}
use Rattle.ynl_model.specs.Queues.{Config, QueueRow, capacity_on, configured_maximum, is_maximum_of, may_use, opening_maxima}
use Rattle.ynl_model.specs.declared.containers.Placed.{Placed as Container}
use Rattle.ynl_model.specs.declared.queues.MaximumRow.{MaximumRow}
use Rattle.ynl_model.specs.declared.queues.StopRow.{StopRow}
use Rattle.ynl_laws.proofs.Lists.{Each-all, Each-append, Each-map, map-map, map-update}
use Rattle.ynl_laws.proofs.Names.{same-label_path, same-path}
use Rattle.ynl_saved.proofs.Changing.{Goes}
use Rattle.ynl_saved.proofs.Rows.{Each-updated}

-- the queue and the partition of a maximum
abbrev pub key_of : MaximumRow → Path × Label
key_of row = (row.queue, row.label)

-- a maximum is the configured one, or one that an event may set
abbrev pub IsShare : Config → MaximumRow → Type 0
IsShare c row = (row.share ≡ configured_maximum c row.queue row.label) ⊎ ((may_use c row.queue row.label ≡ true) × (capacity_on c row.queue row.label ≤ row.share))

-- rows are those of the configuration
pub record Shaped (c : Config) (s : State) : Type 0 where
  pub partitions : map (λ row. row.label) s.partitions ≡ partition_labels c.labels
  pub leaves : map (λ row. row.leaf) s.leaves ≡ map (λ row. row.leaf) (no_apps c)
  pub stops : map (λ row. row.queue) s.stops ≡ map (λ row. row.path) c.queues
  pub maxima : map key_of s.maxima ≡ map key_of (opening_maxima c)
  pub shares : AllByRecursion (IsShare c) s.maxima

-- the maxima of a queue at first
abbrev pub made : Config → QueueRow → List MaximumRow
made c row = map (λ label. record { queue = row.path; label = label; share = configured_maximum c row.path label }) (partition_labels c.labels)

module _ (c : Config) where
  -- the partitions of a state change, one of them
  pub shaped-partition : (s u : State) (label : Label) (change : Partition → Partition) → ((row : Partition) → (change row).label ≡ row.label) → Shaped c s → u.partitions ≡ map (λ row. cond (same_label row.label label) (change row) row) s.partitions →
      u.leaves ≡ s.leaves → u.stops ≡ s.stops → u.maxima ≡ s.maxima → Shaped c u
  shaped-partition s u label change keeps h e f g k = record {
    partitions = ap (map (λ (row : Partition). row.label)) e ∙ map-update (λ (row : Partition). row.label) (is_partition label) change keeps s.partitions ∙ h.partitions;
    leaves = ap (map (λ (row : LeafApps). row.leaf)) f ∙ h.leaves;
    stops = ap (map (λ (row : StopRow). row.queue)) g ∙ h.stops;
    maxima = ap (map key_of) k ∙ h.maxima;
    shares = subst (AllByRecursion (IsShare c)) (sym k) h.shares;
  }

  -- a leaf changes
  pub shaped-leaf : (s u : State) (leaf : Path) (change : LeafApps → LeafApps) → ((row : LeafApps) → (change row).leaf ≡ row.leaf) → Shaped c s → u.leaves ≡ in_leaf leaf change s.leaves → u.partitions ≡ s.partitions →
      u.stops ≡ s.stops → u.maxima ≡ s.maxima → Shaped c u
  shaped-leaf s u leaf change keeps h e f g k = record {
    partitions = ap (map (λ (row : Partition). row.label)) f ∙ h.partitions;
    leaves = ap (map (λ (row : LeafApps). row.leaf)) e ∙ map-update (λ (row : LeafApps). row.leaf) (λ row. same_path row.leaf leaf) change keeps s.leaves ∙ h.leaves;
    stops = ap (map (λ (row : StopRow). row.queue)) g ∙ h.stops;
    maxima = ap (map key_of) k ∙ h.maxima;
    shares = subst (AllByRecursion (IsShare c)) (sym k) h.shares;
  }

  -- a container ends
  shaped-end : (s : State) (container : Container) → Shaped c s → Shaped c (end c s container)
  unfolding end changed_at
  shaped-end s container h = shaped-partition s (end c s container) container.id.label _ (λ row. refl) h refl refl refl refl

  -- containers end one after another
  shaped-all : (list : List Container) (s : State) → Shaped c s → Shaped c (all_end c list s)
  shaped-all [] s h = h
  shaped-all (container ∷ list) s h = shaped-all list (end c s container) (shaped-end s container h)

  -- which changes no leaf
  all-leaves : (list : List Container) (s : State) → (all_end c list s).leaves ≡ s.leaves
  unfolding end changed_at
  all-leaves [] s = refl
  all-leaves (container ∷ list) s = all-leaves list (end c s container)

  -- a maximum that is set by an event may be set
  set-share : (queue : Path) (label : Label) (share : ℕ) → may_use c queue label ≡ true → nat_lt share (capacity_on c queue label) ≡ false → (row : MaximumRow) → is_maximum_of queue label row ≡ true → IsShare c (record row { share = share })
  set-share queue label share may high row e =
      let at : row.queue ≡ queue = same-path row.queue queue (and_parts (same_path row.queue queue) _ e).0 in
      let on : row.label ≡ label = same-label_path row.label label (and_parts (same_path row.queue queue) _ e).1 in
      inr ((λ i. may_use c (at i) (on i)) ∙ may, subst (λ n. n ≤ share) (λ i. capacity_on c (sym at i) (sym on i)) (enough (capacity_on c queue label) share high))
    where
      enough : (m n : ℕ) → nat_lt n m ≡ false → m ≤ n
      enough m n k = grind (arith, nat_tests, k)

  -- that stays with each change
  pub shaped-goes : Goes (Shaped c) c
  unfolding node_joins node_leaves place changed_at app_finishes
  shaped-goes = record {
    joins = λ s name label size b h known room. shaped-partition s _ label _ (λ row. refl) h refl refl refl refl;
    leaves = λ s node b h. shaped-partition s _ node.label _ (λ row. refl) h refl refl refl refl;
    ends = λ s container b h. shaped-end s container h;
    placed = λ s node item b h fits wanted served fresh.
        shaped-leaf (changed_at c node.name node.label _ s) (place c node item s) item.leaf _ (λ row. refl) (shaped-partition s _ node.label _ (λ row. refl) h refl refl refl refl) refl refl refl refl;
    submits = λ s app b h comes. shaped-leaf s _ app.leaf _ (λ row. refl) h refl refl refl refl;
    asks = λ s tenant name label priority count size found b h e own given few. shaped-leaf s _ found.leaf _ (λ row. refl) h refl refl refl refl;
    finishes = λ s found b h.
        let ended : State = all_end c (all_own s (tenant_of found.leaf) found.name) s in
        shaped-leaf ended _ found.leaf (finished found.name) (λ row. refl) (shaped-all (all_own s (tenant_of found.leaf) found.name) s h)
        (ap (in_leaf found.leaf (finished found.name)) (sym (all-leaves (all_own s (tenant_of found.leaf) found.name) s))) refl refl refl;
    stops = λ s queue stopped h. record {
      partitions = h.partitions;
      leaves = h.leaves;
      stops = map-update (λ (row : StopRow). row.queue) (λ row. same_path row.queue queue) (λ row. record row { stopped = stopped }) (λ row. refl) s.stops ∙ h.stops;
      maxima = h.maxima;
      shares = h.shares;
    };
    maxima = λ s queue label share h may high. record {
      partitions = h.partitions;
      leaves = h.leaves;
      stops = h.stops;
      maxima = map-update key_of (is_maximum_of queue label) (λ row. record row { share = share }) (λ row. refl) s.maxima ∙ h.maxima;
      shares = Each-updated (IsShare c) (IsShare c) (is_maximum_of queue label) (λ row. record row { share = share }) (λ row e k. set-share queue label share may high row e) (λ row e k. k) s.maxima h.shares;
    };
  }

  -- it holds at first
  pub shaped-opening : Shaped c (opening c)
  unfolding opening_maxima
  shaped-opening = record {
    partitions = map-map (λ (row : Partition). row.label) (λ label. record { label = label; clock = 0; containers = [] }) (partition_labels c.labels) ∙ map-self (partition_labels c.labels);
    leaves = refl;
    stops = map-map (λ (row : StopRow). row.queue) (λ (row : QueueRow). record { queue = row.path; stopped = row.stopped }) c.queues;
    maxima = refl;
    shares = each c.queues;
  }
    where
      map-self : (xs : List Label) → map (λ (label : Label). label) xs ≡ xs
      map-self [] = refl
      map-self (x ∷ xs) = ap (λ ys. x ∷ ys) (map-self xs)

      each : (rows : List QueueRow) → AllByRecursion (IsShare c) (flat_map (made c) rows)
      each [] = tt
      each (row ∷ rows) = Each-append (IsShare c) (made c row) (flat_map (made c) rows)
          (Each-map (λ (label : Label). ⊤) (IsShare c) (λ label. record { queue = row.path; label = label; share = configured_maximum c row.path label }) (λ label _. inl refl) (partition_labels c.labels)
          (Each-all (λ (label : Label). ⊤) (λ label. tt) (partition_labels c.labels))) (each rows)
