-- The requests for a partition are those of the leaves.
use Rattle.std.proofs.Common.{◌≡◌, ◌⊎◌, Bool, true, ◌&&◌, List, [], map, filter, flat_map, find, Option, None, Some, Contains, inl, inr, refl, sym, ap, subst, ◌∙◌}
use Rattle.std.specs.List.{AllByRecursion}
use Rattle.std.specs.Option.{option_map_or}
use Rattle.ynl_resource.specs.Names.{same_label, same_path}
use Rattle.ynl_resource.specs.declared.labels.Label.{Label}
use Rattle.ynl_resource.specs.declared.paths.Path.{Path}
use Rattle.ynl_model.specs.Applications.{Application, LeafApps, all_apps, apps_of}
use Rattle.ynl_model.specs.Cluster.{State, runs, waits}
use Rattle.ynl_model.specs.Service.{Item, ask_item, asks_for, asks_of, items_for, master_item}
use Rattle.ynl_laws.specs.Lulls.{requests_at, requests_of}
use Rattle.ynl_laws.specs.Tabled.{IsFoundIn, Tabled}
use Rattle.ynl_laws.proofs.Lists.{Each-find, each-contained}
use Rattle.ynl_laws.proofs.Names.{same-path}
use Rattle.ynl_cluster.proofs.requests.Members.{Among, among-contained, among-either, among-filter, among-flat, among-map, each-among, filter-among, flat-among, left-among, map-among, right-among}

-- ---- the requests of some applications

-- what is wanted of an application
abbrev Wanted : State → Label → Application → Item → Type 0
Wanted s label app item = (((waits s app && same_label app.home label) ≡ true) × (master_item app ≡ item)) ⊎ ((runs s app ≡ true) × Among item (asks_of label app))

-- one of its requests names its leaf
wanted-leaf : (s : State) (label : Label) (app : Application) (item : Item) → Wanted s label app item → item.leaf ≡ app.leaf
wanted-leaf s label app item (inl h) = ap (λ (i : Item). i.leaf) (sym h.1)
wanted-leaf s label app item (inr h) = let at = among-map (ask_item app) item _ h.1 in ap (λ (i : Item). i.leaf) (sym at.2)

module _ (s : State) (label : Label) (apps : List Application) (item : Item) where
  abbrev waiting : Application → Bool
  waiting app = waits s app && same_label app.home label

  of-apps : Among item (requests_of s label apps) → (app : Application) × Among app apps × Wanted s label app item
  of-apps there = go (among-either item (map master_item (filter waiting apps)) (flat_map (asks_of label) (filter (runs s) apps)) there)
    where
      go : Among item (map master_item (filter waiting apps)) ⊎ Among item (flat_map (asks_of label) (filter (runs s) apps)) → (app : Application) × Among app apps × Wanted s label app item
      go (inl own) =
          let at = among-map master_item item (filter waiting apps) own in
          let left = among-filter waiting at.0 apps at.1 in
          (at.0, left.0, inl (left.1, at.2))
      go (inr asked) =
          let at = among-flat (asks_of label) item (filter (runs s) apps) asked in
          let left = among-filter (runs s) at.0 apps at.1 in
          (at.0, left.0, inr (left.1, at.2))

  from-apps : (app : Application) → Among app apps → Wanted s label app item → Among item (requests_of s label apps)
  from-apps app there (inl h) = left-among item (map master_item (filter waiting apps)) _ (subst (λ i. Among i (map master_item (filter waiting apps))) h.1 (map-among master_item app _ (filter-among waiting app apps h.0 there)))
  from-apps app there (inr h) = right-among item (map master_item (filter waiting apps)) _ (flat-among (asks_of label) app item (filter (runs s) apps) (filter-among (runs s) app apps h.0 there) h.1)

-- ---- those of a leaf

module _ (s : State) (tabled : Tabled s) (label : Label) where
  -- an application stands in a row of its leaf
  row-leaf : (row : LeafApps) → Among row s.leaves → (app : Application) → Among app row.apps → app.leaf ≡ row.leaf
  row-leaf row there app own = (each-among (IsFoundIn s.leaves row) app row.apps (each-among (λ row. AllByRecursion (IsFoundIn s.leaves row) row.apps) row s.leaves tabled.finds there) own).at

  row-apps : (row : LeafApps) → Among row s.leaves → apps_of s.leaves row.leaf ≡ row.apps
  row-apps row there = ap (λ o. option_map_or (λ (r : LeafApps). r.apps) o []) (each-among (λ row. find (λ other. same_path other.leaf row.leaf) s.leaves ≡ Some row) row s.leaves tabled.rows there)

  -- the leaf's own are among those of all leaves
  pub from-leaf : (leaf : Path) (item : Item) → Among item (requests_at s label leaf) → Among item (items_for s label) × (item.leaf ≡ leaf)
  unfolding items_for asks_for
  from-leaf leaf item there =
      let at = of-apps s label (apps_of s.leaves leaf) item there in
      let own = in-row (find (λ row. same_path row.leaf leaf) s.leaves) refl at.0 at.1 in (
        from-apps s label (all_apps s.leaves) item at.0 (flat-among (λ (row : LeafApps). row.apps) own.0 at.0 s.leaves own.1 own.2) at.2,
        wanted-leaf s label at.0 item at.2 ∙ row-leaf own.0 own.1 at.0 own.2 ∙ own.3,
      )
    where
      in-row : (o : Option LeafApps) → find (λ row. same_path row.leaf leaf) s.leaves ≡ o → (app : Application) → Among app (option_map_or (λ (row : LeafApps). row.apps) o []) → (row : LeafApps) × Among row s.leaves × Among app row.apps × (row.leaf ≡ leaf)
      in-row None e app own = absurd own
      in-row (Some row) e app own =
          let found = Each-find (Contains s.leaves) (λ (row : LeafApps). same_path row.leaf leaf) s.leaves (each-contained s.leaves) row e in
          (row, among-contained row s.leaves found.0, own, same-path row.leaf leaf found.1)

  -- a request of the partition is one of its leaf
  pub in-leaf : (item : Item) → Among item (items_for s label) → Among item (requests_at s label item.leaf)
  unfolding items_for asks_for
  in-leaf item there =
      let at = of-apps s label (all_apps s.leaves) item there in
      let own = among-flat (λ (row : LeafApps). row.apps) at.0 s.leaves at.1 in
      let leaf : item.leaf ≡ own.0.leaf = wanted-leaf s label at.0 item at.2 ∙ row-leaf own.0 own.1 at.0 own.2 in
      from-apps s label (apps_of s.leaves item.leaf) item at.0 (subst (Among at.0) (sym (ap (apps_of s.leaves) leaf ∙ row-apps own.0 own.1)) own.2) at.2
