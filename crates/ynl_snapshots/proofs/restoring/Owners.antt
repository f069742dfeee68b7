-- Applications and the owners of containers, each found by its names.
use Rattle.std.proofs.Common.{◌≡◌, ℕ, true, false, nat_eq, is_some, List, [], ◌∷◌, ◌++◌, filter, Option, None, Some, option_map, refl, sym, ap, subst, ◌∙◌, true≢false}
use Rattle.std.specs.Prelude.{IfSome, flat_map}
use Rattle.std.specs.List.{AllByRecursion, filter_map}
use Rattle.std.specs.Map.{lookup}
use Rattle.std.specs.Option.{option_and_then}
use Rattle.std.proofs.lemmas.Bool.{and_parts}
use Rattle.std.proofs.lemmas.Option.{none-some, same_Some}
use Rattle.ynl_resource.specs.Names.{same_name, same_path, tenant_of}
use Rattle.ynl_resource.specs.declared.names.Name.{Name}
use Rattle.ynl_resource.specs.declared.paths.Path.{Path}
use Rattle.ynl_model.specs.declared.containers.Placed.{Placed}
use Rattle.ynl_model.specs.Applications.{Application, LeafApps, find_app}
use Rattle.ynl_model.specs.Changes.{all_own}
use Rattle.ynl_model.specs.Cluster.{Partition, is_of}
use Rattle.ynl_laws.proofs.Lists.{Each-map, Each-weaker, filter-nothing}
use Rattle.ynl_laws.proofs.Names.{same-name_sym, same-path}
use Rattle.ynl_tables.specs.declared.containers.container.Container.{Container}
use Rattle.ynl_tables.specs.declared.submissions.submissions.Submission.{Submission}
use Rattle.ynl_inventory.specs.layout.Paths.{HasNumber, path_at}
use Rattle.ynl_inventory.specs.Meaning.{application_of, leaf_numbers, leaf_of, live_of, owner_of, partition_of, placed_of, submitted_in, tenant_at}
use Rattle.ynl_inventory.specs.Rows.{AppRow, PartitionRow}
use Rattle.ynl_inventory.specs.Sound.{IsSound}
use Rattle.ynl_inventory.proofs.AppsFound.{app-found}
use Rattle.ynl_inventory.proofs.Finding.{not-true}
use Rattle.ynl_inventory.proofs.Lookups.{each-place, live-found}
use Rattle.ynl_inventory.proofs.Submitted.{each-leaf, each-submitted}
use Rattle.ynl_inventory.proofs.Tenants.{owner-named}
use Rattle.ynl_inventory.proofs.Updates.{each-number}
use Rattle.ynl_cluster.specs.Cluster.{ClusterView, maxima_in, state_in, stops_in}
use Rattle.ynl_replies.proofs.Apps.{app-is}

-- what holds of each that there is holds of all that are kept
each-some : {X Y : Type 0} (f : X → Option Y) (P : Y → Type 0) (xs : List X) → AllByRecursion (λ x. IfSome (f x) P) xs → AllByRecursion P (filter_map f xs)
each-some f P [] h = tt
each-some {X} {Y} f P (x ∷ xs) h = go (f x) refl h.0 (each-some f P xs h.1)
  where
    go : (o : Option Y) → f x ≡ o → IfSome (f x) P → AllByRecursion P (filter_map f xs) → AllByRecursion P (filter_map f (x ∷ xs))
    go None is own rest = rw is rest
    go (Some y) is own rest = rw is (subst (λ o. IfSome o P) is own, rest)

flat-nothing : {X Y : Type 0} (f : X → List Y) (xs : List X) → AllByRecursion (λ x. f x ≡ []) xs → flat_map f xs ≡ []
flat-nothing f [] h = refl
flat-nothing f (x ∷ xs) h = λ i. h.0 i ++ flat-nothing f xs h.1 i

module _ (w : ClusterView) (sound : IsSound w.rows) where
  -- each application of a leaf is the one that is found by its name
  pub each-found : AllByRecursion (λ (row : LeafApps). AllByRecursion (λ (app : Application). find_app (state_in w).leaves (tenant_of row.leaf) app.name ≡ Some app) row.apps) (state_in w).leaves
  each-found = Each-map (HasNumber w.rows.paths) (λ (row : LeafApps). AllByRecursion (λ (app : Application). find_app (state_in w).leaves (tenant_of row.leaf) app.name ≡ Some app) row.apps) (leaf_of w.rows) of-leaf (leaf_numbers w.rows.paths) (each-leaf w.rows.paths)
    where
      of-leaf : (q : ℕ) → HasNumber w.rows.paths q → AllByRecursion (λ (app : Application). find_app (state_in w).leaves (tenant_of (path_at w.rows.paths q)) app.name ≡ Some app) (filter_map (live_of w.rows) (submitted_in w.rows q))
      of-leaf q has =
          each-some (live_of w.rows) (λ (app : Application). find_app (state_in w).leaves (tenant_of (path_at w.rows.paths q)) app.name ≡ Some app) (submitted_in w.rows q)
          (each-submitted w.rows q (λ e. IfSome (live_of w.rows e) (λ (app : Application). find_app (state_in w).leaves (tenant_of (path_at w.rows.paths q)) app.name ≡ Some app))
          (λ turn e at is.
          go e (option_and_then (λ n. lookup (nat_eq n) w.rows.apps) e.1.app)
          (subst (λ (k : ℕ). find_app (state_in w).leaves (tenant_of (path_at w.rows.paths k)) e.0 ≡ live_of w.rows e) is (app-found w.rows sound (tenant_at w.rows.paths q) turn e.0 e.1 at))))
        where
          go : (e : Name × Submission) (o : Option AppRow) → find_app (state_in w).leaves (tenant_of (path_at w.rows.paths q)) e.0 ≡ option_map (application_of w.rows e.0) o
              → IfSome (option_map (application_of w.rows e.0) o) (λ (app : Application). find_app (state_in w).leaves (tenant_of (path_at w.rows.paths q)) app.name ≡ Some app)
          go e None found = tt
          go e (Some row) found = found

  -- so the one of a name in a leaf is the one that is found
  pub own-apps : (leaf : Path) (name : Name) (found : Application) → find_app (state_in w).leaves (tenant_of leaf) name ≡ Some found
      → AllByRecursion (λ (row : LeafApps). same_path row.leaf leaf ≡ true → AllByRecursion (λ (app : Application). same_name app.name name ≡ true → app ≡ found) row.apps) (state_in w).leaves
  own-apps leaf name found is =
      Each-weaker (λ (row : LeafApps). AllByRecursion (λ (app : Application). find_app (state_in w).leaves (tenant_of row.leaf) app.name ≡ Some app) row.apps) _
      (λ row each same.
      Each-weaker (λ (app : Application). find_app (state_in w).leaves (tenant_of row.leaf) app.name ≡ Some app) _
      (λ app its named. same_Some app found (sym its ∙ (λ i. find_app (state_in w).leaves (tenant_of (same-path row.leaf leaf same i)) (same-name_sym app.name name named i)) ∙ is)) row.apps each)
      (state_in w).leaves each-found

  -- and there is none where none is found
  pub no-apps : (leaf : Path) (name : Name) → find_app (state_in w).leaves (tenant_of leaf) name ≡ None
      → AllByRecursion (λ (row : LeafApps). same_path row.leaf leaf ≡ true → AllByRecursion (λ (app : Application). same_name app.name name ≡ false) row.apps) (state_in w).leaves
  no-apps leaf name none =
      Each-weaker (λ (row : LeafApps). AllByRecursion (λ (app : Application). find_app (state_in w).leaves (tenant_of row.leaf) app.name ≡ Some app) row.apps) _
      (λ row each same.
      Each-weaker (λ (app : Application). find_app (state_in w).leaves (tenant_of row.leaf) app.name ≡ Some app) _
      (λ app its.
      not-true (same_name app.name name)
      (λ named. none-some app (sym none ∙ (λ i. find_app (state_in w).leaves (tenant_of (sym (same-path row.leaf leaf same) i)) (sym (same-name_sym app.name name named) i)) ∙ its))) row.apps each)
      (state_in w).leaves each-found

  abbrev Owned : Container → Type 0
  Owned c = is_some (find_app (state_in w).leaves (owner_of w.rows c.app).0 (owner_of w.rows c.app).1) ≡ true

  -- the application of a container is found
  each-owned : AllByRecursion (λ (part : Partition). AllByRecursion (λ (k : Placed). is_some (find_app (state_in w).leaves k.tenant k.app) ≡ true) part.containers) (state_in w).partitions
  each-owned =
      Each-map (λ (row : PartitionRow). AllByRecursion (λ (k : Placed). is_some (find_app (state_in w).leaves k.tenant k.app) ≡ true) (partition_of w.rows row).containers) _ (partition_of w.rows) (λ row k. k) w.rows.partitions
      (each-place (λ (row : PartitionRow). AllByRecursion (λ (k : Placed). is_some (find_app (state_in w).leaves k.tenant k.app) ≡ true) (partition_of w.rows row).containers) w.rows.partitions
      (λ p row at.
      Each-map (λ (e : ℕ × Container). Owned e.1) (λ (k : Placed). is_some (find_app (state_in w).leaves k.tenant k.app) ≡ true) (λ (e : ℕ × Container). placed_of w.rows row.label e.1) (λ e k. k) row.containers
      (each-number (λ n c. Owned c) row.containers (sound.partitions p row at).numbers (λ n c found. owned c (live-found c.app w.rows.apps ((sound.partitions p row at).each n c found).app)))))
    where
      owned : (c : Container) → (row : AppRow) × (lookup (nat_eq c.app) w.rows.apps ≡ Some row) → Owned c
      owned c row =
          ap (λ (o : Name × Name). is_some (find_app (state_in w).leaves o.0 o.1)) (owner-named w.rows sound c.app row.0 row.1)
          ∙ ap is_some (app-is w.rows sound (stops_in w) (maxima_in w) c.app row.0 row.1)

  -- so an application that is not found has no containers
  pub none-own : (tenant name : Name) → find_app (state_in w).leaves tenant name ≡ None → all_own (state_in w) tenant name ≡ []
  none-own tenant name none =
      flat-nothing (λ (part : Partition). filter (is_of tenant name) part.containers) (state_in w).partitions
      (Each-weaker (λ (part : Partition). AllByRecursion (λ (k : Placed). is_some (find_app (state_in w).leaves k.tenant k.app) ≡ true) part.containers) _
      (λ part each.
      filter-nothing (is_of tenant name) part.containers
      (Each-weaker (λ (k : Placed). is_some (find_app (state_in w).leaves k.tenant k.app) ≡ true) _
      (λ k owned.
      not-true (is_of tenant name k)
      (λ same.
      let both = and_parts (same_name k.tenant tenant) (same_name k.app name) same in
      true≢false (sym owned ∙ ap is_some ((λ i. find_app (state_in w).leaves (same-name_sym k.tenant tenant both.0 i) (same-name_sym k.app name both.1 i)) ∙ none)))) part.containers each))
      (state_in w).partitions each-owned)
