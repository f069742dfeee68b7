-- An application runs in the model where its rows say so.
use Rattle.std.proofs.Common.{◌≡◌, ◌≢◌, ℕ, Bool, true, false, ◌&&◌, nat_eq, List, [], map, slice_get, Some, refl, sym, ap, subst, ◌∙◌, arith}
use Rattle.std.specs.List.{list_any}
use Rattle.std.specs.Map.{lookup}
use Rattle.std.specs.Option.{option_map_or}
use Rattle.std.proofs.lemmas.Bool.{and_from, and_parts}
use Rattle.std.proofs.lemmas.Bool.Decides.{nat_tests}
use Rattle.std.proofs.lemmas.Option.{same_Some}
use Rattle.ynl_resource.specs.Names.{same_label, same_name, tenant_of, top_level}
use Rattle.ynl_resource.specs.declared.names.Name.{Name}
use Rattle.ynl_model.specs.declared.containers.Placed.{Placed}
use Rattle.ynl_model.specs.declared.queues.StopRow.{StopRow}
use Rattle.ynl_model.specs.declared.queues.MaximumRow.{MaximumRow}
use Rattle.ynl_model.specs.Cluster.{State, containers_on, is_master, is_master_what, is_of, runs}
use Rattle.ynl_laws.proofs.Names.{same-label_path, same-label_self, same-name_self}
use Rattle.ynl_inventory.specs.layout.Paths.{path_at}
use Rattle.ynl_tables.specs.declared.submissions.submissions.Submission.{Submission}
use Rattle.ynl_tables.specs.declared.containers.container.Container.{Container}
use Rattle.ynl_tables.specs.declared.containers.container.Role.{Role}
use Rattle.ynl_tables.specs.declared.containers.container.Role.TheVariants.{Master, Ask as Asked}
use Rattle.ynl_inventory.specs.Rows.{Rows, PartitionRow, AppRow}
use Rattle.ynl_inventory.specs.Meaning.{app_name, application_of, label_at, owner_of, placed_of, state_of, submitted_to, what_of}
use Rattle.ynl_inventory.specs.Sound.{HasPartition, IsSound}
use Rattle.ynl_inventory.specs.Parts.{containers_of}
use Rattle.ynl_inventory.specs.Apps.{is_master_role, runs_at}
use Rattle.ynl_inventory.proofs.Finding.{containers-at, not-true, own-label}
use Rattle.ynl_inventory.proofs.Lookups.{live-found, place-there}
use Rattle.ynl_inventory.proofs.Submitted.{app-submission, app-submitted, one-turn}
use Rattle.ynl_inventory.proofs.Tenants.{owner-named, tenant-number, tenant-tells, tenant-top}
use Rattle.ynl_inventory.proofs.Updates.{each-number}
use Rattle.ynl_cluster.proofs.requests.Members.{any-agree, any-map}

-- ---- labels and owners tell numbers

-- two partitions have one label where they are one
pub label-tells : (v : Rows) → IsSound v → (p q : ℕ) → HasPartition v p → HasPartition v q → same_label (label_at v.partitions p) (label_at v.partitions q) ≡ nat_eq p q
label-tells v sound p q there has = go (nat_eq p q) refl
  where
    go : (b : Bool) → nat_eq p q ≡ b → same_label (label_at v.partitions p) (label_at v.partitions q) ≡ b
    go true e = ap (λ n. same_label (label_at v.partitions n) (label_at v.partitions q)) (grind (arith, nat_tests, e)) ∙ same-label_self (label_at v.partitions q)
    go false e =
        let apart : p ≢ q = grind (arith, nat_tests, e) in
        not-true (same_label (label_at v.partitions p) (label_at v.partitions q))
        (λ same. apart (sound.labels p q there has (same-label_path (label_at v.partitions p) (label_at v.partitions q) same)))

module _ (v : Rows) (sound : IsSound v) (m : ℕ) (other : AppRow) (at : lookup (nat_eq m) v.apps ≡ Some other) (n : ℕ) (row : AppRow) (found : lookup (nat_eq n) v.apps ≡ Some row) where
  abbrev pub tenant : Name
  tenant = tenant_of (path_at v.paths row.leaf)

  abbrev pub name : Name
  name = app_name v.tenants row.tenant row.turn

  top : path_at v.paths row.tenant ≡ top_level tenant
  top = let is = app-submission v sound n row found in ap (path_at v.paths) (sym is.tenant) ∙ tenant-top v.paths sound.tree row.leaf is.there is.leaf

  tenants : same_name (owner_of v m).0 tenant ≡ nat_eq other.tenant row.tenant
  tenants =
      ap (λ (o : Name × Name). same_name o.0 tenant) (owner-named v sound m other at)
      ∙ tenant-tells v sound m other at row.tenant tenant (tenant-number v sound n row found) top

  names : (owner_of v m).1 ≡ app_name v.tenants other.tenant other.turn
  names = ap (λ (o : Name × Name). o.1) (owner-named v sound m other at)

  -- an application has another's owner only where it is that one
  pub owner-tells : (same_name (owner_of v m).0 tenant && same_name (owner_of v m).1 name) ≡ nat_eq m n
  owner-tells = go (nat_eq m n) refl
    where
      go : (b : Bool) → nat_eq m n ≡ b → (same_name (owner_of v m).0 tenant && same_name (owner_of v m).1 name) ≡ b
      go true e =
          let same : other ≡ row = same_Some other row (sym at ∙ ap (λ k. lookup (nat_eq k) v.apps) (grind (arith, nat_tests, e)) ∙ found) in
          and_from (same_name (owner_of v m).0 tenant) (same_name (owner_of v m).1 name)
          (tenants ∙ ap (λ (r : AppRow). nat_eq r.tenant row.tenant) same ∙ itself row.tenant)
          (ap (λ own. same_name own name) names ∙ ap (λ (r : AppRow). same_name (app_name v.tenants r.tenant r.turn) name) same ∙ same-name_self name)
        where
          itself : (k : ℕ) → nat_eq k k ≡ true
          itself k = grind (arith, nat_tests)
      go false e = not-true (same_name (owner_of v m).0 tenant && same_name (owner_of v m).1 name) (λ both. apart (one both))
        where
          apart : m ≢ n
          apart = grind (arith, nat_tests, e)

          one : (same_name (owner_of v m).0 tenant && same_name (owner_of v m).1 name) ≡ true → m ≡ n
          one both =
              let parts = and_parts (same_name (owner_of v m).0 tenant) (same_name (owner_of v m).1 name) both in
              let same : other.tenant ≡ row.tenant = grind (arith, nat_tests, sym tenants ∙ parts.0) in
              let there : slice_get (submitted_to v.tenants row.tenant) other.turn ≡ Some (app_name v.tenants other.tenant other.turn, record { leaf = other.leaf; app = Some m }) =
              subst (λ t. slice_get (submitted_to v.tenants t) other.turn ≡ Some (app_name v.tenants other.tenant other.turn, record { leaf = other.leaf; app = Some m })) same (app-submitted v sound m other at) in
              let turn : other.turn ≡ row.turn =
              one-turn v sound row.tenant other.turn (app_name v.tenants other.tenant other.turn, record { leaf = other.leaf; app = Some m }) there row.turn
              (name, record { leaf = row.leaf; app = Some n }) (app-submitted v sound n row found)
              (ap (λ own. same_name own name) (sym names) ∙ parts.1) in
              same_Some m n
              (ap (λ (e : Name × Submission). e.1.app)
              (same_Some (app_name v.tenants other.tenant other.turn, record { leaf = other.leaf; app = Some m }) (name, record { leaf = row.leaf; app = Some n })
              (sym there ∙ ap (slice_get (submitted_to v.tenants row.tenant)) turn ∙ app-submitted v sound n row found)))

-- ---- runs

pub what-master : (v : Rows) (r : Role) → is_master_what (what_of v.partitions r) ≡ is_master_role r
what-master v Master = refl
what-master v (Asked p priority) = refl

module _ (v : Rows) (sound : IsSound v) (stops : List StopRow) (maxima : List MaximumRow) (n : ℕ) (row : AppRow) (found : lookup (nat_eq n) v.apps ≡ Some row) where
  abbrev pub s : State
  s = state_of v stops maxima

  abbrev own : (home : PartitionRow) × (slice_get v.partitions row.home ≡ Some home)
  own = place-there v.partitions row.home (sound.apps n row found).home

  abbrev home : PartitionRow
  home = own.0

  abbrev test : Placed → Bool
  test c = is_master c && is_of (tenant_of (path_at v.paths row.leaf)) (app_name v.tenants row.tenant row.turn) c

  one : (k : ℕ) (c : Container) → lookup (nat_eq k) home.containers ≡ Some c → test (placed_of v home.label c) ≡ (is_master_role c.role && nat_eq c.app n)
  one k c at = (λ i. what-master v c.role i && owner-tells v sound c.app live.0 live.1 n row found i)
    where
      live : (other : AppRow) × (lookup (nat_eq c.app) v.apps ≡ Some other)
      live = live-found c.app v.apps ((sound.partitions row.home home own.1).each k c at).app

  held : containers_on s (label_at v.partitions row.home) ≡ map (λ e. placed_of v home.label e.1) home.containers
  held = ap (containers_on s) (own-label v sound row.home home own.1) ∙ containers-at v sound row.home home own.1 stops maxima

  pub runs-means : runs s (application_of v (app_name v.tenants row.tenant row.turn) row) ≡ runs_at v n row
  unfolding runs
  runs-means =
      ap (list_any test) held
      ∙ any-map (λ e. placed_of v home.label e.1) test home.containers
      ∙ any-agree (λ e. test (placed_of v home.label e.1)) (λ e. is_master_role e.1.role && nat_eq e.1.app n) home.containers
      (each-number (λ k c. test (placed_of v home.label c) ≡ (is_master_role c.role && nat_eq c.app n)) home.containers (sound.partitions row.home home own.1).numbers one)
      ∙ ap (list_any (λ e. is_master_role e.1.role && nat_eq e.1.app n)) (sym rows)
    where
      rows : containers_of v row.home ≡ home.containers
      rows = ap (λ o. option_map_or (λ (r : PartitionRow). r.containers) o []) own.1
