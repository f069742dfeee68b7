-- The names of numbers stay while rows change.
use Rattle.std.proofs.Common.{◌≡◌, ◌≢◌, ◌<◌, ℕ, zero, suc, List, [], ◌∷◌, ◌++◌, map, length, slice_get, Option, Some, None, option_map, nat_eq, refl, ap, ◌∙◌, arith}
use Rattle.std.specs.Prelude.{slice_index_or}
use Rattle.std.specs.List.{AllByRecursion}
use Rattle.std.specs.Map.{lookup}
use Rattle.std.specs.Option.{option_map_or, option_and_then}
use Rattle.ynl_resource.specs.declared.names.Name.{Name}
use Rattle.ynl_resource.specs.declared.labels.Label.{Label}
use Rattle.ynl_resource.specs.declared.labels.Label.TheVariants.{Unlabelled}
use Rattle.ynl_model.specs.declared.proposals.What.TheVariants.{Ask as Asked}
use Rattle.ynl_inventory.specs.layout.Paths.{path_at}
use Rattle.ynl_slots.specs.Slots.{IsLive, without}
use Rattle.ynl_slots.proofs.Entries.{lookup-without-other}
use Rattle.ynl_tables.specs.apps.Apps.{with_change}
use Rattle.ynl_tables.specs.declared.apps.asks.Ask.{Ask}
use Rattle.ynl_tables.specs.declared.containers.container.Container.{Container}
use Rattle.ynl_tables.specs.declared.containers.container.Role.{Role}
use Rattle.ynl_tables.specs.declared.containers.container.Role.TheVariants as role
use Rattle.ynl_tables.specs.declared.submissions.submissions.Submission.{Submission}
use Rattle.ynl_tables.specs.submissions.Submissions.{with_finished}
use Rattle.ynl_inventory.specs.Rows.{Rows, PartitionRow, NodeRow, AppRow}
use Rattle.ynl_inventory.specs.Meaning.{label_at, node_name, submitted_to, app_name, tenant_name, what_of, owner_of, placed_of, partition_of, node_of, ask_of, application_of, live_of}
use Rattle.ynl_inventory.specs.Changes.{with_at, with_taken}
use Rattle.ynl_inventory.proofs.Lookups.{read-at, read-changed, read-push, pushed-live}

-- ---- labels and nodes

-- a change of clocks and containers leaves the labels
pub label-at : (p : ℕ) (change : PartitionRow → PartitionRow) → ((row : PartitionRow) → (change row).label ≡ row.label) → (partitions : List PartitionRow) (q : ℕ)
    → label_at (with_at p change partitions) q ≡ label_at partitions q
label-at p change keeps partitions q = read-at (λ row. row.label) Unlabelled q p change keeps partitions

-- a change of stamps leaves the names
pub node_name-changed : (n : ℕ) (change : NodeRow → NodeRow) → ((row : NodeRow) → (change row).name ≡ row.name) → (nodes : List (ℕ × NodeRow)) (m : ℕ)
    → node_name (with_change n change nodes) m ≡ node_name nodes m
node_name-changed n change keeps nodes m = read-changed (λ row. row.name) [] m n change keeps nodes

-- a node that joins leaves the names of those that are there
pub node_name-push : (n : ℕ) (row : NodeRow) (nodes : List (ℕ × NodeRow)) (m : ℕ) → IsLive m nodes → node_name (nodes ++ (n, row) ∷ []) m ≡ node_name nodes m
node_name-push n row nodes m live = ap (λ o. option_map_or (λ row. row.name) o []) (pushed-live m n row nodes live)

-- a node that leaves leaves the names of the others
pub node_name-without : (n : ℕ) (nodes : List (ℕ × NodeRow)) (m : ℕ) → m ≢ n → node_name (without n nodes) m ≡ node_name nodes m
node_name-without n nodes m apart = ap (λ o. option_map_or (λ row. row.name) o []) (lookup-without-other m n nodes apart)

-- ---- applications

-- who is finished keeps the name
pub finished-name : (turn other : ℕ) (entries : List (Name × Submission))
    → option_map_or (λ (e : Name × Submission). e.0) (slice_get (with_finished turn entries) other) [] ≡ option_map_or (λ (e : Name × Submission). e.0) (slice_get entries other) []
finished-name turn other [] = refl
finished-name zero zero (e ∷ entries) = refl
finished-name zero (suc other) (e ∷ entries) = refl
finished-name (suc turn) zero (e ∷ entries) = refl
finished-name (suc turn) (suc other) (e ∷ entries) = finished-name turn other entries

pub app_name-finished : (tenant turn : ℕ) (tenants : List (List (Name × Submission))) (t other : ℕ)
    → app_name (with_at tenant (with_finished turn) tenants) t other ≡ app_name tenants t other
app_name-finished tenant turn [] t other = refl
app_name-finished zero turn (entries ∷ tenants) zero other = finished-name turn other entries
app_name-finished zero turn (entries ∷ tenants) (suc t) other = refl
app_name-finished (suc tenant) turn (entries ∷ tenants) zero other = refl
app_name-finished (suc tenant) turn (entries ∷ tenants) (suc t) other = app_name-finished tenant turn tenants t other

-- one more submission leaves the names of those before
pushed-name : (e : Name × Submission) (entries : List (Name × Submission)) (other : ℕ) → other < length entries
    → option_map_or (λ (e : Name × Submission). e.0) (slice_get (entries ++ e ∷ []) other) [] ≡ option_map_or (λ (e : Name × Submission). e.0) (slice_get entries other) []
pushed-name e [] other h = absurd (omega arith)
pushed-name e (x ∷ entries) zero h = refl
pushed-name e (x ∷ entries) (suc other) h = pushed-name e entries other (omega (arith, h))

pub app_name-push : (tenant : ℕ) (e : Name × Submission) (tenants : List (List (Name × Submission))) (t other : ℕ) → other < length (submitted_to tenants t)
    → app_name (with_at tenant (λ entries. entries ++ e ∷ []) tenants) t other ≡ app_name tenants t other
app_name-push tenant e [] t other h = refl
app_name-push zero e (entries ∷ tenants) zero other h = pushed-name e entries other h
app_name-push zero e (entries ∷ tenants) (suc t) other h = refl
app_name-push (suc tenant) e (entries ∷ tenants) zero other h = refl
app_name-push (suc tenant) e (entries ∷ tenants) (suc t) other h = app_name-push tenant e tenants t other h

-- a change that leaves tenants and turns leaves the owners
pub owner-changed : (n : ℕ) (change : AppRow → AppRow) → ((row : AppRow) → (change row).tenant ≡ row.tenant) → ((row : AppRow) → (change row).turn ≡ row.turn) → (v : Rows) (m : ℕ)
    → owner_of (record v { apps = with_change n change v.apps }) m ≡ owner_of v m
owner-changed n change tenant turn v m =
    read-changed (λ row. (tenant_name v.paths row.tenant, app_name v.tenants row.tenant row.turn)) ([], []) m n change
    (λ row i. (tenant_name v.paths (tenant row i), app_name v.tenants (tenant row i) (turn row i))) v.apps

-- whoever is found as before, and whose name stays, is the owner as before
pub owner-same : (v w : Rows) (n : ℕ) → w.paths ≡ v.paths → lookup (nat_eq n) w.apps ≡ lookup (nat_eq n) v.apps
    → ((row : AppRow) → lookup (nat_eq n) v.apps ≡ Some row → app_name w.tenants row.tenant row.turn ≡ app_name v.tenants row.tenant row.turn)
    → owner_of w n ≡ owner_of v n
owner-same v w n paths found names =
    ap (owner w) found ∙ go (lookup (nat_eq n) v.apps) refl
  where
    owner : Rows → Option AppRow → Name × Name
    owner u o = option_map_or (λ (row : AppRow). (tenant_name u.paths row.tenant, app_name u.tenants row.tenant row.turn)) o ([], [])

    go : (o : Option AppRow) → lookup (nat_eq n) v.apps ≡ o → owner w o ≡ owner v o
    go None is = refl
    go (Some row) is = λ i. (tenant_name (paths i) row.tenant, names row is i)

-- the taking of an ask leaves all else of an application
pub taken-tenant : (r : Role) (row : AppRow) → (with_taken r row).tenant ≡ row.tenant
taken-tenant role.Master row = refl
taken-tenant (role.Ask p priority) row = refl

pub taken-turn : (r : Role) (row : AppRow) → (with_taken r row).turn ≡ row.turn
taken-turn role.Master row = refl
taken-turn (role.Ask p priority) row = refl

pub taken-leaf : (r : Role) (row : AppRow) → (with_taken r row).leaf ≡ row.leaf
taken-leaf role.Master row = refl
taken-leaf (role.Ask p priority) row = refl

pub taken-user : (r : Role) (row : AppRow) → (with_taken r row).user ≡ row.user
taken-user role.Master row = refl
taken-user (role.Ask p priority) row = refl

pub taken-home : (r : Role) (row : AppRow) → (with_taken r row).home ≡ row.home
taken-home role.Master row = refl
taken-home (role.Ask p priority) row = refl

-- ---- containers and applications

module _ (v w : Rows) (labels : (p : ℕ) → label_at w.partitions p ≡ label_at v.partitions p) where
  -- where labels stay, what is placed is called as before
  pub what-same : (r : Role) → what_of w.partitions r ≡ what_of v.partitions r
  what-same role.Master = refl
  what-same (role.Ask p priority) = ap (λ l. Asked l priority) (labels p)

  -- so is a container of a node and an application with their names
  pub placed-same : (label : Label) (c : Container) → node_name w.nodes c.node ≡ node_name v.nodes c.node → owner_of w c.app ≡ owner_of v c.app → placed_of w label c ≡ placed_of v label c
  placed-same label c node owner = λ i. record {
    id = record { label = label; clock = c.clock };
    node = node i;
    tenant = (owner i).0;
    app = (owner i).1;
    what = what-same c.role i;
    size = c.size;
  }

  -- a node
  pub node-same : (row : NodeRow) → node_of w.partitions row ≡ node_of v.partitions row
  node-same row = λ i. record { name = row.name; label = labels row.partition i; size = row.size; stamp = row.stamp }

  -- what is asked for
  pub ask-same : (ask : Ask) → ask_of w.partitions ask ≡ ask_of v.partitions ask
  ask-same ask = λ i. record { label = labels ask.partition i; priority = ask.priority; count = ask.count; size = ask.size }

  -- and an application whose user keeps the name
  pub application-same : (name : Name) (row : AppRow) → w.paths ≡ v.paths → slice_index_or w.users row.user [] ≡ slice_index_or v.users row.user []
      → application_of w name row ≡ application_of v name row
  application-same name row paths user = λ i. record {
    leaf = path_at (paths i) row.leaf;
    name = name;
    user = user i;
    home = labels row.home i;
    master = row.master;
    asks = map (λ ask. ask-same ask i) row.asks;
  }

  -- a submission of which nothing changed
  pub live-same : (e : Name × Submission) → w.paths ≡ v.paths → ((n : ℕ) → e.1.app ≡ Some n → lookup (nat_eq n) w.apps ≡ lookup (nat_eq n) v.apps)
      → ((n : ℕ) (row : AppRow) → e.1.app ≡ Some n → lookup (nat_eq n) v.apps ≡ Some row → slice_index_or w.users row.user [] ≡ slice_index_or v.users row.user [])
      → live_of w e ≡ live_of v e
  live-same e paths apps users = at e.1.app refl
    where
      found : (n : ℕ) → e.1.app ≡ Some n → (o : Option AppRow) → lookup (nat_eq n) v.apps ≡ o → option_map (application_of w e.0) o ≡ option_map (application_of v e.0) o
      found n is None none = refl
      found n is (Some row) there = ap (λ app. Some app) (application-same e.0 row paths (users n row is there))

      at : (app : Option ℕ) → e.1.app ≡ app
          → option_map (application_of w e.0) (option_and_then (λ n. lookup (nat_eq n) w.apps) app)
          ≡ option_map (application_of v e.0) (option_and_then (λ n. lookup (nat_eq n) v.apps) app)
      at None is = refl
      at (Some n) is = ap (option_map (application_of w e.0)) (apps n is) ∙ found n is (lookup (nat_eq n) v.apps) refl

-- a partition whose containers are all called as before
pub partition-same : (v w : Rows) (row : PartitionRow) → AllByRecursion (λ e. placed_of w row.label e.1 ≡ placed_of v row.label e.1) row.containers → partition_of w row ≡ partition_of v row
partition-same v w row all = λ i. record { label = row.label; clock = row.clock; containers = each row.containers all i }
  where
    each : (es : List (ℕ × Container)) → AllByRecursion (λ e. placed_of w row.label e.1 ≡ placed_of v row.label e.1) es → map (λ e. placed_of w row.label e.1) es ≡ map (λ e. placed_of v row.label e.1) es
    each [] h = refl
    each (e ∷ es) h = λ i. h.0 i ∷ each es h.1 i

-- one more user leaves the names of those before
pub user-push : (name : Name) (users : List Name) (u : ℕ) → u < length users → slice_index_or (users ++ name ∷ []) u [] ≡ slice_index_or users u []
user-push name users u h = read-push users (name ∷ []) u [] h
