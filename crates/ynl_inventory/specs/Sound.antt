-- Which rows are sound: each number names a row, and names are told apart.
use Rattle.std.specs.Prelude.{◌≡◌, ◌≢◌, ◌⊎◌, ℕ, ◌<◌, ◌≤◌, Bool, true, false, nat_eq, List, ◌∷◌, length, map, slice_get, Some, None, IsSome, IfSome}
use Rattle.std.specs.List.{All, AllByRecursion}
use Rattle.std.specs.Map.{lookup}
use Rattle.ynl_resource.specs.Names.{same_name, root}
use Rattle.ynl_resource.specs.declared.names.Name.{Name}
use Rattle.ynl_resource.specs.declared.labels.Label.TheVariants.{Unlabelled}
use Rattle.ynl_model.specs.Nodes.{partition_labels, clock_limit}
use Rattle.ynl_model.specs.Queues.{Config}
use Rattle.ynl_model.specs.Service.{takes_guests}
use Rattle.ynl_laws.specs.Numbers.{Differ}
use Rattle.ynl_laws.specs.Working.{Pairs}
use Rattle.ynl_inventory.specs.layout.Paths.{IsTree, HasNumber, path_at, paths_of}
use Rattle.ynl_slots.specs.Slots.{HasDistinctNumbers, IsLive, IsUnused}
use Rattle.ynl_tables.specs.declared.apps.asks.Ask.{Ask}
use Rattle.ynl_tables.specs.apps.Asks.{find_ask, AreAsks}
use Rattle.ynl_tables.specs.declared.containers.container.Container.{Container}
use Rattle.ynl_tables.specs.declared.containers.container.Role.{Role}
use Rattle.ynl_tables.specs.declared.containers.container.Role.TheVariants.{Master, Ask as Asked}
use Rattle.ynl_tables.specs.containers.Table.{IsAbove, IsRising}
use Rattle.ynl_tables.specs.declared.submissions.submissions.Submission.{Submission}
use Rattle.ynl_tables.specs.submissions.Submissions.{turn_of}
use Rattle.ynl_inventory.specs.declared.submission.NewSubmission.{NewSubmission}
use Rattle.ynl_inventory.specs.Rows.{Rows, PartitionRow, NodeRow, AppRow}
use Rattle.ynl_inventory.specs.Meaning.{has_none_below, label_at, submitted_to, tenant_at}
use Rattle.ynl_inventory.specs.Apps.{HasOneMasterEach, IsBefore, runs_at}

-- the partitions are those of a configuration, and so are the queues
pub record IsFor (c : Config) (v : Rows) : Type 0 where
  pub labels : map (λ row. row.label) v.partitions ≡ partition_labels c.labels
  pub limits : All (λ row. row.limit ≡ clock_limit c.labels row.label) v.partitions
  pub guests : All (λ row. row.guests ≡ takes_guests c row.label) v.partitions
  pub paths : v.paths ≡ paths_of c

-- an application asks on its home partition and on DEFAULT
abbrev pub IsAskedOn : ℕ → ℕ → Type 0
IsAskedOn home p = (p ≡ home) ⊎ (p ≡ 0)

module _ (v : Rows) where
  -- there is a partition of this number
  abbrev pub HasPartition : ℕ → Type 0
  HasPartition p = p < length v.partitions

  -- on this partition an application's master stands at home, and what was asked for was asked for on a partition
  abbrev pub IsRole : ℕ → ℕ → Role → Type 0
  IsRole p app Master = IfSome (lookup (nat_eq app) v.apps) (λ row. row.home ≡ p)
  IsRole p app (Asked asked priority) = HasPartition asked

  -- what was asked for was asked for on a partition
  abbrev pub IsAskedThere : Role → Type 0
  IsAskedThere Master = Unit {0}
  IsAskedThere (Asked asked priority) = HasPartition asked

  -- a node stands in a partition
  abbrev pub IsNode : NodeRow → Type 0
  IsNode row = HasPartition row.partition

  -- a container's application is live, its node is there, in that partition, and its clock is none to come
  pub record IsContainer (p : ℕ) (shown : ℕ) (c : Container) : Type 0 where
    pub app : IsLive c.app v.apps
    pub node : NodeRow
    pub node_found : lookup (nat_eq c.node) v.nodes ≡ Some node
    pub node_there : node.partition ≡ p
    pub role : IsRole p c.app c.role
    pub clock : c.clock ≤ shown

  -- the containers of a partition have numbers of their own, and clocks that rise, and no two are masters of one application
  pub record IsPartition (p : ℕ) (row : PartitionRow) : Type 0 where
    pub numbers : HasDistinctNumbers row.containers
    pub rising : IsRising row.containers
    pub clock : row.clock ≤ row.limit
    pub masters : HasOneMasterEach row.containers
    pub each : (n : ℕ) (c : Container) → lookup (nat_eq n) row.containers ≡ Some c → IsContainer p row.clock c

  -- an application is that of its submission, its numbers name rows, and it asks on its home partition and on DEFAULT
  pub record IsApp (n : ℕ) (row : AppRow) : Type 0 where
    pub name : Name
    pub submitted : slice_get (submitted_to v.tenants row.tenant) row.turn ≡ Some (name, record { leaf = row.leaf; app = Some n })
    pub user : row.user < length v.users
    pub home : HasPartition row.home
    pub asks : AreAsks row.asks
    pub asked : All (λ ask. IsAskedOn row.home ask.partition) row.asks

  -- a number is a leaf's
  pub record IsLeaf (q : ℕ) : Type 0 where
    pub there : HasNumber v.paths q
    pub none_below : has_none_below v.paths (path_at v.paths q) ≡ true

  -- a submission is to a leaf of the tenant; while it is live its row is that of this turn
  pub record IsSubmission (t turn : ℕ) (s : Submission) : Type 0 where
    pub there : HasNumber v.paths s.leaf
    pub leaf : has_none_below v.paths (path_at v.paths s.leaf) ≡ true
    pub tenant : tenant_at v.paths s.leaf ≡ t
    pub live : IfSome s.app (λ n. IsLive n v.apps)
    pub row : (n : ℕ) (row : AppRow) → s.app ≡ Some n → lookup (nat_eq n) v.apps ≡ Some row → (row.tenant ≡ t) × ((row.turn ≡ turn) × (row.leaf ≡ s.leaf))

  -- what was submitted to a tenant has names of its own
  pub record IsTenant (t : ℕ) (entries : List (Name × Submission)) : Type 0 where
    pub names : Differ (map (λ e. e.0) entries)
    pub each : (turn : ℕ) (name : Name) (s : Submission) → slice_get entries turn ≡ Some (name, s) → IsSubmission t turn s

  -- the rows are sound
  pub record IsSound : Type 0 where
    pub tree : IsTree v.paths
    pub default : label_at v.partitions 0 ≡ Unlabelled
    pub some : HasPartition 0
    pub labels : (p q : ℕ) → HasPartition p → HasPartition q → label_at v.partitions p ≡ label_at v.partitions q → p ≡ q
    pub partitions : (p : ℕ) (row : PartitionRow) → slice_get v.partitions p ≡ Some row → IsPartition p row
    pub node_numbers : HasDistinctNumbers v.nodes
    pub node_names : Differ (map (λ e. e.1.name) v.nodes)
    pub nodes : (n : ℕ) (row : NodeRow) → lookup (nat_eq n) v.nodes ≡ Some row → IsNode row
    pub app_numbers : HasDistinctNumbers v.apps
    pub apps : (n : ℕ) (row : AppRow) → lookup (nat_eq n) v.apps ≡ Some row → IsApp n row
    pub order : Pairs IsBefore v.apps
    pub many : length v.tenants ≡ length (root ∷ v.paths)
    pub tenants : (t : ℕ) (entries : List (Name × Submission)) → slice_get v.tenants t ≡ Some entries → IsTenant t entries
    pub users : Differ v.users

  -- an application may have a container of this role placed on a partition: its master at home, while it does not run; and what it asks for
  -- where it asks for it, or as a guest
  abbrev pub CanTake : ℕ → ℕ → Bool → AppRow → Role → Type 0
  CanTake app p guests row Master = (row.home ≡ p) × (runs_at v app row ≡ false)
  CanTake app p guests row (Asked asked priority) = IsSome (find_ask asked priority row.asks) × ((asked ≡ p) ⊎ ((asked ≡ 0) × (guests ≡ true)))

  -- a container may be placed on a node: the node and the application are there, that may have it there, and the clock of the node's partition still rises
  pub record IsPlaceable (node app : ℕ) (r : Role) : Type 0 where
    pub node_row : NodeRow
    pub node_found : lookup (nat_eq node) v.nodes ≡ Some node_row
    pub partition : PartitionRow
    pub partition_found : slice_get v.partitions node_row.partition ≡ Some partition
    pub rises : partition.clock < partition.limit
    pub app_row : AppRow
    pub app_found : lookup (nat_eq app) v.apps ≡ Some app_row
    pub role : CanTake app node_row.partition partition.guests app_row r

  -- an application may have a container of this role stand on a partition: its master at home, while it does not run; and what it asked for, at
  -- home or on DEFAULT, stands where it was asked for, or is a guest
  abbrev pub MayHave : ℕ → ℕ → Bool → AppRow → Role → Type 0
  MayHave app p guests row Master = (row.home ≡ p) × (runs_at v app row ≡ false)
  MayHave app p guests row (Asked asked priority) = IsAskedOn row.home asked × ((asked ≡ p) ⊎ ((asked ≡ 0) × (guests ≡ true)))

  -- a container may stand on a node as one that was placed at this clock: the node and the application are there, that may have it there, and it is
  -- later than all that stand on the node's partition, and no later than its clock
  pub record IsStandable (node app : ℕ) (r : Role) (clock : ℕ) : Type 0 where
    pub node_row : NodeRow
    pub node_found : lookup (nat_eq node) v.nodes ≡ Some node_row
    pub partition : PartitionRow
    pub partition_found : slice_get v.partitions node_row.partition ≡ Some partition
    pub last : IsAbove clock partition.containers
    pub shown : clock ≤ partition.clock
    pub app_row : AppRow
    pub app_found : lookup (nat_eq app) v.apps ≡ Some app_row
    pub role : MayHave app node_row.partition partition.guests app_row r

  -- the clock of a partition may show this: it is no further than it goes, and no container there has a later one
  pub record CanShow (p clock : ℕ) : Type 0 where
    pub within : IfSome (slice_get v.partitions p) (λ row. clock ≤ row.limit)
    pub above : IfSome (slice_get v.partitions p) (λ row. AllByRecursion (λ e. e.1.clock ≤ clock) row.containers)

  -- an application of this name may be submitted: its tenant has none of that name, its leaf is one of that tenant, and its user and its home
  -- partition are there
  pub record CanSubmit (name : Name) (new : NewSubmission) : Type 0 where
    pub unnamed : turn_of name (submitted_to v.tenants new.tenant) ≡ None
    pub there : HasNumber v.paths new.leaf
    pub leaf : has_none_below v.paths (path_at v.paths new.leaf) ≡ true
    pub tenant : tenant_at v.paths new.leaf ≡ new.tenant
    pub user : new.user < length v.users
    pub home : HasPartition new.home

  -- a live application may ask: on its home partition, or on DEFAULT
  abbrev pub CanAsk : ℕ → Ask → Type 0
  CanAsk app ask = IsLive app v.apps × IfSome (lookup (nat_eq app) v.apps) (λ row. IsAskedOn row.home ask.partition)

  -- a node of this name may join a partition under this number: neither is in use, and the partition is there
  pub record IsJoinable (number : ℕ) (name : Name) (p : ℕ) : Type 0 where
    pub unused : IsUnused number v.nodes
    pub unnamed : AllByRecursion (λ e. same_name e.1.name name ≡ false) v.nodes
    pub partition : PartitionRow
    pub found : slice_get v.partitions p ≡ Some partition

  -- no container stands on a node
  abbrev pub HasNoContainers : ℕ → Type 0
  HasNoContainers node = (p : ℕ) (row : PartitionRow) → slice_get v.partitions p ≡ Some row → AllByRecursion (λ e. e.1.node ≢ node) row.containers

  -- no container is an application's
  abbrev pub OwnsNoContainers : ℕ → Type 0
  OwnsNoContainers app = (p : ℕ) (row : PartitionRow) → slice_get v.partitions p ≡ Some row → AllByRecursion (λ e. e.1.app ≢ app) row.containers
