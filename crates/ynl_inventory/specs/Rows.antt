-- What a cluster holds, as a contract sees it: rows under numbers. A partition's number is its place, DEFAULT first; root's number is 0, and those of the other queues follow in the order of the configuration; a tenant's number is that of its top-level queue.
use Rattle.std.specs.Prelude.{ℕ, Bool, List}
use Rattle.ynl_resource.specs.declared.amounts.Resource.{Resource}
use Rattle.ynl_resource.specs.declared.names.Name.{Name}
use Rattle.ynl_resource.specs.declared.labels.Label.{Label}
use Rattle.ynl_resource.specs.declared.paths.Path.{Path}
use Rattle.ynl_tables.specs.declared.apps.asks.Ask.{Ask}
use Rattle.ynl_tables.specs.declared.apps.app.Tickets.{Tickets}
use Rattle.ynl_tables.specs.declared.containers.container.Container.{Container}
use Rattle.ynl_tables.specs.declared.submissions.submissions.Submission.{Submission}

-- a partition: its label, whether it takes guests, how far its clock goes, what that shows, and the containers there in the order of placement
pub record PartitionRow : Type 0 where
  pub label : Label
  pub guests : Bool
  pub limit : ℕ
  pub clock : ℕ
  pub containers : List (ℕ × Container)

-- a node, its partition by number
pub record NodeRow : Type 0 where
  pub name : Name
  pub partition : ℕ
  pub size : Resource
  pub stamp : ℕ

-- a live application; its tenant has its name, at its turn
pub record AppRow : Type 0 where
  pub tenant : ℕ
  pub turn : ℕ
  pub leaf : ℕ
  pub user : ℕ
  pub home : ℕ
  pub master : Resource
  pub asks : List Ask
  pub tickets : Tickets

-- all rows: the paths of the queues below root; the partitions; the nodes in the order of joining; the live applications; by tenant, the
-- applications that were ever submitted, in the order of submission; and the names of users
pub record Rows : Type 0 where
  pub paths : List Path
  pub partitions : List PartitionRow
  pub nodes : List (ℕ × NodeRow)
  pub apps : List (ℕ × AppRow)
  pub tenants : List (List (Name × Submission))
  pub users : List Name
