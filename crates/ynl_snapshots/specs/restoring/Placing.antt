-- Where a line's container stands, and what it is to its application.
use Rattle.std.specs.Prelude.{◌≡◌, ◌<◌, ◌≤◌, ℕ, true, nat_eq, List, fold, map, slice_get, Some}
use Rattle.std.specs.List.{AllByRecursion}
use Rattle.std.specs.Map.{lookup}
use Rattle.ynl_resource.specs.Amounts.{fits_in}
use Rattle.ynl_resource.specs.declared.labels.Label.{Label}
use Rattle.ynl_model.specs.declared.containers.Placed.{Placed}
use Rattle.ynl_model.specs.declared.nodes.Node.{Node}
use Rattle.ynl_model.specs.declared.proposals.What.{What}
use Rattle.ynl_model.specs.Cluster.{Partition, State, clock}
use Rattle.ynl_laws.proofs.Events.Found.{FindsAll}
use Rattle.ynl_tables.specs.declared.containers.container.Role.{Role}
use Rattle.ynl_tables.specs.declared.containers.container.Role.TheVariants.{Ask as Asked}
use Rattle.ynl_inventory.specs.Meaning.{what_of}
use Rattle.ynl_inventory.specs.Parts.{free_of, CanStand}
use Rattle.ynl_inventory.specs.Rows.{AppRow, PartitionRow}
use Rattle.ynl_inventory.specs.Sound.{MayHave}
use Rattle.ynl_inventory.specs.declared.partition.Placement.{Placement}
use Rattle.ynl_cluster.specs.Cluster.{ClusterView, label_of, state_in, stood_in}
use Rattle.ynl_replies.specs.admission.Named.{IsNodeNamed, IsPartitionOf}
use Rattle.ynl_saved.specs.Restoring.{last_clock}

-- what a container's line asks of the state before it: live applications are found, and no stamp is above its partition's clock
pub record IsSteady (s : State) : Type 0 where
  pub finds : FindsAll s.leaves
  pub shown : AllByRecursion (λ (node : Node). node.stamp ≤ clock s node.label) s.nodes

-- the clock of the last container of a partition, 0 where there is none
abbrev pub last_of : Partition → ℕ
last_of row = fold (λ before container. container.id.clock) 0 row.containers

-- those of all partitions
abbrev pub AreLasts : State → List ℕ → Type 0
AreLasts s lasts = map last_of s.partitions ≡ lasts

-- the node has the container's node's name, is of its partition, changed no earlier, and has room; and the clock is behind the last one
pub record StandsOn (w : ClusterView) (p : Placed) (n : ℕ) : Type 0 where
  pub named : IsNodeNamed w p.node n
  pub own : label_of w named.row.partition ≡ p.id.label
  pub stamped : p.id.clock ≤ named.row.stamp
  pub fits : fits_in p.size (free_of w.rows n) ≡ true
  pub later : last_clock (state_in w) p.id.label < p.id.clock

-- what was asked for under a label was asked for on this partition, and may stand on that one, whatever its priority
pub record IsAskedAs (w : ClusterView) (app p : ℕ) (label : Label) (asked : ℕ) : Type 0 where
  pub partition : IsPartitionOf w label asked
  pub may : (priority : ℕ) (row : AppRow) (part : PartitionRow) → lookup (nat_eq app) w.rows.apps ≡ Some row → slice_get w.rows.partitions p ≡ Some part → MayHave w.rows app p part.guests row (Asked asked priority)

-- what a container is for it is for by this role, which the application may have on the partition
pub record IsRoleOf (w : ClusterView) (app p : ℕ) (what : What) (role : Role) : Type 0 where
  pub means : what_of w.rows.partitions role ≡ what
  pub may : (row : AppRow) (part : PartitionRow) → lookup (nat_eq app) w.rows.apps ≡ Some row → slice_get w.rows.partitions p ≡ Some part → MayHave w.rows app p part.guests row role

-- a line's container is placed as this: it may stand there, and is that container then
pub record IsPlacedAs (w : ClusterView) (p : Placed) (placement : Placement) : Type 0 where
  pub can : CanStand w.rows placement p.id.clock
  pub is : stood_in w placement p.id.clock ≡ p
