-- How an application finishes: its containers end first.
use Rattle.std.specs.Prelude.{◌≡◌, ◌≢◌, ℕ, ◌<◌, length, nat_eq, Some}
use Rattle.std.specs.List.{AllByRecursion}
use Rattle.std.specs.Map.{lookup}
use Rattle.ynl_model.specs.Changes.{all_end, all_own}
use Rattle.ynl_model.specs.Cluster.{State}
use Rattle.ynl_inventory.specs.Rows.{Rows, AppRow}
use Rattle.ynl_inventory.specs.Apps.{containers_of}
use Rattle.ynl_cluster.specs.Cluster.{ClusterView, name_in, state_in, tenant_in}

-- no container of the partitions before this one is an application's
abbrev pub OwnsNoneBefore : Rows → ℕ → ℕ → Type 0
OwnsNoneBefore v app p = (q : ℕ) → q < p → AllByRecursion (λ e. e.1.app ≢ app) (containers_of v q)

-- the state after the containers of the application of a row ended, in the order of their ids
abbrev pub ended_own : ClusterView → AppRow → State
ended_own w row = all_end w.config (all_own (state_in w) (tenant_in w.rows row) (name_in w.rows row)) (state_in w)

-- some of an application's containers ended, in the order of their ids: those that are left may end next, and clocks rose and nodes were stamped, and all else is as it was
pub record IsFinishing (app : ℕ) (old now : ClusterView) : Type 0 where
  pub same : now ≡ record old { rows = record old.rows { partitions = now.rows.partitions; nodes = now.rows.nodes }; rooms = now.rooms }
  pub many : length now.rows.partitions ≡ length old.rows.partitions
  pub left : (row : AppRow) → lookup (nat_eq app) old.rows.apps ≡ Some row → ended_own now row ≡ ended_own old row
