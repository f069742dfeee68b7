-- Of which leaf a container is.
use Rattle.std.specs.Prelude.{◌≡◌, ℕ, nat_eq, Some}
use Rattle.std.specs.Map.{lookup}
use Rattle.ynl_tables.specs.declared.containers.container.Container.{Container}
use Rattle.ynl_inventory.specs.Rows.{Rows, AppRow}
use Rattle.ynl_inventory.specs.Parts.{held_at}

-- the container of a number in a partition is an application's, and this is its leaf
pub record IsOfLeaf (v : Rows) (p number leaf : ℕ) : Type 0 where
  pub container : Container
  pub held : held_at v p number ≡ Some container
  pub row : AppRow
  pub found : lookup (nat_eq container.app) v.apps ≡ Some row
  pub is : leaf ≡ row.leaf
