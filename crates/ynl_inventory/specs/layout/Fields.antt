-- What the fields of a layout mean.
use Rattle.std.specs.Prelude.{◌≡◌, map}
use Rattle.ynl_model.specs.Service.{last_name}
use Rattle.ynl_inventory.specs.declared.layout.layout.Layout.TheInside.{Inside}
use Rattle.ynl_inventory.specs.layout.Building.{paths_by}
use Rattle.ynl_inventory.specs.layout.Paths.{AreLines, HaveChildren}

-- the queues are a tree, and each has its line, its last name and its children
pub record IsLayout (a : Inside) : Type 0 where
  pub lines : AreLines (paths_by a.lines.items a.names.items) a.lines.items
  pub names : a.names.items ≡ map last_name (paths_by a.lines.items a.names.items)
  pub children : HaveChildren (paths_by a.lines.items a.names.items) a.children.items
