-- The first of the requests below a queue stands below the least of its children that have any.
use Rattle.std.specs.Prelude.{IsTrue, IsFalse, List, Some}
use Rattle.std.specs.List.{Contains}
use Rattle.std.specs.Ordering.{is_gt}
use Rattle.ynl_resource.specs.Names.{is_within}
use Rattle.ynl_resource.specs.declared.names.Name.{Name}
use Rattle.ynl_resource.specs.declared.labels.Label.{Label}
use Rattle.ynl_resource.specs.declared.paths.Path.{Path}
use Rattle.ynl_model.specs.Queues.{Config}
use Rattle.ynl_model.specs.Cluster.{State}
use Rattle.ynl_model.specs.Service.{Item, key, standing, standing_order}
use Rattle.ynl_laws.specs.Decided.{below}
use Rattle.ynl_laws.specs.First.{IsFirst, is_later}

-- a request of a list stands below a queue, or in it
pub record IsBelow (items : List Item) (queue : Path) (item : Item) : Type 0 where
  pub among : Contains items item
  pub within : IsTrue (is_within queue item.leaf)

-- a request of a list stands below one of some children of a queue
pub record IsBelowSome (items : List Item) (queue : Path) (names : List Name) (item : Item) : Type 0 where
  pub child : Name
  pub there : Contains names child
  pub stands : IsBelow items (below queue child) item

-- of some children of a queue that have requests below them none is before this one
pub record IsLeastChild (c : Config) (s : State) (p : Label) (items : List Item) (queue : Path) (names : List Name) (least : Name) : Type 0 where
  pub there : Contains names least
  pub before : (item : Item) (h : IsBelowSome items queue names item) → IsFalse (is_gt (standing_order (standing c s p (below queue least)) (standing c s p (below queue h.child))))

-- the first request below that child is the first of those below all of these children
abbrev pub IsFirstBelowLeast : Type 0
IsFirstBelowLeast =
    (c : Config) (s : State) (p : Label) (items : List Item) (queue : Path) (names : List Name) (least : Name) (item : Item) → IsLeastChild c s p items queue names least
    → IsFirst (is_later (key c s p)) (IsBelow items (below queue least)) (Some item) → IsFirst (is_later (key c s p)) (IsBelowSome items queue names) (Some item)
