-- Children of queues as they are gathered, one after another.
use Rattle.std.specs.Prelude.{ℕ, ◌<◌, Bool, false, List, [], ◌∷◌, drop, map, slice_get, slice_index_or, ◌-◌, Option, Vec}
use Rattle.std.specs.declared.alloc.Global.{Global}
use Rattle.std.specs.Option.{option_map_or}
use Rattle.ynl_resource.specs.Names.{same_name}
use Rattle.std.specs.List.{All, Contains}
use Rattle.std.specs.List.Sorted.{IsStrictlyIncreasing}
use Rattle.ynl_resource.specs.declared.names.Name.{Name}
use Rattle.ynl_resource.specs.declared.paths.Path.{Path}
use Rattle.ynl_inventory.specs.layout.Paths.{IsChild}

-- some numbers that rise are those of the queues just below a queue, of those before n
pub record AreChildrenUpTo (paths : List Path) (queue n : ℕ) (numbers : List ℕ) : Type 0 where
  pub each : All (IsChild paths queue) numbers
  pub before : All (λ m. m < n) numbers
  pub rising : IsStrictlyIncreasing numbers
  pub all : (child : ℕ) → child < n → IsChild paths queue child → Contains numbers child

-- the path of a queue: the names of the queues on its line below root
abbrev pub path_by : List Name → List ℕ → Path
path_by names line = map (λ n. slice_index_or ([] ∷ names) n []) (drop 1 line)

-- the paths of the queues below root
unfoldable pub paths_by : List (Vec ℕ Global) → List Name → List Path
paths_by lines names = map (λ line. path_by names line.items) (drop 1 lines)

-- the last name of a queue below root, by which siblings are sorted
abbrev pub name_in : List Name → ℕ → Option Name
name_in names n = slice_get names (n - 1)

-- whether a queue has this name
abbrev pub is_named : List Name → Name → ℕ → Bool
is_named names name n = option_map_or (same_name name) (name_in names n) false
