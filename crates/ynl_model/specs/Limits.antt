-- How much one user, and how much application masters, may use of a leaf's share of a partition.
use Rattle.std.specs.Prelude.{ℕ, max, ◌||◌, List, [], ◌∷◌, map, filter, length, if◌then◌else◌}
use Rattle.std.specs.List.{list_any}
use Rattle.ynl_resource.specs.Amounts.{plus, greater_of, smaller_of, scale_floor, scale_ceil}
use Rattle.ynl_resource.specs.declared.amounts.Resource.{Resource}
use Rattle.ynl_resource.specs.Names.{same_name, same_label, is_default}
use Rattle.ynl_resource.specs.declared.names.Name.{Name}
use Rattle.ynl_resource.specs.declared.labels.Label.{Label}
use Rattle.ynl_resource.specs.declared.paths.Path.{Path}
use Rattle.ynl_model.specs.Queues.{Config, setting}
use Rattle.ynl_resource.specs.Ranges.{whole}
use Rattle.ynl_model.specs.Applications.{Application, apps_of}
use Rattle.ynl_model.specs.Cluster.{State, used, maximum, guaranteed}

-- the names of a list, each once
abbrev pub distinct : List Name → List Name
distinct [] = []
distinct (name ∷ names) = if list_any (same_name name) names then distinct names else name ∷ distinct names

-- the applications that share a leaf's part of a partition: the live ones with that home label, and for DEFAULT all live ones
abbrev pub sharing : State → Path → Label → List Application
sharing s leaf label = filter (λ app. is_default label || same_label app.home label) (apps_of s.leaves leaf)

-- how many users share a leaf's part of a partition, and 1 where there is none
unfoldable pub users : State → Path → Label → ℕ
users s leaf label = max 1 (length (distinct (map (λ app. app.user) (sharing s leaf label))))

-- what the users share: what the leaf is guaranteed, or what it would use with the new container, where that is more
abbrev pub base : Config → State → Path → Label → Resource → Resource
base c s leaf label size = greater_of (guaranteed c s leaf label) (plus (used s leaf label) size)

-- a user's share of it: an equal part, or the leaf's percentage where that is more, both rounded up
abbrev pub user_share : Config → State → Path → Label → Resource → Resource
user_share c s leaf label size =
    greater_of (scale_ceil (base c s leaf label size) 1 (users s leaf label))
    (scale_ceil (base c s leaf label size) (setting (λ row. row.leaf.minimum_user_limit_percent) 0 c leaf) whole)

-- the most that one user may take, as a multiple of what the leaf is guaranteed; the factor is in hundredths
abbrev pub user_cap : Config → State → Path → Label → Resource
user_cap c s leaf label = scale_floor (guaranteed c s leaf label) (setting (λ row. row.leaf.user_limit_factor) 0 c leaf) 100

-- the user limit: the share, and no more than the cap
unfoldable pub user_limit : Config → State → Path → Label → Resource → Resource
user_limit c s leaf label size = smaller_of (user_share c s leaf label size) (user_cap c s leaf label)

-- the master limit: what masters may use together, a share of the leaf's maximum
unfoldable pub master_limit : Config → State → Path → Label → Resource
master_limit c s leaf label = scale_floor (maximum s leaf label) (setting (λ row. row.leaf.maximum_am_resource_percent) 0 c leaf) whole
