-- An index of the queues: the places of those on the way to each, and what all have of each partition.
use Rattle.std.specs.Prelude.{◌≡◌, ℕ, ◌+◌, ◌<◌, Bool, not, ◌&&◌, List, length, map, take, slice_index_or, Option, Some, IfSome, is_some, true, Vec}
use Rattle.std.specs.Option.{IsSome}
use Rattle.std.specs.Global.{Global}
use Rattle.std.specs.List.{All, list_any, position}
use Rattle.std.specs.BTreeMap.{BTreeMap, get_by}
use Rattle.std.specs.Cmp.Lexicographic.{slice_cmp}
use Rattle.ynl_resource.specs.Names.{name_order, same_path, is_within}
use Rattle.ynl_resource.specs.declared.names.Name.{Name}
use Rattle.ynl_resource.specs.declared.paths.Path.{Path}
use Rattle.ynl_resource.specs.declared.labels.Label.{Label}
use Rattle.ynl_model.specs.Queues.{QueueRow, Config, capacity_on}
use Rattle.ynl_queues.specs.declared.index.IndexRow.{IndexRow}
use Rattle.ynl_queues.specs.declared.index.LabelShares.{LabelShares}
use Rattle.ynl_queues.specs.declared.index.QueueIndex.{QueueIndex}

-- the place of a queue in the configuration's order, from 0: that of the first row with its path
pub record IsPlaceOf (rows : List QueueRow) (queue : Path) (place : ℕ) : Type 0 where
  pub inside : place < length rows
  pub first : position (λ row. same_path row.path queue) rows ≡ Some place

-- the places of the first queues on the way to a queue
pub record AreStepsTo (rows : List QueueRow) (queue : Path) (depth : ℕ) (steps : List ℕ) : Type 0 where
  pub each : length steps ≡ depth
  pub places : (i d : ℕ) → i < depth → IsPlaceOf rows (take (i + 1) queue) (slice_index_or steps i d)

-- the places of the queues on the way to a queue, from its top-level queue to itself
abbrev pub AreSteps : List QueueRow → Path → List ℕ → Type 0
AreSteps rows queue steps = AreStepsTo rows queue (length queue) steps

-- each queue on the way to a queue, and that queue, has a place
abbrev pub HasSteps : List QueueRow → Path → Type 0
HasSteps rows queue = (depth : ℕ) → depth < length queue → is_some (position (λ row. same_path row.path (take (depth + 1) queue)) rows) ≡ true

-- whether another queue is below a queue
abbrev pub has_below : List QueueRow → Path → Bool
has_below rows queue = list_any (λ row. is_within queue row.path && not (same_path queue row.path)) rows

-- where the steps to a queue are kept, they are its steps, and they are kept where all have places; and whether a queue is below it
pub record IsKeptOf (rows : List QueueRow) (row : IndexRow) : Type 0 where
  pub steps : IfSome row.steps (λ steps. AreSteps rows row.path steps.items)
  pub sure : HasSteps rows row.path → IsSome row.steps
  pub below : row.has_below ≡ has_below rows row.path

-- the place that is kept for a queue
abbrev pub place_in : BTreeMap (Vec Name Global) ℕ → Path → Option ℕ
place_in places queue = get_by (λ key. slice_cmp name_order queue key.items) places

-- the places that are kept are those of all queues, and of no other
abbrev pub ArePlaces : List QueueRow → BTreeMap (Vec Name Global) ℕ → Type 0
ArePlaces rows places = (queue : Path) → place_in places queue ≡ position (λ row. same_path row.path queue) rows

-- what each queue's capacity on a partition is, in the order of the configuration
abbrev pub capacities_on : Config → Label → List ℕ
capacities_on c label = map (λ row. capacity_on c row.path label) c.queues

-- what is kept of a partition are the queues' capacities there
abbrev pub AreShares : Config → LabelShares → Type 0
AreShares c shares = shares.capacities.items ≡ capacities_on c shares.label

-- what is kept is that of the configuration's queues, in their order
pub record IsIndexOf (c : Config) (index : QueueIndex) : Type 0 where
  pub rows : All (IsKeptOf c.queues) index.rows.items
  pub paths : map (λ row. row.path) index.rows.items ≡ map (λ row. row.path) c.queues
  pub places : ArePlaces c.queues index.places
  pub shares : All (AreShares c) index.shares.items
