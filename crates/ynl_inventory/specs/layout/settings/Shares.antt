-- The parts that queues have of the partitions, by numbers.
use Rattle.std.specs.Prelude.{ℕ, zero, suc, ◌<◌, List, [], ◌∷◌, fold, length, map, slice_index_or}
use Rattle.std.specs.List.{AllByRecursion}
use Rattle.ynl_resource.specs.Amounts.{scale_floor}
use Rattle.ynl_resource.specs.Ranges.{whole}
use Rattle.ynl_resource.specs.declared.amounts.Resource.{Resource}
use Rattle.ynl_resource.specs.declared.labels.Label.{Label}
use Rattle.ynl_resource.specs.declared.paths.Path.{Path}
use Rattle.ynl_model.specs.Nodes.{partition_labels}
use Rattle.ynl_model.specs.Queues.{Config, capacity_on, configured_maximum}
use Rattle.ynl_inventory.specs.declared.layout.settings.shares.Share.{Share}

-- nothing
abbrev pub no_share : Share
no_share = record { capacity = 0; maximum = 0 }

-- the shares on a partition
abbrev pub shares_on : List (List Share) → ℕ → List Share
shares_on rows p = slice_index_or rows p []

-- the share of a queue there
abbrev pub share_at : List (List Share) → ℕ → ℕ → Share
share_at rows p q = slice_index_or (shares_on rows p) q no_share

abbrev pub capacity_at : List (List Share) → ℕ → ℕ → ℕ
capacity_at rows p q = (share_at rows p q).capacity

abbrev pub maximum_at : List (List Share) → ℕ → ℕ → ℕ
maximum_at rows p q = (share_at rows p q).maximum

-- there is a share of the queue on the partition
pub record HasCell (rows : List (List Share)) (p q : ℕ) : Type 0 where
  pub partition : p < length rows
  pub queue : q < length (shares_on rows p)

-- and of each queue of a way
pub record IsWayIn (rows : List (List Share)) (p : ℕ) (way : List ℕ) : Type 0 where
  pub partition : p < length rows
  pub queues : AllByRecursion (λ q. q < length (shares_on rows p)) way

-- what reaches the last of some queues of an amount, where each gets its share of what the one before it has, rounded down
abbrev pub reached : (ℕ → ℕ) → List ℕ → Resource → Resource
reached share queues amount = fold (λ above q. scale_floor above (share q) whole) amount queues

-- the element in a place changes
abbrev pub with_at : {X : Type 0} → ℕ → (X → X) → List X → List X
with_at place change [] = []
with_at zero change (x ∷ xs) = change x ∷ xs
with_at (suc place) change (x ∷ xs) = x ∷ with_at place change xs

-- the maximum of a queue on a partition is another
abbrev pub with_maximum : ℕ → ℕ → ℕ → List (List Share) → List (List Share)
with_maximum p q maximum rows = with_at p (with_at q (λ share. record share { maximum = maximum })) rows

-- ---- what is configured

-- the share that is configured of a queue on a partition
abbrev pub configured_share : Config → Label → Path → Share
configured_share c label queue = record { capacity = capacity_on c queue label; maximum = configured_maximum c queue label }

-- the shares of all queues there; root has the whole
abbrev pub configured_on : Config → Label → List Share
configured_on c label = record { capacity = whole; maximum = whole } ∷ map (λ row. configured_share c label row.path) c.queues

-- those on all partitions
abbrev pub configured_shares : Config → List (List Share)
configured_shares c = map (configured_on c) (partition_labels c.labels)
