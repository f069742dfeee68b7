-- What decides the shares of a queue on all labels: its row, and the labels that it may use.
use Rattle.std.specs.Prelude.{ℕ, Bool, List, map, sum, option_copied, if◌then◌else◌}
use Rattle.std.specs.Option.{option_map_or}
use Rattle.ynl_resource.specs.declared.labels.Label.{Label}
use Rattle.ynl_model.specs.Nodes.{Labels}
use Rattle.ynl_model.specs.Queues.{QueueRow, written_capacity, written_maximum}
use Rattle.ynl_queues.specs.Reach.{reached, is_among}
use Rattle.ynl_queues.specs.declared.grants.Grant.{Grant}

-- whether a queue that stands so may use a label
abbrev pub reaches : Labels → Grant → Label → Bool
reaches labels s label = is_among (reached labels (option_copied s.reach)) label

-- what a queue that stands so has of a label, where its row says it, and nothing on a label that it may not use
abbrev pub share_at : (QueueRow → ℕ) → Labels → Grant → Label → ℕ
share_at written labels s label = if reaches labels s label then option_map_or written (option_copied s.row) 0 else 0

-- its capacity on a partition
unfoldable pub capacity_at : Labels → Grant → Label → ℕ
capacity_at labels s label = share_at (written_capacity label) labels s label

-- its configured maximum on a partition
unfoldable pub maximum_at : Labels → Grant → Label → ℕ
maximum_at labels s label = share_at (written_maximum label) labels s label

-- what the capacities of queues come to on a partition
unfoldable pub total_at : Labels → List Grant → Label → ℕ
total_at labels grants label = sum (map (λ s. capacity_at labels s label) grants)
