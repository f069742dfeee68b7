-- What the settings mean in the model.
use Rattle.std.specs.Prelude.{ℕ, ◌+◌, Bool, List, [], ◌∷◌, ◌++◌}
use Rattle.ynl_resource.specs.declared.labels.Label.{Label}
use Rattle.ynl_resource.specs.declared.paths.Path.{Path}
use Rattle.ynl_model.specs.declared.queues.StopRow.{StopRow}
use Rattle.ynl_model.specs.declared.queues.MaximumRow.{MaximumRow}
use Rattle.ynl_inventory.specs.declared.layout.settings.shares.Share.{Share}
use Rattle.ynl_inventory.specs.layout.settings.Shares.{maximum_at}

-- the marks of the queues below root
abbrev pub stops_of : List Path → List Bool → List StopRow
stops_of [] marks = []
stops_of (path ∷ paths) [] = []
stops_of (path ∷ paths) (mark ∷ marks) = record { queue = path; stopped = mark } ∷ stops_of paths marks

-- the maxima of a queue on partitions from a number on
abbrev pub maxima_on : ℕ → ℕ → Path → List Label → List (List Share) → List MaximumRow
maxima_on p q path [] rows = []
maxima_on p q path (label ∷ labels) rows = record { queue = path; label = label; share = maximum_at rows p q } ∷ maxima_on (p + 1) q path labels rows

-- the maxima of queues from a number on
abbrev pub maxima_from : ℕ → List Path → List Label → List (List Share) → List MaximumRow
maxima_from q [] labels rows = []
maxima_from q (path ∷ paths) labels rows = maxima_on 0 q path labels rows ++ maxima_from (q + 1) paths labels rows

-- the maxima of the queues below root, partition by partition
abbrev pub maxima_of : List Path → List Label → List (List Share) → List MaximumRow
maxima_of paths labels rows = maxima_from 1 paths labels rows
