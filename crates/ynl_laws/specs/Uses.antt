-- What a queue uses of a partition, by the containers there, and by the state.
use Rattle.std.specs.Prelude.{◌+◌, ◌-◌, Bool, not, ◌&&◌, List, filter, length, if◌then◌else◌}
use Rattle.ynl_resource.specs.Amounts.{plus, less}
use Rattle.ynl_resource.specs.declared.labels.Label.{Label}
use Rattle.ynl_resource.specs.declared.paths.Path.{Path}
use Rattle.ynl_model.specs.declared.containers.Placed.{Placed as Container}
use Rattle.ynl_model.specs.declared.uses.Use.{Use}
use Rattle.ynl_model.specs.Applications.{LeafApps}
use Rattle.ynl_model.specs.Cluster.{State, sizes, is_master, is_guest, is_below, counted, used, masters_used, guests}

-- whether a container counts in the use of a queue: it is no guest, and its leaf is the queue or below
abbrev pub counts : List LeafApps → Path → Container → Bool
counts leaves queue container = not (is_guest container) && is_below leaves queue container

-- whether it counts among the guests of a queue
abbrev pub counts_as_guest : List LeafApps → Path → Container → Bool
counts_as_guest leaves queue container = is_guest container && is_below leaves queue container

-- what a queue uses by some containers
abbrev pub use_by : List LeafApps → Path → List Container → Use
use_by leaves queue containers = record {
  used = sizes (filter (counts leaves queue) containers);
  masters = sizes (filter is_master (filter (counts leaves queue) containers));
  master_count = length (filter is_master (filter (counts leaves queue) containers));
  guests = sizes (filter (counts_as_guest leaves queue) containers);
}

-- what a queue uses of a partition
abbrev pub use_of : State → Label → Path → Use
use_of s label queue = record {
  used = used s queue label;
  masters = masters_used s queue label;
  master_count = length (filter is_master (counted s queue label));
  guests = guests s queue label;
}

-- a use with one more container
abbrev pub raised : Container → Use → Use
raised container u =
    if is_guest container then record u { guests = plus u.guests container.size }
    else (if is_master container then record u { used = plus u.used container.size; masters = plus u.masters container.size; master_count = u.master_count + 1 }
    else record u { used = plus u.used container.size })

-- a use with one container less
abbrev pub lowered : Container → Use → Use
lowered container u =
    if is_guest container then record u { guests = less u.guests container.size }
    else (if is_master container then record u { used = less u.used container.size; masters = less u.masters container.size; master_count = u.master_count - 1 }
    else record u { used = less u.used container.size })

-- the use of a queue with one more container, which counts where its leaf is the queue or below
abbrev pub raised_in : List LeafApps → Path → Container → Use → Use
raised_in leaves queue container u = if is_below leaves queue container then raised container u else u

-- and with one container less
abbrev pub lowered_in : List LeafApps → Path → Container → Use → Use
lowered_in leaves queue container u = if is_below leaves queue container then lowered container u else u
