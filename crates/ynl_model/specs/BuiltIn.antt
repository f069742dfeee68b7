-- The configuration that a cluster has where no other is given: one queue, with one label.
use Rattle.std.specs.Prelude.{true, false, [], ◌∷◌, codes}
use Rattle.ynl_resource.specs.Amounts.{amount}
use Rattle.ynl_resource.specs.Ranges.{whole, most_clock, most_memory, most_vcores}
use Rattle.ynl_resource.specs.declared.names.Name.{Name}
use Rattle.ynl_resource.specs.declared.labels.Label.TheVariants.{Unlabelled}
use Rattle.ynl_resource.specs.declared.paths.Path.{Path}
use Rattle.ynl_model.specs.Nodes.{Labels}
use Rattle.ynl_model.specs.declared.labels.LabelRow.{LabelRow}
use Rattle.ynl_model.specs.Queues.{QueueRow, Config, Inherited}
use Rattle.ynl_model.specs.declared.queues.LabelCapacity.{LabelCapacity}
use Rattle.ynl_model.specs.declared.queues.LeafSettings.{LeafSettings}

-- the name of the label
abbrev pub gpu : Name
gpu = codes "gpu"

-- the queue root.eng
abbrev pub eng : Path
eng = codes "eng" ∷ []

-- the label is exclusive, and clocks go as far as a number of an id does
abbrev pub gpu_row : LabelRow
gpu_row = record { name = gpu; exclusive = true; limit = most_clock }

-- the one label, and as far a clock for DEFAULT
abbrev pub labels : Labels
labels = record { rows = gpu_row ∷ []; default_limit = most_clock }

-- all of the label
abbrev pub gpu_capacity : LabelCapacity
gpu_capacity = record { label = gpu; capacity = whole; maximum = whole }

-- a user may have all of the queue, and masters a tenth of it
abbrev pub leaf_settings : LeafSettings
leaf_settings = record {
  default_label = Unlabelled;
  minimum_user_limit_percent = whole;
  user_limit_factor = 100;
  maximum_am_resource_percent = 1000;
  maximum_applications = 10000;
}

-- the queue has all of root
abbrev pub eng_row : QueueRow
eng_row = record {
  path = eng;
  stopped = false;
  capacity = whole;
  maximum = whole;
  access = Inherited;
  leaf = leaf_settings;
  capacities = gpu_capacity ∷ [];
}

-- one container a heartbeat, and no request is too large
abbrev pub built_in : Config
built_in = record { labels = labels; queues = eng_row ∷ []; containers_per_heartbeat = 1; maximum_allocation = amount most_memory most_vcores }
