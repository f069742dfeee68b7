-- What was read, as the model's values.
use Rattle.std.specs.Prelude.{ℕ, List, Result, Vec}
use Rattle.std.specs.Borrow.{Bor}
use Rattle.std.specs.declared.alloc.Global.{Global}
use Rattle.ynl_model.specs.declared.labels.LabelRow.{LabelRow}
use Rattle.ynl_model.specs.Queues.{Access}
use Rattle.ynl_model.specs.declared.queues.LabelCapacity.{LabelCapacity}
use Rattle.ynl_queues.specs.declared.rows.Access.{Access as Kept}
use Rattle.ynl_queues.specs.Rows.{access_of}
use Rattle.ynl_queues.specs.Written.{WrittenRow}
use Rattle.ynl_config.specs.declared.queues.Bounds.{Bounds}
use Rattle.ynl_model.specs.declared.queues.LeafSettings.{LeafSettings}
use Rattle.ynl_config.specs.declared.values.Version.{Version}
use Rattle.ynl_config.specs.declared.written.Numbers.{Numbers}
use Rattle.ynl_config.specs.Earliest.{ConfigFault, made}
use Rattle.ynl_config.specs.Tables.{QueueParts, Parts}

-- the access that was read
abbrev pub access_in : Result Kept ConfigFault → Result Access ConfigFault
access_in = made access_of

-- the labels that a queue may use and its shares of labels, as they are kept
abbrev pub KeptLabels : Type 0
KeptLabels = Kept × Vec LabelCapacity Global

-- and as the model's values
abbrev pub labels_view : KeptLabels → Access × List LabelCapacity
labels_view p = (access_of p.0, p.1.items)

-- a leaf's settings and a queue's labels, as the model's values
abbrev pub settings_view : LeafSettings × KeptLabels → LeafSettings × (Access × List LabelCapacity)
settings_view p = (p.0, labels_view p.1)

-- what a queue's table says, as it is kept
abbrev pub KeptQueue : Type 0
KeptQueue = Unit {0} × (Bor (List ℕ) × (Bounds × (LeafSettings × KeptLabels)))

-- a queue's parts, as the model's values
abbrev pub queue_view : KeptQueue → QueueParts
queue_view p = (p.0, (p.1.0.now, (p.1.1.0, settings_view p.1.1.1)))

-- labels and queues, as they are kept
abbrev pub KeptRows : Type 0
KeptRows = Vec LabelRow Global × Vec WrittenRow Global

-- and as the model's values
abbrev pub rows_view : KeptRows → List LabelRow × List WrittenRow
rows_view p = (p.0.items, p.1.items)

-- what a text says, as it is kept
abbrev pub KeptParts : Type 0
KeptParts = Unit {0} × (Version × (Numbers × KeptRows))

-- the parts of a text, as the model's values
abbrev pub parts_view : KeptParts → Parts
parts_view p = (p.0, (p.1.0, (p.1.1.0, rows_view p.1.1.1)))
