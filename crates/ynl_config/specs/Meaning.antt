-- The configuration that a text means, or its first fault.
use Rattle.std.specs.Prelude.{◌≡◌, IsTrue, ℕ, List, length, nat_lt, Option, None, Result, Ok, Err, if◌then◌else◌}
use Rattle.std.specs.Str.{is_utf8}
use Rattle.toml.specs.Data.{Members}
use Rattle.toml.specs.Parse.{parse_document}
use Rattle.ynl_model.specs.declared.faults.LabelFault.{LabelFault}
use Rattle.ynl_model.specs.declared.faults.LabelFault.TheVariants as labels
use Rattle.ynl_model.specs.declared.faults.TreeFault.{TreeFault}
use Rattle.ynl_model.specs.declared.faults.TreeFault.TheVariants as tree
use Rattle.ynl_model.specs.Queues.{Config}
use Rattle.ynl_model.specs.Accepted.{is_accepted}
use Rattle.ynl_queues.specs.labels.Built.{labels_of}
use Rattle.ynl_queues.specs.Written.{built_of}
use Rattle.ynl_config.specs.Earliest.{ConfigFault, ◌>>=◌}
use Rattle.ynl_config.specs.declared.faults.ConfigFault.TheVariants as fault
use Rattle.ynl_config.specs.Readings.{or_fault}
use Rattle.ynl_config.specs.Tables.{WrittenConfig, written_in}

-- the table that bytes are, if they are UTF-8 and the TOML text of one
abbrev pub reading : List ℕ → Option Members
reading bytes = if is_utf8 bytes then parse_document bytes else None

-- a fault of labels, as one of a text
abbrev pub label_fault : LabelFault → ConfigFault
label_fault labels.TooManyLabels = fault.TooManyLabels
label_fault labels.DuplicateLabel = fault.DuplicateLabel
label_fault labels.BadLimit = fault.Range

-- a fault of the tree of queues, as one of a text
abbrev pub tree_fault : TreeFault → ConfigFault
tree_fault tree.TooDeep = fault.TooDeep
tree_fault tree.TooMany = fault.TooMany
tree_fault tree.BadPath = fault.BadPath
tree_fault tree.DuplicateQueue = fault.DuplicateQueue
tree_fault tree.NoParent = fault.NoParent
tree_fault tree.NoSuchLabel = fault.NoSuchLabel
tree_fault tree.NotSubset = fault.NotSubset
tree_fault tree.MaximumBelowCapacity = fault.MaximumBelowCapacity
tree_fault tree.SumNot100 = fault.SumNot100

-- a fault as one of a text
abbrev pub told_as : {A E : Type 0} → (E → ConfigFault) → Result A E → Result A ConfigFault
told_as fault_of (Ok x) = Ok x
told_as fault_of (Err e) = Err (fault_of e)

-- the configuration that is written, or the first fault of its labels and then of its queues
unfoldable pub built : WrittenConfig → Result Config ConfigFault
built written = do
  labels ← told_as label_fault (labels_of written.labels written.numbers.default_limit)
  told_as tree_fault (built_of labels written.queues written.numbers.containers_per_heartbeat written.numbers.maximum_allocation)

-- a text has at most so many bytes
abbrev pub most_bytes : ℕ
most_bytes = 1048576

-- the configuration that a text means, or its first fault
unfoldable pub config_of : List ℕ → Result Config ConfigFault
config_of bytes =
    if nat_lt most_bytes (length bytes) then Err fault.Size
    else or_fault fault.Syntax (reading bytes) >>= λ ms. written_in ms >>= built

-- what a text means is accepted: its numbers are in range, and it has no fault
abbrev pub MeansAccepted : Type 0
MeansAccepted = (text : List ℕ) (c : Config) → config_of text ≡ Ok c → IsTrue (is_accepted c)
