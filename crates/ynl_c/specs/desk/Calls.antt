-- What each call on a desk comes to.
use Rattle.std.specs.Prelude.{◌≡◌, ◌+◌, ◌-◌, ◌^◌, ◌<◌, ◌≤◌, ℕ, min, List, [], ◌++◌, length, drop, Option, Some, None, IsSome, Result, Ok, Err, IsUtf8}
use Rattle.ynl_resource.specs.declared.names.BadName.{BadName}
use Rattle.ynl_resource.specs.declared.labels.Label.{Label}
use Rattle.ynl_resource.specs.Texts.{read_label, bad_name}
use Rattle.ynl_model.specs.declared.events.Event.{Event}
use Rattle.ynl_model.specs.declared.replies.Reply.TheVariants.{Placed}
use Rattle.ynl_model.specs.Cluster.{containers_on}
use Rattle.ynl_model.specs.Events.{step}
use Rattle.ynl_model.specs.Queues.{Config as Configured}
use Rattle.ynl_config.specs.declared.faults.ConfigFault.{ConfigFault}
use Rattle.ynl_config.specs.Meaning.{config_of}
use Rattle.ynl_core.specs.World.{World, stepped}
use Rattle.ynl_lines.specs.declared.faults.LineFault.{LineFault}
use Rattle.ynl_lines.specs.declared.faults.InputFault.TheVariants.{Script}
use Rattle.ynl_lines.specs.Reading.{event_of_line}
use Rattle.ynl_lines.specs.Writing.{reply_text, fault_text}
use Rattle.ynl_c.specs.declared.desk.faults.DeskFault.{DeskFault}
use Rattle.ynl_c.specs.declared.desk.faults.DeskFault.TheVariants.{Closed, NoMemory, Config, Line, Label as NoLabel, NoRoom}
use Rattle.ynl_c.specs.desk.Standing.{Standing, opening_of, config_text}

-- how a call ends: it is done, or not for this reason
abbrev pub Ended : Type 0
Ended = Result (Unit {0}) DeskFault

-- the cluster is as it was, and the number of its lines too
abbrev pub Keeps : Standing → Standing → Type 0
Keeps old new = (new.cluster ≡ old.cluster) × (new.lines ≡ old.lines)

-- ---- opening

-- by what a text means: there is a cluster of that configuration, in its opening state
abbrev pub IsOpenedBy : Result Configured ConfigFault → Standing → Type 0
IsOpenedBy (Ok config) new = new ≡ opening_of config
IsOpenedBy (Err fault) new = ⊥

-- there is a cluster of the configuration that a text means
unfoldable pub IsOpened : List ℕ → Standing → Type 0
IsOpened text new = IsOpenedBy (config_of text) new

-- a text has this fault as a configuration, and it is told
unfoldable pub TellsConfigFault : List ℕ → ConfigFault → List ℕ → Type 0
TellsConfigFault text fault told = (config_of text ≡ Err fault) × (told ≡ config_text fault)

-- opening a cluster by the text of a configuration
abbrev pub Opens : Standing → Standing → List ℕ → Ended → Type 0
Opens old new text (Ok _) = IsOpened text new
Opens old new text (Err (Config fault)) = TellsConfigFault text fault new.text × Keeps old new
Opens old new text (Err NoMemory) = new ≡ old
Opens old new text (Err _) = ⊥

-- ---- lines

-- a cluster takes an event: it is one step further, and the text is that of the step's reply
abbrev pub Takes : World → World → List ℕ → Event → Type 0
Takes old new text event = (new ≡ stepped old event) × (text ≡ reply_text (step old.config old.state event).reply)

-- by what a line reads as: a cluster takes the event
abbrev pub TakesRead : World → World → List ℕ → Result Event LineFault → Type 0
TakesRead old new text (Ok event) = Takes old new text event
TakesRead old new text (Err fault) = ⊥

-- a cluster takes the event that a line reads as; or the line has this fault, and nothing happens
abbrev pub Reads : World → World → List ℕ → Result Event LineFault → Option LineFault → Type 0
Reads old new text read None = TakesRead old new text read
Reads old new text read (Some fault) = (read ≡ Err fault) × (new ≡ old)

-- there is a cluster, and it takes the event that a line is
unfoldable pub TakesLine : Option World → Option World → List ℕ → List ℕ → Type 0
TakesLine (Some old) (Some new) text line = TakesRead old new text (event_of_line line)
TakesLine (Some old) None text line = ⊥
TakesLine None new text line = ⊥

-- a line of this number has this fault, and it is told
unfoldable pub TellsLineFault : List ℕ → ℕ → LineFault → List ℕ → Type 0
TellsLineFault line number fault told = (event_of_line line ≡ Err fault) × (told ≡ fault_text (Script fault) number)

-- one line more, as far as 64 bits count
unfoldable pub next_line : ℕ → ℕ
next_line lines = min (lines + 1) (2 ^ 64 - 1)

-- telling a cluster a line
abbrev pub Tells : Standing → Standing → List ℕ → Ended → Type 0
Tells old new line (Ok _) = TakesLine old.cluster new.cluster new.text line × (new.lines ≡ next_line old.lines)
Tells old new line (Err (Line fault)) =
    IsSome old.cluster × TellsLineFault line new.lines fault new.text × (new.cluster ≡ old.cluster) × (new.lines ≡ next_line old.lines)
Tells old new line (Err NoMemory) = IsSome old.cluster × Keeps old new × (new.text ≡ [])
Tells old new line (Err Closed) = (old.cluster ≡ None) × (new ≡ old)
Tells old new line (Err _) = ⊥

-- ---- containers

-- the text lists the containers of the partition of a label
abbrev pub ListsLabel : World → Result Label BadName → List ℕ → Type 0
ListsLabel cluster (Ok label) text = text ≡ reply_text (Placed (containers_on cluster.state label))
ListsLabel cluster (Err e) text = ⊥

-- there is a cluster, and the text lists the containers of the partition whose label these bytes are
unfoldable pub Listed : Option World → List ℕ → List ℕ → Type 0
Listed (Some cluster) label text = ListsLabel cluster (read_label label) text
Listed None label text = ⊥

-- the bytes are no label
unfoldable pub IsNoLabel : List ℕ → Type 0
IsNoLabel bytes = IsUtf8 bytes → read_label bytes ≡ Err bad_name

-- listing the containers of a partition, by the text of its label
abbrev pub Lists : Standing → Standing → List ℕ → Ended → Type 0
Lists old new label (Ok _) = Keeps old new × Listed old.cluster label new.text
Lists old new label (Err NoLabel) = IsSome old.cluster × IsNoLabel label × (new ≡ old)
Lists old new label (Err NoMemory) = IsSome old.cluster × (new ≡ old)
Lists old new label (Err Closed) = (old.cluster ≡ None) × (new ≡ old)
Lists old new label (Err _) = ⊥

-- ---- texts

-- copying the text into a block: the text stands at its front, and the rest of the block is as it was; or the block is too small, and
-- all is as it was
abbrev pub Copies : Standing → Standing → List ℕ → List ℕ → ℕ → Ended → Type 0
Copies old new before after size (Ok _) = (new ≡ old) × (size ≡ length old.text) × (size ≤ length before) × (after ≡ old.text ++ drop size before)
Copies old new before after size (Err NoRoom) = (new ≡ old) × (size ≡ length old.text) × (length before < size) × (after ≡ before)
Copies old new before after size (Err NoMemory) = (new ≡ old) × (after ≡ before)
Copies old new before after size (Err _) = ⊥
