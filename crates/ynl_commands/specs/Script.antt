-- The script that an input is: its events.
use Rattle.std.specs.Prelude.{◌≡◌, ℕ, List, [], ◌∷◌, ◌++◌, Option, Some, None, IfSome, Result, Ok, Err, IfOk, if◌then◌else◌}
use Rattle.ynl_model.specs.declared.events.Event.{Event}
use Rattle.ynl_lines.specs.declared.faults.LineFault.{LineFault}
use Rattle.ynl_lines.specs.declared.faults.LineFault.TheVariants as fault
use Rattle.ynl_lines.specs.Reading.{event_of_line}
use Rattle.ynl_commands.specs.declared.lines_in.ReadFault.{ReadFault}
use Rattle.ynl_commands.specs.declared.script_in.Script.{Script as Kept}
use Rattle.ynl_fields.specs.Reading.{is_blank}
use Rattle.ynl_commands.specs.Input.{Stream}
use Rattle.ynl_commands.specs.Lines.{tool_fault}
use Rattle.ynl_commands.specs.Readings.{Way, Reading, reading_of, come_to, ReadsTo, ReadsSome}

-- ---- what an input is

-- what one line adds to a script: an event, or nothing, or the fault that ends it
pub record Part : Type 0 where
  pub events : List Event
  pub fault : Option LineFault

-- what an event adds, or a fault
abbrev pub part_of : Result Event LineFault → Part
part_of (Ok event) = record { events = event ∷ []; fault = None }
part_of (Err f) = record { events = []; fault = Some f }

-- nothing
abbrev pub no_part : Part
no_part = record { events = []; fault = None }

-- what a line adds: a blank one nothing
abbrev pub part : List ℕ → Part
part line = if is_blank line then no_part else part_of (event_of_line line)

-- a script: its events, how many lines were read for them, and the fault that ends it, if one does
abbrev pub Script : Type 0
Script = Reading (List Event) LineFault

-- events and more, unless there is a fault
abbrev pub joined : List Event → List Event → Option LineFault → Result (List Event) LineFault
joined events more None = Ok (events ++ more)
joined events more (Some f) = Err f

-- the events with those that a line adds, or its fault
abbrev pub add_events : List Event → List ℕ → Result (List Event) LineFault
add_events events line = joined events (part line).events (part line).fault

-- how a script is read
abbrev pub script_way : Way (List Event) LineFault
script_way = record { start = []; add = add_events; size = fault.Size }

-- the script of an input
abbrev pub script_of : List ℕ → Script
script_of bytes = reading_of script_way bytes

-- ---- reading it

-- the script that was read
abbrev pub script_read : Kept → Script
script_read s = come_to s.events s.lines s.fault

-- a line was added to the events, or has a fault
abbrev pub Adds : {E : Type 0} → List Event → List Event → List ℕ → Result (Option LineFault) E → Type 0
Adds before after line (Ok None) = ((part line).fault ≡ None) × (after ≡ before ++ (part line).events)
Adds before after line (Ok (Some f)) = ((part line).fault ≡ Some f) × (after ≡ before)
Adds before after line (Err e) = Unit {0}

-- what was read, whether a script came of it or an error
abbrev pub ReadsScript : Stream → Result Kept ReadFault → Type 0
ReadsScript reader (Ok s) = ReadsTo script_way reader (script_read s)
ReadsScript reader (Err e) = ReadsSome script_way reader (tool_fault e)

-- the script of the whole input, where the reader tells its bytes
abbrev pub ReadsWhole : Stream → Result Kept ReadFault → Type 0
ReadsWhole reader r = IfOk r (λ s. IfSome reader.before (λ input. script_read s ≡ script_of input))
