-- What is written of a script: the state after its events, or its fault.
use Rattle.std.specs.Prelude.{◌≡◌, ◌⊎◌, ℕ, ◌<◌, List, [], length, Option, Some, None, IfSome, Result, Ok, Err, IfOk}
use Rattle.std.specs.Io.KnownBytes.{Appends}
use Rattle.ynl_model.specs.declared.events.Event.{Event}
use Rattle.ynl_model.specs.Queues.{Config}
use Rattle.ynl_model.specs.Cluster.{State}
use Rattle.ynl_model.specs.Events.{after}
use Rattle.ynl_lines.specs.declared.faults.LineFault.{LineFault}
use Rattle.ynl_lines.specs.declared.faults.InputFault.TheVariants.{Script as InScript}
use Rattle.ynl_saved_text.specs.declared.faults.StateFault.{StateFault}
use Rattle.ynl_saved_text.specs.declared.faults.StateFault.TheVariants.{Size}
use Rattle.ynl_saved_text.specs.Texts.{state_text, limit}
use Rattle.ynl_commands.specs.declared.run.ToolFault.{ToolFault}
use Rattle.ynl_commands.specs.declared.run.ToolFault.TheVariants.{Read, Write, NoMemory, Unclosed}
use Rattle.ynl_commands.specs.declared.run.Summary.{Summary}
use Rattle.ynl_commands.specs.Input.{Stream}
use Rattle.ynl_commands.specs.Readings.{ReadsTo}
use Rattle.ynl_commands.specs.Run.{Outcome, faulty}
use Rattle.ynl_commands.specs.Running.{LeavesFront}
use Rattle.ynl_commands.specs.Script.{Script, script_way, script_of}
use Rattle.ynl_commands.specs.Telling.{TellsNothing}

-- ---- what is written

-- the text of the state after events, from a state
abbrev pub text_after : Config → State → List Event → List ℕ
text_after c s events = state_text c (after c s events)

-- what is written of so many lines: the state after their events; of a fault that line alone
abbrev pub saved_by : Config → State → List Event → ℕ → Option LineFault → Outcome
saved_by c s events n None = record { text = text_after c s events; lines = n; fault = None }
saved_by c s events n (Some f) = faulty (InScript f) n

-- what is written of a script, from a state
abbrev pub saved : Config → State → Script → Outcome
saved c s script = saved_by c s script.made script.lines script.fault

-- the state's text would be too long, and nothing is written
pub record IsTooLong (old new : Option (List ℕ)) (c : Config) (s : State) (script : Script) (fault : StateFault) : Type 0 where
  pub size : fault ≡ Size
  pub whole : script.fault ≡ None
  pub long : limit < length (text_after c s script.made)
  pub unwritten : Appends old new []

-- what there is of this script was written, and nothing else, and is told
abbrev pub Saves : Option (List ℕ) → Option (List ℕ) → Config → State → Script → Result (Result Summary StateFault) ToolFault → Type 0
Saves old new c s script (Ok (Ok summary)) = (summary.lines ≡ (saved c s script).lines) × (summary.fault ≡ (saved c s script).fault) × Appends old new (saved c s script).text
Saves old new c s script (Ok (Err fault)) = IsTooLong old new c s script fault
Saves old new c s script (Err e) = LeavesFront old new (saved c s script).text e

-- a state was written; or its text would be too long, and nothing is written
abbrev pub SavesState : Option (List ℕ) → Option (List ℕ) → Config → State → Result (Result (Unit {0}) StateFault) ToolFault → Type 0
SavesState old new c s (Ok (Ok done)) = Appends old new (state_text c s)
SavesState old new c s (Ok (Err fault)) = (fault ≡ Size) × (limit < length (state_text c s)) × Appends old new []
SavesState old new c s (Err e) = LeavesFront old new (state_text c s) e

-- ---- the whole

-- the whole input, where the reader tells its bytes
abbrev pub SavesWhole : Stream → Stream → Config → State → Result (Result Summary StateFault) ToolFault → Type 0
SavesWhole reader writer c s r = IfOk r (λ ended. IfSome reader.before (λ input. Saves writer.before writer.after c s (script_of input) (Ok ended)))

-- the script was read, and this came of it
pub record SavesRead (reader writer : Stream) (c : Config) (s : State) (r : Result (Result Summary StateFault) ToolFault) : Type 0 where
  pub script : Script
  pub read : ReadsTo script_way reader script
  pub saves : Saves writer.before writer.after c s script r

-- Only once the script has been read the state is written.
abbrev pub SavesScript : Stream → Stream → Config → State → Result (Result Summary StateFault) ToolFault → Type 0
SavesScript reader writer c s (Ok ended) = SavesRead reader writer c s (Ok ended)
SavesScript reader writer c s (Err Read) = TellsNothing reader writer Read
SavesScript reader writer c s (Err NoMemory) = TellsNothing reader writer NoMemory ⊎ SavesRead reader writer c s (Err NoMemory)
SavesScript reader writer c s (Err Write) = SavesRead reader writer c s (Err Write)
SavesScript reader writer c s (Err Unclosed) = ⊥
