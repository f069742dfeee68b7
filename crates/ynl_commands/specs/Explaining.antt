-- What is told of an application that waits: the explanation after a script, or the fault of the script.
use Rattle.std.specs.Prelude.{◌≡◌, ◌⊎◌, ℕ, List, Option, Some, None, IfSome, Result, Ok, Err, IfOk}
use Rattle.std.specs.Io.KnownBytes.{Appends}
use Rattle.ynl_resource.specs.declared.names.Name.{Name}
use Rattle.ynl_check.specs.declared.checking.Form.{Form}
use Rattle.ynl_check.specs.declared.checking.Form.TheVariants.{Lines, Plain}
use Rattle.ynl_model.specs.declared.events.Event.{Event}
use Rattle.ynl_model.specs.Queues.{Config}
use Rattle.ynl_model.specs.Cluster.{State}
use Rattle.ynl_model.specs.Events.{after}
use Rattle.ynl_waits.specs.Waits.{explained_of}
use Rattle.ynl_waits.specs.declared.waits.Explained.{Explained}
use Rattle.ynl_explain.specs.Sentences.{plain_text}
use Rattle.ynl_explain.specs.Told.{told_text}
use Rattle.ynl_lines.specs.declared.faults.LineFault.{LineFault}
use Rattle.ynl_lines.specs.declared.faults.InputFault.TheVariants.{Script as InScript}
use Rattle.ynl_words.specs.declared.words.Question.{Question}
use Rattle.ynl_commands.specs.declared.run.ToolFault.{ToolFault}
use Rattle.ynl_commands.specs.declared.run.ToolFault.TheVariants.{Read, Write, NoMemory, Unclosed}
use Rattle.ynl_commands.specs.declared.run.Summary.{Summary}
use Rattle.ynl_commands.specs.Input.{Stream}
use Rattle.ynl_commands.specs.Readings.{ReadsTo}
use Rattle.ynl_commands.specs.Run.{Outcome, faulty}
use Rattle.ynl_commands.specs.Running.{LeavesFront}
use Rattle.ynl_commands.specs.Script.{Script, script_way, script_of}
use Rattle.ynl_commands.specs.Telling.{TellsNothing}

-- ---- what is written

-- the text of what is explained, in the form that is asked for
abbrev pub answer_in : Form → Name → Name → Explained → List ℕ
answer_in Lines t a explained = told_text t a explained
answer_in Plain t a explained = plain_text t a explained

abbrev pub answer : Question → Explained → List ℕ
answer q explained = answer_in q.form q.tenant q.app explained

-- the text of why an application waits after events, from a state
abbrev pub waits_text : Config → State → Question → List Event → List ℕ
waits_text c s q events = answer q (explained_of c (after c s events) q.tenant q.app)

-- what is told of so many lines: why the application waits after their events; of a fault that line alone
abbrev pub explanation_by : Config → State → Question → List Event → ℕ → Option LineFault → Outcome
explanation_by c s q events n None = record { text = waits_text c s q events; lines = n; fault = None }
explanation_by c s q events n (Some f) = faulty (InScript f) n

-- what is told of a script, from a state
abbrev pub explanation : Config → State → Question → Script → Outcome
explanation c s q script = explanation_by c s q script.made script.lines script.fault

-- ---- the whole

-- the explanation of this script was written, and nothing else, and is told
pub record IsExplained (writer : Stream) (c : Config) (s : State) (q : Question) (summary : Summary) (script : Script) : Type 0 where
  pub written : Appends writer.before writer.after (explanation c s q script).text
  pub lines : summary.lines ≡ (explanation c s q script).lines
  pub fault : summary.fault ≡ (explanation c s q script).fault

-- the whole input, where the reader tells its bytes
abbrev pub ExplainsWhole : Stream → Stream → Config → State → Question → Result Summary ToolFault → Type 0
ExplainsWhole reader writer c s q r = IfOk r (λ summary. IfSome reader.before (λ input. IsExplained writer c s q summary (script_of input)))

-- the script was read, and its explanation was told and nothing else
pub record ExplainsAll (reader writer : Stream) (c : Config) (s : State) (q : Question) (summary : Summary) : Type 0 where
  pub script : Script
  pub read : ReadsTo script_way reader script
  pub explained : IsExplained writer c s q summary script

-- the script was read, and then an error left a front of what is told, and not all of it
pub record ExplainsSome (reader writer : Stream) (c : Config) (s : State) (q : Question) (e : ToolFault) : Type 0 where
  pub script : Script
  pub read : ReadsTo script_way reader script
  pub written : LeavesFront writer.before writer.after (explanation c s q script).text e

-- Only once the script has been read the explanation is written.
abbrev pub Explains : Stream → Stream → Config → State → Question → Result Summary ToolFault → Type 0
Explains reader writer c s q (Ok summary) = ExplainsAll reader writer c s q summary
Explains reader writer c s q (Err Read) = TellsNothing reader writer Read
Explains reader writer c s q (Err NoMemory) = TellsNothing reader writer NoMemory ⊎ ExplainsSome reader writer c s q NoMemory
Explains reader writer c s q (Err Write) = ExplainsSome reader writer c s q Write
Explains reader writer c s q (Err Unclosed) = ⊥
