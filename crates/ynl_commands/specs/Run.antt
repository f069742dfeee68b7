-- What is written for an input.
use Rattle.std.specs.Prelude.{ℕ, List, [], ◌∷◌, ◌++◌, map, Option, Some, option_map}
use Rattle.std.specs.Option.{option_map_or}
use Rattle.std.specs.List.{concat}
use Rattle.ynl_model.specs.declared.events.Event.{Event}
use Rattle.ynl_model.specs.declared.replies.Reply.{Reply}
use Rattle.ynl_model.specs.Queues.{Config}
use Rattle.ynl_model.specs.Cluster.{State}
use Rattle.ynl_model.specs.Events.{replies}
use Rattle.ynl_lines.specs.declared.faults.LineFault.{LineFault}
use Rattle.ynl_lines.specs.declared.faults.InputFault.{InputFault}
use Rattle.ynl_lines.specs.declared.faults.InputFault.TheVariants.{Script as InScript}
use Rattle.ynl_lines.specs.Writing.{reply_text, fault_text}
use Rattle.ynl_commands.specs.Script.{Script, script_of}

-- a text and the newline that ends its line
abbrev pub line_of : List ℕ → List ℕ
line_of text = text ++ 10 ∷ []

-- the lines of replies
abbrev pub reply_lines : List Reply → List (List ℕ)
reply_lines replies = map (λ r. line_of (reply_text r)) replies

-- the text of the replies to these events, from a state
abbrev pub replies_text : Config → State → List Event → List ℕ
replies_text c s events = concat (reply_lines (replies c s events))

-- the line that tells a fault of the n-th line, if there is one
abbrev pub fault_lines_of : ℕ → Option LineFault → List (List ℕ)
fault_lines_of n f = option_map_or (λ f. line_of (fault_text (InScript f) n) ∷ []) f []

-- the line that tells the fault of a script, if there is one
abbrev pub fault_lines : Script → List (List ℕ)
fault_lines s = fault_lines_of s.lines s.fault

-- what a job does: the text that it writes, how many lines it reads, and the fault that ends it, if one does
pub record Outcome : Type 0 where
  pub text : List ℕ
  pub lines : ℕ
  pub fault : Option InputFault

-- the line of a fault is the last that is written
abbrev pub faulty : InputFault → ℕ → Outcome
faulty f n = record { text = line_of (fault_text f n); lines = n; fault = Some f }

-- the answers to a script, from a state: the replies to its events, each on its line, and then its fault
abbrev pub answers_to : Config → State → Script → Outcome
answers_to c s script = record { text = concat (reply_lines (replies c s script.made) ++ fault_lines script); lines = script.lines; fault = option_map InScript script.fault }

-- the run of an input, from a state: the answers to the script that the input is
abbrev pub run_of : Config → State → List ℕ → Outcome
run_of c s bytes = answers_to c s (script_of bytes)
