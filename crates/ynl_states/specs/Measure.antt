-- What the text of a state takes.
use Rattle.std.specs.Prelude.{◌≡◌, ◌<◌, ◌≤◌, ◌+◌, ⊤, ℕ, max, List, length, Result, Ok, Err}
use Rattle.std.specs.List.{AllByRecursion}
use Rattle.ynl_model.specs.Queues.{Config}
use Rattle.ynl_model.specs.Cluster.{State}
use Rattle.ynl_saved.specs.declared.lines.StateLine.{StateLine}
use Rattle.ynl_saved.specs.Saving.{lines_before_end, state_lines}
use Rattle.ynl_saved_text.specs.Texts.{line_text, limit, state_text}
use Rattle.ynl_states.specs.declared.text.TextFault.{TextFault}
use Rattle.ynl_states.specs.declared.text.TextFault.TheVariants.{Size, NoMemory}
use Rattle.ynl_states.specs.declared.measure.Measure.TheInside.{Inside}
use Rattle.ynl_states.specs.declared.measure.StateSize.{StateSize}

-- how long some lines are together, how many they are, and how long the longest of them is
pub record Measured : Type 0 where
  pub length : ℕ
  pub lines : ℕ
  pub longest : ℕ

abbrev pub measured_of : Inside → Measured
measured_of a = record { length = a.length; lines = a.lines; longest = a.longest }

-- a line more; or the text would be too long with it, or there is no memory for it
abbrev pub Measures : Measured → StateLine → Measured → Result (Unit {0}) TextFault → Type 0
Measures old line new (Ok done) = (new.length ≡ old.length + length (line_text line)) × (new.lines ≡ old.lines + 1) × (new.length ≤ limit) × (new.longest ≡ max old.longest (length (line_text line)))
Measures old line new (Err Size) = limit < old.length + length (line_text line)
Measures old line new (Err NoMemory) = ⊤

-- no line is longer
abbrev pub AreWithin : List StateLine → ℕ → Type 0
AreWithin lines longest = AllByRecursion (λ line. length (line_text line) ≤ longest) lines

-- all lines of a state are measured; or the text would be too long with them, or there is no memory for one
abbrev pub MeasuresState : Measured → Config → State → Measured → Result ℕ TextFault → Type 0
MeasuresState old c s new (Ok lines) =
    (lines ≡ length (lines_before_end c s)) × (new.length ≡ old.length + length (state_text c s)) × (new.length ≤ limit) × AreWithin (state_lines c s) new.longest × (new.longest ≤ max old.longest new.length)
MeasuresState old c s new (Err Size) = limit < old.length + length (state_text c s)
MeasuresState old c s new (Err NoMemory) = ⊤

-- so many lines stand before the last of a state, no line is longer than this, and neither is the text too long
pub record IsMeasured (c : Config) (s : State) (size : StateSize) : Type 0 where
  pub lines : size.lines ≡ length (lines_before_end c s)
  pub longest : AreWithin (state_lines c s) size.longest
  pub bound : size.longest ≤ limit
  pub within : length (state_text c s) ≤ limit
