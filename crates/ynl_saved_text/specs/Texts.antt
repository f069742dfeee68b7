-- The text of a state, and the state that a text tells, or its first fault.
use Rattle.std.specs.Prelude.{◌≡◌, ℕ, ◌+◌, ◌==◌, nat_lt, List, [], ◌∷◌, ◌++◌, flat_map, length, Option, Some, None, true, false, Result, Ok, Err, if◌then◌else◌}
use Rattle.std.specs.List.{slice_split}
use Rattle.std.specs.Option.{option_map_or}
use Rattle.ynl_model.specs.Queues.{Config}
use Rattle.ynl_model.specs.Cluster.{State}
use Rattle.ynl_fields.specs.Reading.{◌>>=◌, is_blank}
use Rattle.ynl_saved.specs.declared.lines.StateLine.{StateLine}
use Rattle.ynl_saved.specs.Restoring.{Restored, nothing_restored, restored_with, is_sound_line}
use Rattle.ynl_saved.specs.Saving.{state_lines}
use Rattle.ynl_saved_text.specs.declared.faults.StateFault.{StateFault}
use Rattle.ynl_saved_text.specs.declared.faults.StateFault.TheVariants as fault
use Rattle.ynl_saved_text.specs.declared.faults.BadState.{BadState}
use Rattle.ynl_saved_text.specs.declared.kinds.StateKind.{StateKind}
use Rattle.ynl_saved_text.specs.StateLines.{is_end, kind_of_line, line_behind, may_follow, state_line}

-- how long a text may be, in bytes
abbrev pub limit : ℕ
limit = 268435456

-- ---- the text of a state

-- the text of a line, with its newline
abbrev pub line_text : StateLine → List ℕ
line_text line = state_line line ++ 10 ∷ []

-- the texts of lines
abbrev pub lines_text : List StateLine → List ℕ
lines_text lines = flat_map line_text lines

-- the text of a state
abbrev pub state_text : Config → State → List ℕ
state_text c s = lines_text (state_lines c s)

-- the text of a line reads as the line, behind each line that it may follow
abbrev pub Reads : StateLine → Type 0
Reads line = (before : Option StateKind) → may_follow before (kind_of_line line) ≡ true → line_behind before (state_line line) ≡ Ok line

-- ---- the state that a text tells

-- what was read so far: what the lines told, the kind of the last that is not blank, and how many lines there were, blank ones among them
pub record Progress : Type 0 where
  pub restored : Restored
  pub before : Option StateKind
  pub count : ℕ

-- before the first line
abbrev pub no_progress : Config → Progress
no_progress c = record { restored = nothing_restored c; before = None; count = 0 }

-- a fault of the line behind those that were read
abbrev pub bad_line : Progress → StateFault → BadState
bad_line r fault = record { fault = fault; line = r.count + 1 }

-- a line that goes with those before it, or else the fault `unsound`
abbrev pub sound_line : Config → Progress → StateLine → Result Progress BadState
sound_line c r line =
    if is_sound_line c r.restored line then Ok (record { restored = restored_with line r.restored; before = Some (kind_of_line line); count = r.count + 1 })
    else Err (bad_line r fault.Unsound)

-- a line that was read, or its fault
abbrev pub line_or_fault : Config → Progress → Result StateLine StateFault → Result Progress BadState
line_or_fault c r (Ok line) = sound_line c r line
line_or_fault c r (Err fault) = Err (bad_line r fault)

-- one line more, without its newline; a blank one is passed over
unfoldable pub line_read : Config → Progress → List ℕ → Result Progress BadState
line_read c r text = if is_blank text then Ok (record r { count = r.count + 1 }) else line_or_fault c r (line_behind r.before text)

-- lines, one after another, to the first fault
abbrev pub lines_read : Config → Progress → List (List ℕ) → Result Progress BadState
lines_read c r [] = Ok r
lines_read c r (text ∷ texts) = line_read c r text >>= λ r. lines_read c r texts

-- what was told, where the last line is the end, or else the fault `cut`, which is of no line
abbrev pub whole_read : Progress → Result Restored BadState
whole_read r = if option_map_or is_end r.before false then Ok r.restored else Err (record { fault = fault.Cut; line = 0 })

-- what a text tells: its lines end with newlines, and the last may lack it. The fault `size` is of no line
abbrev pub state_read : Config → List ℕ → Result Restored BadState
state_read c text =
    if nat_lt limit (length text) then Err (record { fault = fault.Size; line = 0 })
    else lines_read c (no_progress c) (slice_split (λ b. b == 10) text) >>= whole_read
