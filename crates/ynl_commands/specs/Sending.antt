-- What is written of a state, line by line.
use Rattle.std.specs.Prelude.{ℕ, ◌+◌, ◌<◌, ◌≤◌, List, ◌++◌, length, vec_capacity, vec_len, Option, Result, Ok, Err}
use Rattle.std.specs.declared.vec.Vec.{Vec}
use Rattle.std.specs.Io.KnownBytes.{Appends}
use Rattle.ynl_saved.specs.declared.lines.StateLine.{StateLine}
use Rattle.ynl_saved_text.specs.Texts.{line_text}
use Rattle.ynl_commands.specs.declared.run.ToolFault.{ToolFault}
use Rattle.ynl_commands.specs.declared.run.ToolFault.TheVariants.{Read, Write, NoMemory, Unclosed}
use Rattle.ynl_commands.specs.Lines.{AppendsPart, HoldsBack}
use Rattle.ynl_commands.specs.Running.{LeavesFront, held_limit}

-- A line was added to what is held back, and that is short again; or a write failed in it. Memory is refused only where there was no room for the line.
abbrev pub SendsLine : {Z : Type 0} → Option (List ℕ) → Option (List ℕ) → Vec ℕ Z → Vec ℕ Z → StateLine → Result (Unit {0}) ToolFault → Type 0
SendsLine before after old new line (Ok done) = HoldsBack before after new.items (old.items ++ line_text line) × (vec_len new < held_limit) × (vec_capacity old ≤ vec_capacity new)
SendsLine before after old new line (Err Write) = AppendsPart before after (old.items ++ line_text line)
SendsLine before after old new line (Err NoMemory) = vec_capacity old < vec_len old + length (line_text line)
SendsLine before after old new line (Err Read) = ⊥
SendsLine before after old new line (Err Unclosed) = ⊥

-- a text was written; or an error left a front of it
abbrev pub WritesState : Option (List ℕ) → Option (List ℕ) → List ℕ → Result (Unit {0}) ToolFault → Type 0
WritesState before after text (Ok done) = Appends before after text
WritesState before after text (Err e) = LeavesFront before after text e
