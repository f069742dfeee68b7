-- Lines that are added to a text.
use Rattle.std.specs.Prelude.{◌≡◌, ◌<◌, ◌≤◌, ◌+◌, ⊤, ℕ, IsTrue, List, ◌++◌, length, Some, Result, Ok, Err}
use Rattle.ynl_model.specs.Accepted.{is_accepted}
use Rattle.ynl_model.specs.Queues.{Config}
use Rattle.ynl_model.specs.Cluster.{State}
use Rattle.ynl_saved.specs.declared.lines.StateLine.{StateLine}
use Rattle.ynl_saved.specs.Restoring.{Restored, nothing_restored, restored_by}
use Rattle.ynl_saved.specs.Saving.{state_lines}
use Rattle.ynl_saved.specs.Asks.{AllWithin}
use Rattle.ynl_saved_text.specs.StateLines.{IsClocked}
use Rattle.ynl_saved_text.specs.Texts.{Reads, line_text, limit, state_read, state_text}
use Rattle.ynl_states.specs.declared.text.TextFault.{TextFault}
use Rattle.ynl_states.specs.declared.text.TextFault.TheVariants.{Size, NoMemory}
use Rattle.ynl_states.specs.declared.text.StateText.TheInside.{Inside}

-- a text, and of how many lines it is
pub record Told : Type 0 where
  pub text : List ℕ
  pub lines : ℕ

abbrev pub told_of : Inside → Told
told_of a = record { text = a.text.items; lines = a.lines }

-- a line more: it is added, and reads as itself where its clocks and counts are in range; or the text would be too long with it, or there is no memory for it
abbrev pub Adds : Told → StateLine → Told → Result (Unit {0}) TextFault → Type 0
Adds old line new (Ok done) = (new.text ≡ old.text ++ line_text line) × (new.lines ≡ old.lines + 1) × (length new.text ≤ limit) × (IsClocked line → Reads line)
Adds old line new (Err Size) = limit < length (old.text ++ line_text line)
Adds old line new (Err NoMemory) = ⊤

-- under an accepted configuration, and where no ask of a state counts more than an ask may, a text reads as what the lines of the state tell
abbrev pub ReadsBack : Config → State → List ℕ → Type 0
ReadsBack c s text =
    IsTrue (is_accepted c) → AllWithin s.leaves → (r : Restored) → restored_by c (nothing_restored c) (state_lines c s) ≡ Some r → state_read c text ≡ Ok r

-- all lines of a state are added, and their text reads as what they tell; or the text would be too long with them, or there is no memory for them
abbrev pub AddsState : Told → Config → State → Told → Result (Unit {0}) TextFault → Type 0
AddsState old c s new (Ok done) = (new.text ≡ old.text ++ state_text c s) × (length new.text ≤ limit) × ReadsBack c s (state_text c s)
AddsState old c s new (Err Size) = limit < length (old.text ++ state_text c s)
AddsState old c s new (Err NoMemory) = ⊤
