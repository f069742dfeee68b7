-- What needs no escape in a text of JSON.
use Rattle.std.proofs.Common.{◌≡◌, refl}
use Rattle.json.specs.Print.{escape, escape_byte}
use Rattle.ynl_resource.specs.declared.refusals.Refusal.{Refusal}
use Rattle.ynl_resource.specs.Refusals.{word}
use Rattle.ynl_resource.specs.declared.refusals.Refusal.TheVariants.{NoSuchLabel}
use Rattle.ynl_lines.specs.declared.faults.LineFault.TheVariants as line
use Rattle.ynl_lines.specs.declared.faults.JournalFault.TheVariants as journal
use Rattle.ynl_lines.specs.declared.faults.InputFault.{InputFault}
use Rattle.ynl_lines.specs.declared.faults.InputFault.TheVariants.{Script, Journal}
use Rattle.ynl_lines.specs.Writing.{input_fault_word}

-- the word of a refusal needs no escape
pub escape_refusal : (r : Refusal) → escape (word r) ≡ word r
unfolding escape_byte
escape_refusal NoSuchLabel = refl
escape_refusal _ = refl

-- nor does that of a fault
pub escape_fault : (f : InputFault) → escape (input_fault_word f) ≡ input_fault_word f
unfolding escape_byte
escape_fault (Script line.Size) = refl
escape_fault (Script line.Syntax) = refl
escape_fault (Script line.Event) = refl
escape_fault (Script line.Field) = refl
escape_fault (Script line.Name) = refl
escape_fault (Script line.Range) = refl
escape_fault (Journal journal.Size) = refl
escape_fault (Journal journal.Line) = refl
escape_fault (Journal journal.Differs) = refl
