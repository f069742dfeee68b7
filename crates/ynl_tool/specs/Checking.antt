-- What a check of a text does to its writer and the error stream.
use Rattle.std.specs.Prelude.{◌≡◌, ℕ, List, [], Option, Result, Ok, Err}
use Rattle.std.specs.Io.KnownBytes.{Appends}
use Rattle.ynl_config.specs.Meaning.{config_of}
use Rattle.ynl_check.specs.Checked.{IsSaid, verdict_on}
use Rattle.ynl_check.specs.declared.checking.Form.{Form}
use Rattle.ynl_check.specs.declared.checking.Verdict.{Verdict}
use Rattle.ynl_check.specs.declared.checking.Verdict.TheVariants.{Accepted, Faulty}
use Rattle.ynl_commands.specs.declared.run.ToolFault.{ToolFault}
use Rattle.ynl_commands.specs.declared.run.ToolFault.TheVariants.{Read, Write, NoMemory, Unclosed}
use Rattle.ynl_commands.specs.Input.{Stream}
use Rattle.ynl_tool.specs.Jobs.{error_line}
use Rattle.ynl_commands.specs.Lines.{AppendsFront, AppendsPart}

-- what is said of the text was written, whole, and the verdict is that on it
pub record ChecksAll (writer : Stream) (form : Form) (text : List ℕ) (verdict : Verdict) : Type 0 where
  pub said : List ℕ
  pub is : IsSaid form text said
  pub written : Appends writer.before writer.after said
  pub holds : verdict ≡ verdict_on (config_of text)

-- a fault of the writer left a front of what is said of the text, and not all of it
pub record ChecksPart (writer : Stream) (form : Form) (text : List ℕ) : Type 0 where
  pub said : List ℕ
  pub is : IsSaid form text said
  pub written : AppendsPart writer.before writer.after said

-- what was written, whether the check came to its end or met an error
abbrev pub ChecksText : Stream → Form → List ℕ → Result Verdict ToolFault → Type 0
ChecksText writer form text (Ok verdict) = ChecksAll writer form text verdict
ChecksText writer form text (Err NoMemory) = Appends writer.before writer.after []
ChecksText writer form text (Err Write) = ChecksPart writer form text
ChecksText writer form text (Err Read) = ⊥
ChecksText writer form text (Err Unclosed) = ⊥

-- the exit status of a verdict
abbrev pub verdict_status : Verdict → ℕ
verdict_status Accepted = 0
verdict_status Faulty = 1

-- the exit status
abbrev pub check_status : Result Verdict ToolFault → ℕ
check_status (Ok verdict) = verdict_status verdict
check_status (Err e) = 3

-- what is said on the error stream: nothing, or after an error its line, or what the stream took of it
abbrev pub TellsCheck : Option (List ℕ) → Option (List ℕ) → Result Verdict ToolFault → Type 0
TellsCheck old new (Ok verdict) = Appends old new []
TellsCheck old new (Err e) = AppendsFront old new (error_line e)

-- the check was done, and the exit status and the error stream tell how it ended
pub record ExecutesCheck (writer errors : Stream) (form : Form) (text : List ℕ) (status : ℕ) : Type 0 where
  pub ended : Result Verdict ToolFault
  pub does : ChecksText writer form text ended
  pub told : TellsCheck errors.before errors.after ended
  pub tells : status ≡ check_status ended
