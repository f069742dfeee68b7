-- Why a session has no closed journal.
use Rattle.std.specs.Prelude.{Result, Ok, Err}
use Rattle.ynl_live.specs.declared.calling.CallFault.{CallFault}
use Rattle.ynl_live.specs.declared.calling.CallFault.TheVariants as Call
use Rattle.ynl_live.specs.declared.closing.Cause.{Cause}
use Rattle.ynl_live.specs.declared.closing.Cause.TheVariants as Close
use Rattle.ynl_workers.specs.declared.working.End.{End}
use Rattle.ynl_workers.specs.declared.working.End.TheVariants as Work
use Rattle.ynl_workers.specs.declared.session.sessions.SessionFault.{SessionFault}
use Rattle.ynl_workers.specs.declared.session.sessions.SessionFault.TheVariants.{NoMemory, Unclosed}

-- of a call that was not answered: memory was refused, or the seat was told to be of another scheduler
abbrev pub fault_of_call : CallFault → SessionFault
fault_of_call Call.NoMemory = NoMemory
fault_of_call (Call.Behind entered) = Unclosed

-- of a journal that was not closed: memory was refused, or what was handed in does not fit
abbrev pub fault_of_cause : Cause → SessionFault
fault_of_cause Close.NoMemory = NoMemory
fault_of_cause _ = Unclosed

-- of a worker: nothing where it went over its nodes or was halted; else a call of it was not answered
abbrev pub ended : End → Result (Unit {0}) SessionFault
ended Work.Whole = Ok tt
ended Work.Halted = Ok tt
ended Work.NoMemory = Err NoMemory
ended (Work.Behind entered) = Err Unclosed
