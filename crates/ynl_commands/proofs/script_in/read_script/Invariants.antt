use Rattle.ynl_commands.specs.Input.{between}
use Rattle.ynl_commands.specs.Script.{script_way}
use Rattle.ynl_commands.proofs.Readings.{ReadSoFar}
use Rattle.ynl_commands.proofs.script_in.read_script.Given as goal

-- the lines that were read gave the events
abbrev pub invariant-lines : goal.invariant-lines
invariant-lines g l = ReadSoFar script_way (between (g.R.Read.remaining l.initial.reader) (g.R.Read.remaining l.reader)) l.input l.events

abbrev pub decreases-lines : goal.decreases-lines
decreases-lines g l = l.input.budget
