-- Clusters that events were applied to.
use Rattle.std.specs.Prelude.{◌≡◌, ℕ, List, [], Option, Some, None, Result, Ok, Err}
use Rattle.ynl_model.specs.declared.events.Event.{Event}
use Rattle.ynl_model.specs.Events.{after}
use Rattle.ynl_core.specs.World.{World}
use Rattle.ynl_lines.specs.declared.faults.LineFault.{LineFault}
use Rattle.ynl_commands.specs.declared.clusters.AppliedScript.{AppliedScript}
use Rattle.ynl_commands.specs.declared.lines_in.ReadFault.{ReadFault}
use Rattle.ynl_commands.specs.Input.{Stream}
use Rattle.ynl_commands.specs.Lines.{tool_fault}
use Rattle.ynl_commands.specs.Readings.{come_to, ReadsTo, ReadsSome}
use Rattle.ynl_commands.specs.Script.{Script, part, script_way}

-- the cluster after events
abbrev pub cluster_after : World → List Event → World
cluster_after core events = record { config = core.config; state = after core.config core.state events }

-- what is left of a script whose events were applied: none of them, but how many lines were read, and the fault
abbrev pub rest_of : AppliedScript → Script
rest_of s = come_to [] s.lines s.fault

-- what a line says was applied to the cluster, or the line has a fault
abbrev pub Applies : {E : Type 0} → World → World → List ℕ → Result (Option LineFault) E → Type 0
Applies old new line (Ok None) = ((part line).fault ≡ None) × (new ≡ cluster_after old (part line).events)
Applies old new line (Ok (Some f)) = ((part line).fault ≡ Some f) × (new ≡ old)
Applies old new line (Err e) = Unit {0}

-- A script was read, and its events were applied to the cluster.
pub record AppliesAll (reader : Stream) (first : World) (s : AppliedScript) : Type 0 where
  pub events : List Event
  pub core : s.core ≡ cluster_after first events
  pub read : ReadsTo script_way reader (come_to events s.lines s.fault)

-- what was read, whether a cluster came of it or an error
abbrev pub AppliesScript : Stream → World → Result AppliedScript ReadFault → Type 0
AppliesScript reader first (Ok s) = AppliesAll reader first s
AppliesScript reader first (Err e) = ReadsSome script_way reader (tool_fault e)
