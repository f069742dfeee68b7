-- A cluster that the lines of another one tell.
use Rattle.std.specs.Prelude.{◌≡◌, ⊤, false, Result, Ok, Err}
use Rattle.ynl_saved.specs.declared.lines.StateLine.{StateLine}
use Rattle.ynl_saved.specs.Restoring.{Restored, is_sound_line, restored_with}
use Rattle.ynl_snapshots.specs.restoring.Telling.{Telling, Tells}
use Rattle.ynl_core.specs.declared.copying.CopyFault.{CopyFault}
use Rattle.ynl_core.specs.declared.copying.CopyFault.TheVariants.{NoMemory, Unsound}

-- a line more: it is told then, over whatever the lines before it told; or it does not go with those; or there is no memory for it
abbrev pub Follows : Telling → StateLine → Telling → Result (Unit {0}) CopyFault → Type 0
Follows old line new (Ok done) = (new.cluster.config ≡ old.cluster.config) × ((r : Restored) → Tells old r → Tells new (restored_with line r))
Follows old line new (Err Unsound) = (r : Restored) → Tells old r → is_sound_line old.cluster.config r line ≡ false
Follows old line new (Err NoMemory) = ⊤
