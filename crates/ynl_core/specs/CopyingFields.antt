-- What is kept of a cluster that the lines of another one tell.
use Rattle.std.specs.Prelude.{◌≡◌, IsTrue}
use Rattle.ynl_saved.specs.Restoring.{Restored}
use Rattle.ynl_snapshots.specs.restoring.Telling.{Tells}
use Rattle.ynl_core.specs.declared.copying.Copying.TheInside.{Inside}

-- where all lines were taken they told something of it, and are counted
abbrev pub IsWhole : Inside → Type 0
IsWhole a = IsTrue a.is_whole → ((r : Restored) × Tells a.told r) × (a.told.lines ≡ a.lines)
