-- The state that sound rows mean finds its applications and leaves, and no two of its requests tie.
use Rattle.std.specs.Prelude.{List}
use Rattle.ynl_model.specs.declared.queues.StopRow.{StopRow}
use Rattle.ynl_model.specs.declared.queues.MaximumRow.{MaximumRow}
use Rattle.ynl_laws.specs.Tabled.{Tabled}
use Rattle.ynl_laws.specs.Untied.{AllDistinct}
use Rattle.ynl_inventory.specs.Rows.{Rows}
use Rattle.ynl_inventory.specs.Meaning.{state_of}
use Rattle.ynl_inventory.specs.Sound.{IsSound}

-- what sound rows mean finds each application and each leaf by its name, and the application of each container
abbrev pub SoundIsTabled : Type 0
SoundIsTabled = (v : Rows) → IsSound v → (stops : List StopRow) (maxima : List MaximumRow) → Tabled (state_of v stops maxima)

-- and there the asks of each application differ
abbrev pub SoundIsDistinct : Type 0
SoundIsDistinct = (v : Rows) → IsSound v → (stops : List StopRow) (maxima : List MaximumRow) → AllDistinct (state_of v stops maxima).leaves
