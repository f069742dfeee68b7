-- Queues on the way from root to a leaf.
use Rattle.std.specs.Prelude.{length, take}
use Rattle.ynl_resource.specs.declared.paths.Path.{Path}
pub use Rattle.ynl_waits.specs.declared.steps.Step.{Step}

-- the path of a queue on the way to a leaf
abbrev pub path_of : Step → Path
path_of step = take step.depth step.leaf

-- a queue on the way to a leaf, by its path
abbrev pub step_to : Path → Path → Step
step_to leaf queue = record { leaf = leaf; depth = length queue }
