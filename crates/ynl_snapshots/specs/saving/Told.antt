-- What is told of the rows of a leaf, and of a queue.
use Rattle.std.specs.Prelude.{ℕ, ◌+◌, nat_eq, List, [], ◌∷◌, if◌then◌else◌}
use Rattle.std.specs.Option.{option_map_or}
use Rattle.ynl_resource.specs.declared.names.Name.{Name}
use Rattle.ynl_resource.specs.declared.paths.Path.{Path}
use Rattle.ynl_inventory.specs.layout.Paths.{path_at}
use Rattle.ynl_tables.specs.declared.submissions.submissions.Submission.{Submission}
use Rattle.ynl_inventory.specs.Rows.{Rows}
use Rattle.ynl_inventory.specs.Meaning.{has_none_below, leaf_of, live_of}
use Rattle.ynl_saved.specs.declared.lines.StateLine.{StateLine}
use Rattle.ynl_saved.specs.declared.lines.StateLine.TheVariants.{Finished}
use Rattle.ynl_saved.specs.Saving.{leaf_lines, live_lines}

-- the lines of an application that was submitted to a leaf
abbrev pub submission_lines : Rows → ℕ → Name × Submission → List StateLine
submission_lines v q e = if nat_eq e.1.leaf q then option_map_or live_lines (live_of v e) (Finished (path_at v.paths q) e.0 ∷ []) else []

-- queues with their numbers, from this number on
abbrev pub numbered : ℕ → List Path → List (ℕ × Path)
numbered n [] = []
numbered n (path ∷ paths) = (n, path) ∷ numbered (n + 1) paths

-- the lines of a queue, if it is a leaf
abbrev pub queue_lines : Rows → ℕ × Path → List StateLine
queue_lines v e = if has_none_below v.paths e.1 then leaf_lines (leaf_of v e.0) else []
