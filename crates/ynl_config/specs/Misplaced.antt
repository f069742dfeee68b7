-- What is told of a text that is no configuration: the word of its fault, and the first place where that is.
use Rattle.std.specs.Prelude.{ℕ, List, map, length, not, ◌&&◌, nat_le, Option, Some, None, option_and_then, unwrap_or, Result, Ok, Err, if◌then◌else◌}
use Rattle.std.specs.List.{list_all}
use Rattle.std.specs.Option.{option_or}
use Rattle.std.specs.Result.{result_ok}
use Rattle.toml.specs.Data.{Members}
use Rattle.ynl_resource.specs.Names.{root}
use Rattle.ynl_resource.specs.Ranges.{most_queues}
use Rattle.ynl_resource.specs.Texts.{read_path}
use Rattle.ynl_model.specs.Nodes.{Labels}
use Rattle.ynl_model.specs.Queues.{Config, QueueRow}
use Rattle.ynl_queues.specs.Written.{WrittenRow, is_below_root, row_of, configured}
use Rattle.ynl_config.specs.declared.places.Misplaced.{Misplaced}
use Rattle.ynl_config.specs.declared.faults.ConfigFault.TheVariants as fault
use Rattle.ynl_config.specs.Anywhere.{same_fault}
use Rattle.ynl_config.specs.Earliest.{ConfigFault, ◌>>=◌, is_of_tables, is_of_rows}
use Rattle.ynl_config.specs.Meaning.{reading, built}
use Rattle.ynl_config.specs.Tables.{WrittenConfig, written_in}
use Rattle.ynl_config.specs.Places.{Place, nowhere, first_from, place_in_tables}
use Rattle.ynl_config.specs.RowPlaces.{count_place, repeated_label, deep_path, bad_path, crowd, repeated_queue, orphan, unknown_label, label_beyond, low_maximum, wrong_sum, wrong_parent}

-- the place of a fault of a path's text, if the row of this number has it
abbrev pub place_at_text : ConfigFault → List WrittenRow → ℕ → WrittenRow → Option Place
place_at_text fault.TooDeep rows n row = deep_path n row
place_at_text fault.TooMany rows n row = crowd rows row
place_at_text fault.BadPath rows n row = bad_path n row
place_at_text _ rows n row = None

-- the first place of a fault of paths' texts; that there are more than 1,024 is told before the groups of them
unfoldable pub place_in_texts : ConfigFault → List WrittenRow → Option Place
place_in_texts found rows =
    if same_fault found fault.TooMany && not (nat_le (length rows) most_queues) then Some (count_place (length rows))
    else first_from (place_at_text found rows) 1 rows

-- the place of a fault of the tree of queues, if the row of this number has it
abbrev pub place_at_queue : ConfigFault → Config → ℕ → QueueRow → Option Place
place_at_queue fault.DuplicateQueue c n row = repeated_queue c n row
place_at_queue fault.NoParent c n row = orphan c n row
place_at_queue fault.NoSuchLabel c n row = unknown_label c n row
place_at_queue fault.NotSubset c n row = label_beyond c n row
place_at_queue fault.MaximumBelowCapacity c n row = low_maximum c n row
place_at_queue fault.SumNot100 c n row = wrong_parent c row
place_at_queue _ c n row = None

-- the first place of a fault of the tree of queues; root comes before all rows
unfoldable pub place_in_tree : ConfigFault → Config → Option Place
place_in_tree found c =
    option_or (if same_fault found fault.SumNot100 then wrong_sum c root else None) (first_from (place_at_queue found c) 1 c.queues)

-- the tree of rows, whatever its faults, if there are not too many of them and each path is one below root
abbrev pub tree_of_rows : Labels → List WrittenRow → Option Config
tree_of_rows labels rows =
    if nat_le (length rows) most_queues && list_all (λ row. is_below_root (read_path row.path)) rows then Some (configured labels (map row_of rows)) else None

-- the tree that is written
abbrev pub tree_written : WrittenConfig → Option Config
tree_written w = tree_of_rows (record { rows = w.labels; default_limit = w.numbers.default_limit }) w.queues

-- the first place of a fault that rows have together
unfoldable pub place_together : ConfigFault → WrittenConfig → Option Place
place_together fault.TooManyLabels w = Some (count_place (length w.labels))
place_together fault.DuplicateLabel w = first_from (repeated_label w.labels) 1 w.labels
place_together fault.TooDeep w = place_in_texts fault.TooDeep w.queues
place_together fault.TooMany w = place_in_texts fault.TooMany w.queues
place_together fault.BadPath w = place_in_texts fault.BadPath w.queues
place_together found w = option_and_then (place_in_tree found) (tree_written w)

-- what a table means: the configuration, or its first fault
abbrev pub meant : Members → Result Config ConfigFault
meant ms = written_in ms >>= built

-- the first place of a fault in a text; that it is too long, or no TOML text, has none
unfoldable pub first_place : ConfigFault → Members → Option Place
first_place found ms =
    if is_of_tables found then place_in_tables found ms
    else if is_of_rows found then option_and_then (place_together found) (result_ok (written_in ms))
    else None

-- what is told of the place of a fault; no law says of which line bytes are told that are no TOML text
abbrev pub told_place : Option ℕ → ConfigFault → List ℕ → Place
told_place line fault.Size text = nowhere
told_place line fault.Syntax text = record nowhere { line = line }
told_place line found text = unwrap_or (option_and_then (first_place found) (reading text)) nowhere

-- a configuration, or the fault alone
abbrev pub word_of : Result Config Misplaced → Result Config ConfigFault
word_of (Ok c) = Ok c
word_of (Err m) = Err m.fault
