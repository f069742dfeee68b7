use Rattle.std.proofs.Common.{◌≡◌, length, map}
use Rattle.ynl_search.specs.notes.Notes.{AreEmpty, row_of}
use Rattle.ynl_search.proofs.notes.note_table.NoteTable.new.Given as goal

abbrev pub invariant-loop-partition : goal.invariant-loop-partition
invariant-loop-partition l = AreEmpty l._partition l.queues (map row_of l.rows.items) × (length l.rows.items ≡ l._partition)
