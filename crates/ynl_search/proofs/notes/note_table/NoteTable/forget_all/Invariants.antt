use Rattle.std.proofs.Common.{◌≡◌, length, map}
use Rattle.ynl_search.specs.notes.Notes.{Changes, forgotten, row_of}
use Rattle.ynl_search.proofs.notes.Rowwise.{up_to}
use Rattle.ynl_search.proofs.notes.note_table.NoteTable.forget_all.Given as goal

abbrev pub invariant-loop-p : goal.invariant-loop-p
invariant-loop-p l = Changes (up_to l.p forgotten) l.fn.self (map row_of l.self-inside.rows.items) × (length l.self-inside.rows.items ≡ length l.initial.self-inside.rows.items)
