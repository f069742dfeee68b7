use Rattle.std.proofs.Common.{◌<◌, map, length, set, subst, arith}
use Rattle.ynl_search.specs.notes.Notes.{Changes, Table, noted, row_of}
use Rattle.ynl_search.proofs.notes.Rowwise.{noted-row, there}
use Rattle.ynl_search.proofs.notes.note_table.NoteTable.note.Goals as goal

pub returns : goal.returns
returns c =
    let inside : c.args.p < length c.self.inside.rows.items = omega (arith, c.if-p-len.false, c.len.ensures, c.self.inside.rows.ok.0) in
    subst (λ (v : Table). Changes (noted v c.args.p c.args.queue c.args.more) v (map row_of (set c.self.inside.rows.items c.args.p c.note.new.row))) c.self.view_is
    (noted-row c.self.inside.rows.items c.args.p c.args.queue c.args.more c.index_mut.result.now c.note.new.row
    (there c.self.inside.rows.items c.args.p c.index_mut.result.now inside c.index_mut.ensures.value) c.note.ensures.has c.note.ensures.noted)
