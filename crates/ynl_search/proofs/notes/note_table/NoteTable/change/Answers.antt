use Rattle.std.proofs.Common.{◌<◌, ◌&&◌, nat_eq, map, length, set, subst, arith}
use Rattle.ynl_laws.specs.Ways.{has_number}
use Rattle.ynl_search.specs.notes.Notes.{Changes, Table, more_where, row_of}
use Rattle.ynl_search.proofs.notes.Rowwise.{changed-row, there}
use Rattle.ynl_search.proofs.notes.note_table.NoteTable.change.Goals as goal

pub returns : goal.returns
returns c =
    let inside : c.args.p < length c.self.inside.rows.items = omega (arith, c.if-p-len.false, c.len.ensures, c.self.inside.rows.ok.0) in
    subst (λ (v : Table). Changes (more_where (λ r t. nat_eq r c.args.p && has_number c.args.queues.now t) c.args.low.now) v (map row_of (set c.self.inside.rows.items c.args.p c.change.new.row))) c.self.view_is
    (changed-row (has_number c.args.queues.now) c.args.low.now c.self.inside.rows.items c.args.p c.index_mut.result.now c.change.new.row
    (there c.self.inside.rows.items c.args.p c.index_mut.result.now inside c.index_mut.ensures.value) c.change.ensures.has c.change.ensures.noted)
