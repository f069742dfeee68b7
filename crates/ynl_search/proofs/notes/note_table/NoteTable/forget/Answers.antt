use Rattle.std.proofs.Common.{◌≡◌, ◌<◌, false, length, map, refl, set, subst, arith}
use Rattle.std.specs.Prelude.{nat_lt}
use Rattle.std.proofs.lemmas.Bool.Decides.{nat_tests}
use Rattle.ynl_search.specs.notes.Notes.{Changes, Table, forgotten_on, row_of}
use Rattle.ynl_search.proofs.notes.Rowwise.{none-forgotten, row-forgotten, there}
use Rattle.ynl_search.proofs.notes.note_table.NoteTable.forget.Goals as goal

pub returns-then-p-len : goal.returns-then-p-len
returns-then-p-len c =
    let beyond : nat_lt c.args.p (length c.self.inside.rows.items) ≡ false = grind (arith, nat_tests, c.if-p-len.true, c.len.ensures, c.self.inside.rows.ok.0) in
    subst (λ (v : Table). Changes (forgotten_on c.args.p) v v) c.self.view_is (none-forgotten c.self.inside.rows.items c.args.p beyond)

pub returns : goal.returns
returns c =
    let inside : c.args.p < length c.self.inside.rows.items = omega (arith, c.if-p-len.false, c.len.ensures, c.self.inside.rows.ok.0) in
    subst (λ (v : Table). Changes (forgotten_on c.args.p) v (map row_of (set c.self.inside.rows.items c.args.p (record { known = false; notes = c.index_mut.result.now.notes })))) c.self.view_is
    (row-forgotten c.self.inside.rows.items c.args.p c.index_mut.result.now (record { known = false; notes = c.index_mut.result.now.notes })
    (there c.self.inside.rows.items c.args.p c.index_mut.result.now inside c.index_mut.ensures.value) (λ q. refl) (λ q. refl))
