use Rattle.std.proofs.Common.{◌≡◌, ◌<◌, false, length, refl, ◌∙◌, arith}
use Rattle.std.proofs.lemmas.List.{length-set}
use Rattle.ynl_search.proofs.notes.Rowwise.{all-done, all-more, there}
use Rattle.ynl_search.proofs.notes.note_table.NoteTable.forget_all.Goals as goal

pub loop-p-preserved : goal.loop-p-preserved
loop-p-preserved c =
    let many : length c.loop-p.self-inside.rows.items ≡ length c.self.inside.rows.items = c.loop-p.invariant.1 in
    let inside : c.loop-p.p < length c.loop-p.self-inside.rows.items = omega (arith, c.loop-p-test.true, c.len-p-end.ensures, c.self.inside.rows.ok.0, many) in (
      all-more c.args.self.now c.loop-p.self-inside.rows.items c.loop-p.p c.index_mut.result.now (record { known = false; notes = c.index_mut.result.now.notes })
          (there c.loop-p.self-inside.rows.items c.loop-p.p c.index_mut.result.now inside c.index_mut.ensures.value) (λ q. refl) (λ q. refl) c.loop-p.invariant.0,
      length-set c.loop-p.self-inside.rows.items c.loop-p.p (record { known = false; notes = c.index_mut.result.now.notes }) ∙ many,
    )

pub returns : goal.returns
returns c =
    all-done c.args.self.now c.self.inside.rows.items c.loop-p.self-inside.rows.items c.loop-p.p c.self.view_is
    (omega (arith, c.loop-p-test.false, c.loop-p.auto.p-end, c.len-p-end.ensures, c.self.inside.rows.ok.0)) c.loop-p.invariant.0
