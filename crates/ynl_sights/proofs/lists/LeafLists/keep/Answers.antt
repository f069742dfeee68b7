use Rattle.std.proofs.Common.{refl, sym, ap, ◌∙◌}
use Rattle.std.specs.Option.{option_and_then}
use Rattle.std.proofs.lemmas.Option.{slice_get_read}
use Rattle.ynl_sights.specs.Lists.{slot_at, IsListOf}
use Rattle.ynl_sights.proofs.Kept.{set-in}
use Rattle.ynl_sights.proofs.lists.LeafLists.keep.Goals as goal

pub returns-in_err-reserve : goal.returns-in_err-reserve
returns-in_err-reserve c = λ v lists list. record { kept = λ p q l told. lists.kept p q l (sym (c.reserve.ensures.same p q) ∙ told) }

pub returns : goal.returns
returns c = λ v lists list.
    let rows = c.reserve.new.self.rows.items in
    let row = c.index_mut.result.now in
    let at = slice_get_read rows _ c.args.leaf row refl c.in_ok-reserve.ensures.place c.index_mut.ensures.value in
    record {
      kept = λ p.
          set-in (λ row. slot_at row.items p) (λ q l. IsListOf v p q l) rows c.args.leaf row c.keep_in.new.row at
          (λ l told.
          (c.keep_in.ensures v c.args.leaf
          (record { kept = λ p l told. lists.kept p c.args.leaf l (sym (c.reserve.ensures.same p c.args.leaf) ∙ ap (option_and_then (λ row. slot_at row.items p)) at ∙ told) })
          list).kept p l told)
          (λ q l told. lists.kept p q l (sym (c.reserve.ensures.same p q) ∙ told));
    }
