use Rattle.std.proofs.Common.{Some, refl, sym, subst, ◌∙◌}
use Rattle.std.specs.Prelude.{option_map}
use Rattle.std.proofs.lemmas.Option.{same_Some, slice_get_read}
use Rattle.ynl_sights.specs.Lists.{IsListOf}
use Rattle.ynl_sights.proofs.Kept.{set-in}
use Rattle.ynl_sights.proofs.lists.keep_in.Goals as goal

pub returns-in_err-reserve_in : goal.returns-in_err-reserve_in
returns-in_err-reserve_in c = λ v q lists list. record { kept = λ p l told. lists.kept p l (sym (c.reserve_in.ensures.same p) ∙ told) }

pub returns : goal.returns
returns c = λ v q lists list. record {
  kept =
      let row = c.reserve_in.new.row.items in
      set-in (option_map (λ it. it.value)) (λ p l. IsListOf v p q l) row c.args.p c.index_mut.result.now (Some c.args.list)
      (slice_get_read row _ c.args.p c.index_mut.result.now refl c.in_ok-reserve_in.ensures.place c.index_mut.ensures.value)
      (λ l told. subst (IsListOf v c.args.p q) (same_Some c.args.list.value l told) list)
      (λ p l told. lists.kept p l (sym (c.reserve_in.ensures.same p) ∙ told));
}
