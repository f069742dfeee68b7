use Rattle.std.proofs.Common.{◌≡◌, Bool, List, slice_get, find, sym, ap, ◌∙◌}
use Rattle.std.specs.List.{position_or_len}
use Rattle.std.proofs.lemmas.List.Folds.{find_at}
use Rattle.ynl_tables.specs.declared.apps.asks.Ask.{Ask}
use Rattle.ynl_tables.specs.apps.Asks.{is_ask_of}
use Rattle.ynl_tables.proofs.apps.Places.{item_read}
use Rattle.ynl_tables.proofs.apps.asks.Asks.find.Goals as goal

pub returns : goal.returns
returns c =
    let asks : List Ask = c.self.inside.rows.items in
    let test : Ask → Bool = is_ask_of c.args.partition c.args.priority in
    let place : c.place_of-place.result ≡ position_or_len test asks = c.place_of-place.ensures ∙ ap (position_or_len test) c.deref.ensures.value in
    item_read c.deref-2.result.now c.place_of-place.result c.get.result c.get.ensures.lookup.0 c.get.ensures.lookup.1
    ∙ (λ i. slice_get (c.deref-2.ensures.value i) (place i))
    ∙ sym (find_at test asks)
    ∙ ap (find test) c.self.view_is
