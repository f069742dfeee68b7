-- An application asks on its home partition and on DEFAULT.
use Rattle.std.proofs.Common.{◌≡◌, ◌<◌, length, nat_eq, get_or, List, Option, Some, sym, ap, subst, ◌∙◌}
use Rattle.std.specs.Prelude.{IfSome}
use Rattle.std.specs.Map.{lookup}
use Rattle.ynl_tables.specs.declared.apps.asks.Ask.{Ask}
use Rattle.ynl_inventory.specs.Rows.{AppRow}
use Rattle.ynl_inventory.specs.Parts.{app_row}
use Rattle.ynl_inventory.specs.Sound.{IsAskedOn}
use Rattle.ynl_sights.proofs.gathering.add_asks.Goals as goal

pub add_ask-requires-clause-asked : goal.add_ask-requires-clause-asked
add_ask-requires-clause-asked c =
    let w = c.args.cluster.now in
    let is = c.inventory-inventory.ensures in
    let row = app_row c.app.result.now in
    let ask : Ask = c.ask-item.result in
    let found : lookup (nat_eq c.args.app) w.rows.apps ≡ Some row = rw is.value at c.app.ensures in
    let inside : c.loop-ask.ask-index < length row.asks = subst (λ (asks : List Ask). c.loop-ask.ask-index < length asks) c.as_slice-asks.ensures.value c.loop-ask-test.true in
    let at : ask ≡ get_or row.asks c.loop-ask.ask-index ask = c.ask-item.is ∙ ap (λ (asks : List Ask). get_or asks c.loop-ask.ask-index ask) c.as_slice-asks.ensures.value in
    subst (λ (o : Option AppRow). IfSome o (λ row. IsAskedOn row.home ask.partition)) (sym found)
    (subst (λ (ask : Ask). IsAskedOn row.home ask.partition) (sym at) ((is.sound.apps c.args.app row found).asked c.loop-ask.ask-index ask inside))
