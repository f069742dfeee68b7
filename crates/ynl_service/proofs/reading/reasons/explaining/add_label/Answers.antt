use Rattle.std.proofs.Common.{◌≡◌, [], length, true, sym, ap, ◌∙◌, arith, true≢false}
use Rattle.std.proofs.lemmas.Bool.Decides.{nat_tests}
use Rattle.ynl_service.proofs.reading.reasons.Asking.{asks-there}
use Rattle.ynl_service.proofs.reading.reasons.explaining.add_label.Goals as goal

-- what was found asked for under the label is some
pub add_asks-requires-clause-asks : goal.add_asks-requires-clause-asks
add_asks-requires-clause-asks g c =
    asks-there (g.F.Facts.state c.args.facts.now) c.args.query.now.tenant.now c.args.query.now.name.now c.args.query.now.app.now c.args.label.now c.requires.app
    (λ none.
    let empty : c.in_ok-asks.asks.items ≡ [] = c.in_ok-asks.ensures c.requires.app.live c.requires.app.found ∙ none in
    let no_asks : c.is_empty.result ≡ true = grind (arith, nat_tests, ap length empty, c.in_ok-asks.asks.ok.0, c.is_empty.ensures) in
    true≢false (sym no_asks ∙ c.if-is_empty.false))
