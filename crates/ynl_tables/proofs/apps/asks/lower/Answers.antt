-- The ask is found at its place, or there is none.
use Rattle.std.proofs.Common.{List, ap, ◌∙◌, arith}
use Rattle.std.specs.List.{position_or_len}
use Rattle.ynl_tables.specs.declared.apps.asks.Ask.{Ask}
use Rattle.ynl_tables.specs.apps.Asks.{is_ask_of}
use Rattle.ynl_tables.proofs.apps.Taking.{missed-asks, missed-spent, written-asks, written-spent}
use Rattle.ynl_tables.proofs.apps.asks.lower.Goals as goal

pub returns-then-place-len-clause-asks : goal.returns-then-place-len-clause-asks
returns-then-place-len-clause-asks c =
    let asks : List Ask = c.args.asks.now.items in
    let place = c.place_of-place.ensures ∙ ap (position_or_len (is_ask_of c.args.partition c.args.priority)) c.deref.ensures.value in
    missed-asks c.args.partition c.args.priority asks (omega arith)

pub returns-then-place-len-clause-spent : goal.returns-then-place-len-clause-spent
returns-then-place-len-clause-spent c =
    let asks : List Ask = c.args.asks.now.items in
    let place = c.place_of-place.ensures ∙ ap (position_or_len (is_ask_of c.args.partition c.args.priority)) c.deref.ensures.value in
    missed-spent c.args.partition c.args.priority asks (omega arith)

pub returns-clause-asks : goal.returns-clause-asks
returns-clause-asks c =
    let place = c.place_of-place.ensures ∙ ap (position_or_len (is_ask_of c.args.partition c.args.priority)) c.deref.ensures.value in
    written-asks c.args.partition c.args.priority c.args.asks.now.items c.requires.apart c.place_of-place.result place (omega arith)
    c.index-before.result.now c.index-before.ensures c.saturating_sub-count.result c.saturating_sub-count.ensures

pub returns-clause-spent : goal.returns-clause-spent
returns-clause-spent c =
    let place = c.place_of-place.ensures ∙ ap (position_or_len (is_ask_of c.args.partition c.args.priority)) c.deref.ensures.value in
    written-spent c.args.partition c.args.priority c.args.asks.now.items c.requires.apart c.place_of-place.result place (omega arith)
    c.index-before.result.now c.index-before.ensures c.saturating_sub-count.result c.saturating_sub-count.ensures
