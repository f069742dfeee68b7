use Rattle.std.proofs.Common.{◌≡◌, ◌<◌, ◌≤◌, ◌==◌, ◌++◌, ◌∷◌, [], ℕ, Bool, false, cond, List, length, is_some, sym, subst, ap, ◌∙◌, arith, true≢false}
use Rattle.std.proofs.Math.ListN.{set}
use Rattle.std.specs.List.{position_or_len}
use Rattle.std.proofs.lemmas.Bool.Decides.{nat_tests}
use Rattle.std.proofs.lemmas.List.Folds.{find_at}
use Rattle.std.proofs.lemmas.Option.{slice_get_past}
use Rattle.ynl_resource.specs.Tables.{without, put}
use Rattle.ynl_tables.specs.declared.apps.asks.Ask.{Ask}
use Rattle.ynl_tables.specs.apps.Asks.{is_ask_of, with_ask, find_ask, AreAsks}
use Rattle.ynl_tables.proofs.apps.Asking.{asks_dropped, asks_put}
use Rattle.ynl_tables.proofs.apps.Places.{put_found, put_missed}
use Rattle.ynl_tables.proofs.apps.asks.Asks.set.Goals as goal

-- an ask for a container is put
with_ask-put : (ask : Ask) (asks : List Ask) → (ask.count == 0) ≡ false → put (is_ask_of ask.partition ask.priority) ask asks ≡ with_ask ask asks
with_ask-put ask asks off =
    let same : Ask → Bool = is_ask_of ask.partition ask.priority in
    sym (ap (λ (b : Bool). cond b (without same asks) (put same ask asks)) off)

-- at a place that has one, and at none
put-found : (ask : Ask) (asks : List Ask) (place : ℕ) → place ≡ position_or_len (is_ask_of ask.partition ask.priority) asks → place < length asks → set asks place ask ≡ put (is_ask_of ask.partition ask.priority) ask asks
put-found ask asks place is within =
    let there : position_or_len (is_ask_of ask.partition ask.priority) asks < length asks = omega arith in
    ap (λ (n : ℕ). set asks n ask) is ∙ sym (put_found (is_ask_of ask.partition ask.priority) ask asks there)

put-missed : (ask : Ask) (asks : List Ask) (place : ℕ) → place ≡ position_or_len (is_ask_of ask.partition ask.priority) asks → length asks ≤ place → asks ++ ask ∷ [] ≡ put (is_ask_of ask.partition ask.priority) ask asks
put-missed ask asks place is past =
    let none : length asks ≤ position_or_len (is_ask_of ask.partition ask.priority) asks = omega arith in
    sym (put_missed (is_ask_of ask.partition ask.priority) ask asks none)

unasked : (ask : Ask) (asks : List Ask) (place : ℕ) → place ≡ position_or_len (is_ask_of ask.partition ask.priority) asks → length asks ≤ place → is_some (find_ask ask.partition ask.priority asks) ≡ false
unasked ask asks place is past =
    let none : length asks ≤ position_or_len (is_ask_of ask.partition ask.priority) asks = omega arith in
    ap is_some (find_at (is_ask_of ask.partition ask.priority) asks ∙ slice_get_past asks (position_or_len (is_ask_of ask.partition ask.priority) asks) none)

pub invariant_of-self : goal.invariant_of-self
invariant_of-self c =
    subst AreAsks (sym c.drop_ask.ensures) (asks_dropped (is_ask_of c.args.ask.partition c.args.ask.priority) c.self.inside.rows.items c.self.invariant)

pub invariant_of-self-then-place-len : goal.invariant_of-self-then-place-len
invariant_of-self-then-place-len c =
    let ask : Ask = c.args.ask in
    let asks : List Ask = c.self.inside.rows.items in
    let place = c.place_of-place.ensures ∙ ap (position_or_len (is_ask_of ask.partition ask.priority)) c.deref.ensures.value in
    let within : c.place_of-place.result < length asks = omega (arith, c.self.inside.rows.ok.0) in
    subst AreAsks (sym (put-found ask asks c.place_of-place.result place within)) (asks_put ask asks (omega arith) c.self.invariant)

pub returns-then-place-len-clause-ok : goal.returns-then-place-len-clause-ok
returns-then-place-len-clause-ok c =
    let ask : Ask = c.args.ask in
    let asks : List Ask = c.self.inside.rows.items in
    let place = c.place_of-place.ensures ∙ ap (position_or_len (is_ask_of ask.partition ask.priority)) c.deref.ensures.value in
    let within : c.place_of-place.result < length asks = omega (arith, c.self.inside.rows.ok.0) in
    put-found ask asks c.place_of-place.result place within
    ∙ with_ask-put ask asks (grind (arith, nat_tests, c.if-ask-eq0.false))
    ∙ ap (with_ask ask) c.self.view_is

pub returns-in_err-push_ask-clause-there : goal.returns-in_err-push_ask-clause-there
returns-in_err-push_ask-clause-there c = λ h.
    let ask : Ask = c.args.ask in
    let asks : List Ask = c.self.inside.rows.items in
    let place = c.place_of-place.ensures ∙ ap (position_or_len (is_ask_of ask.partition ask.priority)) c.deref.ensures.value in
    let past : length asks ≤ c.place_of-place.result = omega (arith, c.self.inside.rows.ok.0) in
    absurd (true≢false (sym h ∙ ap (λ (rows : List Ask). is_some (find_ask ask.partition ask.priority rows)) (sym c.self.view_is) ∙ unasked ask asks c.place_of-place.result place past))

pub invariant_of-self-2 : goal.invariant_of-self-2
invariant_of-self-2 c =
    let ask : Ask = c.args.ask in
    let asks : List Ask = c.self.inside.rows.items in
    let place = c.place_of-place.ensures ∙ ap (position_or_len (is_ask_of ask.partition ask.priority)) c.deref.ensures.value in
    let past : length asks ≤ c.place_of-place.result = omega (arith, c.self.inside.rows.ok.0) in
    subst AreAsks (sym (c.in_ok-push_ask.ensures.ok ∙ put-missed ask asks c.place_of-place.result place past)) (asks_put ask asks (omega arith) c.self.invariant)

pub returns-clause-ok : goal.returns-clause-ok
returns-clause-ok c =
    let ask : Ask = c.args.ask in
    let asks : List Ask = c.self.inside.rows.items in
    let place = c.place_of-place.ensures ∙ ap (position_or_len (is_ask_of ask.partition ask.priority)) c.deref.ensures.value in
    let past : length asks ≤ c.place_of-place.result = omega (arith, c.self.inside.rows.ok.0) in
    c.in_ok-push_ask.ensures.ok
    ∙ put-missed ask asks c.place_of-place.result place past
    ∙ with_ask-put ask asks (grind (arith, nat_tests, c.if-ask-eq0.false))
    ∙ ap (with_ask ask) c.self.view_is
