-- Journals that are one entry longer.
use Rattle.std.proofs.Common.{◌≡◌, ℕ, zero, suc, ◌+◌, ◌-◌, ◌<◌, sym, ap, ◌∙◌, arith, List, [], ◌∷◌, ◌++◌, length, take, get_or, Some, subst}
use Rattle.std.specs.Prelude.{map}
use Rattle.std.proofs.lemmas.List.{take_more, map-append}
use Rattle.ynl_model.specs.declared.events.Event.{Event}
use Rattle.ynl_model.specs.declared.replies.Reply.{Reply}
use Rattle.ynl_model.specs.declared.entries.Entry.{Entry}
use Rattle.ynl_model.specs.Queues.{Config}
use Rattle.ynl_model.specs.Cluster.{State}
use Rattle.ynl_model.specs.Events.{step, after, replies}
use Rattle.ynl_core.specs.World.{World, Answers}
use Rattle.ynl_core.proofs.RunMore.{replies_push, state_push}
use Rattle.ynl_journal.specs.Journal.{entry, events_in, replayed_from, FitsReply, AgreesFrom, FirstDiffersFrom, IsHistoryFrom}

-- the events of one entry more
events_push : (es : List Entry) (e : Entry) → events_in (es ++ e ∷ []) ≡ events_in es ++ e.event ∷ []
events_push es e = map-append (λ (x : Entry). x.event) es (e ∷ [])

-- the cluster after one entry more
pub replayed_push : (c : Config) (s : State) (es : List Entry) (e : Entry) → replayed_from c s (es ++ e ∷ []) ≡ record { config = c; state = (step c (after c s (events_in es)) e.event).state }
replayed_push c s es e =
    let state : after c s (events_in (es ++ e ∷ [])) ≡ (step c (after c s (events_in es)) e.event).state = ap (after c s) (events_push es e) ∙ state_push c s (events_in es) e.event in
    λ i. record { config = c; state = state i }

-- one entry more that fits
pub agrees_push : (c : Config) (s : State) (es : List Entry) (e : Entry) → AgreesFrom c s es → FitsReply e (step c (after c s (events_in es)) e.event).reply → AgreesFrom c s (es ++ e ∷ [])
agrees_push c s [] e a f = (f, tt)
agrees_push c s (x ∷ xs) e a f = (a.0, agrees_push c (step c s x.event).state xs e a.1 f)

pub agrees_last : (c : Config) (s : State) (es : List Entry) (e : Entry) → AgreesFrom c s (es ++ e ∷ []) → FitsReply e (step c (after c s (events_in es)) e.event).reply
agrees_last c s [] e a = a.0
agrees_last c s (x ∷ xs) e a = agrees_last c (step c s x.event).state xs e a.1

-- entries from the front agree as all do
pub agrees_front : (c : Config) (s : State) (es : List Entry) (n : ℕ) → AgreesFrom c s es → AgreesFrom c s (take n es)
agrees_front c s [] zero a = tt
agrees_front c s [] (suc n) a = tt
agrees_front c s (x ∷ xs) zero a = tt
agrees_front c s (x ∷ xs) (suc n) a = (a.0, agrees_front c (step c s x.event).state xs n a.1)

-- a step from a cluster that is known
pub known_reply : (c : Config) (s : State) (es : List Entry) (old new : World) (event : Event) (r : Reply) → old ≡ replayed_from c s es → Answers old event new r → r ≡ (step c (after c s (events_in es)) event).reply
known_reply c s es old new event r is step_is = step_is.told ∙ ap (λ (w : World). (step w.config w.state event).reply) is

known_step : (c : Config) (s : State) (es : List Entry) (old new : World) (e : Entry) (r : Reply) → old ≡ replayed_from c s es → Answers old e.event new r → new ≡ replayed_from c s (es ++ e ∷ [])
known_step c s es old new e r is step_is =
    let next : World → World = λ (w : World). record { config = w.config; state = (step w.config w.state e.event).state } in
    step_is.left ∙ ap next is ∙ sym (replayed_push c s es e)

take_one_more : (es : List Entry) (i : ℕ) (e : Entry) → i < length es → e ≡ get_or es i e → take (i + 1) es ≡ take i es ++ e ∷ []
take_one_more es i e inside at = take_more es i e inside ∙ ap (λ x. take i es ++ x ∷ []) (sym at)

-- the cluster after the entries up to a place, and after those up to the next
pub more_replayed : (c : Config) (s : State) (es : List Entry) (i : ℕ) (e : Entry) (old new : World) (r : Reply) → i < length es → e ≡ get_or es i e → old ≡ replayed_from c s (take i es) → Answers old e.event new r → new ≡ replayed_from c s (take (i + 1) es)
more_replayed c s es i e old new r inside at is step_is =
    known_step c s (take i es) old new e r is step_is ∙ ap (replayed_from c s) (sym (take_one_more es i e inside at))

-- the entries up to a place agree, and so do those up to the next
pub more_agree : (c : Config) (s : State) (es : List Entry) (i : ℕ) (e : Entry) (old new : World) (r : Reply) → i < length es → e ≡ get_or es i e → old ≡ replayed_from c s (take i es) → AgreesFrom c s (take i es) → Answers old e.event new r → FitsReply e r → AgreesFrom c s (take (i + 1) es)
more_agree c s es i e old new r inside at is agrees step_is fits =
    let A : List Entry → Type 0 = λ xs. AgreesFrom c s xs in
    let R : Reply → Type 0 = λ x. FitsReply e x in
    subst A (sym (take_one_more es i e inside at)) (agrees_push c s (take i es) e agrees (subst R (known_reply c s (take i es) old new e.event r is step_is) fits))

-- the entries up to a place agree, and the next one does not
pub first_differs : (c : Config) (s : State) (es : List Entry) (i : ℕ) (e : Entry) (old new : World) (r : Reply) → i < length es → e ≡ get_or es i e → old ≡ replayed_from c s (take i es) → AgreesFrom c s (take i es) → Answers old e.event new r → (FitsReply e r → ⊥) → FirstDiffersFrom c s es (i + 1)
first_differs c s es i e old new r inside at is agrees step_is differs =
    let A : List Entry → Type 0 = λ xs. AgreesFrom c s xs in
    let R : Reply → Type 0 = λ x. FitsReply e x in
    let N : ℕ → Type 0 = λ n. AgreesFrom c s (take n es) in
    let same : i ≡ (i + 1) - 1 = omega arith in
    record {
      counted = omega arith;
      inside = omega arith;
      before = subst N same agrees;
      there = λ all. differs (subst R (sym (known_reply c s (take i es) old new e.event r is step_is)) (agrees_last c s (take i es) e (subst A (take_one_more es i e inside at) all)));
    }

-- the replies to one entry more
replies_more : (c : Config) (s : State) (es : List Entry) (e : Entry) →
    map Some (replies c s (events_in (es ++ e ∷ []))) ≡ map Some (replies c s (events_in es)) ++ Some (step c (after c s (events_in es)) e.event).reply ∷ []
replies_more c s es e =
    let reply : Reply = (step c (after c s (events_in es)) e.event).reply in
    ap (λ events. map Some (replies c s events)) (events_push es e)
    ∙ ap (map Some) (replies_push c s (events_in es) e.event)
    ∙ map-append Some (replies c s (events_in es)) (reply ∷ [])

-- a closed history with one entry more
pub history_push : (c : Config) (s : State) (es longer : List Entry) (event : Event) (kept : Reply) → longer ≡ es ++ entry event (Some kept) ∷ [] → kept ≡ (step c (after c s (events_in es)) event).reply → IsHistoryFrom c s es → IsHistoryFrom c s longer
history_push c s es longer event kept more same closed =
    let e = entry event (Some kept) in
    let H : List Entry → Type 0 = λ xs. IsHistoryFrom c s xs in
    subst H (sym more) (
    map-append (λ (x : Entry). x.reply) es (e ∷ []) ∙ ap (λ rs. rs ++ Some kept ∷ []) closed ∙ ap (λ (r : Reply). map Some (replies c s (events_in es)) ++ Some r ∷ []) same ∙ sym (replies_more c s es e)
    )

-- the closed history of the events up to a place, and that of those up to the next
pub history_more : (c : Config) (s : State) (all : List Event) (done longer : List Entry) (i : ℕ) (event : Event) (old new : World) (r : Reply) → i < length all → event ≡ get_or all i event → old ≡ replayed_from c s done → events_in done ≡ take i all → IsHistoryFrom c s done → Answers old event new r → longer ≡ done ++ entry event (Some r) ∷ [] → (new ≡ replayed_from c s longer) × (events_in longer ≡ take (i + 1) all) × IsHistoryFrom c s longer
history_more c s all done longer i event old new r inside at is same closed step_is more =
    let n = entry event (Some r) in
    let push : List Event → List Event = λ xs. xs ++ event ∷ [] in (
      known_step c s done old new n r is step_is ∙ ap (replayed_from c s) (sym more),
      ap events_in more ∙ events_push done n ∙ ap push same ∙ sym (take_more all i event inside ∙ ap (λ (x : Event). take i all ++ x ∷ []) (sym at)),
      history_push c s done longer event r more (known_reply c s done old new event r is step_is) closed,
    )
