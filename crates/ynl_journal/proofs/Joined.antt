-- Histories that go on.
use Rattle.std.proofs.Common.{◌≡◌, List, [], ◌∷◌, ◌++◌, map, Option, Some, refl, ap, ◌∙◌}
use Rattle.std.proofs.lemmas.List.{map-append}
use Rattle.ynl_model.specs.declared.events.Event.{Event}
use Rattle.ynl_model.specs.declared.replies.Reply.{Reply}
use Rattle.ynl_model.specs.declared.entries.Entry.{Entry}
use Rattle.ynl_model.specs.Queues.{Config}
use Rattle.ynl_model.specs.Cluster.{State}
use Rattle.ynl_model.specs.Events.{step, after, replies}
use Rattle.ynl_journal.specs.Journal.{IsHistoryFrom, events_in}
use Rattle.ynl_journal.specs.Promises.{HistoriesGoOn}

head-same : {X : Type 0} (x y : X) (xs ys : List X) → x ∷ xs ≡ y ∷ ys → x ≡ y
head-same x y xs ys same = cc

tail-same : {X : Type 0} (x y : X) (xs ys : List X) → x ∷ xs ≡ y ∷ ys → xs ≡ ys
tail-same x y xs ys same = cc

-- what stands in an entry's place, and behind it
module _ (c : Config) (s : State) (e : Entry) (es : List Entry) (closed : IsHistoryFrom c s (e ∷ es)) where
  abbrev told : List (Option Reply)
  told = map Some (replies c (step c s e.event).state (events_in es))

  first-told : e.reply ≡ Some (step c s e.event).reply
  first-told = head-same e.reply (Some (step c s e.event).reply) (map (λ x. x.reply) es) told closed

  rest-told : IsHistoryFrom c (step c s e.event).state es
  rest-told = tail-same e.reply (Some (step c s e.event).reply) (map (λ x. x.reply) es) told closed

pub joined : (c : Config) (s : State) (es fs : List Entry) → IsHistoryFrom c s es → IsHistoryFrom c (after c s (events_in es)) fs → IsHistoryFrom c s (es ++ fs)
joined c s [] fs first second = second
joined c s (e ∷ es) fs first second =
    let rest = joined c (step c s e.event).state es fs (rest-told c s e es first) second in
    λ i. first-told c s e es first i ∷ rest i

cut : (c : Config) (s : State) (es fs : List Entry) → IsHistoryFrom c s (es ++ fs) → IsHistoryFrom c s es × IsHistoryFrom c (after c s (events_in es)) fs
cut c s [] fs all = (refl, all)
cut c s (e ∷ es) fs all =
    let rest = cut c (step c s e.event).state es fs (rest-told c s e (es ++ fs) all) in
    (λ i. first-told c s e (es ++ fs) all i ∷ rest.0 i, rest.1)

pub histories_go_on : HistoriesGoOn
histories_go_on c s first second = (cut c s first second, λ parts. joined c s first second parts.0 parts.1)

-- where events lead to, and from there others
pub after_both : (c : Config) (s : State) (es fs : List Event) → after c s (es ++ fs) ≡ after c (after c s es) fs
after_both c s [] fs = refl
after_both c s (e ∷ es) fs = after_both c (step c s e).state es fs

-- the same of the events of entries
pub led_on : (c : Config) (s : State) (es fs : List Entry) → after c s (events_in (es ++ fs)) ≡ after c (after c s (events_in es)) (events_in fs)
led_on c s es fs = ap (after c s) (map-append (λ (e : Entry). e.event) es fs) ∙ after_both c s (events_in es) (events_in fs)
