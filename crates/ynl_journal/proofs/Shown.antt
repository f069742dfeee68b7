-- What a closed history shows.
use Rattle.std.proofs.Common.{◌≡◌, ℕ, List, [], ◌∷◌, map, Option, Some, None, refl, ap, ◌∙◌}
use Rattle.std.specs.Prelude.{option_map, IsSome, IfSome}
use Rattle.std.specs.List.{AllZip}
use Rattle.std.proofs.lemmas.Option.{slice_get-map}
use Rattle.std.proofs.lemmas.List.Elements.{All-head, All-tail}
use Rattle.ynl_model.specs.declared.replies.Reply.{Reply}
use Rattle.ynl_model.specs.Events.{step, replies, replies_to}
use Rattle.ynl_model.specs.View.{view, events_of, places_of, at_places, restrict}
use Rattle.ynl_laws.proofs.Isolating.Isolated.{is_isolated}
use Rattle.ynl_model.specs.declared.entries.Entry.{Entry}
use Rattle.ynl_model.specs.Queues.{Config}
use Rattle.ynl_model.specs.Cluster.{State, opening}
use Rattle.ynl_journal.specs.Journal.{FitsReply, events_in}
use Rattle.ynl_journal.specs.Promises.{AreAnswered, AgreeingAreHistories, HistoriesShowAlone}

-- what stands at some places of the written replies
placed : (rs : List Reply) (places : List ℕ) → at_places (map (λ r. Some r) rs) places ≡ map (option_map (λ r. Some r)) (at_places rs places)
placed rs [] = refl
placed rs (n ∷ places) = λ i. slice_get-map (λ r. Some r) rs n i ∷ placed rs places i

somes : (rs : List Reply) → map (option_map (λ r. Some r)) (map Some rs) ≡ map (λ r. Some (Some r)) rs
somes [] = refl
somes (r ∷ rs) = ap (λ zs. Some (Some r) ∷ zs) (somes rs)

pub histories_show_alone : HistoriesShowAlone
histories_show_alone c entries t p closed accepted sole =
    let law = is_isolated c (events_in entries) t p accepted sole in
    let places = places_of (view c (events_in entries) t p) in
    record {
      replies = ap (λ xs. at_places xs places) closed ∙ placed (replies_to c (events_in entries)) places ∙ ap (map (option_map (λ r. Some r))) law.replies ∙ somes (replies_to (restrict c t) (events_of (view c (events_in entries) t p)));
      looks_after_each = law.containers;
      maximum = law.maximum;
    }

-- ---- entries that agree

-- a reply that is there and fits is this one
there : (o : Option Reply) (r : Reply) → IsSome o → IfSome o (λ given. given ≡ r) → o ≡ Some r
there None r some fits = cc
there (Some given) r some fits = ap (λ x. Some x) fits

all_there : (c : Config) (s : State) (es : List Entry) → AllZip FitsReply es (replies c s (events_in es)) → AreAnswered es → map (λ (e : Entry). e.reply) es ≡ map Some (replies c s (events_in es))
all_there c s [] agree answered = refl
all_there c s (e ∷ es) agree answered =
    let first = there e.reply (step c s e.event).reply (All-head (λ (x : Entry). IsSome x.reply) e es answered) agree.0 in
    let rest = all_there c (step c s e.event).state es agree.1 (All-tail (λ (x : Entry). IsSome x.reply) e es answered) in
    λ i. first i ∷ rest i

pub agreeing_are_histories : AgreeingAreHistories
agreeing_are_histories c entries agree answered = all_there c (opening c) entries agree answered
