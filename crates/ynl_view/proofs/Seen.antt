-- One more event of a view.
use Rattle.std.proofs.Common.{◌≡◌, ℕ, suc, ◌+◌, ◌<◌, Option, Some, None, List, [], ◌∷◌, ◌++◌, length, get_or, drop, map, sym, ap, ◌∙◌, append_assoc, add-one, drop-cons}
use Rattle.ynl_resource.specs.declared.names.Name.{Name}
use Rattle.ynl_resource.specs.declared.labels.Label.{Label}
use Rattle.ynl_model.specs.Queues.{Config}
use Rattle.ynl_model.specs.declared.events.Event.{Event}
use Rattle.ynl_model.specs.View.{Viewed, seen_of, track_step, with_seen, view_from}
use Rattle.ynl_model.specs.declared.nodes.Tracked.{Tracked}

abbrev viewed : ℕ → Event → Viewed
viewed place event = record { place = place; event = event }

-- the view of the events from a place on, by the event that stands there
pub view_more : (t : Name) (p : Label) (c : Config) (i : ℕ) (nodes next : List Tracked) (events : List Event) (event : Event)
    → i < length events → event ≡ get_or events i event → next ≡ track_step c nodes event
    → view_from t p c i nodes (drop i events) ≡ with_seen i (seen_of t p c nodes event) (view_from t p c (i + 1) next (drop (i + 1) events))
view_more t p c i nodes next events event inside is step =
    let more : drop i events ≡ event ∷ drop (i + 1) events = rw add-one (drop-cons events i event inside ∙ ap (λ e. e ∷ drop (suc i) events) (sym is)) in
    ap (view_from t p c i nodes) more
    ∙ ap (λ track. with_seen i (seen_of t p c nodes event) (view_from t p c (i + 1) track (drop (i + 1) events))) (sym step)

-- an event that is seen comes last
pub seen_last : {X : Type 0} (f : Viewed → X) (place : ℕ) (event : Event) (found : Option Event) (now rest : List Viewed) (xs ys all : List X)
    → found ≡ Some event → now ≡ with_seen place found rest → ys ≡ xs ++ f (viewed place event) ∷ []
    → xs ++ map f now ≡ all → ys ++ map f rest ≡ all
seen_last f place event found now rest xs ys all is more new so_far =
    ap (λ zs. zs ++ map f rest) new ∙ append_assoc xs (f (viewed place event) ∷ []) (map f rest)
    ∙ sym (ap (λ seen. xs ++ map f seen) (more ∙ ap (λ e. with_seen place e rest) is)) ∙ so_far

-- an event that is not seen leaves what there is
pub seen_none : {X : Type 0} (f : Viewed → X) (place : ℕ) (found : Option Event) (now rest : List Viewed) (xs ys all : List X)
    → found ≡ None → now ≡ with_seen place found rest → ys ≡ xs → xs ++ map f now ≡ all → ys ++ map f rest ≡ all
seen_none f place found now rest xs ys all is more same so_far =
    ap (λ zs. zs ++ map f rest) same ∙ sym (ap (λ seen. xs ++ map f seen) (more ∙ ap (λ e. with_seen place e rest) is)) ∙ so_far
