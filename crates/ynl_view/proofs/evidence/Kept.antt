-- What is kept as it is, and views and tracks that are one event longer.
use Rattle.std.proofs.Common.{◌≡◌, ℕ, ◌+◌, Bool, true, false, not, ◌&&◌, List, [], ◌∷◌, ◌++◌, map, Option, Some, None, is_some, refl, ap, ◌∙◌}
use mathlib.Core.Bool.{true≢false}
use Rattle.ynl_resource.specs.declared.names.Name.{Name}
use Rattle.ynl_resource.specs.declared.labels.Label.{Label}
use Rattle.ynl_model.specs.Queues.{Config}
use Rattle.ynl_model.specs.declared.nodes.Tracked.{Tracked}
use Rattle.ynl_model.specs.declared.entries.Entry.{Entry}
use Rattle.ynl_model.specs.declared.events.Event.{Event}
use Rattle.ynl_model.specs.declared.events.Event.TheVariants.{Register, Lost, Relabel, Heartbeat, Exited, Submit, Ask, Release, Finish, Stop, Start, Poll, Usage, Propose, Commit, Maximum}
use Rattle.ynl_model.specs.View.{Viewed, kept_if, seen_of, track_step, track_from, with_seen, view_from, events_of, restrict}
use Rattle.std.proofs.lemmas.Bool.{and_parts}
use Rattle.std.proofs.lemmas.List.{map-append}
use Rattle.ynl_view.specs.evidence.Evidence.{Placed, entries_in, events_placed}
use Rattle.ynl_view.specs.evidence.Kept.{is_relabel, is_kept}

-- ---- what is kept as it is

module _ (c : Config) (t : Name) (p : Label) (nodes : List Tracked) where
  by-test : (test : Bool) (event : Event) → (is_some (kept_if test event) && true) ≡ true → kept_if test event ≡ Some event
  by-test true event h = refl
  by-test false event h = absurd (true≢false (let same : false ≡ true = h in cc))

  -- the view keeps this very event
  pub kept-is : (event : Event) → is_kept c t p nodes event ≡ true → seen_of t p c nodes event ≡ Some event
  unfolding seen_of
  kept-is (Register name label size) h = by-test _ (Register name label size) h
  kept-is (Lost name) h = by-test _ (Lost name) h
  kept-is (Relabel name label) h = absurd (true≢false (let no : false ≡ true = (and_parts (is_some (seen_of t p c nodes (Relabel name label))) false h).1 in cc))
  kept-is (Heartbeat name) h = by-test _ (Heartbeat name) h
  kept-is (Exited name id) h = by-test _ (Exited name id) h
  kept-is (Propose name) h = by-test _ (Propose name) h
  kept-is (Commit proposal) h = by-test _ (Commit proposal) h
  kept-is (Submit queue app user label master) h = by-test _ (Submit queue app user label master) h
  kept-is (Ask tenant app label priority count size) h = by-test _ (Ask tenant app label priority count size) h
  kept-is (Release tenant id) h = by-test _ (Release tenant id) h
  kept-is (Finish tenant app) h = by-test _ (Finish tenant app) h
  kept-is (Stop queue) h = by-test _ (Stop queue) h
  kept-is (Start queue) h = by-test _ (Start queue) h
  kept-is (Poll tenant app label) h = by-test _ (Poll tenant app label) h
  kept-is (Usage queue label) h = by-test _ (Usage queue label) h
  kept-is (Maximum queue label share) h = by-test _ (Maximum queue label share) h

  pub is-kept : (event : Event) → seen_of t p c nodes event ≡ Some event → is_relabel event ≡ false → is_kept c t p nodes event ≡ true
  is-kept event seen other = λ i. is_some (seen i) && not (other i)

-- ---- one event more

pub events-push : (before : List Placed) (x : Placed) → events_placed (before ++ x ∷ []) ≡ events_placed before ++ x.1.event ∷ []
events-push before x = ap (map (λ (e : Entry). e.event)) (map-append (λ (y : Placed). y.1) before (x ∷ [])) ∙ map-append (λ (e : Entry). e.event) (entries_in before) (x.1 ∷ [])

pub track-push : (c : Config) (nodes : List Tracked) (es : List Event) (e : Event) → track_from c nodes (es ++ e ∷ []) ≡ track_step c (track_from c nodes es) e
track-push c nodes [] e = refl
track-push c nodes (x ∷ es) e = track-push c (track_step c nodes x) es e

-- the tenant's own cluster tracks nodes by the same labels
pub step-alone : (c : Config) (t : Name) (nodes : List Tracked) (e : Event) → track_step (restrict c t) nodes e ≡ track_step c nodes e
unfolding track_step
step-alone c t nodes e = refl

pub track-alone : (c : Config) (t : Name) (nodes : List Tracked) (es : List Event) → track_from (restrict c t) nodes es ≡ track_from c nodes es
track-alone c t nodes [] = refl
track-alone c t nodes (e ∷ es) = ap (λ x. track_from (restrict c t) x es) (step-alone c t nodes e) ∙ track-alone c t (track_step c nodes e) es

-- a view goes on with what is seen of one event more
view-seen : (o : Option Event) (place : ℕ) (rest more : List Viewed) (e : Event) → events_of rest ≡ events_of more ++ e ∷ [] → events_of (with_seen place o rest) ≡ events_of (with_seen place o more) ++ e ∷ []
view-seen None place rest more e h = h
view-seen (Some event) place rest more e h = ap (λ es. event ∷ es) h

last-seen : (o : Option Event) (place : ℕ) (e : Event) → o ≡ Some e → events_of (with_seen place o []) ≡ e ∷ []
last-seen None place e h = cc
last-seen (Some event) place e h = let same : event ≡ e = cc in ap (λ x. x ∷ []) same

pub view-push : (t : Name) (p : Label) (c : Config) (place : ℕ) (nodes : List Tracked) (es : List Event) (e : Event) → seen_of t p c (track_from c nodes es) e ≡ Some e
    → events_of (view_from t p c place nodes (es ++ e ∷ [])) ≡ events_of (view_from t p c place nodes es) ++ e ∷ []
view-push t p c place nodes [] e seen = last-seen (seen_of t p c nodes e) place e seen
view-push t p c place nodes (x ∷ es) e seen =
    view-seen (seen_of t p c nodes x) place (view_from t p c (place + 1) (track_step c nodes x) (es ++ e ∷ [])) (view_from t p c (place + 1) (track_step c nodes x) es) e (view-push t p c (place + 1) (track_step c nodes x) es e seen)
