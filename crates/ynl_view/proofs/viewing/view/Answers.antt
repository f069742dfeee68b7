use Rattle.std.proofs.Common.{◌≡◌, ℕ, ◌+◌, ◌<◌, Option, Some, None, List, length, drop, All, sym, subst, ap, ◌∙◌}
use Rattle.ynl_model.specs.declared.events.Event.{Event}
use Rattle.ynl_model.specs.View.{Viewed, seen_of, with_seen, view, view_from, events_of, places_of}
use Rattle.std.proofs.lemmas.List.Elements.{All-push}
use Rattle.ynl_view.proofs.Seen.{view_more, seen_last, seen_none}
use Rattle.ynl_view.proofs.viewing.view.Goals as goal
use Rattle.ynl_view.proofs.viewing.view.Goals.{in-Some+in_ok-push+in_ok-push-2, in_default}

pub loop-i-preserved : goal.loop-i-preserved
loop-i-preserved c =
    let t = c.args.tenant.now in
    let p = c.args.label.now in
    let config = c.args.config.now in
    let events : List Event = c.args.events.now in
    let i = c.loop-i.i in
    let is_place : ℕ → Type 0 = λ place. place < length events in
    let found : Option Event = seen_of t p config c.loop-i.track c.index-events-i.result in
    let now : List Viewed = view_from t p config i c.loop-i.track (drop i events) in
    let rest : List Viewed = view_from t p config (i + 1) c.see.new.track (drop (i + 1) events) in
    let all : List Viewed = view config events t p in
    let more : now ≡ with_seen i found rest =
    view_more t p config i c.loop-i.track c.see.new.track events c.index-events-i.result c.loop-i-test.true c.index-events-i.is c.in_ok-event.ensures.track in
    elim c.match-branch-2.branch [
      | in-Some+in_ok-push+in_ok-push-2 w ↦
          let is : found ≡ Some w.in-Some.event = sym c.in_ok-event.ensures.seen ∙ w.in-Some.is in
          record {
            events = seen_last (λ v. v.event) i w.in-Some.event found now rest c.loop-i.seen.items c.match-branch-2.seen.items (events_of all) is more (ap (λ v. v.items) w.seen-is ∙ w.in_ok-push.ensures.items) c.loop-i.invariant.events;
            places = seen_last (λ v. v.place) i w.in-Some.event found now rest c.loop-i.places.items c.match-branch-2.places.items (places_of all) is more (ap (λ v. v.items) w.places-is ∙ w.in_ok-push-2.ensures.items) c.loop-i.invariant.places;
            within = subst (All is_place) (sym (ap (λ v. v.items) w.places-is ∙ w.in_ok-push-2.ensures.items)) (All-push is_place c.loop-i.places.items i c.loop-i.invariant.within c.loop-i-test.true);
          }
      | in_default w ↦
          let is : found ≡ None = sym c.in_ok-event.ensures.seen ∙ w.in_default.is in
          record {
            events = seen_none (λ v. v.event) i found now rest c.loop-i.seen.items c.match-branch-2.seen.items (events_of all) is more (ap (λ v. v.items) w.seen-is) c.loop-i.invariant.events;
            places = seen_none (λ v. v.place) i found now rest c.loop-i.places.items c.match-branch-2.places.items (places_of all) is more (ap (λ v. v.items) w.places-is) c.loop-i.invariant.places;
            within = subst (All is_place) (sym (ap (λ v. v.items) w.places-is)) c.loop-i.invariant.within;
          }
    ]
