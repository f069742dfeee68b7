-- From one event to every list of events: a tenant that alone may use an exclusive partition is isolated there.
use Rattle.std.proofs.Common.{◌≡◌, ℕ, ◌+◌, List, [], ◌∷◌, ◌++◌, map, length, take, Option, Some, None, filter, refl, sym, ap, subst, ◌∙◌, append_assoc, length-append}
use Rattle.std.specs.Prelude.{slice_get}
use Rattle.ynl_resource.specs.Names.{same_label}
use Rattle.ynl_resource.specs.declared.names.Name.{Name}
use Rattle.ynl_resource.specs.declared.labels.Label.{Label}
use Rattle.ynl_model.specs.Queues.{Config}
use Rattle.ynl_model.specs.Cluster.{State, opening}
use Rattle.ynl_model.specs.Events.{step, after, replies}
use Rattle.ynl_model.specs.declared.events.Event.{Event}
use Rattle.ynl_model.specs.declared.replies.Reply.{Reply}
use Rattle.ynl_model.specs.View.{track_step, seen_of, Viewed, with_seen, view_from, events_of, places_of, restrict, seen}
use Rattle.ynl_model.specs.declared.nodes.Tracked.{Tracked}
use Rattle.ynl_model.specs.Promises.{HasSameReplies, LooksTheSame, IsIsolated}
use Rattle.ynl_laws.specs.Working.{places}
use Rattle.ynl_laws.proofs.Soundness.Tracked.{step-is}
use Rattle.ynl_laws.proofs.Limits.Within.{is_never_over}
use Rattle.ynl_laws.proofs.Isolating.Mirrored.{Mirrors, on-same, clock-same}
use Rattle.ynl_laws.proofs.Isolating.OwnOpening.{mirrors-opening}
use Rattle.ynl_laws.proofs.Isolating.Alone.{Alone, alone}
use Rattle.ynl_laws.proofs.Isolating.Firm.{Firm, firm-opening, firm-step}
use Rattle.ynl_laws.proofs.Isolating.Follows.{Follows}
use Rattle.ynl_laws.proofs.Isolating.FollowsEvents.{follows}
use Rattle.ynl_laws.proofs.Lists.{filter-filter}

module _ (c : Config) (t : Name) (p : Label) (a : Alone c t p) where
  abbrev d : Config
  d = restrict c t

  -- ---- states

  state-kept : (s u : State) (event : Event) (events : List Event) (place : ℕ) (rest : List Viewed) (o : Option Event) → Follows c t p s u event o →
      ((v : State) → Mirrors t p (step c s event).state v → Mirrors t p (after c (step c s event).state events) (after d v (events_of rest))) →
      Mirrors t p (after c s (event ∷ events)) (after d u (events_of (with_seen place o rest)))
  state-kept s u event events place rest None h more = more u h
  state-kept s u event events place rest (Some viewed) h more = more (step d u viewed).state h.0

  -- after any events the tenant's own cluster is what the whole one is to the tenant
  mirrored : (events : List Event) (place : ℕ) (s u : State) → Firm c s → Mirrors t p s u → Mirrors t p (after c s events) (after d u (events_of (view_from t p c place (places s) events)))
  mirrored [] place s u firm m = m
  mirrored (event ∷ events) place s u firm m = state-kept s u event events place (view_from t p c (place + 1) (track_step c (places s) event) events) (seen_of t p c (places s) event) (follows c t p a s u firm m event)
      (λ v h. subst (λ nodes. Mirrors t p (after c (step c s event).state events) (after d v (events_of (view_from t p c (place + 1) nodes events)))) (step-is c s event)
      (mirrored events (place + 1) (step c s event).state v (firm-step c s event firm) h))

  -- ---- replies

  reply-at : (before : List Reply) (reply : Reply) (more : List Reply) → slice_get (before ++ (reply ∷ more)) (length before) ≡ Some reply
  reply-at [] reply more = refl
  reply-at (first ∷ before) reply more = reply-at before reply more

  reply-kept : (s u : State) (event : Event) (all : List Reply) (place : ℕ) (rest : List Viewed) (o : Option Event) → Follows c t p s u event o → slice_get all place ≡ Some (step c s event).reply →
      ((v : State) → Mirrors t p (step c s event).state v → map (slice_get all) (places_of rest) ≡ map Some (replies d v (events_of rest))) →
      map (slice_get all) (places_of (with_seen place o rest)) ≡ map Some (replies d u (events_of (with_seen place o rest)))
  reply-kept s u event all place rest None h at more = more u h
  reply-kept s u event all place rest (Some viewed) h at more = λ i. (at ∙ ap (λ reply. Some reply) h.1) i ∷ more (step d u viewed).state h.0 i

  -- with the replies before, each place of the view has the reply of the tenant's own cluster
  told : (events : List Event) (before : List Reply) (s u : State) → Firm c s → Mirrors t p s u →
      map (slice_get (before ++ replies c s events)) (places_of (view_from t p c (length before) (places s) events)) ≡ map Some (replies d u (events_of (view_from t p c (length before) (places s) events)))
  told [] before s u firm m = refl
  told (event ∷ events) before s u firm m =
      reply-kept s u event (before ++ replies c s (event ∷ events)) (length before) (view_from t p c (length before + 1) (track_step c (places s) event) events) (seen_of t p c (places s) event) (follows c t p a s u firm m event)
      (reply-at before (step c s event).reply (replies c (step c s event).state events))
      (λ v h. go v (append_assoc before ((step c s event).reply ∷ []) (replies c (step c s event).state events)) (length-append before ((step c s event).reply ∷ [])) (step-is c s event)
      (told events (before ++ (step c s event).reply ∷ []) (step c s event).state v (firm-step c s event firm) h))
    where
      Told : State → List Reply → ℕ → List Tracked → Type 0
      Told v all place nodes = map (slice_get all) (places_of (view_from t p c place nodes events)) ≡ map Some (replies d v (events_of (view_from t p c place nodes events)))

      go : (v : State) {all more : List Reply} {n k : ℕ} {nodes track : List Tracked} → all ≡ more → n ≡ k → nodes ≡ track → Told v all n nodes → Told v more k track
      go v {all} {more} {n} {k} {nodes} {track} e f g h = subst (λ x. Told v x k track) e (subst (λ x. Told v all x track) f (subst (λ x. Told v all n x) g h))

  -- ---- what is seen

  seen-same : (s u : State) → Mirrors t p s u → seen s p ≡ seen u p
  seen-same s u m = λ i. record {
    nodes = sym (ap (filter (λ node. same_label node.label p)) m.nodes ∙ filter-filter (λ node. same_label node.label p) (λ node. same_label node.label p) (λ node e. e) s.nodes) i;
    containers = on-same c t p s u m i;
    clock = clock-same c t p s u m i;
  }

  first : Mirrors t p (opening c) (opening d)
  first = mirrors-opening c t p a.rooted

  pub same-replies : (events : List Event) → HasSameReplies c events t p
  same-replies events = told events [] (opening c) (opening d) (firm-opening c) first

  pub looks-same : (events : List Event) → LooksTheSame c events t p
  looks-same events k within = seen-same _ _ (mirrored (take k events) 0 (opening c) (opening d) (firm-opening c) first)

pub is_isolated : IsIsolated
is_isolated c events t p accepted sole =
    let a : Alone c t p = alone c t p accepted sole in
    record { replies = same-replies c t p a events; containers = looks-same c t p a events; maximum = is_never_over c events p }
