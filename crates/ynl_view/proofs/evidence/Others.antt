-- Whose events stand in evidence.
use Rattle.std.proofs.Common.{◌≡◌, ℕ, ◌+◌, Bool, true, false, cond, not, ◌&&◌, List, [], ◌∷◌, ◌++◌, length, take, Option, Some, None, refl, sym, ap, subst, ◌∙◌, append_assoc, append-nil, length-append}
use Rattle.std.specs.Prelude.{All}
use Rattle.std.specs.Option.{option_map_or}
use Rattle.std.proofs.lemmas.Bool.{and_parts}
use Rattle.std.proofs.lemmas.List.{take_at}
use Rattle.std.proofs.lemmas.List.Elements.{All-nil, All-cons}
use mathlib.Core.Bool.{true≢false}
use Rattle.ynl_resource.specs.Names.{same_name, same_label, top_level, is_within}
use Rattle.ynl_resource.specs.declared.names.Name.{Name}
use Rattle.ynl_resource.specs.declared.labels.Label.{Label}
use Rattle.ynl_model.specs.declared.entries.Entry.{Entry}
use Rattle.ynl_model.specs.declared.events.Event.{Event}
use Rattle.ynl_model.specs.declared.events.Event.TheVariants.{Register, Lost, Relabel, Heartbeat, Exited, Submit, Ask, Release, Finish, Stop, Start, Poll, Usage, Propose, Commit, Maximum}
use Rattle.ynl_model.specs.declared.nodes.Tracked.{Tracked}
use Rattle.ynl_model.specs.declared.replies.Reply.{Reply}
use Rattle.ynl_model.specs.Queues.{Config}
use Rattle.ynl_model.specs.View.{tracked, is_in, relabels, kept_if, seen_of, track, track_step}
use Rattle.ynl_journal.specs.Journal.{entry, events_in}
use Rattle.ynl_view.specs.evidence.Evidence.{Placed, events_placed, noted, evidence_from}
use Rattle.ynl_view.specs.evidence.Flaws.{comes_behind, flaw_from}
use Rattle.ynl_view.specs.evidence.Kept.{is_kept}
use Rattle.ynl_view.specs.evidence.Promises.{is_of_another, IsOwn, HasNoOthers, HandsNoOthers}
use Rattle.ynl_view.proofs.evidence.Kept.{kept-is, track-push}
use Rattle.ynl_view.proofs.evidence.Right.{passed}
use Rattle.ynl_view.proofs.evidence.Gathered.{gathered}

module _ (t : Name) (p : Label) (c : Config) (nodes : List Tracked) where
  -- an event that names no other tenant
  nobody : (event : Event) → is_of_another t event ≡ false → IsOwn t p nodes event
  nobody event none h = absurd (true≢false (sym h ∙ none))

  -- what is kept if a test holds
  by-test : (test : Bool) (event seen : Event) → kept_if test event ≡ Some seen → (test ≡ true → IsOwn t p nodes event) → IsOwn t p nodes seen
  by-test true event seen is own = let same : event ≡ seen = cc in subst (λ e. IsOwn t p nodes e) same (own refl)
  by-test false event seen is own = absurd (cc)

  -- what comes of a Relabel names nobody
  from-relabel : (b d i : Bool) (o : Option Tracked) (name : Name) (seen : Event) → cond b (cond d (option_map_or (λ found. Some (Register name p found.size)) o None) (kept_if i (Lost name))) None ≡ Some seen → is_of_another t seen ≡ false
  from-relabel true true i None name seen is = absurd (cc)
  from-relabel true true i (Some found) name seen is = let same : Register name p found.size ≡ seen = cc in ap (is_of_another t) (sym same)
  from-relabel true false true o name seen is = let same : Lost name ≡ seen = cc in ap (is_of_another t) (sym same)
  from-relabel true false false o name seen is = absurd (cc)
  from-relabel false d i o name seen is = absurd (cc)

  pub own : (event seen : Event) → seen_of t p c nodes event ≡ Some seen → IsOwn t p nodes seen
  unfolding seen_of
  own (Submit queue app user label master) seen is = by-test (is_within (top_level t) queue) (Submit queue app user label master) seen is (λ e. nobody (Submit queue app user label master) (ap not e))
  own (Stop queue) seen is = by-test (is_within (top_level t) queue) (Stop queue) seen is (λ e. nobody (Stop queue) (ap not e))
  own (Start queue) seen is = by-test (is_within (top_level t) queue) (Start queue) seen is (λ e. nobody (Start queue) (ap not e))
  own (Finish tenant app) seen is = by-test (same_name tenant t) (Finish tenant app) seen is (λ e. nobody (Finish tenant app) (ap not e))
  own (Ask tenant app label priority count size) seen is = by-test (same_name tenant t && same_label label p) (Ask tenant app label priority count size) seen is
      (λ e. nobody (Ask tenant app label priority count size) (ap not (and_parts (same_name tenant t) (same_label label p) e).0))
  own (Poll tenant app label) seen is = by-test (same_name tenant t && same_label label p) (Poll tenant app label) seen is (λ e. nobody (Poll tenant app label) (ap not (and_parts (same_name tenant t) (same_label label p) e).0))
  own (Usage queue label) seen is = by-test (same_label label p && is_within (top_level t) queue) (Usage queue label) seen is (λ e. nobody (Usage queue label) (ap not (and_parts (same_label label p) (is_within (top_level t) queue) e).1))
  own (Release tenant id) seen is = by-test (same_name tenant t && same_label id.label p) (Release tenant id) seen is (λ e. nobody (Release tenant id) (ap not (and_parts (same_name tenant t) (same_label id.label p) e).0))
  own (Maximum queue label share) seen is = by-test (same_label label p && is_within (top_level t) queue) (Maximum queue label share) seen is
      (λ e. nobody (Maximum queue label share) (ap not (and_parts (same_label label p) (is_within (top_level t) queue) e).1))
  own (Commit proposal) seen is = by-test (is_in nodes proposal.node p) (Commit proposal) seen is (λ e h. e)
  own (Heartbeat name) seen is = by-test (is_in nodes name p) (Heartbeat name) seen is (λ e. nobody (Heartbeat name) refl)
  own (Exited name id) seen is = by-test (is_in nodes name p) (Exited name id) seen is (λ e. nobody (Exited name id) refl)
  own (Propose name) seen is = by-test (is_in nodes name p) (Propose name) seen is (λ e. nobody (Propose name) refl)
  own (Lost name) seen is = by-test (is_in nodes name p) (Lost name) seen is (λ e. nobody (Lost name) refl)
  own (Register name label size) seen is = by-test _ (Register name label size) seen is (λ e. nobody (Register name label size) refl)
  own (Relabel name label) seen is = nobody seen (from-relabel (relabels c nodes name label) (same_label label p) (is_in nodes name p) (tracked nodes name) name seen is)

-- ---- evidence without a flaw

follows-there : (c : Config) (t : Name) (p : Label) (done before after : List Placed) (x : Placed) → flaw_from c t p done (before ++ (x ∷ after)) ≡ None → is_kept c t p (track c (events_placed (done ++ before))) x.1.event ≡ true
follows-there c t p done [] after x h =
    let q = passed c t p done x (λ more. flaw_from c t p more after) (length done + 1) h in
    ap (λ xs. is_kept c t p (track c (events_placed xs)) x.1.event) (append-nil done) ∙ (and_parts (comes_behind done x.0) (is_kept c t p (track c (events_placed done)) x.1.event) q.follows).1
follows-there c t p done (y ∷ before) after x h =
    let q = passed c t p done y (λ more. flaw_from c t p more (before ++ (x ∷ after))) (length done + 1) h in
    ap (λ xs. is_kept c t p (track c (events_placed xs)) x.1.event) (sym (append_assoc done (y ∷ []) before)) ∙ follows-there c t p (done ++ y ∷ []) before after x q.more

pub has_no_others : HasNoOthers
has_no_others c t p before after x h =
    let nodes = track c (events_placed before) in
    own t p c nodes x.1.event x.1.event (kept-is c t p nodes x.1.event (follows-there c t p [] before after x h))

-- ---- the evidence of any journal

module _ (c : Config) (t : Name) (p : Label) where
  abbrev OwnIn : List Event → Placed → Type 0
  OwnIn all x = IsOwn t p (track c (take x.0 all)) x.1.event

  abbrev Hands : List Event → ℕ → List Tracked → List Entry → Type 0
  Hands all place nodes es = All (λ (x : Placed). OwnIn all x) (evidence_from t p c place nodes es)

  noted-own : (all : List Event) (place : ℕ) (o : Option Event) (reply : Option Reply) (rest : List Placed) → ((seen : Event) → o ≡ Some seen → IsOwn t p (track c (take place all)) seen)
      → All (λ (x : Placed). OwnIn all x) rest → All (λ (x : Placed). OwnIn all x) (noted place o reply ++ rest)
  noted-own all place None reply rest is more = more
  noted-own all place (Some seen) reply rest is more = All-cons (λ (x : Placed). OwnIn all x) (place, entry seen reply) rest (is seen refl) more

  hands : (done : List Event) (es : List Entry) → Hands (done ++ events_in es) (length done) (track c done) es
  hands done [] = All-nil (λ (x : Placed). OwnIn (done ++ []) x)
  hands done (e ∷ es) =
      let all = done ++ (e.event ∷ events_in es) in
      noted-own all (length done) (seen_of t p c (track c done) e.event) e.reply (evidence_from t p c (length done + 1) (track_step c (track c done) e.event) es)
      (λ seen is. subst (λ xs. IsOwn t p (track c xs) seen) (sym (take_at done (e.event ∷ events_in es) (length done) refl)) (own t p c (track c done) e.event seen is))
      (go _ _ _ _ _ _ (append_assoc done (e.event ∷ []) (events_in es)) (length-append done (e.event ∷ [])) (track-push c [] done e.event) (hands (done ++ e.event ∷ []) es))
    where
      go : (all more : List Event) (n k : ℕ) (nodes next : List Tracked) → all ≡ more → n ≡ k → nodes ≡ next → Hands all n nodes es → Hands more k next es
      go all more n k nodes next same at step h =
          subst (λ (x : List Event). Hands x k next es) same (subst (λ (x : ℕ). Hands all x next es) at (subst (λ (x : List Tracked). Hands all n x es) step h))

pub hands_no_others : HandsNoOthers
hands_no_others c entries t p = subst (All (λ (x : Placed). OwnIn c t p (events_in entries) x)) (sym (gathered c entries t p)) (hands c t p [] entries)
