-- The audit of evidence, one entry after another.
use Rattle.std.proofs.Common.{◌≡◌, ℕ, ◌+◌, ◌<◌, Bool, true, false, ◌&&◌, List, [], ◌∷◌, ◌++◌, length, get_or, take, drop, Option, Some, None, Ok, Err, refl, sym, ap, ◌∙◌, arith, length-take}
use Rattle.std.specs.Prelude.{nat_lt}
use Rattle.std.proofs.lemmas.Bool.Decides.{nat_tests}
use Rattle.std.proofs.lemmas.List.{drop_more, take_more, map-append}
use Rattle.std.proofs.lemmas.List.Folds.{list_all-append}
use Rattle.ynl_resource.specs.declared.names.Name.{Name}
use Rattle.ynl_resource.specs.declared.labels.Label.{Label}
use Rattle.ynl_model.specs.declared.replies.Reply.{Reply}
use Rattle.ynl_model.specs.Queues.{Config}
use Rattle.ynl_model.specs.Events.{step}
use Rattle.ynl_model.specs.View.{track, track_step, restrict}
use Rattle.ynl_core.specs.World.{World, Answers, stepped}
use Rattle.ynl_model.specs.Cluster.{opening}
use Rattle.ynl_journal.specs.Journal.{replayed}
use Rattle.ynl_journal.specs.Same.{fits_reply}
use Rattle.ynl_journal.proofs.Longer.{known_reply, replayed_push}
use Rattle.ynl_view.specs.declared.evidence.flaws.Flaw.{Flaw}
use Rattle.ynl_view.specs.declared.evidence.trial.Trial.{Trial}
use Rattle.ynl_view.specs.evidence.Evidence.{Placed, entries_in, events_placed}
use Rattle.ynl_view.specs.evidence.Flaws.{comes_behind, may_follow, reply_alone, taken, unless_flawed, flaw_from, flaw_of}
use Rattle.ynl_view.specs.evidence.Kept.{is_kept}
use Rattle.ynl_view.specs.evidence.Trials.{is_behind, IsTrialOf}
use Rattle.ynl_view.proofs.evidence.Kept.{events-push, track-push}
use Rattle.ynl_view.proofs.evidence.Passing.{takes}

module _ (c : Config) (t : Name) (p : Label) (before : List Placed) (old : Trial) (x : Placed) (is : IsTrialOf c t before old) where
  -- ---- what is found of the next entry

  may-follow : is_behind old.last x.0 ≡ true → (b : Bool) → is_kept c t p old.track x.1.event ≡ b → may_follow c t p before x ≡ b
  may-follow on b kept = let yes : comes_behind before x.0 ≡ true = is.last x.0 ∙ on in λ i. yes i && (ap (λ nodes. is_kept c t p nodes x.1.event) (sym is.track) ∙ kept) i

  -- what was compared is the reply of the tenant's own cluster
  compared : (new : World) (r : Reply) → Answers old.core x.1.event new r → r ≡ reply_alone c t before x.1.event
  compared new r told = known_reply (restrict c t) (opening (restrict c t)) (entries_in before) old.core new x.1.event r is.core told

  pub taken-next : is_behind old.last x.0 ≡ true → is_kept c t p old.track x.1.event ≡ true → (new : World) (r : Reply) → Answers old.core x.1.event new r → fits_reply x.1 r ≡ true → taken c t p before x ≡ Ok (before ++ x ∷ [])
  taken-next on kept new r told fits = takes c t p before x (may-follow on true kept) (ap (fits_reply x.1) (sym (compared new r told)) ∙ fits)

  -- ---- after it

  -- a place behind the last one is behind all
  behind-both : (o : Option ℕ) (place last : ℕ) → is_behind o last ≡ true → (is_behind o place && (nat_lt last place && true)) ≡ nat_lt last place
  behind-both None place last on = go (nat_lt last place)
    where
      go : (b : Bool) → (true && (b && true)) ≡ b
      go true = refl
      go false = refl
  behind-both (Some first) place last on = grind (arith, nat_tests)

  pub trial-push : is_behind old.last x.0 ≡ true → (new : Trial) (r : Reply) → Answers old.core x.1.event new.core r → new.track ≡ track_step c old.track x.1.event → new.last ≡ Some x.0 → IsTrialOf c t (before ++ x ∷ []) new
  trial-push on new r told step last = record {
    core = told.left ∙ ap (λ (w : World). stepped w x.1.event) is.core ∙ sym (replayed_push (restrict c t) (opening (restrict c t)) (entries_in before) x.1) ∙ ap (replayed (restrict c t)) (sym (map-append (λ (y : Placed). y.1) before (x ∷ [])));
    track = step ∙ ap (λ nodes. track_step c nodes x.1.event) is.track ∙ sym (track-push c [] (events_placed before) x.1.event) ∙ ap (track c) (sym (events-push before x));
    last = λ place.
        list_all-append (λ (y : Placed). nat_lt y.0 place) before (x ∷ [])
        ∙ (λ i. is.last place i && (nat_lt x.0 place && true)) ∙ behind-both old.last place x.0 on ∙ ap (λ o. is_behind o place) (sym last);
  }

-- ---- all entries

module _ (c : Config) (t : Name) (p : Label) (placed : List Placed) (i : ℕ) (x : Placed) (inside : i < length placed) (at : x ≡ get_or placed i x) where
  rest-is : drop i placed ≡ x ∷ drop (i + 1) placed
  rest-is = drop_more placed i x inside ∙ ap (λ y. y ∷ drop (i + 1) placed) (sym at)

  pub more-is : take (i + 1) placed ≡ take i placed ++ x ∷ []
  more-is = take_more placed i x inside ∙ ap (λ y. take i placed ++ y ∷ []) (sym at)

  -- the entry was taken
  pub flaw-on : flaw_of c t p placed ≡ flaw_from c t p (take i placed) (drop i placed) → taken c t p (take i placed) x ≡ Ok (take i placed ++ x ∷ []) → flaw_of c t p placed ≡ flaw_from c t p (take (i + 1) placed) (drop (i + 1) placed)
  flaw-on so_far ok =
      so_far ∙ ap (flaw_from c t p (take i placed)) rest-is
      ∙ ap (unless_flawed (λ more. flaw_from c t p more (drop (i + 1) placed)) (length (take i placed) + 1)) ok
      ∙ ap (λ more. flaw_from c t p more (drop (i + 1) placed)) (sym more-is)

  -- it has a flaw
  pub flaw-here : (flaw : Flaw) → flaw_of c t p placed ≡ flaw_from c t p (take i placed) (drop i placed) → taken c t p (take i placed) x ≡ Err flaw → flaw_of c t p placed ≡ Some (i + 1, flaw)
  flaw-here flaw so_far err =
      let n : length (take i placed) ≡ i = omega (arith, length-take i placed) in
      so_far ∙ ap (flaw_from c t p (take i placed)) rest-is
      ∙ ap (unless_flawed (λ more. flaw_from c t p more (drop (i + 1) placed)) (length (take i placed) + 1)) err
      ∙ ap (λ k. Some (k + 1, flaw)) n
