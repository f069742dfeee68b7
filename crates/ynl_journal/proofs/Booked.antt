-- The entries of the events that a book keeps.
use Rattle.std.proofs.Common.{◌≡◌, Bool, true, false, suc, List, [], ◌∷◌, ◌++◌, length, Option, refl, sym, ap, subst, ◌∙◌, arith}
use Rattle.std.proofs.lemmas.List.{length-append}
use Rattle.ynl_model.specs.declared.events.Event.{Event}
use Rattle.ynl_model.specs.declared.replies.Reply.{Reply}
use Rattle.ynl_model.specs.declared.replies.Reply.TheVariants.{Done, Refused, Placed, Proposed, Committed, Held, Usage}
use Rattle.ynl_model.specs.declared.entries.Entry.{Entry}
use Rattle.ynl_model.specs.Queues.{Config}
use Rattle.ynl_model.specs.Cluster.{State}
use Rattle.ynl_model.specs.Events.{step, after}
use Rattle.ynl_core.proofs.RunMore.{state_push}
use Rattle.ynl_core.specs.World.{World, Answers, stepped}
use Rattle.ynl_core.specs.Sightings.{reply_by, reply_before}
use Rattle.ynl_core.specs.declared.sightings.Sighted.{Sighted}
use Rattle.ynl_core.specs.declared.sightings.Sighted.TheVariants.{Refused as NotSeen, Seen}
use Rattle.ynl_journal.specs.Journal.{Journal, entry, events_in, replayed_from, FitsReply, AgreesFrom}
use Rattle.ynl_journal.specs.BookFields.{written, entries_from}

-- their events are those that are kept
pub events_from : (c : Config) (s : State) (events : List Event) (planned : List Bool) → length planned ≡ length events → events_in (entries_from c s events planned) ≡ events
events_from c s [] planned same = refl
events_from c s (e ∷ es) [] same = absurd (omega (arith, same))
events_from c s (e ∷ es) (p ∷ ps) same = ap (λ (rest : List Event). e ∷ rest) (events_from c (step c s e).state es ps (omega (arith, same)))

-- the entries of one event more
push_from : (c : Config) (s : State) (events : List Event) (planned : List Bool) (e : Event) (p : Bool) → length planned ≡ length events →
    entries_from c s (events ++ e ∷ []) (planned ++ p ∷ []) ≡ entries_from c s events planned ++ entry e (written p (step c (after c s events) e).reply) ∷ []
push_from c s [] [] e p same = refl
push_from c s [] (q ∷ ps) e p same = absurd (omega (arith, same))
push_from c s (x ∷ es) [] e p same = absurd (omega (arith, same))
push_from c s (x ∷ es) (q ∷ ps) e p same =
    ap (λ (rest : List Entry). entry x (written q (step c s x).reply) ∷ rest) (push_from c (step c s x).state es ps e p (omega (arith, same)))

written_fits : (e : Event) (p : Bool) (r : Reply) → FitsReply (entry e (written p r)) r
written_fits e false r = refl
written_fits e true Done = tt
written_fits e true (Refused refusal) = refl
written_fits e true (Placed containers) = tt
written_fits e true (Proposed found) = tt
written_fits e true (Committed container) = tt
written_fits e true (Held containers asks) = tt
written_fits e true (Usage used guaranteed maximum masters guests) = tt

-- each reply that is written down is the cluster's
pub agree_from : (c : Config) (s : State) (events : List Event) (planned : List Bool) → AgreesFrom c s (entries_from c s events planned)
agree_from c s [] planned = tt
agree_from c s (e ∷ es) [] = tt
agree_from c s (e ∷ es) (p ∷ ps) = (written_fits e p (step c s e).reply, agree_from c (step c s e).state es ps)

-- what is seen tells what is written down before the reply is worked out
pub written_before : (sighted : Sighted) → written true (reply_by sighted) ≡ reply_before sighted
written_before (NotSeen refusal) = refl
written_before (Seen seen) = refl

pub len_from : (c : Config) (s : State) (events : List Event) (planned : List Bool) → length planned ≡ length events → length (entries_from c s events planned) ≡ length events
len_from c s [] planned same = refl
len_from c s (e ∷ es) [] same = absurd (omega (arith, same))
len_from c s (e ∷ es) (p ∷ ps) same = ap suc (len_from c (step c s e).state es ps (omega (arith, same)))

-- ---- a book with one event more

abbrev pub journal : Config → State → List Entry → Journal
journal c s entries = record { config = c; begun = s; entries = entries }

-- the cluster has the configuration of the start still
pub config_grown : (w old new : World) (event : Event) (r : Reply) → w.config ≡ old.config → Answers old event new r → w.config ≡ new.config
config_grown w old new event r same step_is = same ∙ sym (ap (λ (w : World). w.config) step_is.left)

module _ (s : State) (old new : World) (es : List Event) (event : Event) (r : Reply) (is : old.state ≡ after old.config s es) (step_is : Answers old event new r) where
  -- the cluster that the events lead to, after one more
  pub state_grown : (longer : List Event) → longer ≡ es ++ event ∷ [] → new.state ≡ after new.config s longer
  state_grown longer more =
      let P : World → Type 0 = λ w. w.state ≡ after w.config s longer in
      let known : (stepped old event).state ≡ after old.config s (es ++ event ∷ []) =
      ap (λ (t : State). (step old.config t event).state) is ∙ sym (state_push old.config s es event) in
      subst P (sym step_is.left) (known ∙ ap (after old.config s) (sym more))

  -- the reply is the one that the entries tell
  pub reply_known : (ps : List Bool) → length ps ≡ length es → r ≡ (step old.config (after old.config s (events_in (entries_from old.config s es ps))) event).reply
  reply_known ps same =
      step_is.told ∙ ap (λ (t : State). (step old.config t event).reply) (is ∙ ap (after old.config s) (sym (events_from old.config s es ps same)))

  -- the journal has one entry more
  pub entry_grown : (longer : List Event) (ps more : List Bool) (p : Bool) (o : Option Reply) → length ps ≡ length es → longer ≡ es ++ event ∷ [] → more ≡ ps ++ p ∷ [] → written p r ≡ o →
      journal new.config s (entries_from new.config s longer more) ≡ journal old.config s (entries_from old.config s es ps ++ entry event o ∷ [])
  entry_grown longer ps more p o same longer_is more_is written_is =
      let config : new.config ≡ old.config = ap (λ (w : World). w.config) step_is.left in
      let told : (step old.config (after old.config s es) event).reply ≡ r = sym (step_is.told ∙ ap (λ (t : State). (step old.config t event).reply) is) in
      (λ i. journal (config i) s (entries_from (config i) s (longer_is i) (more_is i)))
      ∙ ap (journal old.config s) (push_from old.config s es ps event p same ∙ ap (λ (w : Option Reply). entries_from old.config s es ps ++ entry event w ∷ []) (ap (written p) told ∙ written_is))

pub counted_grown : (es longer : List Event) (ps more : List Bool) (event : Event) (p : Bool) → length ps ≡ length es → longer ≡ es ++ event ∷ [] → more ≡ ps ++ p ∷ [] → length more ≡ length longer
counted_grown es longer ps more event p same longer_is more_is =
    rw (longer_is, more_is) (omega (arith, length-append ps (p ∷ []), length-append es (event ∷ []), same))

-- the cluster is the one that the entries lead to
pub world_known : (s : State) (old : World) (es : List Event) (ps : List Bool) → length ps ≡ length es → old.state ≡ after old.config s es → old ≡ replayed_from old.config s (entries_from old.config s es ps)
world_known s old es ps same is =
    let state : old.state ≡ after old.config s (events_in (entries_from old.config s es ps)) = is ∙ ap (after old.config s) (sym (events_from old.config s es ps same)) in
    λ i. record { config = old.config; state = state i }
