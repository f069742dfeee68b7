-- Of a journal whose replies are the cluster's, the evidence passes its audit.
use Rattle.std.proofs.Common.{◌≡◌, ℕ, ◌+◌, ◌≤◌, true, cond, ◌&&◌, List, [], ◌∷◌, ◌++◌, length, Option, Some, None, Ok, Err, refl, sym, ap, subst, ◌∙◌, arith}
use Rattle.std.specs.Prelude.{nat_lt, IfSome}
use Rattle.std.specs.List.{AllZip}
use Rattle.std.proofs.lemmas.Bool.Decides.{nat_tests}
use Rattle.std.proofs.lemmas.List.Folds.{list_all-append}
use Rattle.ynl_resource.specs.declared.names.Name.{Name}
use Rattle.ynl_resource.specs.declared.labels.Label.{Label}
use Rattle.ynl_model.specs.declared.entries.Entry.{Entry}
use Rattle.ynl_model.specs.declared.events.Event.{Event}
use Rattle.ynl_model.specs.declared.replies.Reply.{Reply}
use Rattle.ynl_model.specs.Queues.{Config}
use Rattle.ynl_model.specs.Cluster.{State, opening}
use Rattle.ynl_model.specs.Events.{step, replies, state_after}
use Rattle.ynl_model.specs.View.{seen_of, track_step, track, restrict}
use Rattle.ynl_laws.specs.Working.{places}
use Rattle.ynl_laws.proofs.Soundness.Tracked.{is_tracked, step-is}
use Rattle.ynl_laws.proofs.Isolating.Alone.{Alone, alone}
use Rattle.ynl_laws.proofs.Isolating.Firm.{Firm, firm-opening, firm-step}
use Rattle.ynl_laws.proofs.Isolating.Follows.{Follows}
use Rattle.ynl_laws.proofs.Isolating.FollowsEvents.{follows}
use Rattle.ynl_laws.proofs.Isolating.Mirrored.{Mirrors}
use Rattle.ynl_laws.proofs.Isolating.OwnOpening.{mirrors-opening}
use Rattle.ynl_core.proofs.RunMore.{state_push}
use Rattle.ynl_journal.specs.Journal.{entry, events_in, FitsReply}
use Rattle.ynl_journal.specs.Same.{fits_reply}
use Rattle.ynl_journal.proofs.Same.{fits_decides}
use Rattle.ynl_view.specs.declared.evidence.flaws.Flaw.TheVariants.{NotKept, Differs}
use Rattle.ynl_view.specs.evidence.Kept.{is_kept}
use Rattle.ynl_view.specs.evidence.Evidence.{Placed, events_placed, noted, evidence_from}
use Rattle.ynl_view.specs.evidence.Flaws.{comes_behind, may_follow, reply_alone, taken, unless_flawed, flaw_from, flaw_of}
use Rattle.ynl_view.specs.evidence.Promises.{EvidencePasses}
use Rattle.ynl_view.proofs.evidence.Again.{Again, again}
use Rattle.ynl_view.proofs.evidence.Kept.{is-kept, events-push, track-alone}
use Rattle.ynl_view.proofs.evidence.Gathered.{gathered}

-- each place before a place, or before the ones behind it, comes before those
abbrev Below : List Placed → ℕ → Type 0
Below before place = (n : ℕ) → place ≤ n → comes_behind before n ≡ true

below-nothing : (place : ℕ) → Below [] place
below-nothing place n h = refl

below-push : (before : List Placed) (place : ℕ) (e : Entry) → Below before place → Below (before ++ (place, e) ∷ []) (place + 1)
below-push before place e below n h =
    let first : comes_behind before n ≡ true = below n (omega arith) in
    let last : nat_lt place n ≡ true = grind (arith, nat_tests) in
    list_all-append (λ (x : Placed). nat_lt x.0 n) before ((place, e) ∷ []) ∙ (λ i. first i && (last i && true))

below-more : (before : List Placed) (place : ℕ) → Below before place → Below before (place + 1)
below-more before place below n h = below n (omega arith)

-- an entry that may follow, with the right reply, is taken
pub takes : (c : Config) (t : Name) (p : Label) (before : List Placed) (x : Placed) → may_follow c t p before x ≡ true → fits_reply x.1 (reply_alone c t before x.1.event) ≡ true → taken c t p before x ≡ Ok (before ++ x ∷ [])
takes c t p before x follow fits = λ i. cond (follow i) (cond (fits i) (Ok (before ++ x ∷ [])) (Err Differs)) (Err NotKept)

-- a reply that fits is the reply of the tenant's own cluster
fits-alone : (o : Option Reply) (event : Event) (r q : Reply) → IfSome o (λ given. given ≡ r) → r ≡ q → fits_reply (entry event o) q ≡ true
fits-alone o event r q fits same = (fits_decides (entry event o) q).1 (subst (λ x. IfSome o (λ given. given ≡ x)) same fits)

module _ (c : Config) (t : Name) (p : Label) (a : Alone c t p) where
  abbrev d : Config
  d = restrict c t

  -- the tenant's own cluster after the events of the entries
  abbrev own : List Placed → State
  own before = state_after d (events_placed before)

  own-push : (before : List Placed) (x : Placed) → own (before ++ x ∷ []) ≡ (step d (own before) x.1.event).state
  own-push before x = ap (state_after d) (events-push before x) ∙ state_push d (opening d) (events_placed before) x.1.event

  tracks-own : (before : List Placed) → track c (events_placed before) ≡ places (own before)
  tracks-own before = sym (track-alone c t [] (events_placed before)) ∙ is_tracked d (events_placed before)

  -- one entry more, by what is seen of it
  next : (place : ℕ) (s : State) (before : List Placed) (e : Entry) (es : List Entry) (firm : Firm c s) (m : Mirrors t p s (own before)) → Below before place → FitsReply e (step c s e.event).reply
      → (o : Option Event) → Follows c t p s (own before) e.event o → Again c t p s (own before) firm m o
      → ((more : List Placed) → Mirrors t p (step c s e.event).state (own more) → Below more (place + 1) → flaw_from c t p more (evidence_from t p c (place + 1) (track_step c (places s) e.event) es) ≡ None)
      → flaw_from c t p before (noted place o e.reply ++ evidence_from t p c (place + 1) (track_step c (places s) e.event) es) ≡ None
  next place s before e es firm m below fits None h kept more = more before h (below-more before place below)
  next place s before e es firm m below fits (Some viewed) h kept more =
      let x : Placed = (place, entry viewed e.reply) in
      let rest = evidence_from t p c (place + 1) (track_step c (places s) e.event) es in
      let seen : seen_of t p c (track c (events_placed before)) viewed ≡ Some viewed = ap (λ nodes. seen_of t p c nodes viewed) (tracks-own before) ∙ kept.0 in
      let is : is_kept c t p (track c (events_placed before)) viewed ≡ true = is-kept c t p (track c (events_placed before)) viewed seen kept.1 in
      let behind : comes_behind before place ≡ true = below place (omega arith) in
      let follow : may_follow c t p before x ≡ true = λ i. behind i && is i in
      let alike : fits_reply x.1 (reply_alone c t before x.1.event) ≡ true = fits-alone e.reply viewed (step c s e.event).reply (reply_alone c t before viewed) fits h.1 in
      ap (unless_flawed (λ found. flaw_from c t p found rest) (length before + 1)) (takes c t p before x follow alike)
      ∙ more (before ++ x ∷ []) (subst (λ u. Mirrors t p (step c s e.event).state u) (sym (own-push before x)) h.0) (below-push before place (entry viewed e.reply) below)

  passes : (es : List Entry) (place : ℕ) (s : State) (before : List Placed) → Firm c s → Mirrors t p s (own before) → Below before place → AllZip FitsReply es (replies c s (events_in es)) → flaw_from c t p before (evidence_from t p c place (places s) es) ≡ None
  passes [] place s before firm m below agrees = refl
  passes (e ∷ es) place s before firm m below agrees =
      next place s before e es firm m below agrees.0 (seen_of t p c (places s) e.event) (follows c t p a s (own before) firm m e.event) (again c t p s (own before) firm m e.event)
      (λ more mirrors far. subst (λ nodes. flaw_from c t p more (evidence_from t p c (place + 1) nodes es) ≡ None) (step-is c s e.event)
      (passes es (place + 1) (step c s e.event).state more (firm-step c s e.event firm) mirrors far agrees.1))

pub evidence_passes : EvidencePasses
evidence_passes c entries t p agrees accepted sole =
    let a : Alone c t p = alone c t p accepted sole in
    ap (flaw_of c t p) (gathered c entries t p)
    ∙ passes c t p a entries 0 (opening c) [] (firm-opening c) (mirrors-opening c t p a.rooted) (below-nothing 0) agrees
