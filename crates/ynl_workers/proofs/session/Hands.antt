-- What the closed journal of a session shows.
use Rattle.std.proofs.Common.{◌≡◌, ℕ, ◌+◌, ◌*◌, refl, sym, ap, ◌∙◌, arith, List, [], ◌∷◌, ◌++◌, cond, Bool, true, false, length, drop, subst, All}
use Rattle.std.specs.Prelude.{map, sum_by, count_by, IsTrue}
use Rattle.std.specs.List.Sorted.{IsPermutation}
use Rattle.std.proofs.lemmas.List.{map-append, append_assoc}
use Rattle.std.proofs.lemmas.List.Sums.{sum_by-cons}
use Rattle.std.proofs.lemmas.List.Sorted.{sum_by-IsPermutation}
use Rattle.std.proofs.lemmas.List.Elements.{All-head, All-tail, All-nil, All-cons, All-append}
use Rattle.ynl_resource.specs.declared.names.Name.{Name}
use Rattle.ynl_resource.specs.Names.{same_name}
use Rattle.ynl_model.specs.declared.events.Event.{Event}
use Rattle.ynl_model.specs.declared.entries.Entry.{Entry}
use Rattle.ynl_model.specs.declared.proposals.Proposal.{Proposal}
use Rattle.ynl_model.specs.Cluster.{opening}
use Rattle.ynl_model.specs.Events.{after}
use Rattle.ynl_model.specs.View.{is_there}
use Rattle.ynl_model.specs.declared.nodes.Tracked.{Tracked}
use Rattle.ynl_core.specs.World.{World}
use Rattle.ynl_laws.specs.Working.{Apart, places}
use Rattle.ynl_journal.specs.Journal.{IsHistoryFrom, events_in, replayed, replayed_from}
use Rattle.ynl_journal.specs.Promises.{ShowsAlone}
use Rattle.ynl_journal.proofs.Joined.{joined, led_on}
use Rattle.ynl_live.specs.declared.receipts.Receipt.{Receipt}
use Rattle.ynl_live.specs.Receipts.{all_receipts, EachOnce, IsAt, ListFits, entry_of}
use Rattle.ynl_live.specs.Alone.{ShowTenantsAloneFrom}
use Rattle.ynl_live.proofs.Sums.{count_alike}
use Rattle.ynl_workers.specs.session.Dealt.{times_in}
use Rattle.ynl_workers.specs.session.Handed.{is_workers, asks, commits, answers, AddsRounds}
use Rattle.ynl_workers.specs.session.Sessions.{nodes_after, nodes_left, IsSession}
use Rattle.ynl_workers.proofs.session.Named.{once}

-- ---- sums

sum_by_mapped : {X Y : Type 0} (f : Y → ℕ) (g : X → Y) (xs : List X) → sum_by f (map g xs) ≡ sum_by (λ x. f (g x)) xs
sum_by_mapped f g [] = refl
sum_by_mapped f g (x ∷ xs) = sum_by-cons f (g x) (map g xs) ∙ ap (λ n. f (g x) + n) (sum_by_mapped f g xs) ∙ sym (sum_by-cons (λ y. f (g y)) x xs)

-- nothing is counted where the test holds of each
none_counted : {X : Type 0} (p : X → Bool) (xs : List X) → All (λ x. IsTrue (p x)) xs → sum_by (λ x. cond (p x) 0 1) xs ≡ 0
none_counted p [] all = refl
none_counted p (x ∷ xs) all =
    let here : cond {A = ℕ} (p x) 0 1 ≡ 0 = one (p x) (All-head (λ x. IsTrue (p x)) x xs all) in
    let rest = none_counted p xs (All-tail (λ x. IsTrue (p x)) x xs all) in
    omega (arith, here, rest, sum_by-cons (λ y. cond (p y) 0 1) x xs)
  where
    one : (b : Bool) → IsTrue b → cond {A = ℕ} b 0 1 ≡ 0
    one true is = refl
    one false is = absurd (cc)

-- and where nothing is counted it holds of each
all_from_none : {X : Type 0} (p : X → Bool) (xs : List X) → sum_by (λ x. cond (p x) 0 1) xs ≡ 0 → All (λ x. IsTrue (p x)) xs
all_from_none p [] none = All-nil (λ x. IsTrue (p x))
all_from_none p (x ∷ xs) none =
    let sum = sum_by-cons (λ y. cond (p y) 0 1) x xs in
    All-cons (λ x. IsTrue (p x)) x xs (one (p x) (omega (arith, sum, none))) (all_from_none p xs (omega (arith, sum, none)))
  where
    one : (b : Bool) → cond {A = ℕ} b 0 1 ≡ 0 → IsTrue b
    one true is = refl
    one false is = absurd (omega (arith, is))

empty_from_none : {X : Type 0} (xs : List X) → sum_by (λ x. 1) xs ≡ 0 → xs ≡ []
empty_from_none [] none = refl
empty_from_none (x ∷ xs) none = absurd (omega (arith, none, sum_by-cons (λ y. 1) x xs))

-- ---- nodes

-- so many rounds over the nodes of a cluster
rounds_over : (w : World) (rounds : ℕ) (node : Name) → Apart (places w.state) → rounds * times_in node (nodes_after w []) ≡ cond (is_there (nodes_left w []) node) rounds 0
rounds_over w rounds node apart =
    ap (λ n. rounds * n)
    (sum_by_mapped (λ other. cond (same_name other node) 1 0) (λ (found : Tracked). found.name) (places w.state) ∙ once node (places w.state) apart)
    ∙ elim (is_there (places w.state) node) as (λ b. rounds * cond b 1 0 ≡ cond b rounds 0) [ true ↦ omega arith | false ↦ omega arith ]

-- ---- receipts

all_at : (entries : List Entry) (lists : List (List Receipt)) → All (λ list. ListFits entries list) lists → All (IsAt entries) (all_receipts lists)
all_at entries [] fits = All-nil (IsAt entries)
all_at entries (v ∷ vs) fits =
    let P : List Receipt → Type 0 = λ list. ListFits entries list in
    let here = All-head P v vs fits in
    All-append (IsAt entries) v (all_receipts vs) here.at (all_at entries vs (All-tail P v vs fits))

drop_none : (entries : List Entry) → drop 0 entries ≡ entries
drop_none [] = refl
drop_none (e ∷ es) = refl

-- rounds of workers over the nodes of a cluster, with no script before them
pub rounds_alone : (free : Type 0) (w : World) (rounds : ℕ) (entries : List Entry) (nodes : List Name) (lists : List (List Receipt))
    → AddsRounds free nodes rounds [] lists → Apart (places w.state) → IsPermutation (nodes_after w []) nodes
    → IsHistoryFrom w.config w.state entries → ShowTenantsAloneFrom w entries → All (λ list. ListFits entries list) lists → EachOnce (length entries) (all_receipts lists)
    → IsSession free w [] rounds entries
rounds_alone free w rounds entries nodes lists adds apart same history alone fits each =
    let S : (Entry → ℕ) → List (List Receipt) → Type 0 = λ f ls. sum_by f entries ≡ sum_by (λ r. f (entry_of r)) (all_receipts ls) in
    let alike : (f : Entry → ℕ) → S f adds.more = λ f. subst (S f) adds.all (sym (count_alike f entries (all_receipts lists) each (all_at entries lists fits))) in
    let commits_are : (q : Proposal) → count_by (commits q) (events_in entries) ≡ count_by (λ receipt. commits q receipt.event) (all_receipts adds.more) =
    λ q. sum_by_mapped (λ e. cond (commits q e) 1 0) (λ (e : Entry). e.event) entries ∙ alike (λ e. cond (commits q e.event) 1 0) in
    let answers_are : (q : Proposal) → count_by (answers q) (drop 0 entries) ≡ count_by (λ receipt. answers q (entry_of receipt)) (all_receipts adds.more) =
    λ q. ap (count_by (answers q)) (drop_none entries) ∙ alike (λ e. cond (answers q e) 1 0) in
    record {
      history = history;
      further = events_in entries;
      begins = refl;
      workers =
          all_from_none is_workers (events_in entries)
          (sum_by_mapped (λ e. cond (is_workers e) 0 1) (λ (e : Entry). e.event) entries ∙ alike (λ e. cond (is_workers e.event) 0 1) ∙ none_counted (λ (r : Receipt). is_workers r.event) (all_receipts adds.more) adds.workers);
      idle = λ none.
          let count : sum_by (λ (e : Entry). 1) entries ≡ 0 = alike (λ e. 1) ∙ ap (λ ls. sum_by (λ (r : Receipt). 1) (all_receipts ls)) (adds.idle none) in
          ap events_in (empty_from_none entries count);
      asked = λ is node.
          sum_by_mapped (λ e. cond (asks node e) 1 0) (λ (e : Entry). e.event) entries ∙ alike (λ e. cond (asks node e.event) 1 0) ∙ adds.asked is node
          ∙ ap (λ n. rounds * n) (sum_by-IsPermutation (λ (other : Name). cond (same_name other node) 1 0) (nodes_after w []) nodes same) ∙ rounds_over w rounds node apart;
      answered = λ q. let d = commits_are q in let e = answers_are q in let h = adds.answered q in omega (arith, d, e, h);
      committed = λ is q. commits_are q ∙ adds.committed is q ∙ sym (answers_are q);
      alone = alone;
    }

-- ---- a script before them

drop_first : (first later : List Entry) → drop (length (events_in first)) (first ++ later) ≡ later
drop_first [] later = drop_none later
drop_first (e ∷ first) later = drop_first first later

-- a session that goes on from where a script's history leads to
pub goes_on : (free : Type 0) (w v : World) (events : List Event) (rounds : ℕ) (first later all : List Entry)
    → events_in first ≡ events → IsHistoryFrom w.config w.state first → v ≡ replayed_from w.config w.state first → IsSession free v [] rounds later → all ≡ first ++ later
    → IsSession free w events rounds all
goes_on free w v events rounds first later all same history leads session more =
    let c = w.config in
    let S : List Event → List Entry → Type 0 = λ es all. IsSession free w es rounds all in
    let L : World → Type 0 = λ v. IsSession free v [] rounds later in
    let s : L (replayed_from c w.state first) = subst L leads session in
    let rest : (q : Proposal) → count_by (answers q) (drop (length (events_in first)) (first ++ later)) ≡ count_by (answers q) (drop 0 later) =
    λ q. ap (count_by (answers q)) (drop_first first later ∙ sym (drop_none later)) in
    let whole : S (events_in first) (first ++ later) = record {
      history = joined c w.state first later history s.history;
      further = s.further;
      begins = map-append (λ (e : Entry). e.event) first later ∙ ap (λ es. events_in first ++ es) s.begins;
      workers = s.workers;
      idle = s.idle;
      asked = s.asked;
      answered = λ q. let a = s.answered q in let r = rest q in omega (arith, a, r);
      committed = λ is q. s.committed is q ∙ sym (rest q);
      alone = λ before closed is accepted t p sole.
          let state : w.state ≡ after c (opening c) (events_in before) = ap (λ (x : World). x.state) is in
          let own : IsHistoryFrom c (after c (opening c) (events_in before)) first = subst (λ x. IsHistoryFrom c x first) state history in
          let led : replayed_from c w.state first ≡ replayed c (before ++ first) =
          λ i. record { config = c; state = (ap (λ x. after c x (events_in first)) state ∙ sym (led_on c (opening c) before first)) i } in
          subst (λ es. ShowsAlone c es t p) (append_assoc before first later)
          (s.alone (before ++ first) (joined c (opening c) before first closed own) led accepted t p sole);
    } in
    subst (λ es. S es all) same (subst (S (events_in first)) (sym more) whole)
