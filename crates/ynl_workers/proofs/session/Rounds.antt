-- What the workers of a round called.
use Rattle.std.proofs.Common.{◌≡◌, ℕ, suc, ◌+◌, ◌*◌, ◌≤◌, ◌<◌, ◌≢◌, append-nil, refl, sym, ap, ◌∙◌, arith, List, [], ◌∷◌, ◌++◌, Bool, cond, length, take, subst, Some, None, Option, Vec, All, inl, inr, ◌⊎◌, append_assoc, Result, Ok, Err}
use Rattle.std.specs.Prelude.{map, count_by, IsTrue, MatchOption, OnOk}
use Rattle.std.specs.declared.alloc.Global.{Global}
use Rattle.std.proofs.lemmas.List.Sums.{sum_by-cons, sum_by-append}
use Rattle.std.proofs.lemmas.List.Elements.{All-head, All-tail, All-nil, All-cons, All-append}
use Rattle.std.proofs.lemmas.List.Concat.{flat_map-append}
use Rattle.ynl_resource.specs.declared.names.Name.{Name}
use Rattle.ynl_resource.specs.Names.{same_name}
use Rattle.ynl_model.specs.declared.proposals.Proposal.{Proposal}
use Rattle.ynl_model.specs.declared.events.Event.TheVariants.{Propose, Commit}
use Rattle.ynl_journal.specs.Same.{same_proposal}
use Rattle.ynl_live.specs.Seats.{Standing}
use Rattle.ynl_live.specs.declared.receipts.Receipt.{Receipt}
use Rattle.ynl_live.specs.Receipts.{all_receipts, entry_of}
use Rattle.ynl_workers.specs.declared.working.End.{End}
use Rattle.ynl_workers.specs.declared.working.End.TheVariants.{Whole, Halted, NoMemory, Behind}
use Rattle.ynl_workers.specs.declared.working.WorkerEnd.{WorkerEnd}
use Rattle.ynl_workers.specs.Turns.{IsAsked, IsWhole, IsHalted, proposal_in}
use Rattle.ynl_workers.specs.Works.{IsWork}
use Rattle.ynl_workers.specs.Rounds.{IsRound}
use Rattle.ynl_workers.specs.session.Dealt.{times_in, all_dealt, AreDealt}
use Rattle.ynl_workers.specs.session.Handed.{is_workers, asks, commits, answered_in, answers, AddsRounds, AreNotHalted}

-- 1 for true
abbrev as_number : Bool → ℕ
as_number b = cond b 1 0

-- a worker called this
abbrev IsOfWorker : Receipt → Type 0
IsOfWorker r = IsTrue (is_workers r.event)

-- how many of the calls ask about the node
abbrev asked_in : Name → List Receipt → ℕ
asked_in n rs = count_by (λ (r : Receipt). asks n r.event) rs

-- whether a receipt is of a commit of the proposal, and whether it answers it; and how many of the calls do
abbrev has_commit : Proposal → Receipt → Bool
has_commit q r = commits q r.event

abbrev has_answer : Proposal → Receipt → Bool
has_answer q r = answers q (entry_of r)

abbrev committed_in : Proposal → List Receipt → ℕ
committed_in q rs = count_by (has_commit q) rs

abbrev answers_in : Proposal → List Receipt → ℕ
answers_in q rs = count_by (has_answer q) rs

-- what these receipts tell of calls on these nodes
record Tells (nodes : List Name) (rs : List Receipt) : Type 0 where
  workers : All IsOfWorker rs
  asked : (n : Name) → asked_in n rs ≡ times_in n nodes
  committed : (q : Proposal) → committed_in q rs ≡ answers_in q rs

is_asking : (node : Name) (found : Option Proposal) (r : Receipt) → IsAsked node found r → IsOfWorker r
is_asking node found r is = subst (λ e. IsTrue (is_workers e)) (sym is.event) refl

is_committing : (p : Proposal) (r : Receipt) → r.event ≡ Commit p → IsOfWorker r
is_committing p r is = subst (λ e. IsTrue (is_workers e)) (sym is) refl

asking : (n node : Name) (found : Option Proposal) (r : Receipt) → IsAsked node found r → cond {A = ℕ} (asks n r.event) 1 0 ≡ cond {A = ℕ} (same_name node n) 1 0
asking n node found r is = ap (λ e. cond {A = ℕ} (asks n e) 1 0) is.event

committing : (n : Name) (p : Proposal) (r : Receipt) → r.event ≡ Commit p → cond {A = ℕ} (asks n r.event) 1 0 ≡ 0
committing n p r is = ap (λ e. cond {A = ℕ} (asks n e) 1 0) is

-- a propose commits nothing, and answers what it was answered
no_commit : (q : Proposal) (node : Name) (found : Option Proposal) (r : Receipt) → IsAsked node found r → as_number (has_commit q r) ≡ 0
no_commit q node found r is = ap (λ e. as_number (commits q e)) is.event

answering : (q : Proposal) (node : Name) (found : Option Proposal) (r : Receipt) → IsAsked node found r → as_number (has_answer q r) ≡ as_number (answered_in q (Propose node) found)
answering q node found r is = ap (λ e. as_number (answered_in q e (proposal_in r.reply))) is.event ∙ ap (λ o. as_number (answered_in q (Propose node) o)) is.reply

-- a commit answers nothing, and commits its proposal
no_answer : (q p : Proposal) (r : Receipt) → r.event ≡ Commit p → as_number (has_answer q r) ≡ 0
no_answer q p r is = ap (λ e. as_number (answered_in q e (proposal_in r.reply))) is

commit_of : (q p : Proposal) (r : Receipt) → r.event ≡ Commit p → as_number (has_commit q r) ≡ as_number (same_proposal p q)
commit_of q p r is = ap (λ e. as_number (commits q e)) is

turn_tells : (node : Name) (turn : List Receipt) (asked : Receipt) (found : Option Proposal) → IsAsked node found asked → MatchOption found (turn ≡ asked ∷ []) (λ proposal. (done : Receipt) × (done.event ≡ Commit proposal) × (turn ≡ asked ∷ done ∷ [])) → Tells (node ∷ []) turn
turn_tells node turn asked None is h =
    subst (λ xs. Tells (node ∷ []) xs) (sym h)
    (record {
      workers = All-cons IsOfWorker asked [] (is_asking node None asked is) (All-nil IsOfWorker);
      asked = λ n. let one = asking n node None asked is in omega (arith, one, sum_by-cons (λ (r : Receipt). cond (asks n r.event) 1 0) asked [], sum_by-cons (λ (x : Name). cond (same_name x n) 1 0) node []);
      committed = λ q.
          let none = no_commit q node None asked is in
          let nothing = answering q node None asked is in
          omega (arith, none, nothing, sum_by-cons (λ r. as_number (has_commit q r)) asked [], sum_by-cons (λ r. as_number (has_answer q r)) asked []);
    })
turn_tells node turn asked (Some p) is h =
    subst (λ xs. Tells (node ∷ []) xs) (sym h.2)
    (record {
      workers = All-cons IsOfWorker asked (h.0 ∷ []) (is_asking node (Some p) asked is) (All-cons IsOfWorker h.0 [] (is_committing p h.0 h.1) (All-nil IsOfWorker));
      asked = λ n.
          let one = asking n node (Some p) asked is in
          let none = committing n p h.0 h.1 in
          omega (arith, one, none, sum_by-cons (λ (r : Receipt). cond (asks n r.event) 1 0) asked (h.0 ∷ []), sum_by-cons (λ (r : Receipt). cond (asks n r.event) 1 0) h.0 [], sum_by-cons (λ (x : Name). cond (same_name x n) 1 0) node []);
      committed = λ q.
          let none = no_commit q node (Some p) asked is in
          let one = answering q node (Some p) asked is in
          let nothing = no_answer q p h.0 h.1 in
          let same = commit_of q p h.0 h.1 in
          omega (arith, none, one, nothing, same, sum_by-cons (λ r. as_number (has_commit q r)) asked (h.0 ∷ []), sum_by-cons (λ r. as_number (has_commit q r)) h.0 [], sum_by-cons (λ r. as_number (has_answer q r)) asked (h.0 ∷ []), sum_by-cons (λ r. as_number (has_answer q r)) h.0 []);
    })

-- counts over two lists together
committed-append : (q : Proposal) (rs ss : List Receipt) → committed_in q (rs ++ ss) ≡ committed_in q rs + committed_in q ss
committed-append q rs ss = sum_by-append (λ r. as_number (has_commit q r)) rs ss

answers-append : (q : Proposal) (rs ss : List Receipt) → answers_in q (rs ++ ss) ≡ answers_in q rs + answers_in q ss
answers-append q rs ss = sum_by-append (λ r. as_number (has_answer q r)) rs ss

-- where each of two lists has at most as many commits as answers, or as many, both together have
at_most_both : (q : Proposal) (rs ss : List Receipt) → committed_in q rs ≤ answers_in q rs → committed_in q ss ≤ answers_in q ss → committed_in q (rs ++ ss) ≤ answers_in q (rs ++ ss)
at_most_both q rs ss a b = omega (arith, a, b, committed-append q rs ss, answers-append q rs ss)

just_both : (q : Proposal) (rs ss : List Receipt) → committed_in q rs ≡ answers_in q rs → committed_in q ss ≡ answers_in q ss → committed_in q (rs ++ ss) ≡ answers_in q (rs ++ ss)
just_both q rs ss a b = omega (arith, a, b, committed-append q rs ss, answers-append q rs ss)

Tells-append : (xs ys : List Name) (rs ss : List Receipt) → Tells xs rs → Tells ys ss → Tells (xs ++ ys) (rs ++ ss)
Tells-append xs ys rs ss a b = record {
  workers = All-append IsOfWorker rs ss a.workers b.workers;
  asked = λ n. sum_by-append (λ (r : Receipt). cond (asks n r.event) 1 0) rs ss ∙ (λ i. a.asked n i + b.asked n i) ∙ sym (sum_by-append (λ (x : Name). cond (same_name x n) 1 0) xs ys);
  committed = λ q. just_both q rs ss (a.committed q) (b.committed q);
}

Tells-nil : Tells [] []
Tells-nil = record { workers = All-nil IsOfWorker; asked = λ n. refl; committed = λ q. refl }

whole_tells : (nodes : List Name) (rs : List Receipt) → IsWhole nodes rs → Tells nodes rs
whole_tells [] rs whole = subst (λ xs. Tells [] xs) (sym whole) Tells-nil
whole_tells (node ∷ nodes) rs whole =
    let turn = whole.3 in
    subst (λ xs. Tells (node ∷ nodes) xs) (sym whole.2)
    (Tells-append (node ∷ []) nodes whole.0 whole.1 (turn_tells node whole.0 turn.0 turn.1 turn.2 turn.3) (whole_tells nodes whole.1 whole.4))

halted_workers : (nodes : List Name) (rs : List Receipt) → IsHalted nodes rs → All IsOfWorker rs
halted_workers nodes rs h =
    subst (All IsOfWorker) (sym h.all)
    (All-append IsOfWorker h.done (h.last ∷ []) (whole_tells (take h.turns nodes) h.done h.whole).workers (All-cons IsOfWorker h.last [] (is_asking h.node (Some h.found) h.last h.asked) (All-nil IsOfWorker)))

-- what a halted worker was answered at last is not committed
halted_answered : (nodes : List Name) (rs : List Receipt) → IsHalted nodes rs → (q : Proposal) → committed_in q rs ≤ answers_in q rs
halted_answered nodes rs h q =
    let done = (whole_tells (take h.turns nodes) h.done h.whole).committed q in
    let none = no_commit q h.node (Some h.found) h.last h.asked in
    let last = sum_by-cons (λ r. as_number (has_commit q r)) h.last [] in
    let here : committed_in q (h.last ∷ []) ≤ answers_in q (h.last ∷ []) = omega (arith, none, last) in
    subst (λ xs. committed_in q xs ≤ answers_in q xs) (sym h.all) (at_most_both q h.done (h.last ∷ []) (omega (arith, done)) here)

-- what these receipts tell, where each worker was free
pub record TellsFree (free : Type 0) (nodes : List Name) (rs : List Receipt) : Type 0 where
  pub workers : All (λ receipt. IsTrue (is_workers receipt.event)) rs
  pub asked : free → (node : Name) → count_by (λ receipt. asks node receipt.event) rs ≡ times_in node nodes
  pub answered : (q : Proposal) → count_by (λ receipt. commits q receipt.event) rs ≤ count_by (λ receipt. answers q (entry_of receipt)) rs
  pub committed : free → (q : Proposal) → count_by (λ receipt. commits q receipt.event) rs ≡ count_by (λ receipt. answers q (entry_of receipt)) rs

work_tells : (free : Type 0) (nodes : List Name) (rs : List Receipt) (end : End) → IsWork free nodes rs end → (end ≡ Whole) ⊎ (end ≡ Halted) → TellsFree free nodes rs
work_tells free nodes rs Whole work ended = let t = whole_tells nodes rs work in record { workers = t.workers; asked = λ _. t.asked; answered = λ q. (let e = t.committed q in omega (arith, e)); committed = λ _. t.committed }
work_tells free nodes rs Halted work ended = record { workers = halted_workers nodes rs work.1; asked = λ is. absurd (work.0 is); answered = halted_answered nodes rs work.1; committed = λ is. absurd (work.0 is) }
work_tells free nodes rs NoMemory work (inl e) = absurd (cc)
work_tells free nodes rs NoMemory work (inr e) = absurd (cc)
work_tells free nodes rs (Behind n) work (inl e) = absurd (cc)
work_tells free nodes rs (Behind n) work (inr e) = absurd (cc)

TellsFree-append : (free : Type 0) (xs ys : List Name) (rs ss : List Receipt) → TellsFree free xs rs → TellsFree free ys ss → TellsFree free (xs ++ ys) (rs ++ ss)
TellsFree-append free xs ys rs ss a b = record {
  workers = All-append IsOfWorker rs ss a.workers b.workers;
  asked = λ is n. sum_by-append (λ (r : Receipt). cond (asks n r.event) 1 0) rs ss ∙ (λ i. a.asked is n i + b.asked is n i) ∙ sym (sum_by-append (λ (x : Name). cond (same_name x n) 1 0) xs ys);
  answered = λ q. at_most_both q rs ss (a.answered q) (b.answered q);
  committed = λ is q. just_both q rs ss (a.committed is q) (b.committed is q);
}

-- it ended with all its nodes, or halted
abbrev pub HasEnded : WorkerEnd → Type 0
HasEnded w = (w.end ≡ Whole) ⊎ (w.end ≡ Halted)

round_tells : (free : Type 0) (seats : List Standing) (lists : List (Vec Name Global)) (ends : List WorkerEnd) → length seats ≡ length ends → length lists ≡ length ends → IsRound free seats lists ends → All HasEnded ends → TellsFree free (all_dealt lists) (all_receipts (map (λ w. w.receipts.items) ends))
round_tells free [] [] [] a b round ended = record { workers = All-nil IsOfWorker; asked = λ _ n. refl; answered = λ q. omega arith; committed = λ _ q. refl }
round_tells free [] [] (w ∷ ws) a b round ended = absurd (omega arith)
round_tells free [] (l ∷ ls) [] a b round ended = absurd (omega arith)
round_tells free [] (l ∷ ls) (w ∷ ws) a b round ended = absurd (omega arith)
round_tells free (s ∷ ss) [] [] a b round ended = absurd (omega arith)
round_tells free (s ∷ ss) [] (w ∷ ws) a b round ended = absurd (omega arith)
round_tells free (s ∷ ss) (l ∷ ls) [] a b round ended = absurd (omega arith)
round_tells free (s ∷ ss) (l ∷ ls) (w ∷ ws) a b round ended =
    let here = work_tells free l.items w.receipts.items w.end (round 0 s l w refl refl refl).work (All-head HasEnded w ws ended) in
    let rest = round_tells free ss ls ws (omega arith) (omega arith) (λ k. round (suc k)) (All-tail HasEnded w ws ended) in
    TellsFree-append free l.items (all_dealt ls) w.receipts.items (all_receipts (map (λ w. w.receipts.items) ws)) here rest

-- the workers' ends of one round over some nodes that were dealt out
pub AddsRounds-one : (free : Type 0) (seats : List Standing) (nodes : List Name) (lists : List (Vec Name Global)) (ends : List WorkerEnd) (old new : List (List Receipt)) → length seats ≡ length ends → length lists ≡ length ends → (free → AreDealt nodes lists) → IsRound free seats lists ends → All HasEnded ends → new ≡ old ++ map (λ w. w.receipts.items) ends → AddsRounds free nodes 1 old new
AddsRounds-one free seats nodes lists ends old new a b dealt round ended is =
    let t = round_tells free seats lists ends a b round ended in
    record {
      more = map (λ w. w.receipts.items) ends;
      all = is;
      workers = t.workers;
      idle = λ none. absurd (omega (arith, none));
      asked = λ is n. t.asked is n ∙ (let d = dealt is n in let e : times_in n (all_dealt lists) ≡ 1 * times_in n nodes = omega (arith, d) in e);
      answered = t.answered;
      committed = t.committed;
    }

-- the same, where it is known to have come to its end
pub AddsRounds-if : {T E : Type 0} (r : Result T E) (free : Type 0) (seats : List Standing) (nodes : List Name) (lists : List (Vec Name Global)) (ends : List WorkerEnd) (old new : List (List Receipt)) → length seats ≡ length ends → length lists ≡ length ends → (free → AreDealt nodes lists) → IsRound free seats lists ends → OnOk r (All HasEnded ends) → OnOk r (new ≡ old ++ map (λ w. w.receipts.items) ends) → OnOk r (AddsRounds free nodes 1 old new)
AddsRounds-if (Ok x) free seats nodes lists ends old new a b dealt round ended is = AddsRounds-one free seats nodes lists ends old new a b dealt round ended is
AddsRounds-if (Err e) free seats nodes lists ends old new a b dealt round ended is = tt

-- where the gate lets each worker go on, none is halted
pub none_halted : (free : Type 0) (seats : List Standing) (lists : List (Vec Name Global)) (ends : List WorkerEnd) → length seats ≡ length ends → length lists ≡ length ends → IsRound free seats lists ends → free → All (λ worker. worker.end ≢ Halted) ends
none_halted free seats lists [] a b round is = All-nil (λ (worker : WorkerEnd). worker.end ≢ Halted)
none_halted free [] lists (w ∷ ws) a b round is = absurd (omega (arith, a))
none_halted free (s ∷ ss) [] (w ∷ ws) a b round is = absurd (omega (arith, b))
none_halted free (s ∷ ss) (l ∷ ls) (w ∷ ws) a b round is =
    All-cons (λ (worker : WorkerEnd). worker.end ≢ Halted) w ws
    (λ halted. (subst (IsWork free l.items w.receipts.items) halted (round 0 s l w refl refl refl).work).0 is)
    (none_halted free ss ls ws (omega (arith, a)) (omega (arith, b)) (λ k. round (suc k)) is)

-- the same, whatever the call came to
pub OnOk-not_halted : {T E : Type 0} (r : Result T E) (free : Type 0) (seats : List Standing) (lists : List (Vec Name Global)) (ends : List WorkerEnd) (was now : List Bool) → length seats ≡ length ends → length lists ≡ length ends → IsRound free seats lists ends → (All (λ worker. worker.end ≢ Halted) ends → now ≡ was) → (free → AreNotHalted was) → OnOk r (free → AreNotHalted now)
OnOk-not_halted (Ok x) free seats lists ends was now a b round same none = λ is. subst AreNotHalted (sym (same (none_halted free seats lists ends a b round is))) (none is)
OnOk-not_halted (Err e) free seats lists ends was now a b round same none = tt

-- rounds, and then others
AddsRounds-joined : (free : Type 0) (xs ys zs : List Name) (j k m : ℕ) (a b c : List (List Receipt)) → ((n : Name) → m * times_in n zs ≡ j * times_in n xs + k * times_in n ys) → 0 < m → AddsRounds free xs j a b → AddsRounds free ys k b c → AddsRounds free zs m a c
AddsRounds-joined free xs ys zs j k m a b c times some first next =
    let both : all_receipts (first.more ++ next.more) ≡ all_receipts first.more ++ all_receipts next.more = flat_map-append (λ (v : List Receipt). v) first.more next.more in
    record {
      more = first.more ++ next.more;
      all = next.all ∙ ap (λ ls. ls ++ next.more) first.all ∙ append_assoc a first.more next.more;
      workers = subst (All IsOfWorker) (sym both) (All-append IsOfWorker (all_receipts first.more) (all_receipts next.more) first.workers next.workers);
      idle = λ none. absurd (omega (arith, none, some));
      asked = λ is n. ap (asked_in n) both ∙ sum_by-append (λ (r : Receipt). cond (asks n r.event) 1 0) (all_receipts first.more) (all_receipts next.more) ∙ (λ i. first.asked is n i + next.asked is n i) ∙ sym (times n);
      answered = λ q. subst (λ rs. committed_in q rs ≤ answers_in q rs) (sym both) (at_most_both q (all_receipts first.more) (all_receipts next.more) (first.answered q) (next.answered q));
      committed = λ is q. subst (λ rs. committed_in q rs ≡ answers_in q rs) (sym both) (just_both q (all_receipts first.more) (all_receipts next.more) (first.committed is q) (next.committed is q));
    }

-- rounds, and one more
pub AddsRounds-more : (free : Type 0) (nodes : List Name) (k : ℕ) (a b c : List (List Receipt)) → AddsRounds free nodes k a b → AddsRounds free nodes 1 b c → AddsRounds free nodes (k + 1) a c
AddsRounds-more free nodes k a b c first next = AddsRounds-joined free nodes nodes nodes k 1 (k + 1) a b c (λ n. omega arith) (omega arith) first next

-- ---- batches

-- a round over the nodes that are not left
pub record AddsSoFar (free : Type 0) (nodes left : List Name) (old now : List (List Receipt)) : Type 0 where
  pub done : List Name
  pub all : done ++ left ≡ nodes
  pub adds : AddsRounds free done 1 old now

pub AddsSoFar-none : (free : Type 0) (nodes : List Name) (old : List (List Receipt)) → AddsSoFar free nodes nodes old old
AddsSoFar-none free nodes old = record {
  done = [];
  all = refl;
  adds = record {
    more = [];
    all = sym (append-nil old);
    workers = All-nil IsOfWorker;
    idle = λ none. refl;
    asked = λ is n. refl;
    answered = λ q. omega arith;
    committed = λ is q. refl;
  };
}

pub AddsSoFar-more : (free : Type 0) (nodes left batch others : List Name) (old now next : List (List Receipt)) → batch ++ others ≡ left → AddsRounds free batch 1 now next → AddsSoFar free nodes left old now → AddsSoFar free nodes others old next
AddsSoFar-more free nodes left batch others old now next cut adds so = record {
  done = so.done ++ batch;
  all = append_assoc so.done batch others ∙ ap (λ ns. so.done ++ ns) cut ∙ so.all;
  adds =
      AddsRounds-joined free so.done batch (so.done ++ batch) 1 1 1 old now next
      (λ n. (let t : times_in n (so.done ++ batch) ≡ times_in n so.done + times_in n batch = sum_by-append (λ (x : Name). cond (same_name x n) 1 0) so.done batch in omega (arith, t)))
      (omega arith) so.adds adds;
}

-- and where none is left, over all of them
pub AddsSoFar-all : (free : Type 0) (nodes left : List Name) (old now : List (List Receipt)) → length left ≡ 0 → AddsSoFar free nodes left old now → AddsRounds free nodes 1 old now
AddsSoFar-all free nodes [] old now none so = subst (λ ns. AddsRounds free ns 1 old now) (sym (append-nil so.done) ∙ so.all) so.adds
AddsSoFar-all free nodes (node ∷ left) old now none so = absurd (omega (arith, none))
