-- Turns one after another.
use Rattle.std.proofs.Common.{◌≡◌, ℕ, ◌+◌, ◌*◌, ◌<◌, ◌≤◌, refl, sym, ap, ◌∙◌, arith, List, [], ◌∷◌, ◌++◌, length, take, get_or, subst, append_assoc, append-nil, length-append, Some, inl, inr, ◌⊎◌}
use Rattle.std.proofs.lemmas.List.{take_more}
use Rattle.std.proofs.lemmas.Option.{slice_get-get_or}
use Rattle.ynl_resource.specs.declared.names.Name.{Name}
use Rattle.ynl_model.specs.declared.proposals.Proposal.{Proposal}
use Rattle.ynl_model.specs.declared.events.Event.TheVariants.{Commit}
use Rattle.ynl_live.specs.declared.calling.CallFault.{CallFault}
use Rattle.ynl_live.specs.declared.calling.CallFault.TheVariants as Call
use Rattle.ynl_live.specs.declared.receipts.Receipt.{Receipt}
use Rattle.ynl_workers.specs.declared.working.End.{End}
use Rattle.ynl_workers.specs.declared.working.End.TheVariants.{Whole, Halted, NoMemory, Behind}
use Rattle.ynl_workers.specs.Turns.{IsAsked, IsTurn, IsWhole, IsHalted, IsCut}
use Rattle.ynl_live.specs.Seats.{Standing}
use Rattle.ynl_workers.specs.Works.{AreCallsOn, IsWork, IsAskedAlone, Adds, end_of}
use Rattle.ynl_workers.proofs.Calls.{AreCallsOn-none, AreCallsOn-append}

-- one whole turn more
IsWhole-push : (nodes : List Name) (rs : List Receipt) (node : Name) (turn : List Receipt) → IsWhole nodes rs → IsTurn node turn → IsWhole (nodes ++ node ∷ []) (rs ++ turn)
IsWhole-push [] rs node turn whole is = (turn, [], ap (λ xs. xs ++ turn) whole ∙ sym (append-nil turn), is, refl)
IsWhole-push (other ∷ nodes) rs node turn whole is =
    (whole.0, whole.1 ++ turn, ap (λ xs. xs ++ turn) whole.2 ∙ append_assoc whole.0 whole.1 turn, whole.3, IsWhole-push nodes whole.1 node turn whole.4 is)

-- the turns on the first i nodes, and what the seat and the receipts have then
pub record IsWorkTo (nodes : List Name) (rs : List Receipt) (i : ℕ) (first now : Standing) (reserved capacity : ℕ) : Type 0 where
  pub whole : IsWhole (take i nodes) rs
  pub calls : AreCallsOn first now rs
  pub short : length rs ≤ 2 * i
  pub capacity_is : capacity ≡ reserved

-- calls, and then those of a turn
pub calls_with : (first before after : Standing) (rs now added : List Receipt) → now ≡ rs ++ added → AreCallsOn first before rs → AreCallsOn before after added → AreCallsOn first after now
calls_with first before after rs now added all calls more =
    let A : List Receipt → Type 0 = λ xs. AreCallsOn first after xs in
    subst A (sym all) (AreCallsOn-append first before after rs added calls more)

-- the same after one whole turn more
pub IsWorkTo-more : (free : Type 0) (nodes : List Name) (rs now : List Receipt) (i : ℕ) (node : Name) (first before after : Standing) (reserved capacity capacity' : ℕ) → i < length nodes → node ≡ get_or nodes i node → IsWorkTo nodes rs i first before reserved capacity → Adds free node rs now before after Whole → capacity' ≡ capacity → IsWorkTo nodes now (i + 1) first after reserved capacity'
IsWorkTo-more free nodes rs now i node first before after reserved capacity capacity' inside at to adds same =
    let more : take (i + 1) nodes ≡ take i nodes ++ node ∷ [] = take_more nodes i node inside ∙ ap (λ (x : Name). take i nodes ++ x ∷ []) (sym at) in
    let W : List Name → Type 0 = λ ns. IsWhole ns now in
    let V : List Receipt → Type 0 = λ xs. IsWhole (take i nodes ++ node ∷ []) xs in
    let len = length-append rs adds.added in
    let all = ap length adds.all in
    record {
      whole = subst W (sym more) (subst V (sym adds.all) (IsWhole-push (take i nodes) rs node adds.added to.whole adds.turn));
      calls = calls_with first before after rs now adds.added adds.all to.calls adds.calls;
      short = omega arith;
      capacity_is = same ∙ to.capacity_is;
    }

-- a turn that ends with a proposal that is not committed
halted_at : (nodes : List Name) (rs now added : List Receipt) (i : ℕ) (node : Name) → i < length nodes → node ≡ get_or nodes i node → IsWhole (take i nodes) rs → now ≡ rs ++ added → IsAskedAlone node added → IsHalted nodes now
halted_at nodes rs now added i node inside at whole all asked =
    record {
      turns = i;
      done = rs;
      last = asked.0;
      node = node;
      found = asked.1;
      whole = whole;
      next = slice_get-get_or nodes i node inside ∙ ap (λ (x : Name). Some x) (sym at);
      asked = asked.2;
      all = all ∙ ap (λ xs. rs ++ xs) asked.3;
    }

-- a turn in which a call is not answered
cut_at : (nodes : List Name) (rs now added : List Receipt) (i : ℕ) (node : Name) → i < length nodes → node ≡ get_or nodes i node → IsWhole (take i nodes) rs → now ≡ rs ++ added → (added ≡ []) ⊎ IsAskedAlone node added → IsCut nodes now
cut_at nodes rs now added i node inside at whole all (inl none) =
    let W : List Receipt → Type 0 = λ xs. IsWhole (take i nodes) xs in
    inl (i, omega arith, subst W (sym (all ∙ ap (λ xs. rs ++ xs) none ∙ append-nil rs)) whole)
cut_at nodes rs now added i node inside at whole all (inr asked) =
    inr (halted_at nodes rs now added i node inside at whole all asked)

-- a turn that is not whole ends the work
pub IsWork-ends : (free : Type 0) (nodes : List Name) (rs now : List Receipt) (i : ℕ) (node : Name) (before after : Standing) (end : End) → i < length nodes → node ≡ get_or nodes i node → IsWhole (take i nodes) rs → Adds free node rs now before after end → (end ≡ Whole → ⊥) → IsWork free nodes now end
IsWork-ends free nodes rs now i node before after Whole inside at whole adds other = absurd (other refl)
IsWork-ends free nodes rs now i node before after Halted inside at whole adds other =
    (adds.turn.0, halted_at nodes rs now adds.added i node inside at whole adds.all adds.turn.1)
IsWork-ends free nodes rs now i node before after NoMemory inside at whole adds other = cut_at nodes rs now adds.added i node inside at whole adds.all adds.turn
IsWork-ends free nodes rs now i node before after (Behind entered) inside at whole adds other = cut_at nodes rs now adds.added i node inside at whole adds.all adds.turn

-- a turn whose first call is not answered adds nothing
pub Adds-none : (free : Type 0) (node : Name) (old new : List Receipt) (before after : Standing) (fault : CallFault) (end : End) → end ≡ end_of fault → new ≡ old → after ≡ before → Adds free node old new before after end
Adds-none free node old new before after fault end ends same stays =
    let E : End → Type 0 = λ e. Adds free node old new before after e in
    let A : Standing → Type 0 = λ seat. AreCallsOn before seat [] in
    let all : new ≡ old ++ [] = same ∙ sym (append-nil old) in
    let calls : AreCallsOn before after [] = subst A (sym stays) (AreCallsOn-none before) in
    let cut : (f : CallFault) → Adds free node old new before after (end_of f) =
    λ f. elim f as (λ x. Adds free node old new before after (end_of x)) [ Call.Behind n ↦ record { added = []; all = all; calls = calls; short = omega arith; turn = inl refl } | Call.NoMemory ↦ record { added = []; all = all; calls = calls; short = omega arith; turn = inl refl } ] in
    subst E (sym ends) (cut fault)

-- a turn with its commit
pub Adds-committed : (free : Type 0) (node : Name) (proposal : Proposal) (old middle new : List Receipt) (a b c : Standing)
    → (asked : Receipt) × (middle ≡ old ++ asked ∷ []) × IsAsked node (Some proposal) asked × AreCallsOn a b (asked ∷ [])
    → (done : Receipt) × (new ≡ middle ++ done ∷ []) × (done.event ≡ Commit proposal) × AreCallsOn b c (done ∷ [])
    → Adds free node old new a c Whole
Adds-committed free node proposal old middle new a b c first last = record {
  added = first.0 ∷ last.0 ∷ [];
  all = last.1 ∙ ap (λ xs. xs ++ last.0 ∷ []) first.1 ∙ append_assoc old (first.0 ∷ []) (last.0 ∷ []);
  calls = AreCallsOn-append a b c (first.0 ∷ []) (last.0 ∷ []) first.3 last.3;
  short = omega arith;
  turn = (first.0, Some proposal, first.2, (last.0, last.2, refl));
}
