-- One more event of a run.
use Rattle.std.proofs.Common.{◌≡◌, List, [], ◌∷◌, ◌++◌, length, IsTrue, refl, sym, ap, subst, ◌∙◌, arith, length-append}
use Rattle.ynl_model.specs.declared.events.Event.{Event}
use Rattle.ynl_model.specs.declared.replies.Reply.{Reply}
use Rattle.ynl_core.specs.declared.runs.Answer.{Answer}
use Rattle.ynl_core.specs.declared.runs.Answer.TheVariants.{Replied, NoMemory}
use Rattle.ynl_model.specs.Queues.{Config}
use Rattle.ynl_model.specs.Cluster.{State}
use Rattle.ynl_model.specs.Events.{step, replies, after}
use Rattle.ynl_core.specs.World.{World}
use Rattle.ynl_core.specs.Sure.{takes_no_memory}
use Rattle.ynl_core.specs.Runs.{Answered, has_reply, kept, replied, left_by, AreSure, IsRunFrom}

kept_replied : (es : List Event) (rest : List Answer) (e : Event) (r : Reply) → length rest ≡ length es → kept (es ++ e ∷ []) (rest ++ Replied r ∷ []) ≡ kept es rest ++ e ∷ []
kept_replied [] [] e r n = refl
kept_replied [] (a ∷ rest) e r n = absurd (omega arith)
kept_replied (x ∷ es) [] e r n = absurd (omega arith)
kept_replied (x ∷ es) (Replied q ∷ rest) e r n = ap (λ zs. x ∷ zs) (kept_replied es rest e r (omega arith))
kept_replied (x ∷ es) (NoMemory ∷ rest) e r n = kept_replied es rest e r (omega arith)

kept_refused : (es : List Event) (rest : List Answer) (e : Event) → length rest ≡ length es → kept (es ++ e ∷ []) (rest ++ NoMemory ∷ []) ≡ kept es rest
kept_refused [] [] e n = refl
kept_refused [] (a ∷ rest) e n = absurd (omega arith)
kept_refused (x ∷ es) [] e n = absurd (omega arith)
kept_refused (x ∷ es) (Replied q ∷ rest) e n = ap (λ zs. x ∷ zs) (kept_refused es rest e (omega arith))
kept_refused (x ∷ es) (NoMemory ∷ rest) e n = kept_refused es rest e (omega arith)

replied_push : (rest : List Answer) (r : Reply) → replied (rest ++ Replied r ∷ []) ≡ replied rest ++ r ∷ []
replied_push [] r = refl
replied_push (Replied q ∷ rest) r = ap (λ zs. q ∷ zs) (replied_push rest r)
replied_push (NoMemory ∷ rest) r = replied_push rest r

replied_same : (rest : List Answer) → replied (rest ++ NoMemory ∷ []) ≡ replied rest
replied_same [] = refl
replied_same (Replied q ∷ rest) = ap (λ zs. q ∷ zs) (replied_same rest)
replied_same (NoMemory ∷ rest) = replied_same rest

-- one event more: its reply comes last, and its state is the one that is left
pub replies_push : (c : Config) (s : State) (es : List Event) (e : Event) → replies c s (es ++ e ∷ []) ≡ replies c s es ++ (step c (after c s es) e).reply ∷ []
replies_push c s [] e = refl
replies_push c s (x ∷ es) e = ap (λ zs. (step c s x).reply ∷ zs) (replies_push c (step c s x).state es e)

pub state_push : (c : Config) (s : State) (es : List Event) (e : Event) → after c s (es ++ e ∷ []) ≡ (step c (after c s es) e).state
state_push c s [] e = refl
state_push c s (x ∷ es) e = state_push c (step c s x).state es e

abbrev world : Config → State → World
world c s = record { config = c; state = s }

-- the answer to one more event makes a run of one more
pub run_more : (w : World) (es : List Event) (rest : List Answer) (old new : World) (e : Event) (a : Answer) → IsRunFrom w es rest old → Answered old e new a → IsRunFrom w (es ++ e ∷ []) (rest ++ a ∷ []) new
run_more w es rest old new e (Replied r) i h =
    let c : Config = w.config in
    let so_far : State = after c w.state (kept es rest) in
    let k : kept (es ++ e ∷ []) (rest ++ Replied r ∷ []) ≡ kept es rest ++ e ∷ [] = kept_replied es rest e r i.each in
    let told : r ≡ (step c so_far e).reply = h.told ∙ ap (λ (w : World). (step w.config w.state e).reply) i.left in
    let left : new ≡ world c (step c so_far e).state = h.left ∙ ap (λ (w : World). world w.config (step w.config w.state e).state) i.left in
    record {
      each = omega (arith, i.each, length-append rest (Replied r ∷ []), length-append es (e ∷ []));
      told = replied_push rest r ∙ ap (λ zs. zs ++ r ∷ []) i.told ∙ ap (λ q. replies c w.state (kept es rest) ++ q ∷ []) told ∙ sym (replies_push c w.state (kept es rest) e) ∙ ap (replies c w.state) (sym k);
      left = left ∙ ap (world c) (sym (state_push c w.state (kept es rest) e) ∙ ap (after c w.state) (sym k));
    }
run_more w es rest old new e NoMemory i h =
    let k : kept (es ++ e ∷ []) (rest ++ NoMemory ∷ []) ≡ kept es rest = kept_refused es rest e i.each in
    record {
      each = omega (arith, i.each, length-append rest (NoMemory ∷ []), length-append es (e ∷ []));
      told = replied_same rest ∙ i.told ∙ ap (replies w.config w.state) (sym k);
      left = h ∙ i.left ∙ ap (λ zs. world w.config (after w.config w.state zs)) (sym k);
    }

-- the cluster that some events leave
abbrev left_after : World → List Event → List Answer → World
left_after w [] rest = w
left_after w (e ∷ es) [] = w
left_after w (e ∷ es) (a ∷ rest) = left_after (left_by w e a) es rest

left_kept : (c : Config) (s : State) (es : List Event) (rest : List Answer) → left_after (world c s) es rest ≡ world c (after c s (kept es rest))
left_kept c s [] rest = refl
left_kept c s (e ∷ es) [] = refl
left_kept c s (e ∷ es) (Replied r ∷ rest) = left_kept c (step c s e).state es rest
left_kept c s (e ∷ es) (NoMemory ∷ rest) = left_kept c s es rest

sure_push : (w : World) (es : List Event) (rest : List Answer) (e : Event) (a : Answer) → length rest ≡ length es → AreSure w es rest
    → (IsTrue (takes_no_memory (left_after w es rest) e) → IsTrue (has_reply a)) → AreSure w (es ++ e ∷ []) (rest ++ a ∷ [])
sure_push w [] [] e a n h last = (last, tt)
sure_push w [] (b ∷ rest) e a n h last = absurd (omega arith)
sure_push w (x ∷ es) [] e a n h last = absurd (omega arith)
sure_push w (x ∷ es) (b ∷ rest) e a n h last = (h.0, sure_push (left_by w x b) es rest e a (omega arith) h.1 last)

-- one more event that is answered where it is sure to be
pub sure_more : (w : World) (es : List Event) (rest : List Answer) (old : World) (e : Event) (a : Answer) → IsRunFrom w es rest old → AreSure w es rest
    → (IsTrue (takes_no_memory old e) → IsTrue (has_reply a)) → AreSure w (es ++ e ∷ []) (rest ++ a ∷ [])
sure_more w es rest old e a run h last =
    sure_push w es rest e a run.each h
    (subst (λ w. IsTrue (takes_no_memory w e) → IsTrue (has_reply a)) (run.left ∙ sym (left_kept w.config w.state es rest)) last)
