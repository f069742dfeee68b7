-- Replies that are the same are equal, and no others.
use Rattle.std.proofs.Common.{◌≡◌, Bool, true, List, Option, Some, None, refl, sym, ap, subst, ◌∙◌}
use Rattle.std.specs.Prelude.{IsTrue, ◌↔◌, IfSome}
use Rattle.std.specs.Bool.{Decides}
use Rattle.std.specs.Option.{option_map_or}
use Rattle.std.specs.Cmp.Lexicographic.{pointwise, pointwise_decides, bytes_decides}
use Rattle.std.proofs.lemmas.Bool.Decides.{same_from_decides, Decides-eqb, Decides-like, Decides-and}
use mathlib.Core.Bool.{true≢false}
use Rattle.ynl_resource.specs.Names.{same_label, same_id}
use Rattle.ynl_resource.specs.declared.refusals.Refusal.{Refusal}
use Rattle.ynl_resource.specs.Refusals.{word}
use Rattle.ynl_resource.specs.RefusalWords.{refusal_of}
use Rattle.ynl_resource.specs.declared.amounts.Resource.{Resource}
use Rattle.ynl_resource.specs.declared.labels.Label.{Label}
use Rattle.ynl_resource.specs.declared.ids.Id.{Id}
use Rattle.ynl_resource.proofs.RefusalTrip.{refusal_back}
use Rattle.ynl_model.specs.declared.containers.Placed.{Placed as Container}
use Rattle.ynl_model.specs.declared.proposals.What.{What}
use Rattle.ynl_model.specs.declared.proposals.What.TheVariants.{Master, Ask as Asked}
use Rattle.ynl_model.specs.declared.proposals.Proposal.{Proposal}
use Rattle.ynl_model.specs.declared.replies.Pending.{Pending}
use Rattle.ynl_model.specs.declared.replies.Reply.{Reply}
use Rattle.ynl_model.specs.declared.replies.Reply.TheVariants.{Done, Refused, Placed, Proposed, Committed, Held, Usage}
use Rattle.ynl_model.specs.declared.entries.Entry.{Entry}
use Rattle.ynl_model.specs.Check.{same_size}
use Rattle.ynl_laws.proofs.Names.{same-label_path, same-label_self}
use Rattle.ynl_journal.specs.Journal.{FitsReply}
use Rattle.ynl_journal.specs.Same.{same_refusal, same_what, same_container, same_proposal, same_proposed, same_ask, same_reply, fits_reply}

-- a test that holds of equals alone, and of each thing and itself
by_self : {A : Type 0} (same : A → A → Bool) → ((a b : A) → same a b ≡ true → a ≡ b) → ((a : A) → same a a ≡ true) → (a b : A) → Decides (same a b) (a ≡ b)
by_self same sound self a b = (sound a b, λ e. subst (λ x. same a x ≡ true) e (self a))

label_decides : (a b : Label) → Decides (same_label a b) (a ≡ b)
label_decides = by_self same_label same-label_path same-label_self

id_decides : (a b : Id) → Decides (same_id a b) (a ≡ b)
id_decides a b =
    Decides-like (same_id a b) (λ p. λ i. record { label = p.0 i; clock = p.1 i }) (λ e. (ap (λ (x : Id). x.label) e, ap (λ (x : Id). x.clock) e))
    (Decides-and _ _ (label_decides a.label b.label) (Decides-eqb a.clock b.clock))

size_decides : (a b : Resource) → Decides (same_size a b) (a ≡ b)
size_decides a b =
    Decides-like (same_size a b) (λ p. λ i. record { memory = p.0 i; vcores = p.1 i }) (λ e. (ap (λ (x : Resource). x.memory) e, ap (λ (x : Resource). x.vcores) e))
    (Decides-and _ _ (Decides-eqb a.memory b.memory) (Decides-eqb a.vcores b.vcores))

-- the word of a refusal names it
some_of : (a b : Refusal) → Some a ≡ Some b → a ≡ b
some_of a b e = cc

refusal_sound : (a b : Refusal) → same_refusal a b ≡ true → a ≡ b
refusal_sound a b h = some_of a b (sym (refusal_back a) ∙ ap refusal_of ((bytes_decides (word a) (word b)).0 h) ∙ refusal_back b)

refusal_decides : (a b : Refusal) → Decides (same_refusal a b) (a ≡ b)
refusal_decides = by_self same_refusal refusal_sound (λ a. (bytes_decides (word a) (word a)).1 refl)

what_sound : (a b : What) → same_what a b ≡ true → a ≡ b
what_sound Master Master h = refl
what_sound (Asked label priority) (Asked other number) h =
    let p = (Decides-and _ _ (label_decides label other) (Decides-eqb priority number)).0 h in λ i. Asked (p.0 i) (p.1 i)
what_sound Master (Asked other number) h = absurd (true≢false (sym h))
what_sound (Asked label priority) Master h = absurd (true≢false (sym h))

what_self : (a : What) → same_what a a ≡ true
what_self Master = refl
what_self (Asked label priority) = (Decides-and _ _ (label_decides label label) (Decides-eqb priority priority)).1 (refl, refl)

what_decides : (a b : What) → Decides (same_what a b) (a ≡ b)
what_decides = by_self same_what what_sound what_self

container_decides : (a b : Container) → Decides (same_container a b) (a ≡ b)
container_decides a b =
    Decides-like (same_container a b) (λ p. λ i. record { id = p.0.0.0.0.0 i; node = p.0.0.0.0.1 i; tenant = p.0.0.0.1 i; app = p.0.0.1 i; what = p.0.1 i; size = p.1 i })
    (λ e. (((((ap (λ (x : Container). x.id) e, ap (λ (x : Container). x.node) e), ap (λ (x : Container). x.tenant) e), ap (λ (x : Container). x.app) e), ap (λ (x : Container). x.what) e), ap (λ (x : Container). x.size) e))
    (Decides-and _ _
    (Decides-and _ _
    (Decides-and _ _ (Decides-and _ _ (Decides-and _ _ (id_decides a.id b.id) (bytes_decides a.node b.node)) (bytes_decides a.tenant b.tenant)) (bytes_decides a.app b.app))
    (what_decides a.what b.what))
    (size_decides a.size b.size))

proposal_decides : (a b : Proposal) → Decides (same_proposal a b) (a ≡ b)
proposal_decides a b =
    Decides-like (same_proposal a b) (λ p. λ i. record { node = p.0.0.0.0.0 i; stamp = p.0.0.0.0.1 i; tenant = p.0.0.0.1 i; app = p.0.0.1 i; what = p.0.1 i; size = p.1 i })
    (λ e. (((((ap (λ (x : Proposal). x.node) e, ap (λ (x : Proposal). x.stamp) e), ap (λ (x : Proposal). x.tenant) e), ap (λ (x : Proposal). x.app) e), ap (λ (x : Proposal). x.what) e), ap (λ (x : Proposal). x.size) e))
    (Decides-and _ _
    (Decides-and _ _
    (Decides-and _ _ (Decides-and _ _ (Decides-and _ _ (bytes_decides a.node b.node) (Decides-eqb a.stamp b.stamp)) (bytes_decides a.tenant b.tenant)) (bytes_decides a.app b.app))
    (what_decides a.what b.what))
    (size_decides a.size b.size))

proposed_sound : (a b : Option Proposal) → same_proposed a b ≡ true → a ≡ b
proposed_sound None None h = refl
proposed_sound (Some a) (Some b) h = ap (λ p. Some p) ((proposal_decides a b).0 h)
proposed_sound None (Some b) h = absurd (true≢false (sym h))
proposed_sound (Some a) None h = absurd (true≢false (sym h))

proposed_self : (a : Option Proposal) → same_proposed a a ≡ true
proposed_self None = refl
proposed_self (Some a) = (proposal_decides a a).1 refl

ask_decides : (a b : Pending) → Decides (same_ask a b) (a ≡ b)
ask_decides a b =
    Decides-like (same_ask a b) (λ p. λ i. record { priority = p.0.0 i; count = p.0.1 i; size = p.1 i })
    (λ e. ((ap (λ (x : Pending). x.priority) e, ap (λ (x : Pending). x.count) e), ap (λ (x : Pending). x.size) e))
    (Decides-and _ _ (Decides-and _ _ (Decides-eqb a.priority b.priority) (Decides-eqb a.count b.count)) (size_decides a.size b.size))

containers_decide : (a b : List Container) → Decides (pointwise same_container a b) (a ≡ b)
containers_decide = pointwise_decides container_decides

asks_decide : (a b : List Pending) → Decides (pointwise same_ask a b) (a ≡ b)
asks_decide = pointwise_decides ask_decides

-- ---- replies

reply_sound : (a b : Reply) → same_reply a b ≡ true → a ≡ b
reply_sound Done Done h = refl
reply_sound (Refused a) (Refused b) h = ap (λ r. Refused r) ((refusal_decides a b).0 h)
reply_sound (Placed a) (Placed b) h = ap (λ ps. Placed ps) ((containers_decide a b).0 h)
reply_sound (Proposed a) (Proposed b) h = ap (λ p. Proposed p) (proposed_sound a b h)
reply_sound (Committed a) (Committed b) h = ap (λ p. Committed p) ((container_decides a b).0 h)
reply_sound (Held a p) (Held b q) h = let e = (Decides-and _ _ (containers_decide a b) (asks_decide p q)).0 h in λ i. Held (e.0 i) (e.1 i)
reply_sound (Usage a b c d e) (Usage p q r s t) h =
    let k = (Decides-and _ _ (Decides-and _ _ (Decides-and _ _ (Decides-and _ _ (size_decides a p) (size_decides b q)) (size_decides c r)) (size_decides d s)) (size_decides e t)).0 h in
    λ i. Usage (k.0.0.0.0 i) (k.0.0.0.1 i) (k.0.0.1 i) (k.0.1 i) (k.1 i)
reply_sound _ _ h = absurd (true≢false (sym h))

reply_self : (a : Reply) → same_reply a a ≡ true
reply_self Done = refl
reply_self (Refused a) = (refusal_decides a a).1 refl
reply_self (Placed a) = (containers_decide a a).1 refl
reply_self (Proposed a) = proposed_self a
reply_self (Committed a) = (container_decides a a).1 refl
reply_self (Held a p) = (Decides-and _ _ (containers_decide a a) (asks_decide p p)).1 (refl, refl)
reply_self (Usage a b c d e) =
    (Decides-and _ _ (Decides-and _ _ (Decides-and _ _ (Decides-and _ _ (size_decides a a) (size_decides b b)) (size_decides c c)) (size_decides d d)) (size_decides e e)).1 ((((refl, refl), refl), refl), refl)

reply_decides : (a b : Reply) → Decides (same_reply a b) (a ≡ b)
reply_decides = by_self same_reply reply_sound reply_self

fits_by : (o : Option Reply) (reply : Reply) → Decides (option_map_or (λ given. same_reply given reply) o true) (IfSome o (λ given. given ≡ reply))
fits_by None reply = (λ _. tt, λ _. refl)
fits_by (Some given) reply = reply_decides given reply

-- the test of what an entry has decides whether it fits
pub fits_decides : (e : Entry) (reply : Reply) → Decides (fits_reply e reply) (FitsReply e reply)
fits_decides e reply = fits_by e.reply reply

-- and so does what decides whether the reply that the entry has is this one
pub told_by_test : (r : Bool) (e : Entry) (given reply : Reply) → e.reply ≡ Some given → (IsTrue r ↔ (given ≡ reply)) → r ≡ fits_reply e reply
told_by_test r e given reply there h =
    same_from_decides r (same_reply given reply) h (reply_decides given reply) ∙ ap (λ o. option_map_or (λ x. same_reply x reply) o true) (sym there)
