-- A run in which memory was never refused answers each tenant as its own cluster would.
use Rattle.std.proofs.Common.{◌≡◌, ℕ, zero, suc, true, List, [], ◌∷◌, map, length, Some, refl, ap, subst, ◌∙◌, arith}
use Rattle.std.specs.Prelude.{option_map, slice_get}
use Rattle.std.specs.List.{list_all}
use Rattle.std.proofs.lemmas.List.{take_all}
use Rattle.std.proofs.Math.Nat.{le_refl}
use Rattle.ynl_resource.specs.declared.names.Name.{Name}
use Rattle.ynl_resource.specs.declared.labels.Label.{Label}
use Rattle.ynl_model.specs.declared.events.Event.{Event}
use Rattle.ynl_model.specs.declared.replies.Reply.{Reply}
use Rattle.ynl_model.specs.Queues.{Config}
use Rattle.ynl_model.specs.Events.{replies_to, state_after}
use Rattle.ynl_model.specs.View.{view, events_of, places_of, at_places, restrict, seen}
use Rattle.ynl_model.specs.Promises.{Headline}
use Rattle.ynl_laws.proofs.Isolating.Isolated.{is_isolated}
use Rattle.ynl_core.specs.declared.runs.Answer.{Answer}
use Rattle.ynl_core.specs.declared.runs.Answer.TheVariants.{Replied, NoMemory}
use Rattle.ynl_core.specs.World.{World}
use Rattle.ynl_core.specs.Runs.{has_reply, kept, replied, IsRun}
use Rattle.ynl_core.specs.Isolated.{AreIsolated}

-- where all are answered, all are kept
all_kept : (es : List Event) (rest : List Answer) → length rest ≡ length es → list_all has_reply rest ≡ true → kept es rest ≡ es
all_kept [] rest n h = refl
all_kept (e ∷ es) [] n h = absurd (omega arith)
all_kept (e ∷ es) (Replied r ∷ rest) n h = ap (λ zs. e ∷ zs) (all_kept es rest (omega arith) h)
all_kept (e ∷ es) (NoMemory ∷ rest) n h = absurd (cc)

-- and the answers are the replies
all_replied : (rest : List Answer) → list_all has_reply rest ≡ true → rest ≡ map (λ r. Replied r) (replied rest)
all_replied [] h = refl
all_replied (Replied r ∷ rest) h = ap (λ zs. Replied r ∷ zs) (all_replied rest h)
all_replied (NoMemory ∷ rest) h = absurd (cc)

get-map : {A B : Type 0} (f : A → B) (xs : List A) (n : ℕ) → slice_get (map f xs) n ≡ option_map f (slice_get xs n)
get-map f [] n = refl
get-map f (x ∷ xs) zero = refl
get-map f (x ∷ xs) (suc n) = get-map f xs n

-- what stands at some places of the answers
placed : (rs : List Reply) (places : List ℕ) → at_places (map (λ r. Replied r) rs) places ≡ map (option_map (λ r. Replied r)) (at_places rs places)
placed rs [] = refl
placed rs (n ∷ places) = λ i. get-map (λ r. Replied r) rs n i ∷ placed rs places i

somes : (rs : List Reply) → map (option_map (λ r. Replied r)) (map Some rs) ≡ map (λ r. Some (Replied r)) rs
somes [] = refl
somes (r ∷ rs) = ap (λ zs. Some (Replied r) ∷ zs) (somes rs)

-- in the end the partition looks as it does after the last event
looks-last : (c : Config) (events : List Event) (t : Name) (p : Label) → Headline c events t p → seen (state_after c events) p ≡ seen (state_after (restrict c t) (events_of (view c events t p))) p
looks-last c events t p law =
    subst (λ es. seen (state_after c es) p ≡ seen (state_after (restrict c t) (events_of (view c es t p))) p) (take_all (length events) events (le_refl (length events))) (law.containers (length events) (le_refl (length events)))

pub are_isolated : (c : Config) (events : List Event) (answers : List Answer) (core : World) → IsRun c events answers core → AreIsolated c events answers core
are_isolated c events answers core run h t p accepted sole =
    let law : Headline c events t p = is_isolated c events t p accepted sole in
    let k : kept events answers ≡ events = all_kept events answers run.each h in
    let told : answers ≡ map (λ r. Replied r) (replies_to c events) = all_replied answers h ∙ ap (map (λ r. Replied r)) (run.told ∙ ap (replies_to c) k) in
    record {
      replies = ap (λ xs. at_places xs (places_of (view c events t p))) told ∙ placed (replies_to c events) (places_of (view c events t p)) ∙ ap (map (option_map (λ r. Replied r))) law.replies ∙ somes (replies_to (restrict c t) (events_of (view c events t p)));
      looks = ap (λ (w : World). seen w.state p) run.left ∙ ap (λ zs. seen (state_after c zs) p) k ∙ looks-last c events t p law;
      looks_after_each = law.containers;
      maximum = law.maximum;
    }
