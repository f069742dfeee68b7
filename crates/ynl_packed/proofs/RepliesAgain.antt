-- A reply that was kept is read again.
use Rattle.std.proofs.Common.{◌≡◌, ℕ, List, [], ◌∷◌, ◌++◌, length, Option, Some, None, refl, append_assoc}
use Rattle.std.proofs.lemmas.List.Elements.{All-head, All-tail}
use Rattle.std.specs.Prelude.{All}
use Rattle.std.specs.List.{flat_map}
use Rattle.ynl_resource.specs.Refusals.{word}
use Rattle.ynl_resource.proofs.RefusalTrip.{refusal_back}
use Rattle.ynl_model.specs.declared.containers.Placed.{Placed as Container}
use Rattle.ynl_model.specs.declared.replies.Pending.{Pending}
use Rattle.ynl_model.specs.declared.replies.Reply.{Reply}
use Rattle.ynl_model.specs.declared.replies.Reply.TheVariants.{Done, Refused, Placed, Proposed, Committed, Held, Usage}
use Rattle.ynl_packed.specs.Fits.{FitsContainer, FitsPending, FitsItems, FitsReply}
use Rattle.ynl_packed.specs.Spelling.{text_bytes, small_bytes, number_bytes, what_bytes, size_bytes, amount_bytes, id_bytes, items_bytes, container_bytes, pending_bytes, reply_bytes}
use Rattle.ynl_packed.specs.Reading.{kind_at, many, items_at, container_at, pending_at, refused_at, placed_at, proposed_at, committed_at, held_at, usage_reply_at, reply_of, reply_at}
use Rattle.ynl_packed.proofs.FieldsAgain.{small_again, number_again, long_again, name_again, size_again, amount_again, id_again, what_again, proposal_again}

pub container_again : (p : Container) (rest : List ℕ) → FitsContainer p → container_at (container_bytes p ++ rest) ≡ Some (p, rest)
unfolding container_at container_bytes
container_again p rest fits =
    rw (
      append_assoc (id_bytes p.id ++ text_bytes p.node ++ text_bytes p.tenant ++ text_bytes p.app ++ what_bytes p.what) (size_bytes p.size) rest,
      append_assoc (id_bytes p.id ++ text_bytes p.node ++ text_bytes p.tenant ++ text_bytes p.app) (what_bytes p.what) (size_bytes p.size ++ rest),
      append_assoc (id_bytes p.id ++ text_bytes p.node ++ text_bytes p.tenant) (text_bytes p.app) (what_bytes p.what ++ (size_bytes p.size ++ rest)),
      append_assoc (id_bytes p.id ++ text_bytes p.node) (text_bytes p.tenant) (text_bytes p.app ++ (what_bytes p.what ++ (size_bytes p.size ++ rest))),
      append_assoc (id_bytes p.id) (text_bytes p.node) (text_bytes p.tenant ++ (text_bytes p.app ++ (what_bytes p.what ++ (size_bytes p.size ++ rest)))),
      id_again p.id (text_bytes p.node ++ (text_bytes p.tenant ++ (text_bytes p.app ++ (what_bytes p.what ++ (size_bytes p.size ++ rest))))) fits.id,
      name_again p.node (text_bytes p.tenant ++ (text_bytes p.app ++ (what_bytes p.what ++ (size_bytes p.size ++ rest)))) fits.node,
      name_again p.tenant (text_bytes p.app ++ (what_bytes p.what ++ (size_bytes p.size ++ rest))) fits.tenant,
      name_again p.app (what_bytes p.what ++ (size_bytes p.size ++ rest)) fits.app,
      what_again p.what (size_bytes p.size ++ rest) fits.what,
      size_again p.size rest fits.size,
    ) refl

pending_again : (p : Pending) (rest : List ℕ) → FitsPending p → pending_at (pending_bytes p ++ rest) ≡ Some (p, rest)
unfolding pending_at pending_bytes
pending_again p rest fits =
    rw (
      append_assoc (small_bytes p.priority ++ small_bytes p.count) (size_bytes p.size) rest,
      append_assoc (small_bytes p.priority) (small_bytes p.count) (size_bytes p.size ++ rest),
      small_again p.priority (small_bytes p.count ++ (size_bytes p.size ++ rest)) fits.priority,
      small_again p.count (size_bytes p.size ++ rest) fits.count,
      size_again p.size rest fits.size,
    ) refl

-- what a reader reads again
abbrev IsReadAgain : {T : Type 0} → (T → Type 0) → (T → List ℕ) → (List ℕ → Option (T × List ℕ)) → Type 0
IsReadAgain {T} fits bytes at = (x : T) (rest : List ℕ) → fits x → at (bytes x ++ rest) ≡ Some (x, rest)

many_again : {T : Type 0} (fits : T → Type 0) (bytes : T → List ℕ) (at : List ℕ → Option (T × List ℕ)) → IsReadAgain fits bytes at →
    (xs : List T) (rest : List ℕ) → All fits xs → many at (length xs) (flat_map bytes xs ++ rest) ≡ Some (xs, rest)
many_again fits bytes at again [] rest h = refl
many_again fits bytes at again (x ∷ xs) rest h =
    rw (append_assoc (bytes x) (flat_map bytes xs) rest, again x (flat_map bytes xs ++ rest) (All-head fits x xs h), many_again fits bytes at again xs rest (All-tail fits x xs h)) refl

items_again : {T : Type 0} (fits : T → Type 0) (bytes : T → List ℕ) (at : List ℕ → Option (T × List ℕ)) → IsReadAgain fits bytes at →
    (xs : List T) (rest : List ℕ) → FitsItems fits xs → items_at at (items_bytes bytes xs ++ rest) ≡ Some (xs, rest)
unfolding items_at
items_again fits bytes at again xs rest h =
    rw (append_assoc (number_bytes (length xs)) (flat_map bytes xs) rest, number_again (length xs) (flat_map bytes xs ++ rest) h.count, many_again fits bytes at again xs rest h.each) refl

containers_again : (ps : List Container) (rest : List ℕ) → FitsItems FitsContainer ps → items_at container_at (items_bytes container_bytes ps ++ rest) ≡ Some (ps, rest)
containers_again = items_again FitsContainer container_bytes container_at container_again

asks_again : (ps : List Pending) (rest : List ℕ) → FitsItems FitsPending ps → items_at pending_at (items_bytes pending_bytes ps ++ rest) ≡ Some (ps, rest)
asks_again = items_again FitsPending pending_bytes pending_at pending_again

pub reply_again : (r : Reply) (rest : List ℕ) → FitsReply r → reply_at (reply_bytes r ++ rest) ≡ Some (r, rest)
unfolding reply_at kind_at reply_of refused_at placed_at proposed_at committed_at held_at usage_reply_at
reply_again Done rest fits = refl
reply_again (Refused refusal) rest fits = rw (long_again (word refusal) rest fits, refusal_back refusal) refl
reply_again (Placed containers) rest fits = rw (containers_again containers rest fits) refl
reply_again (Proposed None) rest fits = refl
reply_again (Proposed (Some proposal)) rest fits = rw (proposal_again proposal rest fits) refl
reply_again (Committed container) rest fits = rw (container_again container rest fits) refl
reply_again (Held containers asks) rest fits =
    rw (
      append_assoc (items_bytes container_bytes containers) (items_bytes pending_bytes asks) rest,
      containers_again containers (items_bytes pending_bytes asks ++ rest) fits.0,
      asks_again asks rest fits.1,
    ) refl
reply_again (Usage used guaranteed maximum masters guests) rest fits =
    rw (
      append_assoc (amount_bytes used ++ amount_bytes guaranteed ++ amount_bytes maximum ++ amount_bytes masters) (amount_bytes guests) rest,
      append_assoc (amount_bytes used ++ amount_bytes guaranteed ++ amount_bytes maximum) (amount_bytes masters) (amount_bytes guests ++ rest),
      append_assoc (amount_bytes used ++ amount_bytes guaranteed) (amount_bytes maximum) (amount_bytes masters ++ (amount_bytes guests ++ rest)),
      append_assoc (amount_bytes used) (amount_bytes guaranteed) (amount_bytes maximum ++ (amount_bytes masters ++ (amount_bytes guests ++ rest))),
      amount_again used (amount_bytes guaranteed ++ (amount_bytes maximum ++ (amount_bytes masters ++ (amount_bytes guests ++ rest)))) fits.0.memory fits.0.vcores,
      amount_again guaranteed (amount_bytes maximum ++ (amount_bytes masters ++ (amount_bytes guests ++ rest))) fits.1.memory fits.1.vcores,
      amount_again maximum (amount_bytes masters ++ (amount_bytes guests ++ rest)) fits.2.memory fits.2.vcores,
      amount_again masters (amount_bytes guests ++ rest) fits.3.memory fits.3.vcores,
      amount_again guests rest fits.4.memory fits.4.vcores,
    ) refl
