-- The evidence of a journal, one entry after another.
use Rattle.std.proofs.Common.{◌≡◌, ℕ, ◌+◌, ◌<◌, List, [], ◌∷◌, ◌++◌, map, length, get_or, drop, Option, Some, None, refl, sym, ap, ◌∙◌, subst, append_assoc, length-append}
use Rattle.std.proofs.lemmas.List.{drop_more}
use Rattle.std.specs.Prelude.{slice_get}
use Rattle.std.specs.Option.{option_and_then}
use Rattle.ynl_resource.specs.declared.names.Name.{Name}
use Rattle.ynl_resource.specs.declared.labels.Label.{Label}
use Rattle.ynl_model.specs.declared.entries.Entry.{Entry}
use Rattle.ynl_model.specs.declared.events.Event.{Event}
use Rattle.ynl_model.specs.declared.nodes.Tracked.{Tracked}
use Rattle.ynl_model.specs.declared.replies.Reply.{Reply}
use Rattle.ynl_model.specs.Queues.{Config}
use Rattle.ynl_model.specs.View.{Viewed, seen_of, track_step, with_seen, view_from}
use Rattle.ynl_journal.specs.Journal.{events_in, entry}
use Rattle.ynl_view.specs.evidence.Evidence.{Placed, reply_at, with_reply, evidence_of, noted, evidence_from}

entry-at : (before : List Entry) (e : Entry) (es : List Entry) → slice_get (before ++ (e ∷ es)) (length before) ≡ Some e
entry-at [] e es = refl
entry-at (x ∷ before) e es = entry-at before e es

noted-next : (o : Option Event) (place : ℕ) (all : List Entry) (reply : Option Reply) (rest : List Viewed) (more : List Placed) → reply_at all place ≡ reply → map (with_reply all) rest ≡ more
    → map (with_reply all) (with_seen place o rest) ≡ noted place o reply ++ more
noted-next None place all reply rest more at same = same
noted-next (Some event) place all reply rest more at same = λ i. (place, entry event (at i)) ∷ same i

module _ (t : Name) (p : Label) (c : Config) where
  abbrev Gathers : List Entry → ℕ → List Tracked → List Entry → Type 0
  Gathers all place nodes es = map (with_reply all) (view_from t p c place nodes (events_in es)) ≡ evidence_from t p c place nodes es

  gathers : (before : List Entry) (nodes : List Tracked) (es : List Entry) → Gathers (before ++ es) (length before) nodes es
  gathers before nodes [] = refl
  gathers before nodes (e ∷ es) =
      let next = track_step c nodes e.event in
      let rest : Gathers ((before ++ e ∷ []) ++ es) (length (before ++ e ∷ [])) next es = gathers (before ++ e ∷ []) next es in
      noted-next (seen_of t p c nodes e.event) (length before) (before ++ (e ∷ es)) e.reply (view_from t p c (length before + 1) next (events_in es)) (evidence_from t p c (length before + 1) next es)
      (ap (option_and_then (λ (x : Entry). x.reply)) (entry-at before e es))
      (go _ _ _ _ (append_assoc before (e ∷ []) es) (length-append before (e ∷ [])) next rest)
    where
      go : (all more : List Entry) (n k : ℕ) → all ≡ more → n ≡ k → (next : List Tracked) → Gathers all n next es → Gathers more k next es
      go all more n k same at next h = subst (λ (x : List Entry). Gathers x k next es) same (subst (λ (x : ℕ). Gathers all x next es) at h)

pub gathered : (c : Config) (entries : List Entry) (t : Name) (p : Label) → evidence_of c entries t p ≡ evidence_from t p c 0 [] entries
gathered c entries t p = gathers t p c [] [] entries

-- ---- one entry more

pub noted-more : (c : Config) (t : Name) (p : Label) (place : ℕ) (nodes next : List Tracked) (entries : List Entry) (e : Entry) (found more : List Placed) (seen : Option Event) (all : List Placed)
    → place < length entries → e ≡ get_or entries place e → seen ≡ seen_of t p c nodes e.event → next ≡ track_step c nodes e.event → more ≡ found ++ noted place seen e.reply
    → found ++ evidence_from t p c place nodes (drop place entries) ≡ all → more ++ evidence_from t p c (place + 1) next (drop (place + 1) entries) ≡ all
noted-more c t p place nodes next entries e found more seen all inside at is step longer so_far =
    let after = drop (place + 1) entries in
    let rest : drop place entries ≡ e ∷ after = drop_more entries place e inside ∙ ap (λ y. y ∷ after) (sym at) in
    let later = evidence_from t p c (place + 1) (track_step c nodes e.event) after in
    ap (λ (placed : List Placed). placed ++ evidence_from t p c (place + 1) next after) longer
    ∙ ap (λ (track : List Tracked). (found ++ noted place seen e.reply) ++ evidence_from t p c (place + 1) track after) step
    ∙ ap (λ (s : Option Event). (found ++ noted place s e.reply) ++ later) is
    ∙ append_assoc found (noted place (seen_of t p c nodes e.event) e.reply) later
    ∙ sym (ap (λ (es : List Entry). found ++ evidence_from t p c place nodes es) rest) ∙ so_far
