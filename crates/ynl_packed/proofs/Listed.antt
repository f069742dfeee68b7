-- Events and entries as pieces of bytes.
use Rattle.std.proofs.Common.{◌≡◌, ℕ, ◌<◌, List, [], ◌∷◌, ◌++◌, length, get_or, Option, Some, None, Result, Ok, Err, refl, sym, ap, subst, ◌∙◌}
use Rattle.std.proofs.lemmas.List.{append-nil, map_push}
use Rattle.std.proofs.lemmas.List.Elements.{All-append, All-push, All-get_or}
use Rattle.std.specs.Prelude.{All, OnOk, OnErr}
use Rattle.std.specs.Option.{option_map_or}
use Rattle.ynl_model.specs.declared.events.Event.{Event}
use Rattle.ynl_model.specs.declared.events.Event.TheVariants.{Heartbeat}
use Rattle.ynl_model.specs.declared.replies.Reply.{Reply}
use Rattle.ynl_model.specs.declared.entries.Entry.{Entry}
use Rattle.ynl_packed.specs.Fits.{FitsEvent, FitsReply}
use Rattle.ynl_packed.specs.Spelling.{event_bytes, reply_bytes}
use Rattle.ynl_packed.specs.Reading.{◌>>=◌, Gives, mapped, event_at, reply_at}
use Rattle.ynl_packed.specs.Lists.{event_in, IsEvent, events_in, AreEvents, answered, entry_bytes, entry_at, entry_in, IsEntry, entries_in, AreEntries}
use Rattle.ynl_packed.proofs.EventsAgain.{event_again}
use Rattle.ynl_packed.proofs.RepliesAgain.{reply_again}

read : (e : Event) → FitsEvent e → event_at (event_bytes e) ≡ Some (e, [])
read e fits = ap event_at (sym (append-nil (event_bytes e))) ∙ event_again e [] fits

pub event_in_read : (piece : List ℕ) (e : Event) (rest : List ℕ) → event_at piece ≡ Some (e, rest) → event_in piece ≡ e
event_in_read piece e rest is = ap (λ o. option_map_or (λ x. x.0) o (Heartbeat [])) is

pub is_event : (e : Event) → FitsEvent e → IsEvent (event_bytes e)
is_event e fits =
    let is : event_in (event_bytes e) ≡ e = event_in_read (event_bytes e) e [] (read e fits) in
    record { fits = subst FitsEvent (sym is) fits; spelled = ap event_bytes (sym is) }

pub events_in_push : (pieces : List (List ℕ)) (e : Event) → FitsEvent e → events_in (pieces ++ event_bytes e ∷ []) ≡ events_in pieces ++ e ∷ []
events_in_push pieces e fits =
    map_push event_in pieces (event_bytes e) ∙ ap (λ (x : Event). events_in pieces ++ x ∷ []) (event_in_read (event_bytes e) e [] (read e fits))

pub piece_is_event : (pieces : List (List ℕ)) (i : ℕ) → i < length pieces → AreEvents pieces → IsEvent (get_or pieces i [])
piece_is_event pieces i lt all = All-get_or IsEvent pieces i [] lt all

some_is_none : (x : Event × List ℕ) → Some x ≡ None → ⊥
some_is_none x e = absurd cc

-- the bytes of an event are not read as none, and as no other
pub event_not_none : (piece : List ℕ) (e : Event) → piece ≡ event_bytes e → FitsEvent e → event_at piece ≡ None → ⊥
event_not_none piece e is fits none = some_is_none (e, []) (sym (read e fits) ∙ ap event_at (sym is) ∙ none)

pub read_is : (piece : List ℕ) (e found : Event) (rest : List ℕ) → piece ≡ event_bytes e → FitsEvent e → event_at piece ≡ Some (found, rest) → found ≡ e
read_is piece e found rest is fits read_found =
    sym (event_in_read piece found rest read_found) ∙ event_in_read piece e [] (ap event_at is ∙ read e fits)

pub pieces_pushed : {X E : Type 0} (Is : List ℕ → Type 0) (r : Result X E) (old new : List (List ℕ)) (piece : List ℕ) → Is piece → OnOk r (new ≡ old ++ piece ∷ []) → OnErr r (new ≡ old) → All Is old → All Is new
pieces_pushed Is (Ok x) old new piece is ok err all = subst (All Is) (sym ok) (All-push Is old piece all is)
pieces_pushed Is (Err x) old new piece is ok err all = subst (All Is) (sym err) all

pub pieces_appended : {X E : Type 0} (Is : List ℕ → Type 0) (r : Result X E) (old others new : List (List ℕ)) → All Is others → OnOk r (new ≡ old ++ others) → OnErr r (new ≡ old) → All Is old → All Is new
pieces_appended Is (Ok x) old others new these ok err all = subst (All Is) (sym ok) (All-append Is old others all these)
pieces_appended Is (Err x) old others new these ok err all = subst (All Is) (sym err) all

-- ---- entries

entry_again : (e : Event) (r : Reply) → FitsEvent e → FitsReply r → entry_at (event_bytes e ++ reply_bytes r) ≡ Some (answered e r, [])
unfolding entry_at
entry_again e r event reply =
    rw (event_again e (reply_bytes r) event)
    (ap (λ t. t >>= λ x. Some (answered e x.0, x.1)) (ap reply_at (sym (append-nil (reply_bytes r))) ∙ reply_again r [] reply))

-- an event and its reply, where that is read into a place
pub answered_read : {X : Type 0} (e : Event) (found : Option X) (read : Option (Reply × List ℕ)) (reply : Option Reply) (rest : List ℕ) →
    Gives {Y = Option Reply × List ℕ} (λ _. (reply, rest)) found (mapped Some read) → Gives {Y = Entry × List ℕ} (λ _. (record { event = e; reply = reply }, rest)) found (read >>= λ x. Some (answered e x.0, x.1))
answered_read e None None reply rest gives = refl
answered_read e None (Some x) reply rest gives = absurd cc
answered_read e (Some y) None reply rest gives = absurd cc
answered_read e (Some y) (Some x) reply rest gives = ap (λ r. r >>= λ z. Some (record { event = e; reply = z.0 }, z.1)) gives

pub entry_in_read : (piece : List ℕ) (e : Entry) (rest : List ℕ) → entry_at piece ≡ Some (e, rest) → entry_in piece ≡ e
entry_in_read piece e rest is = ap (λ o. option_map_or (λ x. x.0) o (record { event = Heartbeat []; reply = None })) is

pub is_entry : (e : Event) (r : Reply) → FitsEvent e → FitsReply r → IsEntry (event_bytes e ++ reply_bytes r)
is_entry e r event reply =
    let piece : List ℕ = event_bytes e ++ reply_bytes r in
    let is : entry_in piece ≡ answered e r = entry_in_read piece (answered e r) [] (entry_again e r event reply) in
    record {
      read = entry_again e r event reply ∙ ap (λ (x : Entry). Some (x, [])) (sym is);
      spelled = ap entry_bytes (sym is);
    }

pub entries_in_push : (pieces : List (List ℕ)) (e : Event) (r : Reply) → FitsEvent e → FitsReply r → entries_in (pieces ++ (event_bytes e ++ reply_bytes r) ∷ []) ≡ entries_in pieces ++ answered e r ∷ []
entries_in_push pieces e r event reply =
    map_push entry_in pieces (event_bytes e ++ reply_bytes r)
    ∙ ap (λ (x : Entry). entries_in pieces ++ x ∷ []) (entry_in_read (event_bytes e ++ reply_bytes r) (answered e r) [] (entry_again e r event reply))

pub piece_is_entry : (pieces : List (List ℕ)) (i : ℕ) → i < length pieces → AreEntries pieces → IsEntry (get_or pieces i [])
piece_is_entry pieces i lt all = All-get_or IsEntry pieces i [] lt all

some_entry_is_none : (x : Entry × List ℕ) → Some x ≡ None → ⊥
some_entry_is_none x e = absurd cc

pub entry_not_none : (piece : List ℕ) → IsEntry piece → entry_at piece ≡ None → ⊥
entry_not_none piece is none = some_entry_is_none (entry_in piece, []) (sym is.read ∙ none)

-- two pieces are the same exactly where their entries are
pub same_entry : (a b : List ℕ) → IsEntry a → IsEntry b → entry_in a ≡ entry_in b → a ≡ b
same_entry a b is_a is_b same = is_a.spelled ∙ ap entry_bytes same ∙ sym is_b.spelled

-- what was read, of which is known whether it is there
pub gives_none : {X Y : Type 0} (view : X → Y) (found : Option X) (read : Option Y) → found ≡ None → Gives view found read → read ≡ None
gives_none view None read is gives = gives
gives_none view (Some x) read is gives = absurd cc

pub gives_some : {X Y : Type 0} (view : X → Y) (found : Option X) (x : X) (read : Option Y) → found ≡ Some x → Gives view found read → read ≡ Some (view x)
gives_some view found x read is gives = subst (λ f. Gives view f read) is gives
