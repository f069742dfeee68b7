-- What evidence without a flaw is.
use Rattle.std.proofs.Common.{◌≡◌, ℕ, ◌+◌, ◌<◌, Bool, true, false, cond, List, [], ◌∷◌, ◌++◌, length, get_or, Option, None, Ok, Err, refl, sym, ap, subst, ◌∙◌, arith, append_assoc, append-nil}
use Rattle.std.specs.Prelude.{nat_lt}
use Rattle.std.proofs.lemmas.Bool.{and_parts}
use Rattle.std.proofs.lemmas.Bool.Decides.{nat_tests}
use Rattle.std.proofs.lemmas.List.{map-append}
use Rattle.std.proofs.lemmas.List.Folds.{list_all_at}
use Rattle.std.proofs.lemmas.List.Quantifiers.{all_pairs_push}
use mathlib.Core.Bool.{true≢false}
use Rattle.ynl_resource.specs.declared.names.Name.{Name}
use Rattle.ynl_resource.specs.declared.labels.Label.{Label}
use Rattle.ynl_model.specs.declared.entries.Entry.{Entry}
use Rattle.ynl_model.specs.Queues.{Config}
use Rattle.ynl_model.specs.View.{track, view, events_of, restrict}
use Rattle.ynl_model.specs.Cluster.{opening}
use Rattle.ynl_journal.specs.Journal.{Agrees}
use Rattle.ynl_journal.specs.Same.{fits_reply}
use Rattle.ynl_journal.proofs.Longer.{agrees_push}
use Rattle.ynl_journal.proofs.Same.{fits_decides}
use Rattle.ynl_view.specs.declared.evidence.flaws.Flaw.TheVariants.{NotKept, Differs}
use Rattle.ynl_view.specs.evidence.Evidence.{Placed, entries_in, events_placed}
use Rattle.ynl_view.specs.evidence.Flaws.{comes_behind, may_follow, reply_alone, taken, Found, unless_flawed, flaw_from}
use Rattle.ynl_view.specs.evidence.Kept.{is_kept}
use Rattle.ynl_view.specs.evidence.Promises.{IsRight, FlawlessIsRight}
use Rattle.ynl_view.proofs.evidence.Kept.{kept-is, events-push, view-push}

-- ---- entries that are taken

-- what is known of an entry without a flaw: it may follow, its reply is right, and the rest has no flaw
pub record Passed (c : Config) (t : Name) (p : Label) (before : List Placed) (x : Placed) (rest : List Placed → Option Found) : Type 0 where
  pub follows : may_follow c t p before x ≡ true
  pub alike : fits_reply x.1 (reply_alone c t before x.1.event) ≡ true
  pub more : rest (before ++ x ∷ []) ≡ None

pub passed : (c : Config) (t : Name) (p : Label) (before : List Placed) (x : Placed) (rest : List Placed → Option Found) (n : ℕ) → unless_flawed rest n (taken c t p before x) ≡ None → Passed c t p before x rest
passed c t p before x rest n h = go (may_follow c t p before x) (fits_reply x.1 (reply_alone c t before x.1.event)) refl refl h
  where
    go : (b d : Bool) → may_follow c t p before x ≡ b → fits_reply x.1 (reply_alone c t before x.1.event) ≡ d → unless_flawed rest n (cond b (cond d (Ok (before ++ x ∷ [])) (Err Differs)) (Err NotKept)) ≡ None → Passed c t p before x rest
    go true true e f h = record { follows = e; alike = f; more = h }
    go true false e f h = absurd (cc)
    go false d e f h = absurd (cc)

-- ---- one entry more

-- a place that comes behind is above each of those before
above : (before : List Placed) (place : ℕ) → comes_behind before place ≡ true → (k : ℕ) (x : Placed) → k < length before → (get_or before k x).0 < place
above before place behind k x inside = go (nat_lt (get_or before k x).0 place) refl
  where
    go : (b : Bool) → nat_lt (get_or before k x).0 place ≡ b → (get_or before k x).0 < place
    go true e = grind (arith, nat_tests)
    go false e = absurd (true≢false (sym behind ∙ list_all_at (λ (y : Placed). nat_lt y.0 place) before k x inside e))

pub right-push : (c : Config) (t : Name) (p : Label) (before : List Placed) (x : Placed) → IsRight c t p before → may_follow c t p before x ≡ true → fits_reply x.1 (reply_alone c t before x.1.event) ≡ true → IsRight c t p (before ++ x ∷ [])
right-push c t p before x right follows alike =
    let parts = and_parts (comes_behind before x.0) (is_kept c t p (track c (events_placed before)) x.1.event) follows in
    let seen = kept-is c t p (track c (events_placed before)) x.1.event parts.1 in
    let A : List Entry → Type 0 = λ es. Agrees (restrict c t) es in
    record {
      rising = all_pairs_push (λ (a b : Placed). a.0 < b.0) before x right.rising (λ k y inside. above before x.0 parts.0 k y inside);
      kept = ap (λ es. events_of (view c es t p)) (events-push before x) ∙ view-push t p c 0 [] (events_placed before) x.1.event seen ∙ ap (λ es. es ++ x.1.event ∷ []) right.kept ∙ sym (events-push before x);
      alone = subst A (sym (map-append (λ (y : Placed). y.1) before (x ∷ []))) (agrees_push (restrict c t) (opening (restrict c t)) (entries_in before) x.1 right.alone ((fits_decides x.1 (reply_alone c t before x.1.event)).0 alike));
    }

pub right-nothing : (c : Config) (t : Name) (p : Label) → IsRight c t p []
right-nothing c t p = record { rising = λ i j x low high. absurd (omega arith); kept = refl; alone = tt }

right-from : (c : Config) (t : Name) (p : Label) (before xs : List Placed) → IsRight c t p before → flaw_from c t p before xs ≡ None → IsRight c t p (before ++ xs)
right-from c t p before [] right h = subst (λ placed. IsRight c t p placed) (sym (append-nil before)) right
right-from c t p before (x ∷ xs) right h =
    let q = passed c t p before x (λ more. flaw_from c t p more xs) (length before + 1) h in
    subst (λ placed. IsRight c t p placed) (append_assoc before (x ∷ []) xs) (right-from c t p (before ++ x ∷ []) xs (right-push c t p before x right q.follows q.alike) q.more)

pub flawless_is_right : FlawlessIsRight
flawless_is_right c t p placed h = right-from c t p [] placed (right-nothing c t p) h
