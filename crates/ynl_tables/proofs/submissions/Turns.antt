-- Submissions by their names and their turns.
use Rattle.std.proofs.Common.{◌≡◌, ◌≢◌, ◌≤◌, ℕ, zero, suc, ◌+◌, nat_lt, not, Bool, true, false, cond, List, [], ◌∷◌, map, length, slice_get, Option, Some, None, IfSome, option_map, refl, sym, ap, ◌∙◌, arith}
use Rattle.std.specs.List.{AllByRecursion, IsDistinct, position_or_len}
use Rattle.std.specs.Map.{lookup}
use Rattle.std.specs.Cmp.Lexicographic.{bytes_decides}
use Rattle.std.proofs.lemmas.Bool.Decides.{nat_tests}
use Rattle.std.proofs.lemmas.List.Quantifiers.{position-Some}
use Rattle.std.proofs.lemmas.Option.{same_Some, none-some, slice_get-map, slice_get-get_or}
use Rattle.ynl_resource.specs.declared.names.Name.{Name}
use Rattle.ynl_resource.specs.Names.{same_name}
use Rattle.indexmap.specs.IndexMap.{set_value_at}
use Rattle.ynl_tables.specs.declared.submissions.submissions.Submission.{Submission}
use Rattle.ynl_tables.specs.submissions.Submissions.{HasDistinctNames, turn_of, with_finished}

self_same : (a : Name) → same_name a a ≡ true
self_same a = (bytes_decides a a).1 refl

-- names that the table tells apart are not the same
pub distinct_names : (entries : List (Name × Submission)) → IsDistinct same_name (map (λ e. e.0) entries) → HasDistinctNames entries
unfolding IsDistinct
distinct_names [] h = tt
distinct_names (e ∷ entries) h = (apart entries h.0, distinct_names entries h.1)
  where
    apart : (fs : List (Name × Submission)) → AllByRecursion (λ name. same_name e.0 name ≡ false) (map (λ f. f.0) fs) → AllByRecursion (λ f. f.0 ≢ e.0) fs
    apart [] k = tt
    apart (f ∷ fs) k = ((λ same. absurd (cc (k.0, ap (λ (x : Name). same_name e.0 x) same, self_same e.0))), apart fs k.1)

-- the application of a turn has the name that was looked up
pub turn_owns : (entries : List (Name × Submission)) (name : Name) (o : Option ℕ) → o ≡ turn_of name entries → IfSome o (λ turn. option_map (λ (e : Name × Submission). e.0) (slice_get entries turn) ≡ Some name)
turn_owns entries name None is = tt
turn_owns entries name (Some turn) is =
    let names : List Name = map (λ (e : Name × Submission). e.0) entries in
    let at = position-Some (same_name name) names turn name (sym is) in
    sym (slice_get-map (λ (e : Name × Submission). e.0) entries turn)
    ∙ slice_get-get_or names turn name at.0
    ∙ ap (λ (x : Name). Some x) (sym ((bytes_decides name _).0 at.1))

-- the table has no name without a turn
pub unused_get : (entries : List (Name × Submission)) (name : Name) → turn_of name entries ≡ None → lookup (same_name name) entries ≡ None
unused_get entries name none = past entries (first (position_or_len (same_name name) (map (λ e. e.0) entries)) (length (map (λ (e : Name × Submission). e.0) entries)) none)
  where
    first : (n len : ℕ) → cond (nat_lt n len) (Some n) None ≡ None → len ≤ n
    first n len h = go (nat_lt n len) refl h
      where
        go : (b : Bool) → nat_lt n len ≡ b → cond b (Some n) None ≡ None → len ≤ n
        go true q k = absurd (none-some n (sym k))
        go false q k = grind (arith, nat_tests)

    past : (es : List (Name × Submission)) → length (map (λ (e : Name × Submission). e.0) es) ≤ position_or_len (same_name name) (map (λ e. e.0) es) → lookup (same_name name) es ≡ None
    past [] h = refl
    past (e ∷ es) h = go (same_name name e.0) (λ k. past es k) h
      where
        names : List Name
        names = map (λ (f : Name × Submission). f.0) es

        go : (b : Bool) → (length names ≤ position_or_len (same_name name) names → lookup (same_name name) es ≡ None) → suc (length names) ≤ cond (not b) (1 + position_or_len (same_name name) names) 0
            → cond b (Some e.1) (lookup (same_name name) es) ≡ None
        go true later k = absurd (omega arith)
        go false later k = later (omega arith)

-- a write of the submission at a turn
pub set-finished : (entries : List (Name × Submission)) (turn : ℕ) (s : Submission) → slice_get (map (λ e. e.1) entries) turn ≡ Some s → set_value_at entries turn (record s { app = None }) ≡ with_finished turn entries
set-finished [] turn s at = refl
set-finished (e ∷ entries) zero s at = ap (λ (x : Submission). (e.0, record x { app = None }) ∷ entries) (sym (same_Some e.1 s at))
set-finished (e ∷ entries) (suc turn) s at = ap (λ es. e ∷ es) (set-finished entries turn s at)

pub length-finished : (turn : ℕ) (entries : List (Name × Submission)) → length (with_finished turn entries) ≡ length entries
length-finished turn [] = refl
length-finished zero (e ∷ entries) = refl
length-finished (suc turn) (e ∷ entries) = ap suc (length-finished turn entries)
