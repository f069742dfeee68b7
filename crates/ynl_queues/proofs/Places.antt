-- Places of queues: the row of each, and the steps to a queue as they are found.
use Rattle.std.proofs.Common.{◌≡◌, ℕ, zero, suc, ◌+◌, ◌<◌, ◌≤◌, Bool, true, false, cond, List, [], ◌∷◌, ◌++◌, length, take, get_or, find, Some, None, option_map, inl, inr, refl, sym, ap, subst, ◌∙◌, arith, length-append, below_more}
use Rattle.std.specs.Prelude.{nat_lt}
use Rattle.std.specs.List.{All, position, position_or_len}
use Rattle.std.specs.Cmp.Lexicographic.{pointwise_decides, bytes_decides}
use Rattle.std.proofs.Math.Seq.{get_or-append_seam}
use Rattle.std.proofs.lemmas.List.{get_or_append_left}
use Rattle.std.proofs.lemmas.Bool.Decides.{nat_tests}
use Rattle.std.proofs.lemmas.List.Folds.{find_at}
use Rattle.std.proofs.lemmas.Option.{slice_get_past, slice_get_cases, slice_get-map, get_or_from_slice_get}
use Rattle.std.proofs.lemmas.List.Elements.{All-head, All-tail}
use Rattle.std.proofs.lemmas.List.Quantifiers.{position-Some}
use mathlib.Core.Bool.{true≢false}
use Rattle.ynl_resource.specs.Names.{same_path, same_label}
use Rattle.ynl_resource.specs.declared.paths.Path.{Path}
use Rattle.ynl_resource.specs.declared.labels.Label.{Label}
use Rattle.ynl_resource.specs.declared.labels.Label.TheVariants.{Unlabelled, Named}
use Rattle.ynl_model.specs.Queues.{QueueRow, Config, queue_row, capacity_on}
use Rattle.ynl_queues.specs.Index.{IsPlaceOf, AreStepsTo, capacities_on}

-- ---- what is looked for in lists

position_inside : {X : Type 0} (p : X → Bool) (xs : List X) (i : ℕ) → position p xs ≡ Some i → i < length xs
position_inside p [] i e = cc
position_inside p (x ∷ xs) i e = (position-Some p (x ∷ xs) i x e).0

-- what stands first is what is found
position_found : {X : Type 0} (p : X → Bool) (xs : List X) (i : ℕ) (d : X) → i < length xs → p (get_or xs i d) ≡ true → ((k : ℕ) → k < i → p (get_or xs k d) ≡ false) → find p xs ≡ Some (get_or xs i d)
position_found p [] i d inside here before = absurd (omega arith)
position_found p (x ∷ xs) zero d inside here before = λ k. cond (here k) (Some x) (find p xs)
position_found p (x ∷ xs) (suc i) d inside here before =
    (λ k. cond (before 0 (omega arith) k) (Some x) (find p xs))
    ∙ position_found p xs i d (omega arith) here (λ k below. before (suc k) (omega (arith, below)))

-- and where nothing passes nothing is found
position_none : {X : Type 0} (p : X → Bool) (xs : List X) → position p xs ≡ None → find p xs ≡ None
position_none p xs e = find_at p xs ∙ slice_get_past xs (position_or_len p xs) (go (nat_lt (position_or_len p xs) (length xs)) refl e)
  where
    go : (b : Bool) → nat_lt (position_or_len p xs) (length xs) ≡ b → cond b (Some (position_or_len p xs)) None ≡ None → length xs ≤ position_or_len p xs
    go true before e = cc
    go false past e = grind (arith, nat_tests)

-- what is found has what each has, and passes
pub found_has : {X : Type 0} (P : X → Type 0) (p : X → Bool) (xs : List X) (x : X) → All P xs → find p xs ≡ Some x → P x × (p x ≡ true)
found_has P p [] x h e = cc
found_has P p (y ∷ ys) x h e = go (p y) refl e (found_has P p ys x (All-tail P y ys h))
  where
    go : (b : Bool) → p y ≡ b → cond b (Some y) (find p ys) ≡ Some x → (find p ys ≡ Some x → P x × (p x ≡ true)) → P x × (p x ≡ true)
    go true passes e rest = let same : y ≡ x = cc in (subst P same (All-head P y ys h), ap p (sym same) ∙ passes)
    go false passes e rest = rest e

-- paths and labels that are the same are equal
pub same_path_equal : (a b : Path) → same_path a b ≡ true → a ≡ b
same_path_equal a b h = (pointwise_decides bytes_decides a b).0 h

pub same_label_equal : (a b : Label) → same_label a b ≡ true → a ≡ b
same_label_equal Unlabelled Unlabelled h = refl
same_label_equal Unlabelled (Named n) h = absurd (true≢false (sym h))
same_label_equal (Named n) Unlabelled h = absurd (true≢false (sym h))
same_label_equal (Named n) (Named m) h = ap (λ name. Named name) ((bytes_decides n m).0 h)

-- ---- places

-- a queue's row is the one at its place
pub place_row : (c : Config) (queue : Path) (place : ℕ) → IsPlaceOf c.queues queue place → (d : QueueRow) → queue_row c queue ≡ Some (get_or c.queues place d)
place_row c queue place h d =
    let stands = position-Some (λ row. same_path row.path queue) c.queues place d h.first in
    position_found (λ row. same_path row.path queue) c.queues place d stands.0 stands.1 stands.2

-- a queue without a place has no row
pub no_row : (c : Config) (queue : Path) → position (λ row. same_path row.path queue) c.queues ≡ None → queue_row c queue ≡ None
no_row c queue e = position_none (λ row. same_path row.path queue) c.queues e

-- the row at a queue's place has its path
pub place_path : (rows : List QueueRow) (queue : Path) (place : ℕ) → IsPlaceOf rows queue place → (d : QueueRow) → (get_or rows place d).path ≡ queue
place_path rows queue place h d = same_path_equal (get_or rows place d).path queue (position-Some (λ row. same_path row.path queue) rows place d h.first).1

-- the place that is found
pub place_found : (rows : List QueueRow) (queue : Path) (place : ℕ) → position (λ row. same_path row.path queue) rows ≡ Some place → IsPlaceOf rows queue place
place_found rows queue place e = record { inside = position_inside (λ row. same_path row.path queue) rows place e; first = e }

-- the steps to a queue, with one more
pub steps_more : (rows : List QueueRow) (queue : Path) (depth : ℕ) (steps : List ℕ) (place : ℕ) → AreStepsTo rows queue depth steps → IsPlaceOf rows (take (depth + 1) queue) place → AreStepsTo rows queue (depth + 1) (steps ++ place ∷ [])
steps_more rows queue depth steps place h is = record {
  each = omega (arith, length-append steps (place ∷ []), h.each);
  places = λ i d below. below_more (λ k. (d : ℕ) → IsPlaceOf rows (take (k + 1) queue) (get_or (steps ++ place ∷ []) k d)) depth before last i below d;
}
  where
    before : (k : ℕ) → k < depth → (d : ℕ) → IsPlaceOf rows (take (k + 1) queue) (get_or (steps ++ place ∷ []) k d)
    before k below d = subst (IsPlaceOf rows (take (k + 1) queue)) (sym (get_or_append_left steps (place ∷ []) d k (omega (arith, h.each, below)))) (h.places k d below)

    last : (d : ℕ) → IsPlaceOf rows (take (depth + 1) queue) (get_or (steps ++ place ∷ []) depth d)
    last d = subst (IsPlaceOf rows (take (depth + 1) queue)) (sym (ap (λ n. get_or (steps ++ place ∷ []) n d) (sym h.each) ∙ get_or-append_seam steps place [] d)) is

-- what stands at a queue's place of all queues' capacities is its own
pub place_share : (c : Config) (queue : Path) (label : Label) (place : ℕ) → IsPlaceOf c.queues queue place → (d : ℕ) → get_or (capacities_on c label) place d ≡ capacity_on c queue label
place_share c queue label place h d = elim (slice_get_cases c.queues place).1 [
  | inl (row, inside, there, same) ↦
      let share = λ (r : QueueRow). capacity_on c r.path label in
      let at : row.path ≡ queue = ap (λ (r : QueueRow). r.path) (sym same) ∙ place_path c.queues queue place h row in
      get_or_from_slice_get (capacities_on c label) place (share row) d (slice_get-map share c.queues place ∙ ap (option_map share) there)
      ∙ ap (λ (path : Path). capacity_on c path label) at
  | inr (past, none) ↦ absurd (omega (arith, past, h.inside))
]
