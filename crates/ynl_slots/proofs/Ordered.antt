-- Rows under numbers, in the order of the numbers.
use Rattle.std.proofs.Common.{◌≡◌, ◌≢◌, ℕ, Bool, true, false, cond, not, nat_eq, List, [], ◌∷◌, ◌++◌, map, Option, None, Some, option_map, is_some, IsSome, refl, sym, ap, ◌∙◌, arith, append_assoc, true≢false}
use Rattle.std.specs.List.{AllByRecursion}
use Rattle.std.specs.Map.{lookup}
use Rattle.std.proofs.lemmas.Bool.Decides.{nat_tests}
use Rattle.std.proofs.lemmas.List.{map-append}
use Rattle.std.proofs.lemmas.List.Elements.{filter-append}
use Rattle.ynl_slots.specs.Chain.{AreDistinct}
use Rattle.ynl_slots.specs.Kept.{entry}
use Rattle.ynl_slots.specs.Slots.{HasDistinctNumbers, with_row, without}
use Rattle.ynl_slots.proofs.Entries.{itself, without-unused}

-- whether a number is one of these
pub has : ℕ → List ℕ → Bool
has k [] = false
has k (n ∷ ns) = cond (nat_eq k n) true (has k ns)

pub absent : (k : ℕ) (ns : List ℕ) → has k ns ≡ false → AllByRecursion (λ m. m ≢ k) ns
unfolding has
absent k [] h = tt
absent k (n ∷ ns) h = go (nat_eq k n) refl h (absent k ns)
  where
    go : (b : Bool) → nat_eq k n ≡ b → cond b true (has k ns) ≡ false → (has k ns ≡ false → AllByRecursion (λ m. m ≢ k) ns) → AllByRecursion (λ m. m ≢ k) (n ∷ ns)
    go true q h rest = absurd (true≢false h)
    go false q h rest = ((λ same. let met : nat_eq k n ≡ true = grind (arith, nat_tests) in true≢false (sym met ∙ q)), rest h)

-- and where it stands
pub record IsAmong (k : ℕ) (ns : List ℕ) : Type 0 where
  pub front : List ℕ
  pub back : List ℕ
  pub is : ns ≡ front ++ k ∷ back

pub among : (k : ℕ) (ns : List ℕ) → has k ns ≡ true → IsAmong k ns
unfolding has
among k [] h = absurd (true≢false (sym h))
among k (n ∷ ns) h = go (nat_eq k n) refl h (among k ns)
  where
    go : (b : Bool) → nat_eq k n ≡ b → cond b true (has k ns) ≡ true → (has k ns ≡ true → IsAmong k ns) → IsAmong k (n ∷ ns)
    go true q h rest = let same : n ≡ k = grind (arith, nat_tests) in record { front = []; back = ns; is = ap (λ m. m ∷ ns) same }
    go false q h rest = let found = rest h in record { front = n ∷ found.front; back = found.back; is = ap (λ ms. n ∷ ms) found.is }

module _ {T : Type 0} where
  unfoldable pub rows_at : (ℕ → Option T) → List ℕ → List (ℕ × T)
  rows_at rows [] = []
  rows_at rows (n ∷ ns) = entry n (rows n) ++ rows_at rows ns

  -- where each number has a row, these are its numbers
  pub numbers_of : (rows : ℕ → Option T) (ns : List ℕ) → AllByRecursion (λ n. IsSome (rows n)) ns → map (λ e. e.0) (rows_at rows ns) ≡ ns
  unfolding rows_at
  numbers_of rows [] h = refl
  numbers_of rows (n ∷ ns) h = go (rows n) h.0 (numbers_of rows ns h.1)
    where
      go : (o : Option T) → IsSome o → map (λ e. e.0) (rows_at rows ns) ≡ ns → map (λ e. e.0) (entry n o ++ rows_at rows ns) ≡ n ∷ ns
      go None some rest = absurd (true≢false (sym some))
      go (Some row) some rest = ap (λ ms. n ∷ ms) rest

  pub rows_same : (rows new : ℕ → Option T) (ns : List ℕ) → AllByRecursion (λ n. new n ≡ rows n) ns → rows_at new ns ≡ rows_at rows ns
  unfolding rows_at
  rows_same rows new [] h = refl
  rows_same rows new (n ∷ ns) h = ap (λ o. entry n o ++ rows_at new ns) h.0 ∙ ap (λ es. entry n (rows n) ++ es) (rows_same rows new ns h.1)

  rows_append : (rows : ℕ → Option T) (xs ys : List ℕ) → rows_at rows (xs ++ ys) ≡ rows_at rows xs ++ rows_at rows ys
  unfolding rows_at
  rows_append rows [] ys = refl
  rows_append rows (x ∷ xs) ys = ap (λ es. entry x (rows x) ++ es) (rows_append rows xs ys) ∙ sym (append_assoc (entry x (rows x)) (rows_at rows xs) (rows_at rows ys))

  -- what holds of all numbers holds of those of rows
  pub all_rows : (P : ℕ → Type 0) (rows : ℕ → Option T) (ns : List ℕ) → AllByRecursion P ns → AllByRecursion (λ e. P e.0) (rows_at rows ns)
  unfolding rows_at
  all_rows P rows [] h = tt
  all_rows P rows (n ∷ ns) h = go (rows n) (all_rows P rows ns h.1)
    where
      go : (o : Option T) → AllByRecursion (λ e. P e.0) (rows_at rows ns) → AllByRecursion (λ e. P e.0) (entry n o ++ rows_at rows ns)
      go None rest = rest
      go (Some row) rest = (h.0, rest)

  pub distinct_rows : (rows : ℕ → Option T) (ns : List ℕ) → AreDistinct ns → HasDistinctNumbers (rows_at rows ns)
  unfolding rows_at
  distinct_rows rows [] d = tt
  distinct_rows rows (n ∷ ns) d = go (rows n) (distinct_rows rows ns d.1)
    where
      go : (o : Option T) → HasDistinctNumbers (rows_at rows ns) → HasDistinctNumbers (entry n o ++ rows_at rows ns)
      go None rest = rest
      go (Some row) rest = (all_rows (λ m. m ≢ n) rows ns d.0, rest)

  lookup_in : (k : ℕ) (rows : ℕ → Option T) (ns : List ℕ) → lookup (nat_eq k) (rows_at rows ns) ≡ cond (has k ns) (rows k) None
  unfolding rows_at has
  lookup_in k rows [] = refl
  lookup_in k rows (n ∷ ns) = go (nat_eq k n) refl (rows n) refl (lookup_in k rows ns)
    where
      no_row : (b : Bool) → rows k ≡ None → cond b (rows k) None ≡ rows k
      no_row true none = refl
      no_row false none = sym none

      go : (b : Bool) → nat_eq k n ≡ b → (o : Option T) → rows n ≡ o → lookup (nat_eq k) (rows_at rows ns) ≡ cond (has k ns) (rows k) None → lookup (nat_eq k) (entry n o ++ rows_at rows ns) ≡ cond (cond b true (has k ns)) (rows k) None
      go true q None is rest =
          let same : n ≡ k = grind (arith, nat_tests) in
          rest ∙ no_row (has k ns) (ap rows (sym same) ∙ is)
      go true q (Some row) is rest =
          let same : n ≡ k = grind (arith, nat_tests) in
          ap (λ b. cond b (Some row) (lookup (nat_eq k) (rows_at rows ns))) q ∙ sym is ∙ ap rows same
      go false q None is rest = rest
      go false q (Some row) is rest = ap (λ b. cond b (Some row) (lookup (nat_eq k) (rows_at rows ns))) q ∙ rest

  -- where no other number has a row, each row is found
  pub lookup_rows : (k : ℕ) (rows : ℕ → Option T) (ns : List ℕ) → ((n : ℕ) → AllByRecursion (λ m. m ≢ n) ns → rows n ≡ None) → lookup (nat_eq k) (rows_at rows ns) ≡ rows k
  lookup_rows k rows ns others = lookup_in k rows ns ∙ go (has k ns) refl
    where
      go : (b : Bool) → has k ns ≡ b → cond b (rows k) None ≡ rows k
      go true q = refl
      go false q = sym (others k (absent k ns q))

  -- a number that has a row is one of them
  pub found_among : (k : ℕ) (rows : ℕ → Option T) (ns : List ℕ) → ((n : ℕ) → AllByRecursion (λ m. m ≢ n) ns → rows n ≡ None) → IsSome (rows k) → IsAmong k ns
  found_among k rows ns others some = go (has k ns) refl
    where
      go : (b : Bool) → has k ns ≡ b → IsAmong k ns
      go true q = among k ns q
      go false q = absurd (true≢false (sym some ∙ ap is_some (others k (absent k ns q))))

  -- a row that comes last
  pub rows_pushed : (rows new : ℕ → Option T) (ns : List ℕ) (k : ℕ) (row : T) → AllByRecursion (λ n. new n ≡ rows n) ns → new k ≡ Some row → rows_at new (ns ++ k ∷ []) ≡ rows_at rows ns ++ (k, row) ∷ []
  unfolding rows_at
  rows_pushed rows new ns k row same is =
      rows_append new ns (k ∷ []) ∙ ap (λ es. es ++ rows_at new (k ∷ [])) (rows_same rows new ns same) ∙ ap (λ o. rows_at rows ns ++ (entry k o ++ [])) is

  -- a row that goes
  pub rows_removed : (rows : ℕ → Option T) (front : List ℕ) (k : ℕ) (back : List ℕ) → AllByRecursion (λ m. m ≢ k) front → AllByRecursion (λ m. m ≢ k) back → without k (rows_at rows (front ++ k ∷ back)) ≡ rows_at rows (front ++ back)
  unfolding rows_at
  rows_removed rows front k back before after =
      let test : ℕ × T → Bool = λ e. not (nat_eq k e.0) in
      ap (without k) (rows_append rows front (k ∷ back))
      ∙ filter-append test (rows_at rows front) (entry k (rows k) ++ rows_at rows back)
      ∙ ap (λ es. es ++ without k (entry k (rows k) ++ rows_at rows back)) (without-unused k (rows_at rows front) (all_rows (λ m. m ≢ k) rows front before))
      ∙ ap (λ es. rows_at rows front ++ es) (filter-append test (entry k (rows k)) (rows_at rows back) ∙ ap (λ es. es ++ without k (rows_at rows back)) (gone (rows k)) ∙ without-unused k (rows_at rows back) (all_rows (λ m. m ≢ k) rows back after))
      ∙ sym (rows_append rows front back)
    where
      gone : (o : Option T) → without k (entry k o) ≡ []
      gone None = refl
      gone (Some row) = ap (λ (b : Bool). let es : List (ℕ × T) = cond (not b) ((k, row) ∷ []) [] in es) (itself k)

  -- a row that is written
  pub rows_rewritten : (rows new : ℕ → Option T) (k : ℕ) (row : T) → ((n : ℕ) → new n ≡ cond (nat_eq n k) (option_map (λ _. row) (rows n)) (rows n)) → (ns : List ℕ) → with_row k row (rows_at rows ns) ≡ rows_at new ns
  unfolding rows_at
  rows_rewritten rows new k row is [] = refl
  rows_rewritten rows new k row is (n ∷ ns) =
      let write : ℕ × T → ℕ × T = λ e. cond (nat_eq k e.0) (e.0, row) e in
      map-append write (entry n (rows n)) (rows_at rows ns)
      ∙ ap (λ es. with_row k row (entry n (rows n)) ++ es) (rows_rewritten rows new k row is ns)
      ∙ ap (λ es. es ++ rows_at new ns) (one (rows n) ∙ sym (ap (entry n) (is n)))
    where
      both : (b : Bool) → ◌≡◌ {A = List (ℕ × T)} [] (entry n (cond b None None))
      both true = refl
      both false = refl

      turned : nat_eq k n ≡ nat_eq n k
      turned = grind (arith, nat_tests)

      either : (r : T) (b : Bool) → cond b (n, row) (n, r) ∷ [] ≡ entry n (cond b (Some row) (Some r))
      either r true = refl
      either r false = refl

      one : (o : Option T) → with_row k row (entry n o) ≡ entry n (cond (nat_eq n k) (option_map (λ _. row) o) o)
      one None = both (nat_eq n k)
      one (Some r) = ap (λ b. cond b (n, row) (n, r) ∷ []) turned ∙ either r (nat_eq n k)
