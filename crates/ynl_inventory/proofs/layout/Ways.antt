-- Lines as ways: a line has the numbers of just the queues above a queue, and each once.
use Rattle.std.proofs.Common.{◌≡◌, ◌≢◌, ℕ, zero, suc, ◌+◌, ◌<◌, ◌≤◌, Bool, true, false, List, [], ◌∷◌, length, take, get_or, refl, sym, ap, subst, ◌∙◌, arith}
use Rattle.std.specs.Prelude.{◌==◌, ◌||◌, nat_lt, Vec}
use Rattle.std.specs.declared.alloc.Global.{Global}
use Rattle.std.proofs.lemmas.Bool.{and_from, and_parts, eqb-true, eq-eqb, ltb-true, ltb-false}
use Rattle.std.proofs.lemmas.List.{get_or_default}
use Rattle.std.proofs.lemmas.List.Elements.{recursion_from_All}
use mathlib.Core.Bool.{true≢false}
use Rattle.ynl_resource.specs.Names.{root, same_name, is_within}
use Rattle.ynl_resource.specs.declared.paths.Path.{Path}
use Rattle.ynl_model.specs.Service.{last_name}
use Rattle.ynl_laws.specs.Decided.{below}
use Rattle.ynl_laws.specs.Ways.{AreApart, IsWay, has_number}
use Rattle.ynl_laws.proofs.Names.{same-name_sym, same-name_self}
use Rattle.ynl_inventory.specs.layout.Paths.{AreChildren, AreLines, CoverBelow, HasNumber, IsChild, IsLine, IsTree, is_above, path_at}
use Rattle.ynl_inventory.proofs.layout.Lines.{parted}

-- ---- paths

front-within : (i : ℕ) (path : Path) → is_within (take i path) path ≡ true
front-within zero path = refl
front-within (suc i) [] = refl
front-within (suc i) (name ∷ path) = and_from _ _ (same-name_self name) (front-within i path)

within-front : (queue path : Path) → is_within queue path ≡ true → queue ≡ take (length queue) path
within-front [] path h = refl
within-front (name ∷ queue) [] h = absurd (true≢false (sym h))
within-front (name ∷ queue) (step ∷ path) h =
    let parts = and_parts (same_name name step) (is_within queue path) h in
    (λ i. same-name_sym name step parts.0 i ∷ within-front queue path parts.1 i)

within-short : (queue path : Path) → is_within queue path ≡ true → length queue ≤ length path
within-short [] path h = omega arith
within-short (name ∷ queue) [] h = absurd (true≢false (sym h))
within-short (name ∷ queue) (step ∷ path) h = omega (arith, within-short queue path (and_parts (same_name name step) (is_within queue path) h).1)

length-take : (i : ℕ) (path : Path) → i ≤ length path → length (take i path) ≡ i
length-take zero path h = refl
length-take (suc i) [] h = absurd (omega (arith, h))
length-take (suc i) (name ∷ path) h = ap suc (length-take i path (omega (arith, h)))

-- ---- numbers in lists

-- a number that a list has stands in some place
placed : (xs : List ℕ) (n : ℕ) → has_number xs n ≡ true → (i : ℕ) × (i < length xs) × (get_or xs i 0 ≡ n)
placed [] n h = absurd (true≢false (sym h))
placed (x ∷ xs) n h = go (x == n) refl h (placed xs n)
  where
    go : (b : Bool) → (x == n) ≡ b → (b || has_number xs n) ≡ true → (has_number xs n ≡ true → (i : ℕ) × (i < length xs) × (get_or xs i 0 ≡ n)) → (i : ℕ) × (i < length (x ∷ xs)) × (get_or (x ∷ xs) i 0 ≡ n)
    go true e h rest = (0, omega arith, eqb-true x n e)
    go false e h rest = let at = rest h in (suc at.0, omega (arith, at.1), at.2)

-- and one that stands in some place the list has
has-at : (xs : List ℕ) (n i : ℕ) → i < length xs → get_or xs i 0 ≡ n → has_number xs n ≡ true
has-at [] n i inside e = absurd (omega (arith, inside))
has-at (x ∷ xs) n zero inside e = ap (λ b. b || has_number xs n) (eq-eqb x n e)
has-at (x ∷ xs) n (suc i) inside e = go (x == n) (has-at xs n i (omega (arith, inside)) e)
  where
    go : (b : Bool) → has_number xs n ≡ true → (b || has_number xs n) ≡ true
    go true h = refl
    go false h = h

-- numbers that differ by their places stand once each
apart-from : (xs : List ℕ) → ((i j : ℕ) → i < length xs → j < length xs → get_or xs i 0 ≡ get_or xs j 0 → i ≡ j) → AreApart xs
apart-from [] h = tt
apart-from (x ∷ xs) h = (
  recursion_from_All (λ k. x ≢ k) xs (λ k d inside e. zero-no k (h 0 (suc k) (omega arith) (omega (arith, inside)) (e ∙ get_or_default xs k d 0 inside))),
  apart-from xs (λ i j inside within e. same-suc i j (h (suc i) (suc j) (omega (arith, inside)) (omega (arith, within)) e)),
)
  where
    zero-no : (k : ℕ) → 0 ≡ suc k → ⊥
    zero-no k e = omega (arith, e)

    same-suc : (i j : ℕ) → suc i ≡ suc j → i ≡ j
    same-suc i j e = omega (arith, e)

-- two tests that pass together are one
together : (a b : Bool) → (a ≡ true → b ≡ true) → (b ≡ true → a ≡ true) → a ≡ b
together true true h k = refl
together true false h k = absurd (true≢false (sym (h refl)))
together false true h k = absurd (true≢false (sym (k refl)))
together false false h k = refl

-- ---- lines

module _ (paths : List Path) (tree : IsTree paths) (n : ℕ) (has : HasNumber paths n) (line : List ℕ) (is : IsLine paths n line) where
  abbrev pub path : Path
  path = path_at paths n

  differ : (i j : ℕ) → i < length line → j < length line → get_or line i 0 ≡ get_or line j 0 → i ≡ j
  differ i j inside within e =
      sym (length-take i path (omega (arith, inside, is.len)))
      ∙ ap length (sym (is.path i 0 inside) ∙ ap (path_at paths) e ∙ is.path j 0 within)
      ∙ length-take j path (omega (arith, within, is.len))

  -- a queue on the line stands above
  on-line : (m : ℕ) → has_number line m ≡ true → is_within (path_at paths m) path ≡ true
  on-line m h =
      let at = placed line m h in
      subst (λ queue. is_within queue path ≡ true) (sym (is.path at.0 0 at.1) ∙ ap (path_at paths) at.2) (front-within at.0 path)

  -- and one that stands above is on the line
  off-line : (m : ℕ) → HasNumber paths m → is_within (path_at paths m) path ≡ true → has_number line m ≡ true
  off-line m there h =
      let short = within-short (path_at paths m) path h in
      let inside : length (path_at paths m) < length line = omega (arith, short, is.len) in
      has-at line m (length (path_at paths m)) inside
      (tree.apart (get_or line (length (path_at paths m)) 0) m (is.there (length (path_at paths m)) 0 inside) there
      (is.path (length (path_at paths m)) 0 inside ∙ sym (within-front (path_at paths m) path h)))

  pub line-way : IsWay (root ∷ paths) (is_above paths n) line
  line-way = record {
    apart = apart-from line differ;
    inside = recursion_from_All (λ k. k < length (root ∷ paths)) line (λ k d inside. is.there k d inside);
    is = λ m d there.
        together (has_number line m) (is_within (path_at paths m) path) (on-line m) (off-line m there)
        ∙ ap (λ queue. is_within queue path) (get_or_default (root ∷ paths) m root d there);
  }

-- ---- what stands below

next : (n : ℕ) → suc n ≡ n + 1
next n = omega arith

take-take : (i : ℕ) (queue : Path) → take i (take (suc i) queue) ≡ take i queue
take-take zero [] = refl
take-take zero (name ∷ rest) = refl
take-take (suc i) [] = refl
take-take (suc i) (name ∷ rest) = ap (λ more. name ∷ more) (take-take i rest)

module _ (paths : List Path) (lines : List (Vec ℕ Global)) (are : AreLines paths lines) (n : ℕ) (has : HasNumber paths n) (numbers : List ℕ) (children : AreChildren paths n numbers) (v : Vec ℕ Global) where
  pub cover-below : CoverBelow paths n numbers
  cover-below m there other h = (child, children.all child is, subst (λ queue. is_within queue (path_at paths m) ≡ true) (sym step) (front-within (suc (length (path_at paths n))) (path_at paths m)))
    where
      line : IsLine paths m (get_or lines m v).items
      line = are.each m v there

      front : path_at paths n ≡ take (length (path_at paths n)) (path_at paths m)
      front = within-front (path_at paths n) (path_at paths m) h

      deeper : length (path_at paths n) < length (path_at paths m)
      deeper = go (nat_lt (length (path_at paths n)) (length (path_at paths m))) refl
        where
          whole : (i : ℕ) (path : Path) → length path ≤ i → take i path ≡ path
          whole zero [] e = refl
          whole zero (name ∷ path) e = absurd (omega (arith, e))
          whole (suc i) [] e = refl
          whole (suc i) (name ∷ path) e = ap (λ rest. name ∷ rest) (whole i path (omega (arith, e)))

          go : (b : Bool) → nat_lt (length (path_at paths n)) (length (path_at paths m)) ≡ b → length (path_at paths n) < length (path_at paths m)
          go true e = ltb-true (length (path_at paths n)) (length (path_at paths m)) e
          go false e = absurd (other (are.tree.apart n m has there (front ∙ whole (length (path_at paths n)) (path_at paths m) (ltb-false (length (path_at paths n)) (length (path_at paths m)) e))))

      inside : suc (length (path_at paths n)) < length (get_or lines m v).items
      inside = omega (arith, deeper, line.len)

      child : ℕ
      child = get_or (get_or lines m v).items (suc (length (path_at paths n))) 0

      step : path_at paths child ≡ take (suc (length (path_at paths n))) (path_at paths m)
      step = line.path (suc (length (path_at paths n))) 0 inside

      is : IsChild paths n child
      is = record {
        there = line.there (suc (length (path_at paths n))) 0 inside;
        path =
            parted (length (path_at paths n)) (path_at paths child) (ap length step ∙ length-take (suc (length (path_at paths n))) (path_at paths m) (omega (arith, deeper)) ∙ next (length (path_at paths n)))
            ∙ ap (λ path. below path (last_name (path_at paths child))) (ap (take (length (path_at paths n))) step ∙ take-take (length (path_at paths n)) (path_at paths m) ∙ sym front);
      }
