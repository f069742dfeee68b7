-- The marks of stopped queues mean the model's stops.
use Rattle.std.proofs.Common.{◌≡◌, ◌≢◌, ℕ, zero, suc, ◌-◌, ◌<◌, Bool, true, false, not, ◌&&◌, ◌||◌, ◌==◌, cond, List, [], ◌∷◌, length, map, get_or, set, slice_get, Some, refl, sym, ap, subst, ◌∙◌, arith}
use Rattle.std.specs.List.{AllByRecursion, list_any}
use Rattle.std.specs.Cmp.Lexicographic.{pointwise_decides, bytes_decides}
use Rattle.std.proofs.lemmas.Bool.{and_from, and_parts, eq-eqb, eqb-true, false_from_ne_true, ne_eqb, or_left, or_right}
use mathlib.Core.Bool.{true≢false}
use Rattle.std.proofs.lemmas.Option.{none-some, same_Some}
use Rattle.ynl_resource.specs.Names.{root, same_path, is_within}
use Rattle.ynl_resource.specs.declared.paths.Path.{Path}
use Rattle.ynl_model.specs.declared.queues.StopRow.{StopRow}
use Rattle.ynl_model.specs.Queues.{QueueRow, accepts, set_stop}
use Rattle.ynl_laws.specs.Ways.{IsWay, has_number}
use Rattle.ynl_laws.proofs.Names.{same-path}
use Rattle.ynl_inventory.specs.layout.Paths.{HasNumber, IsTree, is_above, path_at}
use Rattle.ynl_inventory.specs.layout.settings.Meaning.{stops_of}

-- ---- paths that differ

same-path_self : (a : Path) → same_path a a ≡ true
same-path_self a = (pointwise_decides bytes_decides a a).1 refl

-- in a tree another number is another path
pub other-path : (paths : List Path) → IsTree paths → (n m : ℕ) → HasNumber paths n → HasNumber paths m → n ≢ m → same_path (path_at paths n) (path_at paths m) ≡ false
other-path paths tree n m there has apart = false_from_ne_true _ (λ same. apart (tree.apart n m there has (same-path (path_at paths n) (path_at paths m) same)))

-- and the same number is the same path
pub own-path : (paths : List Path) (n : ℕ) → same_path (path_at paths n) (path_at paths n) ≡ true
own-path paths n = same-path_self (path_at paths n)

one-less : (k : ℕ) → suc k - 1 ≡ k
one-less k = omega arith

-- ---- a mark is read

-- the mark of a queue is in the model's row of the queue
pub stops-at : (paths : List Path) (marks : List Bool) (q : ℕ) (mark : Bool) → 0 < q → HasNumber paths q → slice_get marks (q - 1) ≡ Some mark
    → slice_get (stops_of paths marks) (q - 1) ≡ Some (record { queue = path_at paths q; stopped = mark })
stops-at paths marks zero mark above has at = absurd (omega (arith, above))
stops-at paths marks (suc k) mark above has at =
    ap (slice_get (stops_of paths marks)) (one-less k) ∙ go paths marks k (omega (arith, has)) (sym (ap (slice_get marks) (one-less k)) ∙ at)
  where
    go : (paths : List Path) (marks : List Bool) (k : ℕ) → k < length paths → slice_get marks k ≡ Some mark
        → slice_get (stops_of paths marks) k ≡ Some (record { queue = get_or paths k root; stopped = mark })
    go [] marks k inside at = absurd (omega (arith, inside))
    go (p ∷ ps) [] k inside at = absurd (none-some mark at)
    go (p ∷ ps) (m ∷ ms) zero inside at = ap (λ m. Some (record { queue = p; stopped = m })) (same_Some m mark at)
    go (p ∷ ps) (m ∷ ms) (suc k) inside at = go ps ms k (omega (arith, inside)) at

-- ---- a mark is set

-- the row of a queue with a mark
abbrev row_of : Path → Bool → StopRow
row_of path mark = record { queue = path; stopped = mark }

-- queues of other paths keep their marks
others-stay : (paths : List Path) (marks : List Bool) (path : Path) (stopped : Bool) → ((m : ℕ) → m < length paths → same_path (get_or paths m root) path ≡ false)
    → set_stop path stopped (stops_of paths marks) ≡ stops_of paths marks
others-stay [] marks path stopped differ = refl
others-stay (p ∷ ps) [] path stopped differ = refl
others-stay (p ∷ ps) (m ∷ ms) path stopped differ =
    λ i. cond (differ 0 (omega arith) i) (row_of p stopped) (row_of p m) ∷ others-stay ps ms path stopped (λ k inside. differ (suc k) (omega (arith, inside))) i

set-place : (paths : List Path) (marks : List Bool) (k : ℕ) (path : Path) (stopped : Bool) → k < length paths → same_path (get_or paths k root) path ≡ true
    → ((m : ℕ) → m < length paths → m ≢ k → same_path (get_or paths m root) path ≡ false) → stops_of paths (set marks k stopped) ≡ set_stop path stopped (stops_of paths marks)
set-place [] marks k path stopped inside own differ = absurd (omega (arith, inside))
set-place (p ∷ ps) [] k path stopped inside own differ = refl
set-place (p ∷ ps) (m ∷ ms) zero path stopped inside own differ =
    λ i. cond (sym own i) (row_of p stopped) (row_of p m)
    ∷ sym (others-stay ps ms path stopped (λ k within. differ (suc k) (omega (arith, within)) (λ e. omega (arith, e)))) i
set-place (p ∷ ps) (m ∷ ms) (suc k) path stopped inside own differ =
    λ i. cond (sym (differ 0 (omega arith) (λ e. omega (arith, e))) i) (row_of p stopped) (row_of p m)
    ∷ set-place ps ms k path stopped (omega (arith, inside)) own (λ n within apart. differ (suc n) (omega (arith, within)) (λ e. apart (omega (arith, e)))) i

-- the mark of a queue that is set is the model's
pub stops-set : (paths : List Path) (marks : List Bool) → IsTree paths → (q : ℕ) (stopped : Bool) → 0 < q → HasNumber paths q
    → stops_of paths (set marks (q - 1) stopped) ≡ set_stop (path_at paths q) stopped (stops_of paths marks)
stops-set paths marks tree zero stopped above has = absurd (omega (arith, above))
stops-set paths marks tree (suc k) stopped above has =
    ap (λ place. stops_of paths (set marks place stopped)) (one-less k)
    ∙ set-place paths marks k (path_at paths (suc k)) stopped (omega (arith, has)) (own-path paths (suc k))
    (λ m inside apart. other-path paths tree (suc m) (suc k) (omega (arith, inside)) has (λ e. apart (omega (arith, e))))

-- ---- whether a queue accepts

-- one of some numbers that passes a test
some-passes : (f : ℕ → Bool) (ns : List ℕ) → list_any f ns ≡ true → (n : ℕ) × (has_number ns n ≡ true) × (f n ≡ true)
some-passes f [] h = absurd (true≢false (sym h))
some-passes f (m ∷ ns) h = go (f m) refl h (some-passes f ns)
  where
    go : (b : Bool) → f m ≡ b → (b || list_any f ns) ≡ true → (list_any f ns ≡ true → (n : ℕ) × (has_number ns n ≡ true) × (f n ≡ true)) → (n : ℕ) × (has_number (m ∷ ns) n ≡ true) × (f n ≡ true)
    go true e h rest = (m, or_left (m == m) (has_number ns m) (eq-eqb m m refl), e)
    go false e h rest = let found = rest h in (found.0, or_right (m == found.0) (has_number ns found.0) found.1, found.2)

-- is enough for all of them
passes-some : (f : ℕ → Bool) (ns : List ℕ) (n : ℕ) → has_number ns n ≡ true → f n ≡ true → list_any f ns ≡ true
passes-some f [] n has h = absurd (true≢false (sym has))
passes-some f (m ∷ ns) n has h = go (m == n) refl has (passes-some f ns n)
  where
    go : (b : Bool) → (m == n) ≡ b → (b || has_number ns n) ≡ true → (has_number ns n ≡ true → f n ≡ true → list_any f ns ≡ true) → (f m || list_any f ns) ≡ true
    go true e has rest = or_left (f m) (list_any f ns) (ap f (eqb-true m n e) ∙ h)
    go false e has rest = or_right (f m) (list_any f ns) (rest has h)

-- whether a stopped queue stands above a leaf
abbrev bars : Path → StopRow → Bool
bars leaf row = row.stopped && is_within row.queue leaf

-- a stopped queue above a leaf has a place
record IsBarred (paths : List Path) (marks : List Bool) (leaf : Path) (k : ℕ) : Type 0 where
  inside : k < length paths
  stopped : get_or marks k false ≡ true
  within : is_within (get_or paths k root) leaf ≡ true

some-barred : (paths : List Path) (marks : List Bool) (leaf : Path) → list_any (bars leaf) (stops_of paths marks) ≡ true → (k : ℕ) × IsBarred paths marks leaf k
some-barred [] marks leaf h = absurd (true≢false (sym h))
some-barred (p ∷ ps) [] leaf h = absurd (true≢false (sym h))
some-barred (p ∷ ps) (m ∷ ms) leaf h = go (m && is_within p leaf) refl h (some-barred ps ms leaf)
  where
    go : (b : Bool) → (m && is_within p leaf) ≡ b → (b || list_any (bars leaf) (stops_of ps ms)) ≡ true → (list_any (bars leaf) (stops_of ps ms) ≡ true → (k : ℕ) × IsBarred ps ms leaf k)
        → (k : ℕ) × IsBarred (p ∷ ps) (m ∷ ms) leaf k
    go true e h rest = (0, record { inside = omega arith; stopped = (and_parts m (is_within p leaf) e).0; within = (and_parts m (is_within p leaf) e).1 })
    go false e h rest = let at = rest h in (suc at.0, record { inside = omega (arith, at.1.inside); stopped = at.1.stopped; within = at.1.within })

barred-some : (paths : List Path) (marks : List Bool) (leaf : Path) (k : ℕ) → IsBarred paths marks leaf k → list_any (bars leaf) (stops_of paths marks) ≡ true
barred-some [] marks leaf k is = absurd (omega (arith, is.inside))
barred-some (p ∷ ps) [] leaf k is = absurd (true≢false (sym is.stopped))
barred-some (p ∷ ps) (m ∷ ms) leaf zero is = or_left (m && is_within p leaf) (list_any (bars leaf) (stops_of ps ms)) (and_from m (is_within p leaf) is.stopped is.within)
barred-some (p ∷ ps) (m ∷ ms) leaf (suc k) is =
    or_right (m && is_within p leaf) (list_any (bars leaf) (stops_of ps ms)) (barred-some ps ms leaf k (record { inside = omega (arith, is.inside); stopped = is.stopped; within = is.within }))

-- a number of a list of which each number passes a test passes it
each-number : (P : ℕ → Type 0) (ns : List ℕ) (n : ℕ) → AllByRecursion P ns → has_number ns n ≡ true → P n
each-number P [] n all has = absurd (true≢false (sym has))
each-number P (m ∷ ns) n all has = go (m == n) refl has (each-number P ns n all.1)
  where
    go : (b : Bool) → (m == n) ≡ b → (b || has_number ns n) ≡ true → (has_number ns n ≡ true → P n) → P n
    go true e has rest = subst P (eqb-true m n e) all.0
    go false e has rest = rest has

module _ (paths : List Path) (marks : List Bool) (q : ℕ) (way : List ℕ) (is : IsWay (root ∷ paths) (is_above paths q) (0 ∷ way)) where
  abbrev leaf : Path
  leaf = path_at paths q

  abbrev is_stopped : ℕ → Bool
  is_stopped n = get_or marks (n - 1) false

  -- a number on the way is that of a queue below root
  below-root : (n : ℕ) → has_number way n ≡ true → (n ≢ 0) × HasNumber paths n
  below-root n has = (
    λ zeroth. each-number (λ k. 0 ≢ k) way n is.apart.0 has (sym zeroth),
    each-number (λ k. k < length (root ∷ paths)) way n is.inside.1 has,
  )

  -- and that queue stands above the leaf
  on-way : (k : ℕ) → k < length paths → has_number way (suc k) ≡ is_within (get_or paths k root) leaf
  on-way k inside = ap (λ b. b || has_number way (suc k)) (sym (ne_eqb 0 (suc k) (λ e. omega (arith, e)))) ∙ is.is (suc k) root (omega (arith, inside))

  stopped-on : list_any (bars leaf) (stops_of paths marks) ≡ true → list_any is_stopped way ≡ true
  stopped-on h =
      let at = some-barred paths marks leaf h in
      passes-some is_stopped way (suc at.0) (on-way at.0 at.1.inside ∙ at.1.within) (ap (λ place. get_or marks place false) (one-less at.0) ∙ at.1.stopped)

  on-stopped : list_any is_stopped way ≡ true → list_any (bars leaf) (stops_of paths marks) ≡ true
  on-stopped h = go found.0 found.1 found.2
    where
      found : (n : ℕ) × (has_number way n ≡ true) × (is_stopped n ≡ true)
      found = some-passes is_stopped way h

      go : (n : ℕ) → has_number way n ≡ true → is_stopped n ≡ true → list_any (bars leaf) (stops_of paths marks) ≡ true
      go zero has stopped = absurd ((below-root 0 has).0 refl)
      go (suc k) has stopped =
          let inside : k < length paths = omega (arith, (below-root (suc k) has).1) in
          barred-some paths marks leaf k (record { inside = inside; stopped = ap (λ place. get_or marks place false) (sym (one-less k)) ∙ stopped; within = sym (on-way k inside) ∙ has })

  together : (a b : Bool) → (a ≡ true → b ≡ true) → (b ≡ true → a ≡ true) → a ≡ b
  together true true h k = refl
  together true false h k = absurd (true≢false (sym (h refl)))
  together false true h k = absurd (true≢false (sym (k refl)))
  together false false h k = refl

  -- a leaf accepts where no queue on the way to it is stopped
  pub stops-mean : accepts (stops_of paths marks) (path_at paths q) ≡ not (list_any (λ n. get_or marks (n - 1) false) way)
  unfolding accepts
  stops-mean = ap not (together (list_any (bars leaf) (stops_of paths marks)) (list_any is_stopped way) stopped-on on-stopped)

-- ---- the configured marks

-- the configured marks are the model's opening stops
pub stops-opening : (rows : List QueueRow) → stops_of (map (λ (row : QueueRow). row.path) rows) (map (λ (row : QueueRow). row.stopped) rows) ≡ map (λ row. row_of row.path row.stopped) rows
stops-opening [] = refl
stops-opening (row ∷ rows) = ap (λ rest. row_of row.path row.stopped ∷ rest) (stops-opening rows)
