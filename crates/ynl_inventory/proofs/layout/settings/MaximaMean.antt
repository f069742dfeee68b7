-- The shares mean the model's maxima.
use Rattle.std.proofs.Common.{◌≡◌, ◌≢◌, ℕ, zero, suc, ◌+◌, ◌<◌, Bool, true, false, ◌&&◌, cond, nat_eq, List, [], ◌∷◌, ◌++◌, length, get_or, Some, None, find, refl, sym, ap, subst, ◌∙◌, arith}
use Rattle.std.specs.Option.{option_map_or, option_or}
use Rattle.std.proofs.lemmas.Bool.{and_from, and_right, false_from_ne_true}
use Rattle.std.proofs.lemmas.Bool.Decides.{nat_tests}
use Rattle.std.proofs.lemmas.List.{map-append}
use Rattle.std.proofs.lemmas.List.Folds.{find-append}
use Rattle.ynl_resource.specs.Names.{root, same_label, same_path}
use Rattle.ynl_resource.specs.declared.labels.Label.{Label}
use Rattle.ynl_resource.specs.declared.labels.Label.TheVariants.{Unlabelled}
use Rattle.ynl_resource.specs.declared.paths.Path.{Path}
use Rattle.ynl_model.specs.declared.queues.MaximumRow.{MaximumRow}
use Rattle.ynl_model.specs.Queues.{is_maximum_of, maximum_on, set_maximum}
use Rattle.ynl_laws.proofs.Lists.{find-append_none}
use Rattle.ynl_laws.proofs.Names.{same-label_path, same-label_self}
use Rattle.ynl_inventory.specs.layout.Paths.{HasNumber, IsTree, path_at}
use Rattle.ynl_inventory.specs.declared.layout.settings.shares.Share.{Share}
use Rattle.ynl_inventory.specs.layout.settings.Shares.{HasCell, capacity_at, maximum_at, no_share, share_at, shares_on, with_at, with_maximum}
use Rattle.ynl_inventory.specs.layout.settings.Meaning.{maxima_of, maxima_from, maxima_on}
use Rattle.ynl_inventory.proofs.layout.settings.StopsMean.{other-path, own-path}

-- ---- what is read where one share was written

next-place : (p k : ℕ) → p + 1 + k ≡ p + suc k
next-place p k = omega arith

one-more : (m n : ℕ) → nat_eq (suc m) (suc n) ≡ nat_eq m n
one-more m n = grind (arith, nat_tests)

after-zero : (n : ℕ) → nat_eq (suc n) 0 ≡ false
after-zero n = grind (arith, nat_tests)

before-one : (n : ℕ) → nat_eq 0 (suc n) ≡ false
before-one n = grind (arith, nat_tests)

-- one element changes
read-written : {X : Type 0} (place : ℕ) (change : X → X) (xs : List X) (d : X) (k : ℕ) → place < length xs
    → get_or (with_at place change xs) k d ≡ cond (nat_eq k place) (change (get_or xs k d)) (get_or xs k d)
read-written place change [] d k inside = absurd (omega (arith, inside))
read-written zero change (x ∷ xs) d zero inside = refl
read-written zero change (x ∷ xs) d (suc k) inside = ap (λ b. cond b (change (get_or xs k d)) (get_or xs k d)) (sym (after-zero k))
read-written (suc place) change (x ∷ xs) d zero inside = ap (λ b. cond b (change x) x) (sym (before-one place))
read-written (suc place) change (x ∷ xs) d (suc k) inside =
    read-written place change xs d k (omega (arith, inside)) ∙ ap (λ b. cond b (change (get_or xs k d)) (get_or xs k d)) (sym (one-more k place))

module _ (rows : List (List Share)) (p q share : ℕ) (cell : HasCell rows p q) where
  abbrev raise : Share → Share
  raise s = record s { maximum = share }

  abbrev new : List (List Share)
  new = with_maximum p q share rows

  read-row : (r : ℕ) → shares_on new r ≡ cond (nat_eq r p) (with_at q raise (shares_on rows r)) (shares_on rows r)
  read-row r = read-written p (with_at q raise) rows [] r cell.partition

  -- the share of each queue and partition
  read-share : (r n : ℕ) → share_at new r n ≡ cond (nat_eq r p && nat_eq n q) (raise (share_at rows r n)) (share_at rows r n)
  read-share r n = ap (λ row. get_or row n no_share) (read-row r) ∙ go (nat_eq r p) refl
    where
      go : (b : Bool) → nat_eq r p ≡ b
          → get_or (cond b (with_at q raise (shares_on rows r)) (shares_on rows r)) n no_share ≡ cond (b && nat_eq n q) (raise (share_at rows r n)) (share_at rows r n)
      go true e = read-written q raise (shares_on rows r) no_share n (subst (λ m. q < length (shares_on rows m)) (sym (grind (arith, nat_tests, e))) cell.queue)
      go false e = refl

  -- only this maximum changes
  pub read-maximum : (r n : ℕ) → maximum_at new r n ≡ cond (nat_eq r p && nat_eq n q) share (maximum_at rows r n)
  read-maximum r n = ap (λ (s : Share). s.maximum) (read-share r n) ∙ go (nat_eq r p && nat_eq n q)
    where
      go : (b : Bool) → (cond b (raise (share_at rows r n)) (share_at rows r n)).maximum ≡ cond b share (maximum_at rows r n)
      go true = refl
      go false = refl

  -- and no capacity does
  pub read-capacity : (r n : ℕ) → capacity_at new r n ≡ capacity_at rows r n
  read-capacity r n = ap (λ (s : Share). s.capacity) (read-share r n) ∙ go (nat_eq r p && nat_eq n q)
    where
      go : (b : Bool) → (cond b (raise (share_at rows r n)) (share_at rows r n)).capacity ≡ capacity_at rows r n
      go true = refl
      go false = refl

-- ---- labels that differ

-- the label in a place, and no other place has it
pub record AreLabels (labels : List Label) : Type 0 where
  pub apart : (p r : ℕ) → p < length labels → r < length labels → get_or labels p Unlabelled ≡ get_or labels r Unlabelled → p ≡ r

-- ---- the maximum of a queue

-- a row of the maxima
abbrev row_of : Path → Label → ℕ → MaximumRow
row_of path label share = record { queue = path; label = label; share = share }

-- the rows of another queue are passed over
passed-on : (p q : ℕ) (path queue : Path) (label : Label) (labels : List Label) (rows : List (List Share)) → same_path path queue ≡ false
    → find (is_maximum_of queue label) (maxima_on p q path labels rows) ≡ None
passed-on p q path queue label [] rows apart = refl
passed-on p q path queue label (l ∷ ls) rows apart =
    (λ i. cond (apart i && same_label l label) (Some (row_of path l (maximum_at rows p q))) (find (is_maximum_of queue label) (maxima_on (p + 1) q path ls rows)))
    ∙ passed-on (p + 1) q path queue label ls rows apart

-- among the rows of the queue that of a label's place is found
found-on : (p q : ℕ) (path queue : Path) (label : Label) (labels : List Label) (rows : List (List Share)) (k : ℕ) → same_path path queue ≡ true → k < length labels
    → ((m : ℕ) → m < length labels → same_label (get_or labels m Unlabelled) label ≡ nat_eq m k)
    → find (is_maximum_of queue label) (maxima_on p q path labels rows) ≡ Some (row_of path (get_or labels k Unlabelled) (maximum_at rows (p + k) q))
found-on p q path queue label [] rows k own inside same = absurd (omega (arith, inside))
found-on p q path queue label (l ∷ ls) rows zero own inside same =
    (λ i. cond (both i) (Some (row_of path l (maximum_at rows p q))) (find (is_maximum_of queue label) (maxima_on (p + 1) q path ls rows)))
    ∙ ap (λ r. Some (row_of path l (maximum_at rows r q))) (omega arith)
  where
    both : (same_path path queue && same_label l label) ≡ true
    both = and_from (same_path path queue) (same_label l label) own (same 0 (omega arith))
found-on p q path queue label (l ∷ ls) rows (suc k) own inside same =
    (λ i. cond (neither i) (Some (row_of path l (maximum_at rows p q))) (find (is_maximum_of queue label) (maxima_on (p + 1) q path ls rows)))
    ∙ found-on (p + 1) q path queue label ls rows k own (omega (arith, inside)) (λ m within. same (suc m) (omega (arith, within)) ∙ one-more m k)
    ∙ ap (λ r. Some (row_of path (get_or ls k Unlabelled) (maximum_at rows r q))) (next-place p k)
  where
    neither : (same_path path queue && same_label l label) ≡ false
    neither = and_right (same_path path queue) (same_label l label) (same 0 (omega arith) ∙ before-one k)

-- among all rows
found-from : (q : ℕ) (paths : List Path) (queue : Path) (label : Label) (labels : List Label) (rows : List (List Share)) (j k : ℕ) → j < length paths → k < length labels
    → ((m : ℕ) → m < length paths → same_path (get_or paths m root) queue ≡ nat_eq m j)
    → ((m : ℕ) → m < length labels → same_label (get_or labels m Unlabelled) label ≡ nat_eq m k)
    → option_map_or (λ (row : MaximumRow). row.share) (find (is_maximum_of queue label) (maxima_from q paths labels rows)) 0 ≡ maximum_at rows k (q + j)
found-from q [] queue label labels rows j k inside within paths-same same = absurd (omega (arith, inside))
found-from q (path ∷ paths) queue label labels rows zero k inside within paths-same same =
    ap (λ o. option_map_or (λ (row : MaximumRow). row.share) o 0)
    (find-append (is_maximum_of queue label) (maxima_on 0 q path labels rows) (maxima_from (q + 1) paths labels rows)
    ∙ ap (λ o. option_or o (find (is_maximum_of queue label) (maxima_from (q + 1) paths labels rows)))
    (found-on 0 q path queue label labels rows k (paths-same 0 (omega arith)) within same))
    ∙ (λ i. maximum_at rows (plus-none k i) (none-plus q i))
  where
    plus-none : (n : ℕ) → 0 + n ≡ n
    plus-none n = omega arith

    none-plus : (n : ℕ) → n ≡ n + 0
    none-plus n = omega arith
found-from q (path ∷ paths) queue label labels rows (suc j) k inside within paths-same same =
    ap (λ o. option_map_or (λ (row : MaximumRow). row.share) o 0)
    (find-append_none (is_maximum_of queue label) (maxima_on 0 q path labels rows) (maxima_from (q + 1) paths labels rows)
    (passed-on 0 q path queue label labels rows (paths-same 0 (omega arith) ∙ before-one j)))
    ∙ found-from (q + 1) paths queue label labels rows j k (omega (arith, inside)) within (λ m at. paths-same (suc m) (omega (arith, at)) ∙ one-more m j) same
    ∙ ap (maximum_at rows k) (next-place q j)

-- ---- a maximum is set

-- among the rows of one queue
set-on : (p q : ℕ) (path queue : Path) (label : Label) (share : ℕ) (labels : List Label) (rows new : List (List Share)) (is : ℕ → Bool)
    → ((m : ℕ) → m < length labels → (same_path path queue && same_label (get_or labels m Unlabelled) label) ≡ is (p + m))
    → ((m : ℕ) → maximum_at new m q ≡ cond (is m) share (maximum_at rows m q))
    → maxima_on p q path labels new ≡ set_maximum queue label share (maxima_on p q path labels rows)
set-on p q path queue label share [] rows new is same set = refl
set-on p q path queue label share (l ∷ ls) rows new is same set =
    λ i. head i ∷ set-on (p + 1) q path queue label share ls rows new is (λ m inside. same (suc m) (omega (arith, inside)) ∙ ap is (sym (next-place p m))) set i
  where
    here : (same_path path queue && same_label l label) ≡ is p
    here = same 0 (omega arith) ∙ ap is (omega arith)

    choose : (b : Bool) (old : ℕ) → row_of path l (cond b share old) ≡ cond b (row_of path l share) (row_of path l old)
    choose true old = refl
    choose false old = refl

    head : row_of path l (maximum_at new p q) ≡ cond (same_path path queue && same_label l label) (row_of path l share) (row_of path l (maximum_at rows p q))
    head =
        ap (row_of path l) (set p) ∙ choose (is p) (maximum_at rows p q)
        ∙ ap (λ b. cond b (row_of path l share) (row_of path l (maximum_at rows p q))) (sym here)

-- among all rows
set-from : (q : ℕ) (paths : List Path) (queue : Path) (label : Label) (share : ℕ) (labels : List Label) (rows new : List (List Share)) (is : ℕ → ℕ → Bool)
    → ((j m : ℕ) → j < length paths → m < length labels → (same_path (get_or paths j root) queue && same_label (get_or labels m Unlabelled) label) ≡ is m (q + j))
    → ((m n : ℕ) → maximum_at new m n ≡ cond (is m n) share (maximum_at rows m n))
    → maxima_from q paths labels new ≡ set_maximum queue label share (maxima_from q paths labels rows)
set-from q [] queue label share labels rows new is same set = refl
set-from q (path ∷ paths) queue label share labels rows new is same set =
    (λ i. set-on 0 q path queue label share labels rows new (λ m. is m q) first (λ m. set m q) i
    ++ set-from (q + 1) paths queue label share labels rows new is (λ j m inside within. same (suc j) m (omega (arith, inside)) within ∙ ap (is m) (sym (next-place q j))) set i)
    ∙ sym (map-append (λ (row : MaximumRow). cond (is_maximum_of queue label row) (record row { share = share }) row) (maxima_on 0 q path labels rows) (maxima_from (q + 1) paths labels rows))
  where
    first : (m : ℕ) → m < length labels → (same_path path queue && same_label (get_or labels m Unlabelled) label) ≡ is (0 + m) q
    first m within = same 0 m (omega arith) within ∙ (λ i. is (added m i) (none q i))
      where
        added : (n : ℕ) → n ≡ 0 + n
        added n = omega arith

        none : (n : ℕ) → n + 0 ≡ n
        none n = omega arith

-- ---- the shares of a tree and of labels that differ

module _ (paths : List Path) (tree : IsTree paths) (labels : List Label) (apart : AreLabels labels) (p q : ℕ) (inside : p < length labels) (below : 0 < q) (has : HasNumber paths q) where
  abbrev label : Label
  label = get_or labels p Unlabelled

  same-labels : (m : ℕ) → m < length labels → same_label (get_or labels m Unlabelled) label ≡ nat_eq m p
  same-labels m within = go (nat_eq m p) refl
    where
      go : (b : Bool) → nat_eq m p ≡ b → same_label (get_or labels m Unlabelled) label ≡ b
      go true e = ap (λ n. same_label (get_or labels n Unlabelled) label) (grind (arith, nat_tests, e)) ∙ same-label_self label
      go false e =
          false_from_ne_true (same_label (get_or labels m Unlabelled) label)
          (λ same. (λ (ne : m ≢ p). ne (apart.apart m p within inside (same-label_path (get_or labels m Unlabelled) label same))) (grind (arith, nat_tests, e)))

  same-paths : (m : ℕ) → HasNumber paths m → same_path (path_at paths m) (path_at paths q) ≡ nat_eq m q
  same-paths m there = go (nat_eq m q) refl
    where
      go : (b : Bool) → nat_eq m q ≡ b → same_path (path_at paths m) (path_at paths q) ≡ b
      go true e = ap (λ n. same_path (path_at paths n) (path_at paths q)) (grind (arith, nat_tests, e)) ∙ own-path paths q
      go false e = other-path paths tree m q there has (grind (arith, nat_tests, e))

  -- the model's maximum of a queue on a partition
  pub maximum-means : (rows : List (List Share)) → maximum_on (maxima_of paths labels rows) (path_at paths q) label ≡ maximum_at rows p q
  unfolding maximum_on
  maximum-means rows = go q has below refl
    where
      go : (n : ℕ) → HasNumber paths n → 0 < n → n ≡ q → option_map_or (λ (row : MaximumRow). row.share) (find (is_maximum_of (path_at paths q) label) (maxima_of paths labels rows)) 0 ≡ maximum_at rows p q
      go zero there above e = absurd (omega (arith, above))
      go (suc j) there above e =
          found-from 1 paths (path_at paths q) label labels rows j p (omega (arith, there)) inside
          (λ m within. same-paths (suc m) (omega (arith, within)) ∙ shifted m)
          same-labels
          ∙ ap (maximum_at rows p) (omega (arith, e))
        where
          shifted : (m : ℕ) → nat_eq (suc m) q ≡ nat_eq m j
          shifted m = ap (nat_eq (suc m)) (sym e) ∙ one-more m j

  -- a maximum that is set is the model's
  pub maximum-set : (rows : List (List Share)) (share : ℕ) → HasCell rows p q
      → maxima_of paths labels (with_maximum p q share rows) ≡ set_maximum (path_at paths q) label share (maxima_of paths labels rows)
  maximum-set rows share cell =
      set-from 1 paths (path_at paths q) label share labels rows (with_maximum p q share rows) (λ m n. nat_eq m p && nat_eq n q)
      (λ j m within there. both j m within there)
      (read-maximum rows p q share cell)
    where
      both : (j m : ℕ) → j < length paths → m < length labels → (same_path (get_or paths j root) (path_at paths q) && same_label (get_or labels m Unlabelled) label) ≡ (nat_eq m p && nat_eq (1 + j) q)
      both j m within there =
          (λ i. same-paths (suc j) (omega (arith, within)) i && same-labels m there i)
          ∙ swapped (nat_eq (suc j) q) (nat_eq m p)
          ∙ ap (λ n. nat_eq m p && nat_eq n q) (one-more j)
        where
          swapped : (a b : Bool) → (a && b) ≡ (b && a)
          swapped true true = refl
          swapped true false = refl
          swapped false true = refl
          swapped false false = refl

          one-more : (n : ℕ) → suc n ≡ 1 + n
          one-more n = omega arith
