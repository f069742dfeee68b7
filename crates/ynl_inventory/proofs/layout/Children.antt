-- The queues just below one.
use Rattle.std.proofs.Common.{◌≡◌, ℕ, zero, suc, ◌+◌, ◌-◌, ◌<◌, inl, inr, Bool, true, false, List, [], ◌∷◌, ◌++◌, length, map, take, get_or, Some, refl, sym, ap, subst, ◌∙◌, arith, length-append}
use Rattle.std.specs.Prelude.{nat_lt}
use Rattle.std.specs.List.{All, Contains, IsDistinct}
use Rattle.std.specs.List.Sorted.{IsPermutation, IsStrictlyIncreasing, IsSortedByKey}
use Rattle.std.specs.Option.{option_cmp}
use Rattle.std.specs.Ordering.{is_lt, is_eq, ordering_reverse, nat_cmp, eq_by_cmp}
use Rattle.std.specs.declared.cmp.Ordering.{Ordering}
use Rattle.std.specs.declared.cmp.Ordering.TheVariants.{Less, Equal, Greater}
use Rattle.std.specs.Cmp.Lexicographic.{nat_list_cmp_total}
use Rattle.std.specs.Cmp.{nat_cmp_total}
use Rattle.std.proofs.lemmas.Cmp.{tied_itself, eq_by_cmp_equiv}
use Rattle.std.proofs.lemmas.Map.Lookups.{exact_bytes}
use Rattle.std.proofs.Math.Seq.{get_or-append_seam}
use Rattle.std.proofs.lemmas.Bool.{cases_lt, ltb-true, ltb-false}
use Rattle.std.proofs.lemmas.List.{get_or_append_left, get_or-map, length-map}
use Rattle.std.proofs.lemmas.List.Elements.{All-push, Contains-append_left, Contains-append_right}
use Rattle.std.proofs.lemmas.List.Sorted.{All-permutation, Contains-permutation}
use Rattle.std.proofs.lemmas.Map.Keys.{IsDistinct-from_sorted, IsDistinct-IsPermutation, sorted_from_all_adjacent, sorted_from_strictly_increasing}
use mathlib.Core.Bool.{true≢false}
use Rattle.ynl_resource.specs.Names.{root, name_order}
use Rattle.ynl_resource.specs.declared.names.Name.{Name}
use Rattle.ynl_resource.specs.declared.paths.Path.{Path}
use Rattle.ynl_model.specs.Service.{last_name}
use Rattle.ynl_laws.specs.Decided.{below}
use Rattle.ynl_inventory.specs.layout.Paths.{AreChildren, HasNumber, IsChild, IsLine, IsTree, names_of, path_at}
use Rattle.ynl_inventory.specs.layout.Building.{AreChildrenUpTo, name_in}
use Rattle.ynl_inventory.proofs.layout.LastNames.{named}
use Rattle.ynl_inventory.proofs.layout.Lines.{parted, take-front}

-- two numbers that are the same
same_number : ℕ → ℕ → Bool
same_number = eq_by_cmp nat_cmp

number-flips : (a b : ℕ) → same_number a b ≡ same_number b a
unfolding same_number
number-flips a b = (eq_by_cmp_equiv nat_cmp_total).symm a b

number-itself : (a : ℕ) → same_number a a ≡ true
unfolding same_number
number-itself a = ap is_eq (tied_itself nat_cmp_total a)

-- of numbers that differ no two side by side are one
distinct-at : (xs : List ℕ) → IsDistinct same_number xs → (k : ℕ) → suc k < length xs → get_or xs k 0 ≡ get_or xs (suc k) 0 → ⊥
unfolding IsDistinct
distinct-at [] h k inside e = omega (arith, inside)
distinct-at (x ∷ []) h k inside e = omega (arith, inside)
distinct-at (x ∷ y ∷ xs) h zero inside e = true≢false (sym (number-itself x) ∙ ap (same_number x) e ∙ h.0.0)
distinct-at (x ∷ y ∷ xs) h (suc k) inside e = distinct-at (y ∷ xs) h.1 k (omega (arith, inside)) e

-- names that tie are one
name-equal : (a b : Name) → name_order a b ≡ Equal → a ≡ b
name-equal a b e = exact_bytes a b e

module _ (paths : List Path) (tree : IsTree paths) (queue : ℕ) (has : HasNumber paths queue) where
  -- ---- whether a queue with a line stands just below

  pub stands-below : (child : ℕ) (line : List ℕ) → HasNumber paths child → IsLine paths child line → 1 < length line → get_or line (length line - 2) 0 ≡ queue → IsChild paths queue child
  stands-below child line there is long e = record {
    there = there;
    path =
        parted (length line - 2) (path_at paths child) (omega (arith, is.len, long))
        ∙ ap (λ path. below path (last_name (path_at paths child))) (sym (is.path (length line - 2) 0 (omega (arith, long))) ∙ ap (path_at paths) e);
  }

  pub stood-below : (child : ℕ) (line : List ℕ) → IsLine paths child line → IsChild paths queue child → (1 < length line) × (get_or line (length line - 2) 0 ≡ queue)
  stood-below child line is h = (long, subst (λ k. get_or line k 0 ≡ queue) place here)
    where
      depth : length (path_at paths child) ≡ length (path_at paths queue) + 1
      depth = ap length h.path ∙ length-append (path_at paths queue) (last_name (path_at paths child) ∷ [])

      long : 1 < length line
      long = omega (arith, is.len, depth)

      place : length (path_at paths queue) ≡ length line - 2
      place = omega (arith, is.len, depth)

      inside : length (path_at paths queue) < length line
      inside = omega (arith, is.len, depth)

      here : get_or line (length (path_at paths queue)) 0 ≡ queue
      here =
          tree.apart (get_or line (length (path_at paths queue)) 0) queue (is.there (length (path_at paths queue)) 0 inside) has
          (is.path (length (path_at paths queue)) 0 inside ∙ ap (take (length (path_at paths queue))) h.path ∙ take-front (path_at paths queue) (last_name (path_at paths child) ∷ []))

  -- ---- one more is looked at

  -- it is none
  pub children-pass : (n : ℕ) (numbers : List ℕ) → AreChildrenUpTo paths queue n numbers → (IsChild paths queue n → ⊥) → AreChildrenUpTo paths queue (n + 1) numbers
  children-pass n numbers h none = record {
    each = h.each;
    before = λ k d inside. omega (arith, h.before k d inside);
    rising = h.rising;
    all = λ child below is. elim (cases_lt child n) [ inl less ↦ h.all child less is | inr more ↦ absurd (none (subst (IsChild paths queue) (omega (arith, below, more)) is)) ];
  }

  -- it is one
  pub children-more : (n : ℕ) (numbers : List ℕ) → AreChildrenUpTo paths queue n numbers → IsChild paths queue n → AreChildrenUpTo paths queue (n + 1) (numbers ++ n ∷ [])
  children-more n numbers h one = record {
    each = All-push (IsChild paths queue) numbers n h.each one;
    before = All-push (λ m. m < n + 1) numbers n (λ k d inside. omega (arith, h.before k d inside)) (omega arith);
    rising = rising;
    all = λ child below is. elim (cases_lt child n) [
      | inl less ↦ Contains-append_left numbers (n ∷ []) child (h.all child less is)
      | inr more ↦ subst (Contains (numbers ++ n ∷ [])) (omega (arith, below, more)) (Contains-append_right numbers (n ∷ []) n (0, omega arith, refl))
    ];
  }
    where
      at : (k : ℕ) → k < length numbers → get_or (numbers ++ n ∷ []) k 0 ≡ get_or numbers k 0
      at k inside = get_or_append_left numbers (n ∷ []) 0 k inside

      end : get_or (numbers ++ n ∷ []) (length numbers) 0 ≡ n
      end = get_or-append_seam numbers n [] 0

      rising : IsStrictlyIncreasing (numbers ++ n ∷ [])
      rising k inside = go (nat_lt (k + 1) (length numbers)) refl
        where
          go : (o : Bool) → nat_lt (k + 1) (length numbers) ≡ o → get_or (numbers ++ n ∷ []) k 0 < get_or (numbers ++ n ∷ []) (k + 1) 0
          go true e =
              let less : k + 1 < length numbers = ltb-true (k + 1) (length numbers) e in
              omega (arith, h.rising k less, at k (omega (arith, less)), at (k + 1) less)
          go false e =
              let past = ltb-false (k + 1) (length numbers) e in
              let last : k + 1 ≡ length numbers = omega (arith, past, inside, length-append numbers (n ∷ [])) in
              omega (arith, h.before k 0 (omega (arith, last)), at k (omega (arith, last)), ap (λ i. get_or (numbers ++ n ∷ []) i 0) last, end)

  -- ---- once they are sorted

  -- two children of one name are one
  one-name : (a b : ℕ) → IsChild paths queue a → IsChild paths queue b → last_name (path_at paths a) ≡ last_name (path_at paths b) → a ≡ b
  one-name a b h k e = tree.apart a b h.there k.there (h.path ∙ ap (below (path_at paths queue)) e ∙ sym k.path)

  -- a child is not root
  pub below-root : (child : ℕ) → IsChild paths queue child → 0 < child
  below-root zero h = absurd (omega (arith, ap length h.path, length-append (path_at paths queue) (last_name (path_at paths 0) ∷ [])))
  below-root (suc k) h = omega arith

  -- a child has its last name
  pub child-named : (names : List Name) → names ≡ map last_name paths → (child : ℕ) → IsChild paths queue child → name_in names child ≡ Some (last_name (path_at paths child))
  child-named names own child h = named paths names own child (below-root child h) h.there

  module _ (names : List Name) (own : names ≡ map last_name paths) (numbers sorted : List ℕ) (are : AreChildrenUpTo paths queue (length (root ∷ paths)) numbers) (same : IsPermutation numbers sorted) (order : IsSortedByKey (name_in names) (option_cmp name_order) sorted) where
    each : All (IsChild paths queue) sorted
    each = All-permutation (IsChild paths queue) numbers sorted same are.each

    apart : IsDistinct same_number sorted
    unfolding same_number
    apart = IsDistinct-IsPermutation same_number number-flips numbers sorted same (IsDistinct-from_sorted nat_cmp numbers (sorted_from_strictly_increasing numbers are.rising))

    rises : (k : ℕ) → k + 1 < length sorted → name_order (last_name (path_at paths (get_or sorted k 0))) (last_name (path_at paths (get_or sorted (k + 1) 0))) ≡ Less
    rises k inside = go (name_order (name a) (name b)) refl
      where
        a : ℕ
        a = get_or sorted k 0

        b : ℕ
        b = get_or sorted (k + 1) 0

        name : ℕ → Name
        name n = last_name (path_at paths n)

        first : IsChild paths queue a
        first = each k 0 (omega (arith, inside))

        second : IsChild paths queue b
        second = each (k + 1) 0 inside

        not-less : is_lt (name_order (name b) (name a)) ≡ false
        not-less = (λ i. is_lt (option_cmp name_order (sym (child-named names own b second) i) (sym (child-named names own a first) i))) ∙ order k 0 (omega arith) inside

        go : (o : Ordering) → name_order (name a) (name b) ≡ o → name_order (name a) (name b) ≡ Less
        go Less e = e
        go Equal e = absurd (distinct-at sorted apart k (omega (arith, inside)) (one-name a b first second (name-equal (name a) (name b) e) ∙ ap (λ i. get_or sorted i 0) (omega arith)))
        go Greater e = absurd (true≢false (sym (ap is_lt (nat_list_cmp_total.antisymm (name b) (name a) ∙ ap ordering_reverse e)) ∙ not-less))

    pub sorted-children : AreChildren paths queue sorted
    sorted-children = record {
      order = sorted_from_all_adjacent nat_list_cmp_total (names_of paths sorted) [] adjacent;
      each = each;
      all = λ child h. Contains-permutation numbers sorted child same (are.all child h.there h);
    }
      where
        at : (k : ℕ) → k < length sorted → get_or (names_of paths sorted) k [] ≡ last_name (path_at paths (get_or sorted k 0))
        at k inside = get_or-map (λ n. last_name (path_at paths n)) sorted k 0 [] inside

        adjacent : (k : ℕ) → k + 1 < length (names_of paths sorted) → name_order (get_or (names_of paths sorted) k []) (get_or (names_of paths sorted) (k + 1) []) ≡ Less
        adjacent k inside =
            let within : k + 1 < length sorted = omega (arith, inside, length-map sorted (λ n. last_name (path_at paths n))) in
            ap (λ n. name_order n (get_or (names_of paths sorted) (k + 1) [])) (at k (omega (arith, within))) ∙ ap (name_order (last_name (path_at paths (get_or sorted k 0)))) (at (k + 1) within) ∙ rises k within
