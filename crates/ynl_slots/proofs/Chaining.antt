-- How a chain keeps its numbers in order while the links of its rows are written.
use Rattle.std.proofs.Common.{◌≡◌, ◌≢◌, ℕ, zero, suc, Bool, true, false, cond, is_some, IsSome, nat_eq, List, [], ◌∷◌, ◌++◌, map, Option, Some, None, option_map, slice_get, refl, sym, ap, subst, ◌∙◌, inl, inr, arith, true≢false}
use Rattle.std.specs.List.{AllByRecursion}
use Rattle.std.specs.Map.{lookup}
use Rattle.std.specs.Option.{option_or}
use Rattle.std.proofs.lemmas.Bool.{cases_eq}
use Rattle.std.proofs.lemmas.Bool.Decides.{nat_tests}
use Rattle.std.proofs.lemmas.Option.{same_Some, none-some}
use Rattle.ynl_slots.specs.declared.chain.Links.{Links}
use Rattle.ynl_slots.specs.declared.chain.Chain.{Chain}
use Rattle.ynl_slots.specs.Slots.{IsLive, with_row}
use Rattle.ynl_slots.specs.Chain.{first_or, last_or, AreDistinct, next_set, prev_set, links_at, IsRun, IsChain, SetsLinks, Appends, Removes}
use Rattle.ynl_slots.proofs.Lists.{all_append, all_then, all_front, all_back, all_both, all_any}
use Rattle.ynl_slots.proofs.Lookups.{lookup-with_row}

-- ---- ends of lists

first_append : (other : Option ℕ) (xs ys : List ℕ) → first_or other (xs ++ ys) ≡ first_or (first_or other ys) xs
first_append other [] ys = refl
first_append other (x ∷ xs) ys = refl

last_append : (other : Option ℕ) (xs ys : List ℕ) → last_or other (xs ++ ys) ≡ last_or (last_or other xs) ys
last_append other [] ys = refl
last_append other (x ∷ xs) ys = last_append (Some x) xs ys

all_last_from : (P : ℕ → Type 0) (x : ℕ) (xs : List ℕ) (n : ℕ) → P x → AllByRecursion P xs → last_or (Some x) xs ≡ Some n → P n
all_last_from P x [] n p h is = subst P (same_Some x n is) p
all_last_from P x (y ∷ ys) n p h is = all_last_from P y ys n h.0 h.1 is

-- what holds of all holds of the last
pub all_last : (P : ℕ → Type 0) (xs : List ℕ) (n : ℕ) → AllByRecursion P xs → last_or None xs ≡ Some n → P n
all_last P [] n h is = absurd (none-some n is)
all_last P (x ∷ xs) n h is = all_last_from P x xs n h.0 h.1 is

pub all_first : (P : ℕ → Type 0) (xs : List ℕ) (n : ℕ) → AllByRecursion P xs → first_or None xs ≡ Some n → P n
all_first P [] n h is = absurd (none-some n is)
all_first P (x ∷ xs) n h is = subst P (same_Some x n is) h.0

is_some-last : (x : ℕ) (xs : List ℕ) → is_some (last_or (Some x) xs) ≡ true
is_some-last x [] = refl
is_some-last x (y ∷ ys) = is_some-last y ys

-- ---- distinct numbers

distinct_push : (xs : List ℕ) (k : ℕ) → AreDistinct xs → AllByRecursion (λ n. n ≢ k) xs → AreDistinct (xs ++ k ∷ [])
distinct_push [] k d h = (tt, tt)
distinct_push (x ∷ xs) k d h = (all_append (λ m. m ≢ x) xs (k ∷ []) d.0 (λ e. h.0 (sym e), tt), distinct_push xs k d.1 h.1)

pub apart_front : (xs : List ℕ) (k : ℕ) (ys : List ℕ) → AreDistinct (xs ++ k ∷ ys) → AllByRecursion (λ n. n ≢ k) xs
apart_front [] k ys d = tt
apart_front (x ∷ xs) k ys d = ((λ e. (all_back (λ m. m ≢ x) xs (k ∷ ys) d.0).0 (sym e)), apart_front xs k ys d.1)

-- no number of ys is one of xs
AreApart : List ℕ → List ℕ → Type 0
AreApart xs ys = AllByRecursion (λ n. AllByRecursion (λ m. m ≢ n) ys) xs

distinct_front : (xs ys : List ℕ) → AreDistinct (xs ++ ys) → AreDistinct xs
distinct_front [] ys d = tt
distinct_front (x ∷ xs) ys d = (all_front (λ m. m ≢ x) xs ys d.0, distinct_front xs ys d.1)

pub distinct_back : (xs ys : List ℕ) → AreDistinct (xs ++ ys) → AreDistinct ys
distinct_back [] ys d = d
distinct_back (x ∷ xs) ys d = distinct_back xs ys d.1

apart_from_distinct : (xs ys : List ℕ) → AreDistinct (xs ++ ys) → AreApart xs ys
unfolding AreApart
apart_from_distinct [] ys d = tt
apart_from_distinct (x ∷ xs) ys d = (all_back (λ m. m ≢ x) xs ys d.0, apart_from_distinct xs ys d.1)

distinct_join : (xs ys : List ℕ) → AreDistinct xs → AreDistinct ys → AreApart xs ys → AreDistinct (xs ++ ys)
unfolding AreApart
distinct_join [] ys d e a = e
distinct_join (x ∷ xs) ys d e a = (all_append (λ m. m ≢ x) xs ys d.0 a.0, distinct_join xs ys d.1 e a.1)

-- ---- runs

pub run_same : (at new : ℕ → Option Links) (before : Option ℕ) (xs : List ℕ) (after : Option ℕ) → AllByRecursion (λ n. new n ≡ at n) xs → IsRun at before xs after → IsRun new before xs after
run_same at new before [] after h r = tt
run_same at new before (x ∷ xs) after h r = (h.0 ∙ r.0, run_same at new (Some x) xs after h.1 r.1)

run_append : (at : ℕ → Option Links) (before : Option ℕ) (xs ys : List ℕ) (after : Option ℕ) → IsRun at before xs (first_or after ys) → IsRun at (last_or before xs) ys after → IsRun at before (xs ++ ys) after
run_append at before [] ys after r s = s
run_append at before (x ∷ xs) ys after r s =
    (r.0 ∙ ap (λ (n : Option ℕ). Some (record { prev = before; next = n })) (sym (first_append after xs ys)), run_append at (Some x) xs ys after r.1 s)

run_front : (at : ℕ → Option Links) (before : Option ℕ) (xs ys : List ℕ) (after : Option ℕ) → IsRun at before (xs ++ ys) after → IsRun at before xs (first_or after ys)
run_front at before [] ys after r = tt
run_front at before (x ∷ xs) ys after r =
    (r.0 ∙ ap (λ (n : Option ℕ). Some (record { prev = before; next = n })) (first_append after xs ys), run_front at (Some x) xs ys after r.1)

run_back : (at : ℕ → Option Links) (before : Option ℕ) (xs ys : List ℕ) (after : Option ℕ) → IsRun at before (xs ++ ys) after → IsRun at (last_or before xs) ys after
run_back at before [] ys after r = r
run_back at before (x ∷ xs) ys after r = run_back at (Some x) xs ys after r.1

-- the last of a run names another number after it
run_to : (at new : ℕ → Option Links) (before : Option ℕ) (xs : List ℕ) (after other : Option ℕ) → IsRun at before xs after → AreDistinct xs
    → AllByRecursion (λ n. last_or None xs ≢ Some n → new n ≡ at n) xs → ((n : ℕ) → last_or None xs ≡ Some n → new n ≡ option_map (next_set other) (at n)) → IsRun new before xs other
run_to at new before [] after other r d same changed = tt
run_to at new before (x ∷ []) after other r d same changed = (changed x refl ∙ ap (option_map (next_set other)) r.0, tt)
run_to at new before (x ∷ y ∷ ys) after other r d same changed =
    let apart : last_or (Some y) ys ≢ Some x = λ e. all_last_from (λ m. m ≢ x) y ys x d.0.0 d.0.1 e refl in
    (same.0 apart ∙ r.0, run_to at new (Some x) (y ∷ ys) after other r.1 d.1 same.1 changed)

-- the first of a run names another number before it
run_from : (at new : ℕ → Option Links) (before other : Option ℕ) (xs : List ℕ) (after : Option ℕ) → IsRun at before xs after → AreDistinct xs
    → AllByRecursion (λ n. first_or None xs ≢ Some n → new n ≡ at n) xs → ((n : ℕ) → first_or None xs ≡ Some n → new n ≡ option_map (prev_set other) (at n)) → IsRun new other xs after
run_from at new before other [] after r d same changed = tt
run_from at new before other (x ∷ xs) after r d same changed =
    let rest = all_both (λ m. m ≢ x) (λ n. Some x ≢ Some n → new n ≡ at n) (λ n. new n ≡ at n) (λ n apart k. k (λ e. apart (sym (same_Some x n e)))) xs d.0 same.1 in
    (changed x refl ∙ ap (option_map (prev_set other)) r.0, run_same at new (Some x) xs after rest r.1)

-- ---- one write of links

pub record AtSets (at new : ℕ → Option Links) (number : Option ℕ) (to : Links → Links) : Type 0 where
  pub row : (n : ℕ) → number ≡ Some n → new n ≡ option_map to (at n)
  pub others : (n : ℕ) → number ≢ Some n → new n ≡ at n

module _ {X : Type 0} (links : X → Links) (with_links : X → Links → X) (law : (row : X) (to : Links) → links (with_links row to) ≡ to) where
  at_sets : (number : Option ℕ) (to : Links → Links) (old new : List (ℕ × X)) → SetsLinks with_links number (λ r. to (links r)) old new → AtSets (links_at links old) (links_at links new) number to
  at_sets number to old new s = record {
    row = λ n e. ap (option_map links) (s.row n e) ∙ one (lookup (nat_eq n) old);
    others = λ n e. ap (option_map links) (s.others n e);
  }
    where
      one : (o : Option X) → option_map links (option_map (λ r. with_links r (to (links r))) o) ≡ option_map to (option_map links o)
      one None = refl
      one (Some r) = ap (λ l. Some l) (law r (to (links r)))

module _ {X : Type 0} where
  pub numbers_stay : (number : ℕ) (row : X) (es : List (ℕ × X)) → map (λ e. e.0) (with_row number row es) ≡ map (λ (e : ℕ × X). e.0) es
  numbers_stay number row [] = refl
  numbers_stay number row (e ∷ es) = go (nat_eq number e.0) (numbers_stay number row es)
    where
      go : (b : Bool) → map (λ e. e.0) (with_row number row es) ≡ map (λ (e : ℕ × X). e.0) es → map (λ e. e.0) (cond b (e.0, row) e ∷ with_row number row es) ≡ e.0 ∷ map (λ (e : ℕ × X). e.0) es
      go true k = ap (λ ns. e.0 ∷ ns) k
      go false k = ap (λ ns. e.0 ∷ ns) k

  -- a write of one live row
  pub sets_links : (with_links : X → Links → X) (number : ℕ) (to : X → Links) (old : List (ℕ × X)) (row new : X) → lookup (nat_eq number) old ≡ Some row → new ≡ with_links row (to row) → SetsLinks with_links (Some number) to old (with_row number new old)
  sets_links with_links number to old row new found is = record {
    row = λ n e. written n (same_Some number n e);
    others = λ n e. stays n (λ same. e (ap (λ m. Some m) (sym same)));
    numbers = numbers_stay number new old;
  }
    where
      stays : (n : ℕ) → n ≢ number → lookup (nat_eq n) (with_row number new old) ≡ lookup (nat_eq n) old
      stays n apart =
          let test : nat_eq n number ≡ false = grind (arith, nat_tests) in
          lookup-with_row n number new old ∙ ap (λ b. cond b (option_map (λ _. new) (lookup (nat_eq n) old)) (lookup (nat_eq n) old)) test

      written : (n : ℕ) → number ≡ n → lookup (nat_eq n) (with_row number new old) ≡ option_map (λ r. with_links r (to r)) (lookup (nat_eq n) old)
      written n same =
          let test : nat_eq n number ≡ true = grind (arith, nat_tests) in
          let there : lookup (nat_eq n) old ≡ Some row = ap (λ m. lookup (nat_eq m) old) (sym same) ∙ found in
          lookup-with_row n number new old
          ∙ ap (λ b. cond b (option_map (λ _. new) (lookup (nat_eq n) old)) (lookup (nat_eq n) old)) test
          ∙ ap (option_map (λ _. new)) there
          ∙ ap (λ r. Some r) is
          ∙ sym (ap (option_map (λ r. with_links r (to r))) there)

  -- a write of links leaves live numbers live
  pub stays_live : (with_links : X → Links → X) (number : Option ℕ) (to : X → Links) (old new : List (ℕ × X)) (n : ℕ) → SetsLinks with_links number to old new → IsLive n old → IsLive n new
  stays_live with_links number to old new n s live = by number refl
    where
      kept : (o : Option X) → IsSome o → IsSome (option_map (λ r. with_links r (to r)) o)
      kept None some = absurd (true≢false (sym some))
      kept (Some r) some = refl

      by : (m : Option ℕ) → number ≡ m → IsLive n new
      by None is = ap is_some (s.others n (λ e. none-some n (sym is ∙ e))) ∙ live
      by (Some m) is =
          elim (cases_eq m n) [
            | inl same ↦ ap is_some (s.row n (is ∙ ap (λ k. Some k) same)) ∙ kept (lookup (nat_eq n) old) live
            | inr apart ↦ ap is_some (s.others n (λ e. apart (same_Some m n (sym is ∙ e)))) ∙ live
          ]

  linked_live : (links : X → Links) (entries : List (ℕ × X)) (n : ℕ) (to : Links) → links_at links entries n ≡ Some to → IsLive n entries
  linked_live links entries n to h = by (lookup (nat_eq n) entries) h
    where
      by : (o : Option X) → option_map links o ≡ Some to → IsSome o
      by None k = absurd (none-some to k)
      by (Some r) k = refl

-- ---- a number that comes last

last_or_first : (ns : List ℕ) (other : Option ℕ) → option_or (first_or None ns) other ≡ first_or other ns
last_or_first [] other = refl
last_or_first (n ∷ ns) other = refl

to_one : (to : Links) (o : Option Links) → IsSome o → option_map (λ _. to) o ≡ Some to
to_one to None some = absurd (true≢false (sym some))
to_one to (Some l) some = refl

pub chain_append : (at mid new : ℕ → Option Links) (chain : Chain) (ns : List ℕ) (k : ℕ) → IsChain at chain ns → AllByRecursion (λ n. n ≢ k) ns
    → AtSets at mid chain.last (next_set (Some k)) → AtSets mid new (Some k) (λ _. record { prev = chain.last; next = None }) → IsSome (mid k)
    → IsChain new (record { first = option_or chain.first (Some k); last = Some k }) (ns ++ k ∷ [])
chain_append at mid new chain ns k c absent one two live = record {
  first = ap (λ o. option_or o (Some k)) c.first ∙ last_or_first ns (Some k) ∙ sym (first_append None ns (k ∷ []));
  last = sym (last_append None ns (k ∷ []));
  run = run_append new None ns (k ∷ []) None front (here, tt);
  distinct = distinct_push ns k c.distinct absent;
}
  where
    same : (n : ℕ) → n ≢ k → last_or None ns ≢ Some n → new n ≡ at n
    same n apart other = two.others n (λ e. apart (sym (same_Some k n e))) ∙ one.others n (λ e. other (sym c.last ∙ e))

    changed : (n : ℕ) → last_or None ns ≡ Some n → new n ≡ option_map (next_set (Some k)) (at n)
    changed n is =
        let apart : n ≢ k = all_last (λ m. m ≢ k) ns n absent is in
        two.others n (λ e. apart (sym (same_Some k n e))) ∙ one.row n (c.last ∙ is)

    front : IsRun new None ns (Some k)
    front = run_to at new None ns None (Some k) c.run c.distinct (all_then (λ n. n ≢ k) (λ n. last_or None ns ≢ Some n → new n ≡ at n) same ns absent) changed

    here : new k ≡ Some (record { prev = last_or None ns; next = None })
    here =
        two.row k refl ∙ to_one (record { prev = chain.last; next = None }) (mid k) live ∙ ap (λ (p : Option ℕ). Some (record { prev = p; next = None })) c.last

-- ---- a number that goes

first_beside : (front rest : List ℕ) (end : Option ℕ) (links : Links) → links.prev ≡ last_or None front → end ≡ first_or None (front ++ rest) → (back : List ℕ) → links.next ≡ first_or None back
    → cond (is_some links.prev) end links.next ≡ first_or None (front ++ back)
first_beside [] rest end links prev is back next = ap (λ o. cond (is_some o) end links.next) prev ∙ next
first_beside (x ∷ xs) rest end links prev is back next =
    ap (λ b. cond b end links.next) (ap is_some prev ∙ is_some-last x xs) ∙ is

last_beside : (front : List ℕ) (k : ℕ) (back : List ℕ) (end : Option ℕ) (links : Links) → links.prev ≡ last_or None front → links.next ≡ first_or None back → end ≡ last_or None (front ++ k ∷ back)
    → cond (is_some links.next) end links.prev ≡ last_or None (front ++ back)
last_beside front k [] end links prev next is =
    ap (λ o. cond (is_some o) end links.prev) next ∙ prev ∙ sym (last_append None front [])
last_beside front k (y ∷ ys) end links prev next is =
    ap (λ o. cond (is_some o) end links.prev) next ∙ is ∙ last_append None front (k ∷ y ∷ ys) ∙ sym (last_append None front (y ∷ ys))

pub chain_remove : (at mid new : ℕ → Option Links) (chain : Chain) (front : List ℕ) (k : ℕ) (back : List ℕ) (links : Links) → IsChain at chain (front ++ k ∷ back) → at k ≡ Some links
    → AtSets at mid links.prev (next_set links.next) → AtSets mid new links.next (prev_set links.prev)
    → IsChain new (record { first = cond (is_some links.prev) chain.first links.next; last = cond (is_some links.next) chain.last links.prev }) (front ++ back)
unfolding AreApart
chain_remove at mid new chain front k back links c found one two = record {
  first = first_beside front (k ∷ back) chain.first links prev_is c.first back next_is;
  last = last_beside front k back chain.last links prev_is next_is c.last;
  run = run_append new None front back None in_front in_back;
  distinct = distinct_join front back (distinct_front front (k ∷ back) c.distinct) of_back apart;
}
  where
    rest : IsRun at (last_or None front) (k ∷ back) None
    rest = run_back at None front (k ∷ back) None c.run

    both : links ≡ record { prev = last_or None front; next = first_or None back }
    both = let one = rest.0 in cc

    prev_is : links.prev ≡ last_or None front
    prev_is = ap (λ (l : Links). l.prev) both

    next_is : links.next ≡ first_or None back
    next_is = ap (λ (l : Links). l.next) both

    of_back : AreDistinct back
    of_back = (distinct_back front (k ∷ back) c.distinct).1

    apart : AreApart front back
    apart = all_then (λ n. AllByRecursion (λ m. m ≢ n) (k ∷ back)) (λ n. AllByRecursion (λ m. m ≢ n) back) (λ n h. h.1) front (apart_from_distinct front (k ∷ back) c.distinct)

    not_next : (n : ℕ) → AllByRecursion (λ m. m ≢ n) back → links.next ≢ Some n
    not_next n h e = all_first (λ m. m ≢ n) back n h (sym next_is ∙ e) refl

    not_prev : (m : ℕ) → last_or None front ≢ Some m → links.prev ≢ Some m
    not_prev m h e = h (sym prev_is ∙ e)

    -- no number of the back is the last of the front
    back_apart : (p : Option ℕ) → ((q : ℕ) → p ≡ Some q → AllByRecursion (λ m. m ≢ q) back) → AllByRecursion (λ m. p ≢ Some m) back
    back_apart None h = all_any (λ m. None ≢ Some m) (λ m e. none-some m e) back
    back_apart (Some q) h = all_then (λ m. m ≢ q) (λ m. Some q ≢ Some m) (λ m other e. other (sym (same_Some q m e))) back (h q refl)

    beyond : AllByRecursion (λ m. last_or None front ≢ Some m) back
    beyond = back_apart (last_or None front) (λ q is. all_last (λ n. AllByRecursion (λ m. m ≢ n) back) front q apart is)

    in_front : IsRun new None front (first_or None back)
    in_front = run_to at new None front (Some k) (first_or None back) (run_front at None front (k ∷ back) None c.run) (distinct_front front (k ∷ back) c.distinct)
        (all_then (λ n. AllByRecursion (λ m. m ≢ n) back) (λ n. last_or None front ≢ Some n → new n ≡ at n) (λ n h other. two.others n (not_next n h) ∙ one.others n (not_prev n other)) front apart)
        (λ n is. two.others n (not_next n (all_last (λ n. AllByRecursion (λ m. m ≢ n) back) front n apart is)) ∙ one.row n (prev_is ∙ is) ∙ ap (λ (o : Option ℕ). option_map (next_set o) (at n)) next_is)

    in_back : IsRun new (last_or None front) back None
    in_back = run_from at new (Some k) (last_or None front) back None rest.1 of_back
        (all_then (λ m. last_or None front ≢ Some m) (λ m. first_or None back ≢ Some m → new m ≡ at m) (λ m h other. two.others m (λ e. other (sym next_is ∙ e)) ∙ one.others m (not_prev m h)) back beyond)
        (λ m is. two.row m (next_is ∙ is) ∙ ap (option_map (prev_set links.prev)) (one.others m (not_prev m (all_first (λ m. last_or None front ≢ Some m) back m beyond is))) ∙ ap (λ (o : Option ℕ). option_map (prev_set o) (at m)) prev_is)

-- ---- the calls

-- the rows of a run are live
all_live : {X : Type 0} (links : X → Links) (entries : List (ℕ × X)) (before : Option ℕ) (ns : List ℕ) (after : Option ℕ) → IsRun (links_at links entries) before ns after → AllByRecursion (λ m. IsLive m entries) ns
all_live links entries before [] after r = tt
all_live links entries before (n ∷ ns) after r = (linked_live links entries n _ r.0, all_live links entries (Some n) ns after r.1)

-- the rows at the ends of a run are live
pub last_live : {X : Type 0} (links : X → Links) (entries : List (ℕ × X)) (chain : Chain) (ns : List ℕ) (n : ℕ) → IsChain (links_at links entries) chain ns → chain.last ≡ Some n → IsLive n entries
last_live links entries chain ns n c is =
    all_last (λ m. IsLive m entries) ns n (all_live links entries None ns None c.run) (sym c.last ∙ is)

-- the links of a number between others name the ones beside it
pub beside : (at : ℕ → Option Links) (front : List ℕ) (k : ℕ) (back : List ℕ) (chain : Chain) → IsChain at chain (front ++ k ∷ back) → at k ≡ Some (record { prev = last_or None front; next = first_or None back })
beside at front k back chain c = (run_back at None front (k ∷ back) None c.run).0

-- the links of a number in a place name the one in the next
pub run_next : (at : ℕ → Option Links) (before : Option ℕ) (ns : List ℕ) (i k : ℕ) → IsRun at before ns None → slice_get ns i ≡ Some k → (to : Links) × (at k ≡ Some to) × (to.next ≡ slice_get ns (suc i))
run_next at before [] i k r found = absurd (none-some k found)
run_next at before (n ∷ ns) zero k r found =
    (record { prev = before; next = first_or None ns }, ap at (sym (same_Some n k found)) ∙ r.0, first ns)
  where
    first : (ms : List ℕ) → first_or None ms ≡ slice_get ms 0
    first [] = refl
    first (m ∷ ms) = refl
run_next at before (n ∷ ns) (suc i) k r found = run_next at (Some n) ns i k r.1 found

module _ {X : Type 0} (links : X → Links) (entries : List (ℕ × X)) (chain : Chain) (front : List ℕ) (k : ℕ) (back : List ℕ) (c : IsChain (links_at links entries) chain (front ++ k ∷ back)) where
  pub middle_live : IsLive k entries
  middle_live = linked_live links entries k _ (beside (links_at links entries) front k back chain c)

  -- so are the rows beside it
  pub prev_live : (to : Links) (n : ℕ) → links_at links entries k ≡ Some to → to.prev ≡ Some n → IsLive n entries
  prev_live to n read is =
      let one = beside (links_at links entries) front k back chain c in
      let named : last_or None front ≡ to.prev = ap (λ (l : Links). l.prev) (same_Some _ to (sym one ∙ read)) in
      all_last (λ m. IsLive m entries) front n (all_live links entries None front (Some k) (run_front (links_at links entries) None front (k ∷ back) None c.run)) (named ∙ is)

  pub next_live : (to : Links) (n : ℕ) → links_at links entries k ≡ Some to → to.next ≡ Some n → IsLive n entries
  next_live to n read is =
      let one = beside (links_at links entries) front k back chain c in
      let named : first_or None back ≡ to.next = ap (λ (l : Links). l.next) (same_Some _ to (sym one ∙ read)) in
      all_first (λ m. IsLive m entries) back n (all_live links entries (Some k) back None (run_back (links_at links entries) None front (k ∷ back) None c.run).1) (named ∙ is)

module _ {X : Type 0} (links : X → Links) (with_links : X → Links → X) (law : (row : X) (to : Links) → links (with_links row to) ≡ to) where
  pub appended : (old middle new : List (ℕ × X)) (chain : Chain) (k : ℕ) (first : Option ℕ) → IsLive k old
      → SetsLinks with_links chain.last (λ r. next_set (Some k) (links r)) old middle → SetsLinks with_links (Some k) (λ _. record { prev = chain.last; next = None }) middle new
      → first ≡ option_or chain.first (Some k) → Appends links old chain k new (record { first = first; last = Some k })
  appended old middle new chain k first live one two is ns c absent =
      let there = stays_live with_links chain.last (λ r. next_set (Some k) (links r)) old middle k one live in
      let done = chain_append (links_at links old) (links_at links middle) (links_at links new) chain ns k c absent
      (at_sets links with_links law chain.last (next_set (Some k)) old middle one)
      (at_sets links with_links law (Some k) (λ _. record { prev = chain.last; next = None }) middle new two)
      (has_links (lookup (nat_eq k) middle) there) in
      subst (λ (f : Option ℕ). IsChain (links_at links new) (record { first = f; last = Some k }) (ns ++ k ∷ [])) (sym is) done
    where
      has_links : (o : Option X) → IsSome o → IsSome (option_map links o)
      has_links None some = absurd (true≢false (sym some))
      has_links (Some r) some = refl

  pub removed : (old middle new : List (ℕ × X)) (chain : Chain) (k : ℕ) (to : Links) (first last : Option ℕ) → links_at links old k ≡ Some to
      → SetsLinks with_links to.prev (λ r. next_set to.next (links r)) old middle → SetsLinks with_links to.next (λ r. prev_set to.prev (links r)) middle new
      → first ≡ cond (is_some to.prev) chain.first to.next → last ≡ cond (is_some to.next) chain.last to.prev → Removes links old chain k new (record { first = first; last = last })
  removed old middle new chain k to first last read one two first_is last_is front back c =
      let done = chain_remove (links_at links old) (links_at links middle) (links_at links new) chain front k back to c read
      (at_sets links with_links law to.prev (next_set to.next) old middle one)
      (at_sets links with_links law to.next (prev_set to.prev) middle new two) in
      let with_first = subst (λ (f : Option ℕ). IsChain (links_at links new) (record { first = f; last = cond (is_some to.next) chain.last to.prev }) (front ++ back)) (sym first_is) done in
      subst (λ (l : Option ℕ). IsChain (links_at links new) (record { first = first; last = l }) (front ++ back)) (sym last_is) with_first
