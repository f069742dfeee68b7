-- How the slots name each other in the order of the pushes, and how each change keeps that.
use Rattle.std.proofs.Common.{◌≡◌, ◌≢◌, ℕ, zero, suc, ◌+◌, ◌-◌, ◌^◌, ◌<◌, ◌≤◌, Bool, true, false, cond, nat_eq, List, [], ◌∷◌, ◌++◌, map, length, set, Option, None, Some, option_map, is_some, IsSome, slice_get, refl, sym, ap, subst, ◌∙◌, inl, inr, arith, length-append, length-set, true≢false}
use Rattle.std.specs.List.{AllByRecursion}
use Rattle.std.specs.Map.{lookup}
use Rattle.std.specs.Option.{option_or}
use Rattle.std.proofs.lemmas.Bool.Decides.{nat_tests}
use Rattle.std.proofs.lemmas.List.{length-map, length_push}
use Rattle.std.proofs.lemmas.Option.{same_Some, none-some, get_or_from_slice_get, slice_get_within}
use Rattle.ynl_slots.specs.declared.slots.Slot.{Slot}
use Rattle.ynl_slots.specs.declared.slots.Slot.TheVariants.{Free, Live}
use Rattle.ynl_slots.specs.Chain.{first_or, next_set, IsRun, IsChain}
use Rattle.ynl_slots.specs.Kept.{slot_at, row_of, before_of, after_of, links_of, before_set, after_set, changed, filled, row_in, links_in, entry, rows_from, IsSound, IsOrdered}
use Rattle.ynl_slots.specs.Number.{number_of}
use Rattle.ynl_slots.specs.Slots.{IsLive, IsUnused, HasDistinctNumbers, with_row, without, number_in, IsAfter}
use Rattle.ynl_slots.proofs.Lists.{all_then, all_front, all_back, all_append, all_any}
use Rattle.ynl_slots.proofs.Entries.{itself, other}
use Rattle.ynl_slots.proofs.FreeList.{free_cases, IsSound-free}
use Rattle.ynl_slots.proofs.Chaining.{AtSets, run_same, chain_append, chain_remove, beside, run_next, all_last, apart_front, distinct_back}
use Rattle.ynl_slots.proofs.Ordered.{IsAmong, rows_at, numbers_of, rows_same, all_rows, distinct_rows, lookup_rows, found_among, rows_pushed, rows_removed, rows_rewritten}
use Rattle.ynl_slots.proofs.Slotted.{number_is, number_below, links_before, links_after, links_row, end_is_none, ends, past_end, slot_filled, slot_set, rows_after, rows_before, sets_after, sets_before, sound_after, sound_before}

module _ {T : Type 0} where
  -- ---- the rows in order

  there : (slots : List (Slot T)) (before : Option ℕ) (ns : List ℕ) (after : Option ℕ) → IsRun (links_in slots) before ns after → AllByRecursion (λ n. IsSome (row_in slots n)) ns
  there slots before [] after r = tt
  there slots before (n ∷ ns) after r = (links_row (slot_at slots n) _ r.0, there slots (Some n) ns after r.1)

  walk : (slots : List (Slot T)) (before : Option ℕ) (at : ℕ) (ns : List ℕ) → IsRun (links_in slots) before ns None → number_of at ≡ first_or None ns → rows_from (length ns) at slots ≡ rows_at (row_in slots) ns
  unfolding rows_at
  walk slots before at [] r is = refl
  walk slots before at (n ∷ ns) r is =
      let here : at ≡ n = number_is at n is in
      let rest = walk slots (Some n) (after_of (slot_at slots n)) ns r.1 (links_after (slot_at slots n) _ r.0) in
      ap (λ m. entry m (row_in slots m) ++ rows_from (length ns) (after_of (slot_at slots m)) slots) here ∙ ap (λ es. entry n (row_in slots n) ++ es) rest

  module _ (slots : List (Slot T)) (len first last : ℕ) (o : IsOrdered slots len first last) where
    in_order : rows_from len first slots ≡ rows_at (row_in slots) o.numbers
    in_order = ap (λ n. rows_from n first slots) (sym o.count) ∙ walk slots None first o.numbers o.chain.run o.chain.first

    live_numbers : AllByRecursion (λ n. IsSome (row_in slots n)) o.numbers
    live_numbers = there slots None o.numbers None o.chain.run

    pub their_numbers : map (λ e. e.0) (rows_from len first slots) ≡ o.numbers
    their_numbers = ap (map (λ e. e.0)) in_order ∙ numbers_of (row_in slots) o.numbers live_numbers

    pub length_is : len ≡ length (rows_from len first slots)
    length_is = sym o.count ∙ ap length (sym their_numbers) ∙ length-map (rows_from len first slots) (λ e. e.0)

    pub distinct : HasDistinctNumbers (rows_from len first slots)
    distinct = subst (λ es. HasDistinctNumbers es) (sym in_order) (distinct_rows (row_in slots) o.numbers o.chain.distinct)

    -- what is under a number is the row of its slot
    pub lookup_is : (k : ℕ) → lookup (nat_eq k) (rows_from len first slots) ≡ row_in slots k
    lookup_is k = ap (lookup (nat_eq k)) in_order ∙ lookup_rows k (row_in slots) o.numbers o.others

    pub first_is : number_of first ≡ number_in (rows_from len first slots) 0
    first_is = o.chain.first ∙ in_front o.numbers ∙ ap (λ ns. slice_get ns 0) (sym their_numbers)
      where
        in_front : (ns : List ℕ) → first_or None ns ≡ slice_get ns 0
        in_front [] = refl
        in_front (n ∷ ns) = refl

    pub next_is : (k : ℕ) → IsAfter k (rows_from len first slots) (number_of (after_of (slot_at slots k)))
    next_is k i found =
        let there = run_next (links_in slots) None o.numbers i k o.chain.run (ap (λ ns. slice_get ns i) (sym their_numbers) ∙ found) in
        let more : suc i ≡ i + 1 = omega arith in
        links_after (slot_at slots k) there.0 there.1 ∙ there.2 ∙ ap (slice_get o.numbers) more ∙ ap (λ ns. slice_get ns (i + 1)) (sym their_numbers)

  -- the slot of a live number
  pub record IsHeld (slots : List (Slot T)) (k : ℕ) : Type 0 where
    pub before : ℕ
    pub after : ℕ
    pub row : T
    pub found : slice_get slots k ≡ Some (Live before after row)

  pub held_in : (slots : List (Slot T)) (k : ℕ) → IsSome (row_in slots k) → IsHeld slots k
  held_in [] k some = absurd (true≢false (sym some))
  held_in (Free next ∷ slots) zero some = absurd (true≢false (sym some))
  held_in (Live before after row ∷ slots) zero some = record { before = before; after = after; row = row; found = refl }
  held_in (slot ∷ slots) (suc k) some = let held = held_in slots k some in record { before = held.before; after = held.after; row = held.row; found = held.found }

  -- a live number has a row
  pub live_in : (slots : List (Slot T)) (len first last : ℕ) → IsOrdered slots len first last → (k : ℕ) → IsLive k (rows_from len first slots) → IsSome (row_in slots k)
  live_in slots len first last o k live = subst IsSome (lookup_is slots len first last o k) live

  pub held_at : (slots : List (Slot T)) (len first last : ℕ) → IsOrdered slots len first last → (k : ℕ) → IsLive k (rows_from len first slots) → IsHeld slots k
  held_at slots len first last o k live = held_in slots k (live_in slots len first last o k live)

  -- ---- a row that is pushed

  -- the slot that is free first has no row, and a number that fits
  pub free_place : (slots : List (Slot T)) (len free : ℕ) → IsSound slots len free → length slots < 2 ^ 32 → len < 2 ^ 32 - 1 → (row_in slots free ≡ None) × (free ≤ length slots) × (free < 2 ^ 32 - 1)
  free_place slots len free sound fits few =
      elim (free_cases slots len free sound) [
        | inl full ↦ (ap row_of (past_end slots free (omega (arith, full.0))), omega (arith, full.0), omega (arith, full.0, full.1))
        | inr found ↦
            let within = slice_get_within slots free _ found.1 in
            (ap row_of (get_or_from_slice_get slots free _ (Free 0) found.1), omega (arith, within), omega (arith, within))
      ]

  module _ (slots : List (Slot T)) (len first last : ℕ) (o : IsOrdered slots len first last) (fits : length slots < 2 ^ 32) (k : ℕ) (row : T) (free : row_in slots k ≡ None) (within : k ≤ length slots) (below : k < 2 ^ 32 - 1) where
    live : Slot T
    live = Live last (2 ^ 32 - 1) row

    mid : List (Slot T)
    mid = filled k (Live last (2 ^ 32 - 1) row) slots

    after : List (Slot T)
    after = changed (after_set k) last (filled k (Live last (2 ^ 32 - 1) row) slots)

    absent_before : AllByRecursion (λ n. n ≢ k) o.numbers
    absent_before =
        all_then (λ n. IsSome (row_in slots n)) (λ n. n ≢ k) (λ n some same. true≢false (sym some ∙ ap (λ m. is_some (row_in slots m)) same ∙ ap is_some free)) o.numbers (live_numbers slots len first last o)

    other_mid : (n : ℕ) → n ≢ k → slot_at mid n ≡ slot_at slots n
    unfolding mid
    other_mid n apart = slot_filled slots k n (Live last (2 ^ 32 - 1) row) within ∙ ap (λ b. cond b (Live last (2 ^ 32 - 1) row) (slot_at slots n)) (other n k apart)

    own_mid : slot_at mid k ≡ Live last (2 ^ 32 - 1) row
    unfolding mid
    own_mid = slot_filled slots k k (Live last (2 ^ 32 - 1) row) within ∙ ap (λ b. cond b (Live last (2 ^ 32 - 1) row) (slot_at slots k)) (itself k)

    chain_mid : IsChain (links_in mid) (record { first = number_of first; last = number_of last }) o.numbers
    chain_mid = record {
      first = o.chain.first;
      last = o.chain.last;
      run = run_same (links_in slots) (links_in mid) None o.numbers None (all_then (λ n. n ≢ k) (λ n. links_in mid n ≡ links_in slots n) (λ n apart. ap links_of (other_mid n apart)) o.numbers absent_before) o.chain.run;
      distinct = o.chain.distinct;
    }

    fits_mid : length mid < 2 ^ 32
    unfolding mid
    fits_mid = go (nat_eq k (length slots)) refl
      where
        go : (b : Bool) → nat_eq k (length slots) ≡ b → length (cond b (slots ++ Live last (2 ^ 32 - 1) row ∷ []) (set slots k (Live last (2 ^ 32 - 1) row))) < 2 ^ 32
        go true q = let same : k ≡ length slots = grind (arith, nat_tests) in omega (arith, length_push slots (Live last (2 ^ 32 - 1) row))
        go false q = omega (arith, length-set slots k (Live last (2 ^ 32 - 1) row))

    sets : AtSets (links_in mid) (links_in after) (number_of last) (next_set (Some k))
    unfolding mid after
    sets = subst (λ (p : Option ℕ). AtSets (links_in mid) (links_in after) (number_of last) (next_set p)) (number_below k below) (sets_after k mid last fits_mid)

    not_last : number_of last ≢ Some k
    not_last is = all_last (λ n. n ≢ k) o.numbers k absent_before (sym o.chain.last ∙ is) refl

    own_links : links_in after k ≡ Some (record { prev = number_of last; next = None })
    own_links = sets.others k not_last ∙ ap links_of own_mid ∙ ap (λ (p : Option ℕ). Some (record { prev = number_of last; next = p })) end_is_none

    row_after : (n : ℕ) → row_in after n ≡ row_in mid n
    unfolding mid after
    row_after n = rows_after k mid last n

    pushed_first : number_of (cond (nat_eq first (2 ^ 32 - 1)) k first) ≡ option_or (number_of first) (Some k)
    pushed_first = go (nat_eq first (2 ^ 32 - 1)) refl
      where
        go : (b : Bool) → nat_eq first (2 ^ 32 - 1) ≡ b → number_of (cond b k first) ≡ option_or (cond b None (Some first)) (Some k)
        go true q = number_below k below
        go false q = ap (λ b. cond b None (Some first)) q

    other_rows : AllByRecursion (λ n. row_in after n ≡ row_in slots n) o.numbers
    other_rows = all_then (λ n. n ≢ k) (λ n. row_in after n ≡ row_in slots n) (λ n apart. row_after n ∙ ap row_of (other_mid n apart)) o.numbers absent_before

    order_here : IsOrdered after (len + 1) (cond (nat_eq first (2 ^ 32 - 1)) k first) k
    order_here = record {
      numbers = o.numbers ++ k ∷ [];
      chain = rw (pushed_first, number_below k below) (
          chain_append (links_in mid) (links_in after) (links_in after) (record { first = number_of first; last = number_of last }) o.numbers k chain_mid absent_before sets
          (record { row = λ n e. own n (same_Some k n e); others = λ n e. refl })
          (ap is_some own_links)
          );
      count = length_push o.numbers k ∙ ap (λ n. n + 1) o.count;
      others = λ n h.
          let apart : n ≢ k = λ e. (all_back (λ m. m ≢ n) o.numbers (k ∷ []) h).0 (sym e) in
          row_after n ∙ ap row_of (other_mid n apart) ∙ o.others n (all_front (λ m. m ≢ n) o.numbers (k ∷ []) h);
    }
      where
        own : (n : ℕ) → k ≡ n → links_in after n ≡ option_map (λ _. record { prev = number_of last; next = None }) (links_in after n)
        own n is =
            let own_n : links_in after n ≡ Some (record { prev = number_of last; next = None }) = ap (links_in after) (sym is) ∙ own_links in
            own_n ∙ sym (ap (option_map (λ _. record { prev = number_of last; next = None })) own_n)

    pub pushed_fits : length (changed (after_set k) last (filled k (Live last (2 ^ 32 - 1) row) slots)) < 2 ^ 32
    unfolding mid
    pushed_fits = omega (arith, fits_mid, length-set mid last (after_set k (slot_at mid last)))

    pub pushed_order : IsOrdered (changed (after_set k) last (filled k (Live last (2 ^ 32 - 1) row) slots)) (len + 1) (cond (nat_eq first (2 ^ 32 - 1)) k first) k
    unfolding after
    pushed_order = order_here

    pub pushed_rows : rows_from (len + 1) (cond (nat_eq first (2 ^ 32 - 1)) k first) (changed (after_set k) last (filled k (Live last (2 ^ 32 - 1) row) slots)) ≡ rows_from len first slots ++ (k, row) ∷ []
    unfolding after order_here
    pushed_rows =
        in_order after (len + 1) (cond (nat_eq first (2 ^ 32 - 1)) k first) k order_here
        ∙ rows_pushed (row_in slots) (row_in after) o.numbers k row other_rows (row_after k ∙ ap row_of own_mid)
        ∙ ap (λ es. es ++ (k, row) ∷ []) (sym (in_order slots len first last o))

    pub pushed_unused : IsUnused k (rows_from len first slots)
    pushed_unused = subst (λ es. IsUnused k es) (sym (in_order slots len first last o)) (all_rows (λ m. m ≢ k) (row_in slots) o.numbers absent_before)

  -- ---- a row that goes

  -- the slots where the rows beside one name each other
  abbrev pub unlinked : List (Slot T) → ℕ → List (Slot T)
  unlinked slots k = changed (before_set (before_of (slot_at slots k))) (after_of (slot_at slots k)) (changed (after_set (after_of (slot_at slots k))) (before_of (slot_at slots k)) slots)

  -- they come of two changes
  pub unlinked_is : (slots between new : List (Slot T)) (k b a : ℕ) → b ≡ before_of (slot_at slots k) → a ≡ after_of (slot_at slots k) → between ≡ changed (after_set a) b slots → new ≡ changed (before_set b) a between → new ≡ unlinked slots k
  unlinked_is slots between new k b a is_before is_after first second =
      let both = first ∙ (λ i. changed (after_set (is_after i)) (is_before i) slots) in
      second ∙ (λ i. changed (before_set (is_before i)) (is_after i) (both i))

  module _ (slots : List (Slot T)) (len first last : ℕ) (o : IsOrdered slots len first last) (fits : length slots < 2 ^ 32) (k free : ℕ) (some : IsSome (row_in slots k)) where
    place : IsAmong k o.numbers
    place = found_among k (row_in slots) o.numbers o.others some

    chain_here : IsChain (links_in slots) (record { first = number_of first; last = number_of last }) (place.front ++ k ∷ place.back)
    chain_here = subst (λ ns. IsChain (links_in slots) (record { first = number_of first; last = number_of last }) ns) place.is o.chain

    links : links_in slots k ≡ Some (record { prev = number_of (before_of (slot_at slots k)); next = number_of (after_of (slot_at slots k)) })
    links =
        let named = beside (links_in slots) place.front k place.back (record { first = number_of first; last = number_of last }) chain_here in
        named ∙ sym (λ i. Some (record { prev = links_before (slot_at slots k) _ named i; next = links_after (slot_at slots k) _ named i }))

    apart_before : AllByRecursion (λ n. n ≢ k) place.front
    apart_before = apart_front place.front k place.back chain_here.distinct

    apart_after : AllByRecursion (λ n. n ≢ k) place.back
    apart_after = (distinct_back place.front (k ∷ place.back) chain_here.distinct).0

    length_linked : length (unlinked slots k) ≡ length slots
    length_linked = length-set (changed (after_set (after_of (slot_at slots k))) (before_of (slot_at slots k)) slots) (after_of (slot_at slots k)) _ ∙ length-set slots (before_of (slot_at slots k)) _

    row_linked : (n : ℕ) → row_in (unlinked slots k) n ≡ row_in slots n
    row_linked n =
        rows_before (before_of (slot_at slots k)) (changed (after_set (after_of (slot_at slots k))) (before_of (slot_at slots k)) slots) (after_of (slot_at slots k)) n
        ∙ rows_after (after_of (slot_at slots k)) slots (before_of (slot_at slots k)) n

    within : k < length slots
    within = slice_get_within slots k _ (held_in slots k some).found

    left : List (Slot T)
    left = set (unlinked slots k) k (Free free)

    slot_left : (n : ℕ) → slot_at left n ≡ cond (nat_eq n k) (Free free) (slot_at (unlinked slots k) n)
    unfolding left
    slot_left n = slot_set (unlinked slots k) k n (Free free) (omega (arith, within, length_linked))

    other_left : (n : ℕ) → n ≢ k → slot_at left n ≡ slot_at (unlinked slots k) n
    other_left n apart = slot_left n ∙ ap (λ b. cond b (Free free) (slot_at (unlinked slots k) n)) (other n k apart)

    own_left : slot_at left k ≡ Free free
    own_left = slot_left k ∙ ap (λ b. cond b (Free free) (slot_at (unlinked slots k) k)) (itself k)

    apart_all : AllByRecursion (λ n. n ≢ k) (place.front ++ place.back)
    apart_all = all_append (λ n. n ≢ k) place.front place.back apart_before apart_after

    removed_first : number_of (cond (nat_eq (before_of (slot_at slots k)) (2 ^ 32 - 1)) (after_of (slot_at slots k)) first) ≡ cond (is_some (number_of (before_of (slot_at slots k)))) (number_of first) (number_of (after_of (slot_at slots k)))
    removed_first = ends (before_of (slot_at slots k)) (after_of (slot_at slots k)) first

    removed_last : number_of (cond (nat_eq (after_of (slot_at slots k)) (2 ^ 32 - 1)) (before_of (slot_at slots k)) last) ≡ cond (is_some (number_of (after_of (slot_at slots k)))) (number_of last) (number_of (before_of (slot_at slots k)))
    removed_last = ends (after_of (slot_at slots k)) (before_of (slot_at slots k)) last

    chain_linked : IsChain (links_in (unlinked slots k)) (record { first = cond (is_some (number_of (before_of (slot_at slots k)))) (number_of first) (number_of (after_of (slot_at slots k))); last = cond (is_some (number_of (after_of (slot_at slots k)))) (number_of last) (number_of (before_of (slot_at slots k))) }) (place.front ++ place.back)
    chain_linked =
        chain_remove (links_in slots) (links_in (changed (after_set (after_of (slot_at slots k))) (before_of (slot_at slots k)) slots)) (links_in (unlinked slots k)) (record { first = number_of first; last = number_of last })
        place.front k place.back (record { prev = number_of (before_of (slot_at slots k)); next = number_of (after_of (slot_at slots k)) }) chain_here links
        (sets_after (after_of (slot_at slots k)) slots (before_of (slot_at slots k)) fits)
        (sets_before (before_of (slot_at slots k)) (changed (after_set (after_of (slot_at slots k))) (before_of (slot_at slots k)) slots) (after_of (slot_at slots k))
        (omega (arith, fits, length-set slots (before_of (slot_at slots k)) (after_set (after_of (slot_at slots k)) (slot_at slots (before_of (slot_at slots k)))))))

    order_left : IsOrdered left (len - 1) (cond (nat_eq (before_of (slot_at slots k)) (2 ^ 32 - 1)) (after_of (slot_at slots k)) first) (cond (nat_eq (after_of (slot_at slots k)) (2 ^ 32 - 1)) (before_of (slot_at slots k)) last)
    order_left = record {
      numbers = place.front ++ place.back;
      chain = rw (removed_first, removed_last) (record {
        first = chain_linked.first;
        last = chain_linked.last;
        run = run_same (links_in (unlinked slots k)) (links_in left) None (place.front ++ place.back) None (all_then (λ n. n ≢ k) (λ n. links_in left n ≡ links_in (unlinked slots k) n) (λ n apart. ap links_of (other_left n apart)) (place.front ++ place.back) apart_all) chain_linked.run;
        distinct = chain_linked.distinct;
      });
      count = omega (arith, sym o.count ∙ ap length place.is, length-append place.front (k ∷ place.back), length-append place.front place.back);
      others = λ n h. none n h (nat_eq n k) refl;
    }
      where
        none : (n : ℕ) → AllByRecursion (λ m. m ≢ n) (place.front ++ place.back) → (b : Bool) → nat_eq n k ≡ b → row_in left n ≡ None
        none n h true q = let same : n ≡ k = grind (arith, nat_tests) in ap (row_in left) same ∙ ap row_of own_left
        none n h false q =
            let apart : n ≢ k = grind (arith, nat_tests) in
            let all = all_append (λ m. m ≢ n) place.front (k ∷ place.back) (all_front (λ m. m ≢ n) place.front place.back h) (λ e. apart (sym e), all_back (λ m. m ≢ n) place.front place.back h) in
            ap row_of (other_left n apart) ∙ row_linked n ∙ o.others n (subst (λ ns. AllByRecursion (λ m. m ≢ n) ns) (sym place.is) all)

    rows_left : rows_from (len - 1) (cond (nat_eq (before_of (slot_at slots k)) (2 ^ 32 - 1)) (after_of (slot_at slots k)) first) left ≡ without k (rows_from len first slots)
    unfolding order_left
    rows_left =
        in_order left (len - 1) (cond (nat_eq (before_of (slot_at slots k)) (2 ^ 32 - 1)) (after_of (slot_at slots k)) first) (cond (nat_eq (after_of (slot_at slots k)) (2 ^ 32 - 1)) (before_of (slot_at slots k)) last) order_left
        ∙ rows_same (row_in slots) (row_in left) (place.front ++ place.back)
        (all_then (λ n. n ≢ k) (λ n. row_in left n ≡ row_in slots n) (λ n apart. ap row_of (other_left n apart) ∙ row_linked n) (place.front ++ place.back) apart_all)
        ∙ sym (rows_removed (row_in slots) place.front k place.back apart_before apart_after)
        ∙ ap (λ ns. without k (rows_at (row_in slots) ns)) (sym place.is)
        ∙ ap (without k) (sym (in_order slots len first last o))

    pub removed_order : IsOrdered (set (unlinked slots k) k (Free free)) (len - 1) (cond (nat_eq (before_of (slot_at slots k)) (2 ^ 32 - 1)) (after_of (slot_at slots k)) first) (cond (nat_eq (after_of (slot_at slots k)) (2 ^ 32 - 1)) (before_of (slot_at slots k)) last)
    unfolding left
    removed_order = order_left

    pub removed_rows : rows_from (len - 1) (cond (nat_eq (before_of (slot_at slots k)) (2 ^ 32 - 1)) (after_of (slot_at slots k)) first) (set (unlinked slots k) k (Free free)) ≡ without k (rows_from len first slots)
    unfolding left
    removed_rows = rows_left

    -- where it stood is live still, until it goes
    pub held_until : IsHeld (unlinked slots k) k
    held_until = held_in (unlinked slots k) k (subst IsSome (sym (row_linked k)) some)

    pub removed_sound : IsSound slots len free → IsSound (set (unlinked slots k) k (Free free)) (len - 1) k
    removed_sound sound =
        let after = sound_after (after_of (slot_at slots k)) slots len free (before_of (slot_at slots k)) sound in
        IsSound-free (unlinked slots k) len free k held_until.before held_until.after held_until.row
        (sound_before (before_of (slot_at slots k)) (changed (after_set (after_of (slot_at slots k))) (before_of (slot_at slots k)) slots) len free (after_of (slot_at slots k)) after) held_until.found

    pub row_stands : row_in (unlinked slots k) k ≡ row_in slots k
    row_stands = row_linked k

    pub length_stands : length (unlinked slots k) ≡ length slots
    length_stands = length_linked

  -- ---- a row that is written

  module _ (slots : List (Slot T)) (len first last : ℕ) (o : IsOrdered slots len first last) (k : ℕ) (held : IsHeld slots k) (row : T) where
    slot_written : (n : ℕ) → slot_at (set slots k (Live held.before held.after row)) n ≡ cond (nat_eq n k) (Live held.before held.after row) (slot_at slots n)
    slot_written n = slot_set slots k n (Live held.before held.after row) (slice_get_within slots k _ held.found)

    was : slot_at slots k ≡ Live held.before held.after held.row
    was = get_or_from_slice_get slots k _ (Free 0) held.found

    links_written : (n : ℕ) → links_in (set slots k (Live held.before held.after row)) n ≡ links_in slots n
    links_written n = ap links_of (slot_written n) ∙ go (nat_eq n k) refl
      where
        go : (b : Bool) → nat_eq n k ≡ b → links_of (cond b (Live held.before held.after row) (slot_at slots n)) ≡ links_in slots n
        go true q = let same : n ≡ k = grind (arith, nat_tests) in sym (ap (links_in slots) same ∙ ap links_of was)
        go false q = refl

    row_written : (n : ℕ) → row_in (set slots k (Live held.before held.after row)) n ≡ cond (nat_eq n k) (option_map (λ _. row) (row_in slots n)) (row_in slots n)
    row_written n = ap row_of (slot_written n) ∙ go (nat_eq n k) refl
      where
        go : (b : Bool) → nat_eq n k ≡ b → row_of (cond b (Live held.before held.after row) (slot_at slots n)) ≡ cond b (option_map (λ _. row) (row_in slots n)) (row_in slots n)
        go true q = let same : n ≡ k = grind (arith, nat_tests) in sym (ap (option_map (λ _. row)) (ap (row_in slots) same ∙ ap row_of was))
        go false q = refl

    pub written_order : IsOrdered (set slots k (Live held.before held.after row)) len first last
    written_order = record {
      numbers = o.numbers;
      chain = record {
        first = o.chain.first;
        last = o.chain.last;
        run = run_same (links_in slots) (links_in (set slots k (Live held.before held.after row))) None o.numbers None (all_any (λ n. links_in (set slots k (Live held.before held.after row)) n ≡ links_in slots n) links_written o.numbers) o.chain.run;
        distinct = o.chain.distinct;
      };
      count = o.count;
      others = λ n h. row_written n ∙ none (nat_eq n k) (row_in slots n) (o.others n h);
    }
      where
        none : (b : Bool) (r : Option T) → r ≡ None → cond b (option_map (λ _. row) r) r ≡ None
        none true None is = refl
        none true (Some r) is = absurd (none-some r (sym is))
        none false r is = is

    pub written_rows : rows_from len first (set slots k (Live held.before held.after row)) ≡ with_row k row (rows_from len first slots)
    unfolding written_order
    written_rows =
        in_order (set slots k (Live held.before held.after row)) len first last written_order
        ∙ sym (rows_rewritten (row_in slots) (row_in (set slots k (Live held.before held.after row))) k row row_written o.numbers)
        ∙ ap (with_row k row) (sym (in_order slots len first last o))
