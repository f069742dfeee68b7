-- How each change of the slots keeps the count and the list of free slots.
use Rattle.std.proofs.Common.{◌≡◌, ◌≢◌, ◌⊎◌, ℕ, zero, suc, ◌+◌, ◌-◌, ◌<◌, List, [], ◌∷◌, ◌++◌, map, length, get_or, set, Some, None, is_some, IsSome, count_by, cond, slice_get, refl, sym, ap, subst, ◌∙◌, inl, inr, arith, length-set}
use Rattle.std.proofs.lemmas.List.{map-set, map_push, length-map, length_push, get_or-map, get_or-set_same, get_or-set_other}
use Rattle.std.proofs.lemmas.List.Sums.{sum_by-set, sum_by_push}
use Rattle.std.proofs.lemmas.Option.{slice_get_within, slice_get-get_or, slice_get_read, get_or_from_slice_get}
use Rattle.ynl_slots.specs.declared.slots.Slot.{Slot}
use Rattle.ynl_slots.specs.declared.slots.Slot.TheVariants.{Free, Live}
use Rattle.ynl_slots.specs.Kept.{row_of, IsFreeList, IsSound}

module _ {T : Type 0} where
  -- a number starts one list of free slots at most
  IsFreeList-count_unique : (slots : List (Slot T)) (m n number : ℕ) → IsFreeList slots m number → IsFreeList slots n number → m ≡ n
  IsFreeList-count_unique slots zero zero number p q = refl
  IsFreeList-count_unique slots zero (suc n) number p q = absurd (omega (arith, slice_get_within slots number _ q.1))
  IsFreeList-count_unique slots (suc m) zero number p q = absurd (omega (arith, slice_get_within slots number _ p.1))
  IsFreeList-count_unique slots (suc m) (suc n) number p q =
      let first = p.1 in
      let second = q.1 in
      let same : q.0 ≡ p.0 = cc in
      ap suc (IsFreeList-count_unique slots m n p.0 p.2 (subst (IsFreeList slots n) same q.2))

  -- a write at a number that is not on the list keeps the list
  IsFreeList-set : (slots : List (Slot T)) (number : ℕ) (slot : Slot T) (n from : ℕ) → ((m : ℕ) → m < n → IsFreeList slots (suc m) number → ⊥) → IsFreeList slots n from → IsFreeList (set slots number slot) n from
  IsFreeList-set slots number slot zero from off p = p ∙ sym (length-set slots number slot)
  IsFreeList-set slots number slot (suc n) from off p =
      let other : from ≢ number = λ same. off n (omega arith) (subst (IsFreeList slots (suc n)) same p) in
      let within = slice_get_within slots from _ p.1 in
      let kept : slice_get (set slots number slot) from ≡ Some (Free p.0) =
      slice_get-get_or (set slots number slot) from slot (omega (arith, length-set slots number slot))
      ∙ ap Some (get_or-set_other slots number from slot slot other ∙ get_or_from_slice_get slots from _ slot p.1) in
      (p.0, kept, IsFreeList-set slots number slot n p.0 (λ m below. off m (omega arith)) p.2)

  -- a live slot is on no list of free slots
  live_is_off_list : (slots : List (Slot T)) (number before after : ℕ) (row : T) → slice_get slots number ≡ Some (Live before after row) → (m : ℕ) → IsFreeList slots (suc m) number → ⊥
  live_is_off_list slots number before after row found m p = let listed = p.1 in cc

  -- the count of rows after a write
  count-set : (slots : List (Slot T)) (number : ℕ) (old new : Slot T) → slice_get slots number ≡ Some old → count_by is_some (map row_of (set slots number new)) + cond (is_some (row_of old)) 1 0 ≡ count_by is_some (map row_of slots) + cond (is_some (row_of new)) 1 0
  count-set slots number old new found =
      let within = slice_get_within slots number old found in
      let read : get_or (map row_of slots) number None ≡ row_of old =
      get_or-map row_of slots number old None within ∙ ap row_of (get_or_from_slice_get slots number old old found) in
      let counted = sum_by-set (λ o. cond (is_some o) 1 0) (map row_of slots) number (row_of new) None (omega (arith, length-map slots row_of)) in
      rw (map-set row_of slots number new, ← read) counted

  -- the first free slot is the end of slots that are all live, or it is free
  pub free_cases : (slots : List (Slot T)) (len free : ℕ) → IsSound slots len free → ((free ≡ length slots) × (len ≡ length slots)) ⊎ ((after : ℕ) × (slice_get slots free ≡ Some (Free after)))
  free_cases slots len free sound = by_count sound.spare sound.total sound.linked
    where
      by_count : (n : ℕ) → len + n ≡ length slots → IsFreeList slots n free → ((free ≡ length slots) × (len ≡ length slots)) ⊎ ((after : ℕ) × (slice_get slots free ≡ Some (Free after)))
      by_count zero total linked = inl (linked, omega arith)
      by_count (suc n) total linked = inr (linked.0, linked.1)

  -- at the end of the slots the list is empty
  pub full_at_end : (slots : List (Slot T)) (len free : ℕ) → IsSound slots len free → free ≡ length slots → len ≡ length slots
  full_at_end slots len free sound at_end =
      elim (free_cases slots len free sound) [
        | inl full ↦ full.1
        | inr found ↦ omega (arith, slice_get_within slots free _ found.1)
      ]

  -- before the end of the slots the first free slot is one
  free_before_end : (slots : List (Slot T)) (len free : ℕ) → IsSound slots len free → free ≢ length slots → (after : ℕ) × (slice_get slots free ≡ Some (Free after))
  free_before_end slots len free sound before =
      elim (free_cases slots len free sound) [ inl full ↦ absurd (before full.0) | inr found ↦ found ]

  pub free_within : (slots : List (Slot T)) (len free : ℕ) → IsSound slots len free → free ≢ length slots → free < length slots
  free_within slots len free sound before = slice_get_within slots free _ (free_before_end slots len free sound before).1

  -- what a read at the first free slot gives is the slot there
  pub read_at_free : (slots : List (Slot T)) (len free : ℕ) (slot : Slot T) → IsSound slots len free → free ≢ length slots → slot ≡ get_or slots free slot → slice_get slots free ≡ Some slot
  read_at_free slots len free slot sound before read = slice_get_read slots (length slots) free slot refl (free_within slots len free sound before) read

  pub free_is_not_live : (slots : List (Slot T)) (len free before after : ℕ) (row : T) → IsSound slots len free → slice_get slots free ≡ Some (Live before after row) → ⊥
  free_is_not_live slots len free before after row sound found =
      let listed = (free_before_end slots len free sound (λ e. omega (arith, slice_get_within slots free _ found))).1 in
      cc

  pub IsSound-push : (slots : List (Slot T)) (len free : ℕ) (live : Slot T) → IsSome (row_of live) → IsSound slots len free → free ≡ length slots → IsSound (slots ++ live ∷ []) (len + 1) (free + 1)
  IsSound-push slots len free live some sound at_end =
      let full = full_at_end slots len free sound at_end in
      let longer = length_push slots live in
      record {
        counted = rw (map_push row_of slots live, sum_by_push (λ o. cond (is_some o) 1 0) (map row_of slots) (row_of live), some) (ap (λ n. n + 1) sound.counted);
        spare = 0;
        total = omega arith;
        linked = omega arith;
      }

  -- the first free slot leaves the list: the rest of the list is shorter, so it does not come back to that number
  pub IsSound-fill : (slots : List (Slot T)) (len free next : ℕ) (live : Slot T) → IsSome (row_of live) → IsSound slots len free → slice_get slots free ≡ Some (Free next) → IsSound (set slots free live) (len + 1) next
  IsSound-fill slots len free next live some sound found = by_count sound.spare sound.total sound.linked
    where
      by_count : (n : ℕ) → len + n ≡ length slots → IsFreeList slots n free → IsSound (set slots free live) (len + 1) next
      by_count zero total linked = absurd (omega (arith, slice_get_within slots free _ found))
      by_count (suc n) total linked =
          let listed = linked.1 in
          let same : linked.0 ≡ next = cc in
          let off : (m : ℕ) → m < n → IsFreeList slots (suc m) free → ⊥ =
          λ m below p. omega (arith, IsFreeList-count_unique slots (suc m) (suc n) free p linked) in
          record {
            counted = omega (arith, sound.counted, rw some at (count-set slots free (Free next) live found));
            spare = n;
            total = omega (arith, length-set slots free live);
            linked = IsFreeList-set slots free live n next off (subst (IsFreeList slots n) same linked.2);
          }

  pub IsSound-free : (slots : List (Slot T)) (len free number before after : ℕ) (row : T) → IsSound slots len free → slice_get slots number ≡ Some (Live before after row) → IsSound (set slots number (Free free)) (len - 1) number
  IsSound-free slots len free number before after row sound found =
      let within = slice_get_within slots number _ found in
      let count = count-set slots number (Live before after row) (Free free) found in
      let counted = sound.counted in
      let total = sound.total in
      let written : slice_get (set slots number (Free free)) number ≡ Some (Free free) =
      slice_get-get_or _ number (Free free) (omega (arith, length-set slots number (Free free)))
      ∙ ap Some (get_or-set_same slots number (Free free) (Free free) within) in
      record {
        counted = omega arith;
        spare = suc sound.spare;
        total = omega (arith, length-set slots number (Free free));
        linked = (free, written, IsFreeList-set slots number (Free free) sound.spare free (λ m _. live_is_off_list slots number before after row found m) sound.linked);
      }

  pub IsSound-rewrite : (slots : List (Slot T)) (len free number before after : ℕ) (row : T) (live : Slot T) → IsSome (row_of live) → IsSound slots len free → slice_get slots number ≡ Some (Live before after row) → IsSound (set slots number live) len free
  IsSound-rewrite slots len free number before after row live some sound found =
      record {
        counted = omega (arith, sound.counted, rw some at (count-set slots number (Live before after row) live found));
        spare = sound.spare;
        total = omega (arith, sound.total, length-set slots number live);
        linked = IsFreeList-set slots number live sound.spare free (λ m _. live_is_off_list slots number before after row found m) sound.linked;
      }
