-- What a change of one slot leaves under each number.
use Rattle.std.proofs.Common.{◌≡◌, ◌≢◌, ℕ, zero, suc, ◌-◌, ◌^◌, ◌<◌, ◌≤◌, Bool, true, false, cond, nat_eq, List, [], ◌∷◌, ◌++◌, length, get_or, set, None, Some, option_map, IsSome, is_some, slice_get, refl, sym, ap, subst, ◌∙◌, arith}
use Rattle.std.proofs.lemmas.Bool.Decides.{nat_tests}
use Rattle.std.proofs.lemmas.Option.{same_Some, none-some}
use Rattle.ynl_slots.specs.declared.chain.Links.{Links}
use Rattle.ynl_slots.specs.declared.slots.Slot.{Slot}
use Rattle.ynl_slots.specs.declared.slots.Slot.TheVariants.{Free, Live}
use Rattle.ynl_slots.specs.Chain.{next_set, prev_set}
use Rattle.ynl_slots.specs.Kept.{slot_at, row_of, before_of, after_of, links_of, before_set, after_set, changed, filled, row_in, links_in, IsSound}
use Rattle.ynl_slots.specs.Number.{number_of}
use Rattle.ynl_slots.proofs.Entries.{itself}
use Rattle.ynl_slots.proofs.Chaining.{AtSets}
use Rattle.ynl_slots.proofs.FreeList.{IsSound-rewrite}

-- ---- numbers

pub number_is : (at n : ℕ) → number_of at ≡ Some n → at ≡ n
number_is at n h = go (nat_eq at (2 ^ 32 - 1)) h
  where
    go : (b : Bool) → cond b None (Some at) ≡ Some n → at ≡ n
    go true k = absurd (none-some n k)
    go false k = same_Some at n k

pub number_below : (n : ℕ) → n < 2 ^ 32 - 1 → number_of n ≡ Some n
number_below n below = let test : nat_eq n (2 ^ 32 - 1) ≡ false = grind (arith, nat_tests) in ap (λ b. cond b None (Some n)) test

pub end_is_none : number_of (2 ^ 32 - 1) ≡ None
end_is_none = ap (λ b. cond b None (Some (2 ^ 32 - 1))) (itself (2 ^ 32 - 1))

-- the end of a chain after a number went from it
pub ends : (beside other end : ℕ) → number_of (cond (nat_eq beside (2 ^ 32 - 1)) other end) ≡ cond (is_some (number_of beside)) (number_of end) (number_of other)
ends beside other end = go (nat_eq beside (2 ^ 32 - 1))
  where
    go : (b : Bool) → number_of (cond b other end) ≡ cond (is_some (cond b None (Some beside))) (number_of end) (number_of other)
    go true = refl
    go false = refl

module _ {T : Type 0} where
  -- ---- one slot

  pub links_before : (slot : Slot T) (l : Links) → links_of slot ≡ Some l → number_of (before_of slot) ≡ l.prev
  links_before (Free _) l h = absurd (none-some l h)
  links_before (Live before after row) l h = ap (λ (k : Links). k.prev) (same_Some _ _ h)

  pub links_after : (slot : Slot T) (l : Links) → links_of slot ≡ Some l → number_of (after_of slot) ≡ l.next
  links_after (Free _) l h = absurd (none-some l h)
  links_after (Live before after row) l h = ap (λ (k : Links). k.next) (same_Some _ _ h)

  pub links_row : (slot : Slot T) (l : Links) → links_of slot ≡ Some l → IsSome (row_of slot)
  links_row (Free _) l h = absurd (none-some l h)
  links_row (Live before after row) l h = refl

  row_after_set : (to : ℕ) (slot : Slot T) → row_of (after_set to slot) ≡ row_of slot
  row_after_set to (Free _) = refl
  row_after_set to (Live before after row) = refl

  row_before_set : (to : ℕ) (slot : Slot T) → row_of (before_set to slot) ≡ row_of slot
  row_before_set to (Free _) = refl
  row_before_set to (Live before after row) = refl

  links_after_set : (to : ℕ) (slot : Slot T) → links_of (after_set to slot) ≡ option_map (next_set (number_of to)) (links_of slot)
  links_after_set to (Free _) = refl
  links_after_set to (Live before after row) = refl

  links_before_set : (to : ℕ) (slot : Slot T) → links_of (before_set to slot) ≡ option_map (prev_set (number_of to)) (links_of slot)
  links_before_set to (Free _) = refl
  links_before_set to (Live before after row) = refl

  -- ---- the slots

  pub past_end : (slots : List (Slot T)) (n : ℕ) → length slots ≤ n → slot_at slots n ≡ Free 0
  past_end [] n h = refl
  past_end (s ∷ slots) zero h = absurd (omega arith)
  past_end (s ∷ slots) (suc n) h = past_end slots n (omega arith)

  -- a slot that is live is there
  pub live_found : (slots : List (Slot T)) (n before after : ℕ) (row : T) → slot_at slots n ≡ Live before after row → slice_get slots n ≡ Some (Live before after row)
  live_found [] n before after row h = absurd (none-some row (ap row_of h))
  live_found (s ∷ slots) zero before after row h = ap (λ t. Some t) h
  live_found (s ∷ slots) (suc n) before after row h = live_found slots n before after row h

  at_zero : (m : ℕ) (x y : Slot T) → y ≡ cond (nat_eq (suc m) 0) x y
  at_zero m x y = let test : nat_eq (suc m) 0 ≡ false = grind (arith, nat_tests) in sym (ap (λ b. cond b x y) test)

  at_suc : (n : ℕ) (x y : Slot T) → y ≡ cond (nat_eq 0 (suc n)) x y
  at_suc n x y = let test : nat_eq 0 (suc n) ≡ false = grind (arith, nat_tests) in sym (ap (λ b. cond b x y) test)

  at_both : (n m : ℕ) (x y : Slot T) → cond (nat_eq m n) x y ≡ cond (nat_eq (suc m) (suc n)) x y
  at_both n m x y = let test : nat_eq m n ≡ nat_eq (suc m) (suc n) = grind (arith, nat_tests) in ap (λ b. cond b x y) test

  either : (b : Bool) → ◌≡◌ {A = Slot T} (Free 0) (cond b (Free 0) (Free 0))
  either true = refl
  either false = refl

  -- what a write leaves in each slot; it is none where there is no such slot
  pub slot_set : (slots : List (Slot T)) (n m : ℕ) (slot : Slot T) → n < length slots → slot_at (set slots n slot) m ≡ cond (nat_eq m n) slot (slot_at slots m)
  slot_set [] n m slot h = absurd (omega arith)
  slot_set (s ∷ slots) zero zero slot h = refl
  slot_set (s ∷ slots) zero (suc m) slot h = at_zero m slot (slot_at slots m)
  slot_set (s ∷ slots) (suc n) zero slot h = at_suc n slot s
  slot_set (s ∷ slots) (suc n) (suc m) slot h = slot_set slots n m slot (omega arith) ∙ at_both n m slot (slot_at slots m)

  pub set_beyond : (slots : List (Slot T)) (n : ℕ) (slot : Slot T) → length slots ≤ n → set slots n slot ≡ slots
  set_beyond [] n slot h = refl
  set_beyond (s ∷ slots) zero slot h = absurd (omega arith)
  set_beyond (s ∷ slots) (suc n) slot h = ap (λ ss. s ∷ ss) (set_beyond slots n slot (omega arith))

  -- a slot that was read is the one there
  pub slot_read : (slots : List (Slot T)) (n : ℕ) (slot : Slot T) → n < length slots → slot ≡ get_or slots n slot → slot ≡ slot_at slots n
  slot_read slots n slot within read = read ∙ any slots n within
    where
      any : (ss : List (Slot T)) (i : ℕ) → i < length ss → get_or ss i slot ≡ slot_at ss i
      any [] i h = absurd (omega arith)
      any (s ∷ ss) zero h = refl
      any (s ∷ ss) (suc i) h = any ss i (omega arith)

  set_itself : (slots : List (Slot T)) (n : ℕ) → set slots n (slot_at slots n) ≡ slots
  set_itself [] n = refl
  set_itself (s ∷ slots) zero = refl
  set_itself (s ∷ slots) (suc n) = ap (λ ss. s ∷ ss) (set_itself slots n)

  slot_changed : (change : Slot T → Slot T) → change (Free 0) ≡ Free 0 → (slots : List (Slot T)) (n m : ℕ) → slot_at (changed change n slots) m ≡ cond (nat_eq m n) (change (slot_at slots n)) (slot_at slots m)
  slot_changed change free [] n m = either (nat_eq m n) ∙ ap (λ s. cond (nat_eq m n) s (Free 0)) (sym free)
  slot_changed change free (s ∷ slots) zero zero = refl
  slot_changed change free (s ∷ slots) zero (suc m) = at_zero m (change s) (slot_at slots m)
  slot_changed change free (s ∷ slots) (suc n) zero = at_suc n (change (slot_at slots n)) s
  slot_changed change free (s ∷ slots) (suc n) (suc m) = slot_changed change free slots n m ∙ at_both n m (change (slot_at slots n)) (slot_at slots m)

  slot_pushed : (slots : List (Slot T)) (n m : ℕ) (slot : Slot T) → n ≡ length slots → slot_at (slots ++ slot ∷ []) m ≡ cond (nat_eq m n) slot (slot_at slots m)
  slot_pushed [] zero zero slot h = refl
  slot_pushed [] zero (suc m) slot h = at_zero m slot (Free 0)
  slot_pushed [] (suc n) m slot h = absurd (omega arith)
  slot_pushed (s ∷ slots) zero m slot h = absurd (omega arith)
  slot_pushed (s ∷ slots) (suc n) zero slot h = at_suc n slot s
  slot_pushed (s ∷ slots) (suc n) (suc m) slot h = slot_pushed slots n m slot (omega arith) ∙ at_both n m slot (slot_at slots m)

  pub slot_filled : (slots : List (Slot T)) (n m : ℕ) (slot : Slot T) → n ≤ length slots → slot_at (filled n slot slots) m ≡ cond (nat_eq m n) slot (slot_at slots m)
  slot_filled slots n m slot h = go (nat_eq n (length slots)) refl
    where
      go : (b : Bool) → nat_eq n (length slots) ≡ b → slot_at (cond b (slots ++ slot ∷ []) (set slots n slot)) m ≡ cond (nat_eq m n) slot (slot_at slots m)
      go true q = slot_pushed slots n m slot (grind (arith, nat_tests))
      go false q = slot_set slots n m slot (let apart : n ≢ length slots = grind (arith, nat_tests) in omega arith)

  -- ---- rows and links after a change of links

  rows_stay : (change : Slot T → Slot T) → change (Free 0) ≡ Free 0 → ((s : Slot T) → row_of (change s) ≡ row_of s) → (slots : List (Slot T)) (n m : ℕ) → row_in (changed change n slots) m ≡ row_in slots m
  rows_stay change free same slots n m = ap row_of (slot_changed change free slots n m) ∙ go (nat_eq m n) refl
    where
      go : (b : Bool) → nat_eq m n ≡ b → row_of (cond b (change (slot_at slots n)) (slot_at slots m)) ≡ row_in slots m
      go true q = let is : n ≡ m = grind (arith, nat_tests) in same (slot_at slots n) ∙ ap (row_in slots) is
      go false q = refl

  links_set : (change : Slot T → Slot T) (to : Links → Links) → change (Free 0) ≡ Free 0 → ((s : Slot T) → links_of (change s) ≡ option_map to (links_of s)) → (slots : List (Slot T)) (n : ℕ) → length slots < 2 ^ 32 → AtSets (links_in slots) (links_in (changed change n slots)) (number_of n) to
  links_set change to free links slots n fits = record {
    row = λ m is. ap links_of (slot_changed change free slots n m) ∙ own m (sym (number_is n m is));
    others = λ m apart. ap links_of (slot_changed change free slots n m) ∙ stays m apart (nat_eq m n) refl;
  }
    where
      own : (m : ℕ) → m ≡ n → links_of (cond (nat_eq m n) (change (slot_at slots n)) (slot_at slots m)) ≡ option_map to (links_in slots m)
      own m is =
          let test : nat_eq m n ≡ true = grind (arith, nat_tests) in
          ap (λ b. links_of (cond b (change (slot_at slots n)) (slot_at slots m))) test ∙ links (slot_at slots n) ∙ ap (λ k. option_map to (links_in slots k)) (sym is)

      stays : (m : ℕ) → number_of n ≢ Some m → (b : Bool) → nat_eq m n ≡ b → links_of (cond b (change (slot_at slots n)) (slot_at slots m)) ≡ links_in slots m
      stays m apart true q =
          let is : m ≡ n = grind (arith, nat_tests) in
          let none : slot_at slots n ≡ Free 0 = past_end slots n (at_end n (λ below. apart (number_below n below ∙ ap (λ k. Some k) (sym is)))) in
          ap (λ s. links_of (change s)) none ∙ ap links_of free ∙ ap links_of (sym none) ∙ ap (links_in slots) (sym is)
        where
          at_end : (k : ℕ) → (k < 2 ^ 32 - 1 → ⊥) → length slots ≤ k
          at_end k above = omega (arith, above)
      stays m apart false q = refl

  sound_stays : (change : Slot T → Slot T) → ((x : ℕ) → change (Free x) ≡ Free x) → ((s : Slot T) → row_of (change s) ≡ row_of s) → (slots : List (Slot T)) (len free n : ℕ) → IsSound slots len free → IsSound (changed change n slots) len free
  sound_stays change free same slots len first n sound = go (slot_at slots n) refl
    where
      go : (s : Slot T) → slot_at slots n ≡ s → IsSound (set slots n (change (slot_at slots n))) len first
      go (Free x) is =
          let unchanged : set slots n (change (slot_at slots n)) ≡ slots = ap (λ s. set slots n (change s)) is ∙ ap (set slots n) (free x ∙ sym is) ∙ set_itself slots n in
          subst (λ ss. IsSound ss len first) (sym unchanged) sound
      go (Live before after row) is =
          let some : IsSome (row_of (change (slot_at slots n))) = ap is_some (same (slot_at slots n) ∙ ap row_of is) in
          IsSound-rewrite slots len first n before after row (change (slot_at slots n)) some sound (live_found slots n before after row is)

  -- ---- the two changes

  pub rows_after : (to : ℕ) (slots : List (Slot T)) (n m : ℕ) → row_in (changed (after_set to) n slots) m ≡ row_in slots m
  rows_after to = rows_stay (after_set to) refl (row_after_set to)

  pub rows_before : (to : ℕ) (slots : List (Slot T)) (n m : ℕ) → row_in (changed (before_set to) n slots) m ≡ row_in slots m
  rows_before to = rows_stay (before_set to) refl (row_before_set to)

  pub sets_after : (to : ℕ) (slots : List (Slot T)) (n : ℕ) → length slots < 2 ^ 32 → AtSets (links_in slots) (links_in (changed (after_set to) n slots)) (number_of n) (next_set (number_of to))
  sets_after to = links_set (after_set to) (next_set (number_of to)) refl (links_after_set to)

  pub sets_before : (to : ℕ) (slots : List (Slot T)) (n : ℕ) → length slots < 2 ^ 32 → AtSets (links_in slots) (links_in (changed (before_set to) n slots)) (number_of n) (prev_set (number_of to))
  sets_before to = links_set (before_set to) (prev_set (number_of to)) refl (links_before_set to)

  pub sound_after : (to : ℕ) (slots : List (Slot T)) (len free n : ℕ) → IsSound slots len free → IsSound (changed (after_set to) n slots) len free
  sound_after to = sound_stays (after_set to) (λ x. refl) (row_after_set to)

  pub sound_before : (to : ℕ) (slots : List (Slot T)) (len free n : ℕ) → IsSound slots len free → IsSound (changed (before_set to) n slots) len free
  sound_before to = sound_stays (before_set to) (λ x. refl) (row_before_set to)
