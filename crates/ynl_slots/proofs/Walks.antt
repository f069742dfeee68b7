-- How all entries are gone through, each with the number after it.
use Rattle.std.proofs.Common.{◌≡◌, ℕ, zero, suc, ◌+◌, ◌<◌, ◌≤◌, Bool, true, false, cond, nat_eq, List, [], ◌∷◌, ◌++◌, map, length, take, slice_get, Option, None, Some, is_some, refl, sym, ap, ◌∙◌, arith}
use Rattle.std.specs.List.{AllByRecursion}
use Rattle.std.specs.Map.{lookup}
use Rattle.std.proofs.lemmas.Bool.Decides.{nat_tests}
use Rattle.std.proofs.lemmas.List.{map-append, take_all}
use Rattle.std.proofs.lemmas.Option.{same_Some, none-some}
use Rattle.ynl_slots.specs.Slots.{IsLive, IsAfter, HasDistinctNumbers, number_in}
use Rattle.ynl_slots.proofs.Entries.{itself}

-- rows that are shown otherwise have the same numbers
pub number_shown : {X Y : Type 0} (f : X → Y) (rows : List (ℕ × X)) (i : ℕ) → number_in (map (λ e. (e.0, f e.1)) rows) i ≡ number_in rows i
number_shown f [] i = refl
number_shown f (e ∷ rows) zero = refl
number_shown f (e ∷ rows) (suc i) = number_shown f rows i

pub after_shown : {X Y : Type 0} (f : X → Y) (rows : List (ℕ × X)) (number : ℕ) (next : Option ℕ) → IsAfter number rows next → IsAfter number (map (λ e. (e.0, f e.1)) rows) next
after_shown f rows number next is i found = is i (sym (number_shown f rows i) ∙ found) ∙ sym (number_shown f rows (i + 1))

module _ {X : Type 0} where
  -- the entry in a place where a number is
  pub record IsHere (entries : List (ℕ × X)) (i number : ℕ) : Type 0 where
    pub row : X
    pub at : slice_get entries i ≡ Some (number, row)

  pub here : (entries : List (ℕ × X)) (i number : ℕ) → number_in entries i ≡ Some number → IsHere entries i number
  here [] i number found = absurd (none-some number found)
  here (e ∷ entries) zero number found = record { row = e.1; at = ap (λ n. Some (n, e.1)) (same_Some e.0 number found) }
  here (e ∷ entries) (suc i) number found = let there = here entries i number found in record { row = there.row; at = there.at }

  -- its row is live
  pub here_live : (entries : List (ℕ × X)) (i number : ℕ) → number_in entries i ≡ Some number → IsLive number entries
  here_live [] i number found = absurd (none-some number found)
  here_live (e ∷ entries) zero number found =
      let same : number ≡ e.0 = sym (same_Some e.0 number found) in
      ap (λ (n : ℕ). is_some (cond (nat_eq n e.0) (Some e.1) (lookup (nat_eq n) entries))) same ∙ ap (λ b. is_some (cond b (Some e.1) (lookup (nat_eq e.0) entries))) (itself e.0)
  here_live (e ∷ entries) (suc i) number found = either (nat_eq number e.0) (lookup (nat_eq number) entries) (here_live entries i number found)
    where
      either : (b : Bool) (o : Option X) → is_some o ≡ true → is_some (cond b (Some e.1) o) ≡ true
      either true o h = refl
      either false o h = h

  apart : (n : ℕ) (entries : List (ℕ × X)) (i number : ℕ) → AllByRecursion (λ e. e.0 ≡ n → ⊥) entries → number_in entries i ≡ Some number → number ≡ n → ⊥
  apart n [] i number h found same = none-some number found
  apart n (e ∷ entries) zero number h found same = h.0 (same_Some e.0 number found ∙ same)
  apart n (e ∷ entries) (suc i) number h found same = apart n entries i number h.1 found same

  -- and is the one that is found
  pub here_found : (entries : List (ℕ × X)) (i number : ℕ) (row : X) → HasDistinctNumbers entries → slice_get entries i ≡ Some (number, row) → lookup (nat_eq number) entries ≡ Some row
  here_found [] i number row distinct at = absurd (none-some (number, row) at)
  here_found (e ∷ entries) zero number row distinct at =
      let same : e ≡ (number, row) = same_Some e (number, row) at in
      ap (λ (f : ℕ × X). cond (nat_eq number f.0) (Some f.1) (lookup (nat_eq number) entries)) same ∙ ap (λ b. cond b (Some row) (lookup (nat_eq number) entries)) (itself number)
  here_found (e ∷ entries) (suc i) number row distinct at =
      let test : nat_eq number e.0 ≡ false = differ (nat_eq number e.0) refl in
      ap (λ b. cond b (Some e.1) (lookup (nat_eq number) entries)) test ∙ here_found entries i number row distinct.1 at
    where
      numbered : (es : List (ℕ × X)) (j : ℕ) → slice_get es j ≡ Some (number, row) → number_in es j ≡ Some number
      numbered [] j k = absurd (none-some (number, row) k)
      numbered (f ∷ es) zero k = ap (λ (g : ℕ × X). Some g.0) (same_Some f (number, row) k)
      numbered (f ∷ es) (suc j) k = numbered es j k

      differ : (b : Bool) → nat_eq number e.0 ≡ b → b ≡ false
      differ false q = refl
      differ true q = let same : number ≡ e.0 = grind (arith, nat_tests) in absurd (apart e.0 entries i number distinct.0 (numbered entries i at) same)

  -- behind the last place there is none
  pub past_all : (entries : List (ℕ × X)) (i : ℕ) → None ≡ number_in entries i → length entries ≤ i
  past_all [] i h = omega arith
  past_all (e ∷ entries) zero h = absurd (none-some e.0 h)
  past_all (e ∷ entries) (suc i) h = omega (arith, past_all entries i h)

  -- ---- how many entries are left from a number on

  pub left_from : Option ℕ → List (ℕ × X) → ℕ
  left_from None entries = 0
  left_from (Some number) [] = 0
  left_from (Some number) (e ∷ entries) = cond (nat_eq number e.0) (suc (length entries)) (left_from (Some number) entries)

  left_at : (entries : List (ℕ × X)) (i number : ℕ) → HasDistinctNumbers entries → number_in entries i ≡ Some number → left_from (Some number) entries + i ≡ length entries
  unfolding left_from
  left_at [] i number distinct found = absurd (none-some number found)
  left_at (e ∷ entries) zero number distinct found =
      let test : nat_eq number e.0 ≡ true = ap (λ n. nat_eq n e.0) (sym (same_Some e.0 number found)) ∙ itself e.0 in
      ap (λ (b : Bool). cond b (suc (length entries)) (left_from (Some number) entries) + 0) test ∙ (let same : suc (length entries) + 0 ≡ suc (length entries) = omega arith in same)
  left_at (e ∷ entries) (suc i) number distinct found =
      let rest = left_at entries i number distinct.1 found in
      let test : nat_eq number e.0 ≡ false = differ (nat_eq number e.0) refl in
      ap (λ (b : Bool). cond b (suc (length entries)) (left_from (Some number) entries) + suc i) test ∙ (let more : left_from (Some number) entries + suc i ≡ suc (length entries) = omega (arith, rest) in more)
    where
      differ : (b : Bool) → nat_eq number e.0 ≡ b → b ≡ false
      differ false q = refl
      differ true q = let same : number ≡ e.0 = grind (arith, nat_tests) in absurd (apart e.0 entries i number distinct.0 found same)

  -- one less from the next one on
  pub left_less : (entries : List (ℕ × X)) (i number : ℕ) (next : Option ℕ) → HasDistinctNumbers entries → number_in entries i ≡ Some number → IsAfter number entries next → left_from next entries < left_from (Some number) entries
  unfolding left_from
  left_less entries i number next distinct found is =
      let own = left_at entries i number distinct found in
      let inside : i < length entries = by_place entries i found in
      by next (is i found) own inside
    where
      by_place : (es : List (ℕ × X)) (j : ℕ) → number_in es j ≡ Some number → j < length es
      by_place [] j k = absurd (none-some number k)
      by_place (e ∷ es) zero k = omega arith
      by_place (e ∷ es) (suc j) k = omega (arith, by_place es j k)

      by : (o : Option ℕ) → o ≡ number_in entries (i + 1) → left_from (Some number) entries + i ≡ length entries → i < length entries → left_from o entries < left_from (Some number) entries
      by None there own inside = omega (arith, own, inside)
      by (Some other) there own inside = omega (arith, own, inside, left_at entries (i + 1) other distinct (sym there))

-- ---- what is made of them, one after another

module _ {X Y : Type 0} (f : ℕ × X → Y) (entries : List (ℕ × X)) where
  -- what is made of the entries before the next one
  pub record IsWalk (next : Option ℕ) (done : List Y) : Type 0 where
    pub place : ℕ
    pub at : next ≡ number_in entries place
    pub made : done ≡ map f (take place entries)

  pub walk_end : (next : Option ℕ) (done : List Y) → IsWalk next done → next ≡ None → done ≡ map f entries
  walk_end next done walk is = walk.made ∙ ap (map f) (take_all walk.place entries (past_all entries walk.place (sym is ∙ walk.at)))

  -- the next one stands in its place
  pub walk_at : (next : Option ℕ) (done : List Y) (number : ℕ) (walk : IsWalk next done) → next ≡ Some number → number_in entries walk.place ≡ Some number
  walk_at next done number walk is = sym walk.at ∙ is

  pub walk_step : (next : Option ℕ) (done : List Y) (number : ℕ) (walk : IsWalk next done) → next ≡ Some number → (row : X) → slice_get entries walk.place ≡ Some (number, row) → (after : Option ℕ) → IsAfter number entries after → (one : Y) → one ≡ f (number, row) → IsWalk after (done ++ one ∷ [])
  walk_step next done number walk here row at after is one same = record {
    place = walk.place + 1;
    at = is walk.place (walk_at next done number walk here);
    made = (λ i. walk.made i ++ same i ∷ []) ∙ sym (map-append f (take walk.place entries) ((number, row) ∷ [])) ∙ ap (map f) (sym (one_more entries walk.place at));
  }
    where
      go : (es : List (ℕ × X)) (i : ℕ) → slice_get es i ≡ Some (number, row) → take (suc i) es ≡ take i es ++ (number, row) ∷ []
      go [] i h = absurd (none-some (number, row) h)
      go (e ∷ es) zero h = ap (λ (g : ℕ × X). g ∷ []) (same_Some e (number, row) h)
      go (e ∷ es) (suc i) h = ap (λ gs. e ∷ gs) (go es i h)

      one_more : (es : List (ℕ × X)) (i : ℕ) → slice_get es i ≡ Some (number, row) → take (i + 1) es ≡ take i es ++ (number, row) ∷ []
      one_more es i h = let next : i + 1 ≡ suc i = omega arith in ap (λ n. take n es) next ∙ go es i h
