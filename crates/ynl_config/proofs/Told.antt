-- The fault that is told of a text's tables and values is the first that any of them has.
use Rattle.std.proofs.Common.{◌≡◌, List, [], ◌∷◌, ◌++◌, Bool, true, false, cond, Option, Some, None, refl, sym, ap, ◌∙◌, map, arith, nat_lt, ◌&&◌, get_or, inl, inr}
use Rattle.std.specs.List.{list_any, list_all}
use Rattle.std.proofs.lemmas.Bool.{cases_Bool, and_parts}
use Rattle.std.proofs.lemmas.Bool.Decides.{nat_tests}
use Rattle.ynl_resource.specs.Refusals.{first_that_holds}
use Rattle.ynl_config.specs.declared.faults.ConfigFault.TheVariants.{Size, Syntax, UnknownKey, MissingKey, WrongKind, Version as WrongVersion, Range, BadLabel, TooManyLabels, DuplicateLabel, TooDeep, TooMany, BadPath, DuplicateQueue, NoParent, NoSuchLabel, NotSubset, MaximumBelowCapacity, SumNot100}
use Rattle.ynl_config.specs.Earliest.{ConfigFault, rank, earlier}
use Rattle.ynl_config.specs.Anywhere.{all_faults, same_fault, first_among}

-- the earlier of two faults that may be
abbrev pub lesser : Option ConfigFault → Option ConfigFault → Option ConfigFault
lesser None b = b
lesser (Some a) None = Some a
lesser (Some a) (Some b) = Some (earlier a b)

-- the earliest of some faults
abbrev pub least : List ConfigFault → Option ConfigFault
least [] = None
least (f ∷ fs) = lesser (Some f) (least fs)

earlier-assoc : (a b c : ConfigFault) → earlier (earlier a b) c ≡ earlier a (earlier b c)
earlier-assoc a b c = grind (arith, nat_tests)

pub lesser-none : (a : Option ConfigFault) → lesser a None ≡ a
lesser-none None = refl
lesser-none (Some a) = refl

pub lesser-assoc : (a b c : Option ConfigFault) → lesser (lesser a b) c ≡ lesser a (lesser b c)
lesser-assoc None b c = refl
lesser-assoc (Some a) None c = refl
lesser-assoc (Some a) (Some b) None = refl
lesser-assoc (Some a) (Some b) (Some c) = ap Some (earlier-assoc a b c)

pub least-append : (xs ys : List ConfigFault) → least (xs ++ ys) ≡ lesser (least xs) (least ys)
least-append [] ys = refl
least-append (x ∷ xs) ys = ap (lesser (Some x)) (least-append xs ys) ∙ sym (lesser-assoc (Some x) (least xs) (least ys))

-- ---- the earliest is the first

-- the first of these faults that is among those found
abbrev scan : List ConfigFault → List ConfigFault → Option ConfigFault
scan fs found = first_that_holds (map (λ f. (f, list_any (same_fault f) found)) fs)

-- whether all faults come after one
abbrev all_after : ConfigFault → List ConfigFault → Bool
all_after f fs = list_all (λ g. nat_lt (rank f) (rank g)) fs

-- whether each fault comes before those behind it
abbrev ascends : List ConfigFault → Bool
ascends [] = true
ascends (f ∷ fs) = all_after f fs && ascends fs

earlier-before : (f g : ConfigFault) → nat_lt (rank f) (rank g) ≡ true → earlier f g ≡ f
earlier-before f g lt = grind (arith, nat_tests)

earlier-after : (f g : ConfigFault) → nat_lt (rank f) (rank g) ≡ true → earlier g f ≡ f
earlier-after f g lt = grind (arith, nat_tests)

earlier-same : (f : ConfigFault) → earlier f f ≡ f
earlier-same f = grind (arith, nat_tests)

rank-same : (f g : ConfigFault) → same_fault f g ≡ true → rank f ≡ rank g
rank-same f g e = grind (arith, nat_tests)

same-turned : (f g : ConfigFault) → same_fault f g ≡ false → same_fault g f ≡ false
same-turned f g e = grind (arith, nat_tests)

-- a fault stands at its place in the order
at-rank : (f : ConfigFault) → get_or all_faults (rank f) Size ≡ f
at-rank Size = refl
at-rank Syntax = refl
at-rank UnknownKey = refl
at-rank MissingKey = refl
at-rank WrongKind = refl
at-rank WrongVersion = refl
at-rank Range = refl
at-rank BadLabel = refl
at-rank TooManyLabels = refl
at-rank DuplicateLabel = refl
at-rank TooDeep = refl
at-rank TooMany = refl
at-rank BadPath = refl
at-rank DuplicateQueue = refl
at-rank NoParent = refl
at-rank NoSuchLabel = refl
at-rank NotSubset = refl
at-rank MaximumBelowCapacity = refl
at-rank SumNot100 = refl

same : (f g : ConfigFault) → same_fault f g ≡ true → f ≡ g
same f g e = sym (at-rank f) ∙ ap (λ n. get_or all_faults n Size) (rank-same f g e) ∙ at-rank g

known : (f : ConfigFault) → list_any (same_fault f) all_faults ≡ true
known Size = refl
known Syntax = refl
known UnknownKey = refl
known MissingKey = refl
known WrongKind = refl
known WrongVersion = refl
known Range = refl
known BadLabel = refl
known TooManyLabels = refl
known DuplicateLabel = refl
known TooDeep = refl
known TooMany = refl
known BadPath = refl
known DuplicateQueue = refl
known NoParent = refl
known NoSuchLabel = refl
known NotSubset = refl
known MaximumBelowCapacity = refl
known SumNot100 = refl

stays_step : (b : Bool) (f g : ConfigFault) (rest : Option ConfigFault) → nat_lt (rank f) (rank g) ≡ true → lesser (Some f) rest ≡ Some f → lesser (Some f) (cond b (Some g) rest) ≡ Some f
stays_step true f g rest lt h = ap Some (earlier-before f g lt)
stays_step false f g rest lt h = h

-- a fault is earlier than what is found after it
stays : (f : ConfigFault) (fs found : List ConfigFault) → all_after f fs ≡ true → lesser (Some f) (scan fs found) ≡ Some f
stays f [] found h = refl
stays f (g ∷ gs) found h =
    let (here, more) = and_parts (nat_lt (rank f) (rank g)) (all_after f gs) h in
    stays_step (list_any (same_fault g) found) f g (scan gs found) here (stays f gs found more)

after : (f x : ConfigFault) (fs : List ConfigFault) → all_after f fs ≡ true → list_any (same_fault x) fs ≡ true → nat_lt (rank f) (rank x) ≡ true
after f x [] h m = cc
after f x (g ∷ gs) h m =
    let (here, more) = and_parts (nat_lt (rank f) (rank g)) (all_after f gs) h in
    elim (cases_Bool (same_fault x g)) [
      | inl is ↦ ap (nat_lt (rank f)) (rank-same x g is) ∙ here
      | inr other ↦ after f x gs more (rw other at m)
    ]

own_step : (b : Bool) (f : ConfigFault) (rest : Option ConfigFault) → lesser (Some f) rest ≡ Some f → lesser (Some f) (cond b (Some f) rest) ≡ Some f
own_step true f rest h = ap Some (earlier-same f)
own_step false f rest h = h

other_step : (b : Bool) (f x : ConfigFault) (rest more : Option ConfigFault) → nat_lt (rank f) (rank x) ≡ true → lesser (Some x) rest ≡ more → lesser (Some x) (cond b (Some f) rest) ≡ cond b (Some f) more
other_step true f x rest more lt h = ap Some (earlier-after f x lt)
other_step false f x rest more lt h = h

-- one more fault that is found
scan_more : (fs : List ConfigFault) (x : ConfigFault) (found : List ConfigFault) → ascends fs ≡ true → list_any (same_fault x) fs ≡ true → lesser (Some x) (scan fs found) ≡ scan fs (x ∷ found)
scan_more [] x found a m = cc
scan_more (f ∷ fs) x found a m =
    let (here, more) = and_parts (all_after f fs) (ascends fs) a in
    let b = list_any (same_fault f) found in
    elim (cases_Bool (same_fault f x)) [
      | inl is ↦
          let told : scan (f ∷ fs) (x ∷ found) ≡ Some f = rw is in
          ap (λ y. lesser (Some y) (cond b (Some f) (scan fs found))) (sym (same f x is)) ∙ own_step b f (scan fs found) (stays f fs found here) ∙ sym told
      | inr other ↦
          let told : scan (f ∷ fs) (x ∷ found) ≡ cond b (Some f) (scan fs (x ∷ found)) = rw other in
          let among : list_any (same_fault x) fs ≡ true = rw (same-turned f x other) at m in
          other_step b f x (scan fs found) (scan fs (x ∷ found)) (after f x fs here among) (scan_more fs x found more among) ∙ sym told
    ]

-- the earliest of some faults is the first of all faults that is among them
pub told : (found : List ConfigFault) → least found ≡ first_among found
told [] = refl
told (x ∷ found) = ap (lesser (Some x)) (told found) ∙ scan_more all_faults x found refl (known x)
