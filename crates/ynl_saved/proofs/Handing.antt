-- Lines that are handed to a sink in parts.
use Rattle.std.proofs.Common.{◌≡◌, ◌≤◌, ◌+◌, ℕ, zero, suc, List, [], ◌∷◌, ◌++◌, length, take, slice_get, Some, Result, Ok, Err, refl, sym, ap, subst, ◌∙◌, arith}
use Rattle.std.specs.Prelude.{flat_map}
use Rattle.std.specs.Result.{IsErrAnd}
use Rattle.std.proofs.lemmas.List.{append_assoc, append-nil, take_all}
use Rattle.std.proofs.lemmas.Option.{none-some, same_Some}
use Rattle.ynl_saved.specs.declared.lines.StateLine.{StateLine}
use Rattle.ynl_saved.specs.Handing.{TakesAll, FailsAmong, Hands}

-- the first of some things, one of them, and those behind it
pub parts-at : {X : Type 0} (xs : List X) (k : ℕ) (x : X) → slice_get xs k ≡ Some x → (rest : List X) × (xs ≡ take k xs ++ x ∷ rest)
parts-at [] k x at = absurd (none-some x at)
parts-at (y ∷ ys) zero x at = (ys, ap (λ z. z ∷ ys) (same_Some y x at))
parts-at (y ∷ ys) (suc k) x at = let is = parts-at ys k x at in (is.0, ap (λ zs. y ∷ zs) is.1)

-- the first of them, with one more
pub take-one : {X : Type 0} (xs : List X) (k : ℕ) (x : X) → slice_get xs k ≡ Some x → take (k + 1) xs ≡ take k xs ++ x ∷ []
take-one {X} xs k x at = let next : k + 1 ≡ suc k = omega arith in ap (λ n. take n xs) next ∙ go xs k x at
  where
    go : (xs : List X) (k : ℕ) (x : X) → slice_get xs k ≡ Some x → take (suc k) xs ≡ take k xs ++ x ∷ []
    go [] k x at = absurd (none-some x at)
    go (y ∷ ys) zero x at = ap (λ z. z ∷ []) (same_Some y x at)
    go (y ∷ ys) (suc k) x at = ap (λ zs. y ∷ zs) (go ys k x at)

pub flat-append : {X Y : Type 0} (f : X → List Y) (xs ys : List X) → flat_map f (xs ++ ys) ≡ flat_map f xs ++ flat_map f ys
flat-append f [] ys = refl
flat-append f (x ∷ xs) ys = ap (λ zs. f x ++ zs) (flat-append f xs ys) ∙ sym (append_assoc (f x) (flat_map f xs) (flat_map f ys))

module _ {S F : Type 0} (gives : S → StateLine → S → Result (Unit {0}) F → Type 0) where
  -- lines, and then more of them
  pub takes-append : (a b c : S) (xs ys : List StateLine) → TakesAll gives a xs b → TakesAll gives b ys c → TakesAll gives a (xs ++ ys) c
  takes-append a b c [] ys one two = subst (λ s. TakesAll gives s ys c) (sym one) two
  takes-append a b c (x ∷ xs) ys one two = (one.0, one.1, takes-append one.0 b c xs ys one.2 two)

  pub takes-last : (a b c : S) (xs : List StateLine) (x : StateLine) → TakesAll gives a xs b → gives b x c (Ok tt) → TakesAll gives a (xs ++ x ∷ []) c
  takes-last a b c xs x one two = takes-append a b c xs (x ∷ []) one (c, two, refl)

  -- it fails at lines where it fails at those in front
  pub fails-front : (a b : S) (xs ys : List StateLine) (e : F) → FailsAmong gives a xs b e → FailsAmong gives a (xs ++ ys) b e
  fails-front a b xs ys e is = record {
    before = is.before;
    line = is.line;
    rest = is.rest ++ ys;
    are = ap (λ zs. zs ++ ys) is.are ∙ append_assoc is.before (is.line ∷ is.rest) ys;
    mid = is.mid;
    took = is.took;
    failed = is.failed;
  }

  -- or at those behind
  pub fails-behind : (a b c : S) (xs ys : List StateLine) (e : F) → TakesAll gives a xs b → FailsAmong gives b ys c e → FailsAmong gives a (xs ++ ys) c e
  fails-behind a b c xs ys e one is = record {
    before = xs ++ is.before;
    line = is.line;
    rest = is.rest;
    are = ap (λ zs. xs ++ zs) is.are ∙ sym (append_assoc xs is.before (is.line ∷ is.rest));
    mid = is.mid;
    took = takes-append a b is.mid xs is.before one is.took;
    failed = is.failed;
  }

  pub hands-behind : (a b c : S) (xs ys : List StateLine) (r : Result (Unit {0}) F) → TakesAll gives a xs b → Hands gives b ys c r → Hands gives a (xs ++ ys) c r
  hands-behind a b c xs ys (Ok done) one two = takes-append a b c xs ys one two
  hands-behind a b c xs ys (Err e) one two = fails-behind a b c xs ys e one two

  -- what it failed with is handed on
  pub fails-on : (a b : S) (lines : List StateLine) (e : F) (r : Result (Unit {0}) F) → FailsAmong gives a lines b e → IsErrAnd r (λ x. x ≡ e) → Hands gives a lines b r
  fails-on a b lines e (Ok done) fails same = absurd same
  fails-on a b lines e (Err x) fails same = subst (FailsAmong gives a lines b) (sym same) fails

  -- one line is handed to it
  pub hands-one : (a b : S) (x : StateLine) (r : Result (Unit {0}) F) → gives a x b r → Hands gives a (x ∷ []) b r
  hands-one a b x (Ok done) one = (b, one, refl)
  hands-one a b x (Err e) one = record { before = []; line = x; rest = []; are = refl; mid = a; took = refl; failed = one }

  -- ---- loops: lines are handed one after another

  module _ (lines : List StateLine) (k : ℕ) (a b c : S) (took : TakesAll gives a (take k lines) b) (line : StateLine) (at : slice_get lines k ≡ Some line) where
    -- it took one more
    pub takes-next : gives b line c (Ok tt) → TakesAll gives a (take (k + 1) lines) c
    takes-next one = subst (λ ys. TakesAll gives a ys c) (sym (take-one lines k line at)) (takes-last a b c (take k lines) line took one)

    -- it failed at one
    pub fails-next : (e : F) → gives b line c (Err e) → FailsAmong gives a lines c e
    fails-next e one = let are = parts-at lines k line at in record { before = take k lines; line = line; rest = are.0; are = are.1; mid = b; took = took; failed = one }

  -- it took them all
  pub takes-lines : (lines : List StateLine) (k : ℕ) (a b : S) → TakesAll gives a (take k lines) b → length lines ≤ k → TakesAll gives a lines b
  takes-lines lines k a b took all = subst (λ ys. TakesAll gives a ys b) (take_all k lines all) took

  -- ---- loops: parts of many lines are handed one after another

  module _ {X : Type 0} (f : X → List StateLine) (xs : List X) (k : ℕ) (a b c : S) (took : TakesAll gives a (flat_map f (take k xs)) b) where
    -- it took one part more
    pub takes-part : (x : X) → slice_get xs k ≡ Some x → TakesAll gives b (f x) c → TakesAll gives a (flat_map f (take (k + 1) xs)) c
    takes-part x at part =
        subst (λ ys. TakesAll gives a ys c) (sym (ap (flat_map f) (take-one xs k x at) ∙ flat-append f (take k xs) (x ∷ []) ∙ ap (λ ys. flat_map f (take k xs) ++ ys) (append-nil (f x))))
        (takes-append a b c (flat_map f (take k xs)) (f x) took part)

    -- it failed at one
    pub fails-part : (e : F) (x : X) → slice_get xs k ≡ Some x → FailsAmong gives b (f x) c e → FailsAmong gives a (flat_map f xs) c e
    fails-part e x at part =
        let are = parts-at xs k x at in
        subst (λ ys. FailsAmong gives a ys c e) (sym (ap (flat_map f) are.1 ∙ flat-append f (take k xs) (x ∷ are.0)))
        (fails-behind a b c (flat_map f (take k xs)) (f x ++ flat_map f are.0) e took (fails-front b c (f x) (flat_map f are.0) e part))

  -- it took them all
  pub takes-parts : {X : Type 0} (f : X → List StateLine) (xs : List X) (k : ℕ) (a b : S) → TakesAll gives a (flat_map f (take k xs)) b → length xs ≤ k → TakesAll gives a (flat_map f xs) b
  takes-parts f xs k a b took all = subst (λ ys. TakesAll gives a (flat_map f ys) b) (take_all k xs all) took
