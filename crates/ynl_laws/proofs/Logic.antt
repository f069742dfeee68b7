-- Truth values and options.
use Rattle.std.proofs.Common.{◌≡◌, not, ◌&&◌, ◌||◌, is_some, Bool, true, false, cond, List, [], Option, Some, None, option_map, refl, sym, ap, ◌∙◌}
use Rattle.std.specs.Prelude.{IfSome, ⊤, is_none}
use mathlib.Core.Logic.{◌⊎◌, inl, inr}
use mathlib.Core.Bool.{true≢false}

-- ---- truth values

pub not-true : (b : Bool) → not b ≡ true → b ≡ false
not-true true h = absurd (true≢false (sym h))
not-true false h = refl

pub not-false : (b : Bool) → not b ≡ false → b ≡ true
not-false true h = refl
not-false false h = absurd (true≢false h)

pub either-true : (a b : Bool) → (a || b) ≡ true → (a ≡ true) ⊎ (b ≡ true)
either-true true b h = inl refl
either-true false b h = inr h

pub either-false : (a b : Bool) → (not a && not b) ≡ false → (a ≡ true) ⊎ (b ≡ true)
either-false true b h = inl refl
either-false false b h = inr (not-false b h)

pub and-false : (a : Bool) → (a && false) ≡ false
and-false true = refl
and-false false = refl

-- what differs only where a test fails
pub guard-same : (a b guard : Bool) → (guard ≡ true → a ≡ b) → (a && guard) ≡ (b && guard)
guard-same a b true h = ap (λ x. x && true) (h refl)
guard-same a b false h = and-false a ∙ sym (and-false b)

pub none-either : {A : Type 0} (b : Bool) → ◌≡◌ {A = List A} (cond b [] []) []
none-either true = refl
none-either false = refl

-- ---- options

pub some-same : {X : Type 0} (x y : X) (o : Option X) → o ≡ Some x → o ≡ Some y → x ≡ y
some-same x y o e f = cc

pub none-is : {X : Type 0} (o : Option X) → is_some o ≡ false → o ≡ None
none-is None h = refl
none-is (Some x) h = absurd (true≢false h)

pub none-is_none : {X : Type 0} (o : Option X) → is_none o ≡ true → o ≡ None
none-is_none None e = refl
none-is_none (Some x) e = absurd (true≢false (sym e))

pub is_some-map : {A B : Type 0} (f : A → B) (o : Option A) → is_some (option_map f o) ≡ is_some o
is_some-map f None = refl
is_some-map f (Some x) = refl

pub some-anything : {X : Type 0} (o : Option X) → IfSome o (λ x. ⊤)
some-anything None = tt
some-anything (Some x) = tt

-- what is found, with how it was found
pub itself : {X : Type 0} (o : Option X) → IfSome o (λ x. o ≡ Some x)
itself None = tt
itself (Some x) = refl

pub both-some : {X : Type 0} (P Q : X → Type 0) (o : Option X) → IfSome o P → IfSome o Q → IfSome o (λ x. P x × Q x)
both-some P Q None h k = tt
both-some P Q (Some x) h k = (h, k)

-- a reason that fails is passed over
pub pass : {X : Type 0} {a : Bool} (x : X) (o : Option X) → a ≡ false → cond a (Some x) o ≡ o
pass x o k = λ i. cond (k i) (Some x) o
