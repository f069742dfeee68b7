-- The first place at which a test passes, and what is written there.
use Rattle.std.proofs.Common.{◌≡◌, ℕ, suc, ◌+◌, ◌<◌, ◌≤◌, Bool, true, false, not, cond, nat_lt, List, [], ◌∷◌, ◌++◌, length, get_or, slice_get, Option, Some, None, is_some, IfSome, option_copied, Bor, refl, sym, ap, ◌∙◌, arith}
use Rattle.std.proofs.Math.ListN.{set}
use Rattle.std.specs.List.{position_or_len}
use Rattle.std.proofs.lemmas.Bool.Decides.{nat_tests}
use Rattle.std.proofs.lemmas.Option.{slice_get_past, slice_get_read}
use Rattle.ynl_resource.specs.Tables.{put}

module _ {X : Type 0} (test : X → Bool) where
  pub one_more : (x : X) (xs : List X) → 1 + position_or_len test xs ≡ suc (position_or_len test xs)
  one_more x xs = omega arith

  -- the first that passes gives its place
  pub put_found : (new : X) (xs : List X) → position_or_len test xs < length xs → put test new xs ≡ set xs (position_or_len test xs) new
  put_found new [] h = absurd (omega arith)
  put_found new (x ∷ xs) h = go (test x) (λ k. put_found new xs k) h
    where
      go : (b : Bool) → (position_or_len test xs < length xs → put test new xs ≡ set xs (position_or_len test xs) new) → cond (not b) (1 + position_or_len test xs) 0 < suc (length xs)
          → cond b (new ∷ xs) (x ∷ put test new xs) ≡ set (x ∷ xs) (cond (not b) (1 + position_or_len test xs) 0) new
      go true later k = refl
      go false later k = ap (λ zs. x ∷ zs) (later (omega arith)) ∙ sym (ap (λ (m : ℕ). set (x ∷ xs) m new) (one_more x xs))

  -- and where none passes, it comes last
  pub put_missed : (new : X) (xs : List X) → length xs ≤ position_or_len test xs → put test new xs ≡ xs ++ new ∷ []
  put_missed new [] h = refl
  put_missed new (x ∷ xs) h = go (test x) (λ k. put_missed new xs k) h
    where
      go : (b : Bool) → (length xs ≤ position_or_len test xs → put test new xs ≡ xs ++ new ∷ []) → length (x ∷ xs) ≤ cond (not b) (1 + position_or_len test xs) 0
          → cond b (new ∷ xs) (x ∷ put test new xs) ≡ x ∷ xs ++ new ∷ []
      go true later k = absurd (omega arith)
      go false later k = ap (λ zs. x ∷ zs) (later (omega arith))

-- what is read at a place
pub item_read : {X : Type 0} (xs : List X) (i : ℕ) (o : Option (Bor X)) → is_some o ≡ nat_lt i (length xs) → IfSome o (λ x. x.now ≡ get_or xs i x.now) → option_copied o ≡ slice_get xs i
item_read xs i None short read = let past : length xs ≤ i = grind (arith, nat_tests) in sym (slice_get_past xs i past)
item_read xs i (Some x) short read = let within : i < length xs = grind (arith, nat_tests) in sym (slice_get_read xs (length xs) i x.now (λ _. length xs) within read)
