-- What bytes read as, by the tree of their tokens.
use mathlib.Core.Bool.{true≢false, false≢true}
use Rattle.std.proofs.Common.{◌≡◌, ◌≢◌, ℕ, List, [], Bool, true, false, cond, Option, Some, None, Result, Ok, Err, refl, sym, ap, subst, ◌∙◌}
use Rattle.std.proofs.lemmas.Str.{IsUtf8-from_is_utf8, is_utf8-from_IsUtf8}
use Rattle.std.specs.Prelude.{IsUtf8, MatchOption, is_some, IfOk, IfErr, IsErr}
use Rattle.std.specs.Option.{option_and_then}
use Rattle.std.specs.Str.{is_utf8}
use Rattle.json.specs.Json.{Json, value, if_last}
use Rattle.json.specs.Lex.{tokens}
use Rattle.json.specs.Token.{Token}
use Rattle.json.specs.declared.error.Error.{Error}
use Rattle.json.specs.declared.error.Error.TheVariants.{Invalid, OutOfMemory, TooLong, DuplicateKey}
use Rattle.serde_json.specs.Data.{Data}
use Rattle.serde_json.specs.Read.{of_json, read}
use Rattle.ynl_fields.specs.Reading.{reading}

-- bytes that are no text read as none
pub no_text : (bytes : List ℕ) → (IsUtf8 bytes → ⊥) → reading bytes ≡ None
no_text bytes h = go (is_utf8 bytes) refl
  where
    go : (b : Bool) → is_utf8 bytes ≡ b → cond b (read bytes) None ≡ None
    go true e = absurd (h (IsUtf8-from_is_utf8 bytes e))
    go false e = refl

-- and those that read as a value are one
pub is_text : (bytes : List ℕ) (d : Data) → reading bytes ≡ Some d → IsUtf8 bytes
is_text bytes d found = go (is_utf8 bytes) refl found
  where
    go : (b : Bool) → is_utf8 bytes ≡ b → cond b (read bytes) None ≡ Some d → IsUtf8 bytes
    go true e found = IsUtf8-from_is_utf8 bytes e
    go false e found = cc

-- where the first value is also the last, they read as it
pub one_value : (bytes text : List ℕ) (start rest : List Token) (j : Json) → text ≡ bytes → IsUtf8 bytes → start ≡ tokens text → value 127 start ≡ Some (j, rest) → rest ≡ [] → reading bytes ≡ of_json j
one_value bytes text start rest j same utf8 begins found last =
    let whole : value 127 (tokens bytes) ≡ Some (j, []) = ap (value 127) (sym (begins ∙ ap tokens same)) ∙ found ∙ ap (λ (r : List Token). Some (j, r)) last in
    ap (λ b. cond b (read bytes) None) (is_utf8-from_IsUtf8 bytes utf8) ∙ ap (λ o. option_and_then of_json (option_and_then (λ p. if_last p.0 p.1) o)) whole

-- where nothing was next nothing was left
pub none_left : {T : Type 0} (A B : Type 0) (P : T → Type 0) (o : Option T) → MatchOption o (A × B) P → is_some o ≡ false → A
none_left A B P None h e = h.0
none_left A B P (Some x) h e = absurd (true≢false e)

-- what was told as a tree was read
module _ {T F : Type 0} (told : Result (Option T) F) (tree : T) (is : told ≡ Ok (Some tree)) where
  pub read_tree : (r : Result T Error) → IfOk r (λ t. told ≡ Ok (Some t)) → IfErr r (λ e. e ≢ OutOfMemory → told ≡ Ok None) → IfErr r (λ e. e ≡ OutOfMemory → IsErr told) → r ≡ Ok tree
  read_tree (Ok t) some none memory = cc
  read_tree (Err OutOfMemory) some none memory = absurd (false≢true (subst IsErr is (memory refl)))
  read_tree (Err Invalid) some none memory = let lost = none (λ e. cc) in cc
  read_tree (Err TooLong) some none memory = let lost = none (λ e. cc) in cc
  read_tree (Err DuplicateKey) some none memory = let lost = none (λ e. cc) in cc
