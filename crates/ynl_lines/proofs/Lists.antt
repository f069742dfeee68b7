-- A list is read one value after another.
use Rattle.std.proofs.Common.{◌≡◌, ◌∙◌, ◌+◌, ◌<◌, ◌≤◌, ℕ, List, [], ◌∷◌, ◌++◌, All, length, take, drop, get_or, suc, Result, Ok, Err, refl, ap, sym, subst, append_assoc, drop-cons, add-one}
use Rattle.std.proofs.Math.Seq.{take-suc}
use Rattle.std.proofs.lemmas.List.{take_all}
use Rattle.std.proofs.lemmas.List.Elements.{All-nil, All-cons, All-append}
use Rattle.serde_json.specs.Data.{Data}
use Rattle.serde_json.specs.View.{view, items_view}
use Rattle.serde_json.specs.declared.value.Value.{Value}
use Rattle.ynl_lines.specs.declared.faults.LineFault.{LineFault}
use Rattle.ynl_lines.specs.Reading.{◌>>=◌}
use Rattle.ynl_lines.specs.ReadingReplies.{each}

-- what was read, and then the rest
abbrev pub after : {A : Type 0} → List A → Result (List A) LineFault → Result (List A) LineFault
after done rest = rest >>= λ xs. Ok (done ++ xs)

one_read : {A : Type 0} (done : List A) (x : A) (rest : Result (List A) LineFault) → after done (rest >>= λ xs. Ok (x ∷ xs)) ≡ after (done ++ x ∷ []) rest
one_read done x (Ok xs) = ap Ok (sym (append_assoc done (x ∷ []) xs))
one_read done x (Err e) = refl

-- what is left of a list is the next one, and those after it
pub next : {A : Type 0} (xs : List A) (i : ℕ) (x : A) → i < length xs → x ≡ get_or xs i x → drop i xs ≡ x ∷ drop (i + 1) xs
next xs i x h e = rw add-one (drop-cons xs i x h ∙ ap (λ y. y ∷ drop (suc i) xs) (sym e))

module _ {A : Type 0} (read : Data → Result A LineFault) (vs : List Value) (i : ℕ) (v : Value) (h : i < length vs) (e : v ≡ get_or vs i v) (done : List A) where
  pub step : (done' : List A) (x : A) → read (view v) ≡ Ok x → done' ≡ done ++ x ∷ []
      → after done' (each read (items_view (drop (i + 1) vs))) ≡ after done (each read (items_view (drop i vs)))
  step done' x found grown =
      ap (λ d. after d (each read (items_view (drop (i + 1) vs)))) grown
      ∙ sym (one_read done x (each read (items_view (drop (i + 1) vs))))
      ∙ ap (λ r. after done (r >>= λ x. each read (items_view (drop (i + 1) vs)) >>= λ xs. Ok (x ∷ xs))) (sym found)
      ∙ ap (λ l. after done (each read (items_view l))) (sym (next vs i v h e))

pub all_more : {X : Type 0} (P : X → Type 0) (xs : List X) (i : ℕ) (x : X) → i < length xs → x ≡ get_or xs i x → All P (take i xs) → P x → All P (take (i + 1) xs)
all_more P xs i x h e below here =
    let taken : take (i + 1) xs ≡ take i xs ++ x ∷ [] = rw add-one (take-suc xs i x h ∙ ap (λ y. take i xs ++ y ∷ []) (sym e)) in
    subst (All P) (sym taken) (All-append P (take i xs) (x ∷ []) below (All-cons P x [] here (All-nil P)))

-- what holds of those before the end holds of all
pub all_of : {X : Type 0} (P : X → Type 0) (xs : List X) (i : ℕ) → length xs ≤ i → All P (take i xs) → All P xs
all_of P xs i h below = subst (All P) (take_all i xs h) below
