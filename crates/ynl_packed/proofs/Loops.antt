-- Items read one behind another, as a loop reads them.
use Rattle.std.proofs.Common.{◌≡◌, ℕ, suc, ◌+◌, ◌-◌, ◌<◌, List, [], ◌∷◌, ◌++◌, length, take, get_or, Option, Some, None, refl, sym, ap, subst, ◌∙◌, append_assoc, arith}
use Rattle.std.proofs.lemmas.List.{take_more, flat_map_more}
use Rattle.std.proofs.lemmas.List.Elements.{All-more}
use Rattle.std.specs.Prelude.{All}
use Rattle.std.specs.List.{flat_map}
use Rattle.ynl_packed.specs.Reading.{◌>>=◌, many}

-- what was read before, and what is still read
abbrev pub with_front : {T : Type 0} → List T → Option (List T × List ℕ) → Option (List T × List ℕ)
with_front front read = read >>= λ x. Some (front ++ x.0, x.1)

regroup : {T : Type 0} (front : List T) (x : T) (read : Option (List T × List ℕ)) → with_front front (read >>= λ xs. Some (x ∷ xs.0, xs.1)) ≡ with_front (front ++ x ∷ []) read
regroup front x None = refl
regroup front x (Some xs) = ap (λ all. Some (all, xs.1)) (sym (append_assoc front (x ∷ []) xs.0))

pub goes_on : {T : Type 0} (at : List ℕ → Option (T × List ℕ)) (front : List T) (count i : ℕ) (bytes : List ℕ) (x : T) (rest : List ℕ) (total : Option (List T × List ℕ)) → i < count →
    at bytes ≡ Some (x, rest) → with_front front (many at (count - i) bytes) ≡ total → with_front (front ++ x ∷ []) (many at (count - (i + 1)) rest) ≡ total
goes_on at front count i bytes x rest total lt read so_far =
    let k : count - i ≡ suc (count - (i + 1)) = omega arith in
    let one : with_front front (many at (count - i) bytes) ≡ with_front (front ++ x ∷ []) (many at (count - (i + 1)) rest) = rw (k, read) (regroup front x (many at (count - (i + 1)) rest)) in
    sym one ∙ so_far

pub stops : {T : Type 0} (at : List ℕ → Option (T × List ℕ)) (front : List T) (count i : ℕ) (bytes : List ℕ) (total : Option (List T × List ℕ)) → i < count →
    at bytes ≡ None → with_front front (many at (count - i) bytes) ≡ total → total ≡ None
stops at front count i bytes total lt read so_far =
    let k : count - i ≡ suc (count - (i + 1)) = omega arith in
    let one : with_front front (many at (count - i) bytes) ≡ None = rw (k, read) refl in
    sym so_far ∙ one

-- ---- items that are added

pub bytes_more : {T : Type 0} (bytes : T → List ℕ) (front : List ℕ) (list : List T) (i : ℕ) (item : T) (old new : List ℕ) → i < length list → item ≡ get_or list i item →
    old ≡ front ++ flat_map bytes (take i list) → new ≡ old ++ bytes item → new ≡ front ++ flat_map bytes (take (i + 1) list)
bytes_more bytes front list i item old new lt is before added =
    added ∙ ap (λ (t : List ℕ). t ++ bytes item) before ∙ flat_map_more bytes front (take i list) item
    ∙ ap (λ xs. front ++ flat_map bytes xs) (sym (take_more list i item lt ∙ ap (λ x. take i list ++ x ∷ []) (sym is)))

pub fits_more : {T : Type 0} (fits : T → Type 0) (list : List T) (i : ℕ) (item : T) → i < length list → item ≡ get_or list i item → All fits (take i list) → fits item → All fits (take (i + 1) list)
fits_more fits list i item lt is before here = All-more fits list i item lt before (subst fits is here)
