-- Pieces one behind another.
use Rattle.std.proofs.Common.{◌≡◌, ℕ, zero, suc, ◌+◌, ◌-◌, ◌<◌, ◌≤◌, List, [], ◌∷◌, ◌++◌, length, get_or, take, drop, refl, sym, ap, subst, ◌∙◌, arith}
use Rattle.std.proofs.lemmas.List.{take_at, drop_at, length-append, length-drop, length-take, take-append-le, drop-append-le, append-nil, take-append-drop}
use Rattle.ynl_packed.specs.Pieces.{between, pieces_from, AreEnds, start_of}

pub len_pieces : (bytes : List ℕ) (start : ℕ) (ends : List ℕ) → length (pieces_from bytes start ends) ≡ length ends
len_pieces bytes start [] = refl
len_pieces bytes start (end ∷ ends) = ap suc (len_pieces bytes end ends)

-- each place where a piece ends is inside
pub end_inside : (len start : ℕ) (ends : List ℕ) → AreEnds len start ends → start ≤ len
end_inside len start [] h = omega (arith, h)
end_inside len start (end ∷ ends) h = omega (arith, h.0, end_inside len end ends h.1)

-- what is put behind the bytes does not move what stands before
between_more : (bytes more : List ℕ) (start end : ℕ) → start ≤ end → end ≤ length bytes → between (bytes ++ more) start end ≡ between bytes start end
between_more bytes more start end le inside =
    rw (drop-append-le start bytes more (omega (arith, le, inside)), take-append-le (end - start) (drop start bytes) more (omega (arith, length-drop start bytes, le, inside))) refl

-- all of a list
whole : (xs : List ℕ) → take (length xs) xs ≡ xs
whole xs = ap (take (length xs)) (sym (append-nil xs)) ∙ take_at xs [] (length xs) refl

between_last : (bytes more : List ℕ) → between (bytes ++ more) (length bytes) (length (bytes ++ more)) ≡ more
between_last bytes more =
    rw (drop_at bytes more (length bytes) refl) (ap (λ (n : ℕ). take n more) (omega (arith, length-append bytes more)) ∙ whole more)

pub pieces_push : (bytes more : List ℕ) (start : ℕ) (ends : List ℕ) → AreEnds (length bytes) start ends →
    pieces_from (bytes ++ more) start (ends ++ length (bytes ++ more) ∷ []) ≡ pieces_from bytes start ends ++ more ∷ []
pieces_push bytes more start [] h = rw (h) (ap (λ (piece : List ℕ). piece ∷ []) (between_last bytes more))
pieces_push bytes more start (end ∷ ends) h =
    rw (between_more bytes more start end h.0 (end_inside (length bytes) end ends h.1), pieces_push bytes more end ends h.1) refl

pub ends_push : (len more start : ℕ) (ends : List ℕ) → AreEnds len start ends → len ≤ more → AreEnds more start (ends ++ more ∷ [])
ends_push len more start [] h le = (omega (arith, h, le), refl)
ends_push len more start (end ∷ ends) h le = (h.0, ends_push len more end ends h.1 le)

start_next : (start end : ℕ) (ends : List ℕ) (i : ℕ) → start_of end ends i ≡ start_of start (end ∷ ends) (suc i)
start_next start end ends zero = refl
start_next start end ends (suc i) = refl

pub piece_at : (bytes : List ℕ) (start : ℕ) (ends : List ℕ) (i : ℕ) (d : List ℕ) → i < length ends →
    get_or (pieces_from bytes start ends) i d ≡ between bytes (start_of start ends i) (get_or ends i 0)
piece_at bytes start [] i d lt = absurd (omega (arith, lt))
piece_at bytes start (end ∷ ends) zero d lt = refl
piece_at bytes start (end ∷ ends) (suc i) d lt = subst (λ (s : ℕ). get_or (pieces_from bytes end ends) i d ≡ between bytes s (get_or ends i 0)) (start_next start end ends i) (piece_at bytes end ends i d (omega (arith, lt)))

-- where a piece begins and ends is inside
pub record IsInside (len start : ℕ) (ends : List ℕ) (i : ℕ) : Type 0 where
  pub order : start_of start ends i ≤ get_or ends i 0
  pub end : get_or ends i 0 ≤ len

pub place_inside : (len start : ℕ) (ends : List ℕ) (i : ℕ) → i < length ends → AreEnds len start ends → IsInside len start ends i
place_inside len start [] i lt h = absurd (omega (arith, lt))
place_inside len start (end ∷ ends) zero lt h = record { order = h.0; end = end_inside len end ends h.1 }
place_inside len start (end ∷ ends) (suc i) lt h =
    let rest = place_inside len end ends i (omega (arith, lt)) h.1 in
    record { order = subst (λ (s : ℕ). s ≤ get_or ends i 0) (start_next start end ends i) rest.order; end = rest.end }

-- ---- the front of them

pub start_inside : (len start : ℕ) (ends : List ℕ) (i : ℕ) → i ≤ length ends → AreEnds len start ends → start_of start ends i ≤ len
start_inside len start ends zero le h = end_inside len start ends h
start_inside len start [] (suc i) le h = absurd (omega (arith, le))
start_inside len start (end ∷ ends) (suc i) le h = subst (λ (s : ℕ). s ≤ len) (start_next start end ends i) (start_inside len end ends i (omega (arith, le)) h.1)

pub ends_take : (len start : ℕ) (ends : List ℕ) (n : ℕ) → n ≤ length ends → AreEnds len start ends → AreEnds (start_of start ends n) start (take n ends)
ends_take len start ends zero le h = refl
ends_take len start [] (suc n) le h = absurd (omega (arith, le))
ends_take len start (end ∷ ends) (suc n) le h = (h.0, subst (λ (s : ℕ). AreEnds s end (take n ends)) (start_next start end ends n) (ends_take len end ends n (omega (arith, le)) h.1))

-- each piece of the front lies in front of where that ends
pieces_take_upto : (bytes : List ℕ) (upto start : ℕ) (ends : List ℕ) → upto ≤ length bytes → AreEnds upto start ends → pieces_from (take upto bytes) start ends ≡ pieces_from bytes start ends
pieces_take_upto bytes upto start [] le h = refl
pieces_take_upto bytes upto start (end ∷ ends) le h =
    let same : between (take upto bytes) start end ≡ between bytes start end =
    sym (between_more (take upto bytes) (drop upto bytes) start end h.0 (omega (arith, end_inside upto end ends h.1, length-take upto bytes, le))) ∙ ap (λ (all : List ℕ). between all start end) (take-append-drop upto bytes) in
    rw (same, pieces_take_upto bytes upto end ends le h.1) refl

take_pieces : (bytes : List ℕ) (start : ℕ) (ends : List ℕ) (n : ℕ) → pieces_from bytes start (take n ends) ≡ take n (pieces_from bytes start ends)
take_pieces bytes start ends zero = refl
take_pieces bytes start [] (suc n) = refl
take_pieces bytes start (end ∷ ends) (suc n) = ap (λ (rest : List (List ℕ)). between bytes start end ∷ rest) (take_pieces bytes end ends n)

pub pieces_take : (bytes : List ℕ) (ends : List ℕ) (n : ℕ) → n ≤ length ends → AreEnds (length bytes) 0 ends → pieces_from (take (start_of 0 ends n) bytes) 0 (take n ends) ≡ take n (pieces_from bytes 0 ends)
pieces_take bytes ends n le h =
    pieces_take_upto bytes (start_of 0 ends n) 0 (take n ends) (start_inside (length bytes) 0 ends n le h) (ends_take (length bytes) 0 ends n le h) ∙ take_pieces bytes 0 ends n
