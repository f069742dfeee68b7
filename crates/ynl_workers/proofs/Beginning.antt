-- Workers that begin, and what each of them did.
use Rattle.std.proofs.Common.{◌≡◌, ℕ, ◌<◌, refl, sym, ap, ◌∙◌, arith, List, [], ◌∷◌, ◌++◌, length, get_or, take, drop, subst, append_assoc, append-nil, Vec, Global}
use Rattle.std.specs.Prelude.{map}
use Rattle.std.proofs.lemmas.List.{get_or-map, length-map, take_all, drop_all}
use Rattle.std.proofs.lemmas.Option.{slice_get_within, get_or_from_slice_get}
use Rattle.ynl_resource.specs.declared.names.Name.{Name}
use Rattle.ynl_live.specs.Seats.{Standing}
use Rattle.ynl_workers.specs.declared.working.WorkerEnd.{WorkerEnd}
use Rattle.ynl_workers.specs.Rounds.{IsWorkOf, IsRound}

-- the seats of workers
abbrev seats_of : List WorkerEnd → List Standing
seats_of ends = map (λ w. w.seat) ends

-- one worker more has one seat more
seats_of-push : (ends : List WorkerEnd) (w : WorkerEnd) → seats_of (ends ++ w ∷ []) ≡ seats_of ends ++ w.seat ∷ []
seats_of-push [] w = refl
seats_of-push (e ∷ es) w = ap (λ (xs : List Standing). e.seat ∷ xs) (seats_of-push es w)

-- one seat more has its worker
pub seats_move : (ends now : List WorkerEnd) (w : WorkerEnd) (rest left all : List Standing) → now ≡ ends ++ w ∷ [] → rest ≡ w.seat ∷ left → map (λ x. x.seat) ends ++ rest ≡ all → map (λ x. x.seat) now ++ left ≡ all
seats_move ends now w rest left all is next seats =
    ap (λ (es : List WorkerEnd). seats_of es ++ left) is ∙ ap (λ (xs : List Standing). xs ++ left) (seats_of-push ends w) ∙ append_assoc (seats_of ends) (w.seat ∷ []) left ∙ ap (λ (xs : List Standing). seats_of ends ++ xs) (sym next) ∙ seats

-- the round, from what is known at each index
pub IsRound-from_each : (free : Type 0) (seats : List Standing) (lists : List (Vec Name Global)) (old now : List WorkerEnd) → map (λ x. x.seat) old ≡ seats → ((k : ℕ) (d : WorkerEnd) (e : Vec Name Global) → k < length old → IsWorkOf free (get_or old k d).seat (get_or lists k e).items (get_or now k d)) → IsRound free seats lists now
IsRound-from_each free seats lists old now seats_are each k s v w is_s is_v is_w =
    let len : length old ≡ length seats = sym (length-map old (λ (x : WorkerEnd). x.seat)) ∙ ap length seats_are in
    let below = slice_get_within seats k s is_s in
    let inside : k < length old = omega arith in
    let seat : (get_or old k w).seat ≡ s = sym (get_or-map (λ (x : WorkerEnd). x.seat) old k w s inside) ∙ ap (λ (xs : List Standing). get_or xs k s) seats_are ∙ get_or_from_slice_get seats k s s is_s in
    let nodes : get_or lists k v ≡ v = get_or_from_slice_get lists k v v is_v in
    let end : get_or now k w ≡ w = get_or_from_slice_get now k w w is_w in
    let A : Standing → Type 0 = λ x. IsWorkOf free x (get_or lists k v).items (get_or now k w) in
    let B : Vec Name Global → Type 0 = λ x. IsWorkOf free s x.items (get_or now k w) in
    let C : WorkerEnd → Type 0 = λ x. IsWorkOf free s v.items x in
    subst C end (subst B nodes (subst A seat (each k w v inside)))

-- a list that was written whole
pub whole_written : (n : ℕ) (now items : List WorkerEnd) → length now ≡ length items → n ≡ length items → take n (now ++ drop (length now) items) ≡ now
whole_written n now items len is =
    ap (λ (xs : List WorkerEnd). take n (now ++ xs)) (drop_all (length now) items (omega arith)) ∙ ap (λ (xs : List WorkerEnd). take n xs) (append-nil now) ∙ take_all n now (omega arith)
