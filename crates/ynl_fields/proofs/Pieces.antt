-- Texts that are added to a text, piece by piece.
use Rattle.std.proofs.Common.{◌≡◌, ◌≤◌, ◌<◌, ◌+◌, ℕ, Result, Ok, Err, OnOk, OnErr, List, [], ◌∷◌, ◌++◌, codes, length, vec_len, vec_capacity, refl, sym, ap, ap₂, subst, ◌∙◌, append_assoc, append-nil, length-append, arith}
use Rattle.std.specs.declared.vec.Vec.{Vec}
use Rattle.std.specs.List.{join_with_byte}
use Rattle.std.proofs.lemmas.Grind.{flat_map-append}
use Rattle.json.specs.Print.{escape, escape_byte}
use Rattle.ynl_resource.proofs.PathTexts.{join_push}

-- what follows from two facts of a success
pub on_both : {T E P Q R : Type 0} (r : Result T E) → (P → Q → R) → OnOk r P → OnOk r Q → OnOk r R
on_both (Ok x) f p q = f p q
on_both (Err e) f p q = tt

-- a piece that is added to nothing is all
pub from_nothing : (old new more : List ℕ) → old ≡ [] → new ≡ old ++ more → new ≡ more
from_nothing old new more none is = is ∙ ap (λ t. t ++ more) none

-- two pieces are one
pub both : (old mid new a b : List ℕ) → mid ≡ old ++ a → new ≡ mid ++ b → new ≡ old ++ (a ++ b)
both old mid new a b first second = second ∙ ap (λ t. t ++ b) first ∙ append_assoc old a b

-- and what follows a piece stands behind it
pub join : (old mid front piece rest new : List ℕ) → mid ≡ old ++ (front ++ piece) → new ≡ mid ++ rest → new ≡ old ++ (front ++ (piece ++ rest))
join old mid front piece rest new first more = both old mid new (front ++ piece) rest first more ∙ ap (λ t. old ++ t) (append_assoc front piece rest)

-- a text whose closing quote begins what follows it is a string
pub quote : (old mid front text rest new : List ℕ) → mid ≡ old ++ (front ++ escape text) → new ≡ mid ++ 34 ∷ rest → new ≡ old ++ (front ++ ((escape text ++ 34 ∷ []) ++ rest))
quote old mid front text rest new first more =
    join old mid front (escape text) (34 ∷ rest) new first more ∙ ap (λ t. old ++ (front ++ t)) (sym (append_assoc (escape text) (34 ∷ []) rest))

-- one name more of a path
pub path_added : (front : List ℕ) (names more : List (List ℕ)) (name old text new : List ℕ) → more ≡ names ++ name ∷ [] → text ≡ old ++ (front ++ escape (join_with_byte 46 (codes "root" ∷ names)))
    → new ≡ text ++ (codes "." ++ escape name) → new ≡ old ++ (front ++ escape (join_with_byte 46 (codes "root" ∷ more)))
unfolding escape_byte
path_added front names more name old text new is so next =
    let before = join_with_byte 46 (codes "root" ∷ names) in
    join old text front (escape before) (codes "." ++ escape name) new so next
    ∙ ap (λ t. old ++ (front ++ t)) (sym (flat_map-append escape_byte before (46 ∷ name)) ∙ ap escape (sym (ap (λ ns. join_with_byte 46 (codes "root" ∷ ns)) is ∙ join_push 46 (codes "root") names name)))

-- with a piece more a text is longer by its length
pub longer_by : {Z : Type 0} (old new : Vec ℕ Z) (piece : List ℕ) → new.items ≡ old.items ++ piece → vec_len new ≡ vec_len old + length piece
longer_by old new piece is = let parts = ap length is ∙ length-append old.items piece in omega (arith, parts, old.ok.0, new.ok.0)

-- ---- where room is missing for a piece, it is missing for each text that the piece is a part of

-- a fact of a failure, whatever failed
pub on_any : {T E P : Type 0} (r : Result T E) → P → OnErr r P
on_any (Ok x) p = tt
on_any (Err e) p = p

-- a text has no room for these bytes
abbrev pub Lacks : {Z : Type 0} → Vec ℕ Z → List ℕ → Type 0
Lacks text bytes = vec_capacity text < vec_len text + length bytes

-- nor for those that begin with them
pub lacks_first : {Z : Type 0} (text : Vec ℕ Z) (piece rest : List ℕ) → Lacks text piece → Lacks text (piece ++ rest)
lacks_first text piece rest h = let parts = length-append piece rest in omega (arith, h, parts)

-- nor for those that end with them, where it has the others
pub lacks_behind : {Z : Type 0} (old mid : Vec ℕ Z) (piece rest : List ℕ) → vec_capacity old ≤ vec_capacity mid → mid.items ≡ old.items ++ piece → Lacks mid rest → Lacks old (piece ++ rest)
lacks_behind old mid piece rest grown is h =
    let long = ap length is in
    let both = length-append old.items piece in
    let parts = length-append piece rest in
    omega (arith, h, grown, long, both, parts, old.ok.0, mid.ok.0)

-- names begin a path that goes on behind them
join_front : (c : ℕ) (x : List ℕ) (xs ys : List (List ℕ)) → (rest : List ℕ) × (join_with_byte c (x ∷ (xs ++ ys)) ≡ join_with_byte c (x ∷ xs) ++ rest)
join_front c x [] [] = ([], sym (append-nil x))
join_front c x [] (y ∷ ys) = (c ∷ join_with_byte c (y ∷ ys), refl)
join_front c x (z ∷ zs) ys = let is = join_front c z zs ys in (is.0, ap (λ l. x ++ (c ∷ l)) is.1 ∙ sym (append_assoc x (c ∷ join_with_byte c (z ∷ zs)) is.0))

-- a text that has no room for the first word of a path has none for the path
pub path_lacks_root : {Z : Type 0} (text : Vec ℕ Z) (front : List ℕ) (names : List (List ℕ)) → Lacks text (front ++ codes "root") → Lacks text (front ++ escape (join_with_byte 46 (codes "root" ∷ names)))
unfolding escape_byte
path_lacks_root text front names h =
    let is = join_front 46 (codes "root") [] names in
    subst (λ t. Lacks text t) (append_assoc front (codes "root") (escape is.0) ∙ ap (λ t. front ++ t) (sym (ap escape is.1 ∙ flat_map-append escape_byte (codes "root") is.0)))
    (lacks_first text (front ++ codes "root") (escape is.0) h)

-- nor has one that has no room for a name behind others
pub path_lacks_name : {Z : Type 0} (old mid : Vec ℕ Z) (front : List ℕ) (names rest : List (List ℕ)) (name : List ℕ) → vec_capacity old ≤ vec_capacity mid
    → mid.items ≡ old.items ++ (front ++ escape (join_with_byte 46 (codes "root" ∷ names))) → Lacks mid (codes "." ++ escape name)
    → Lacks old (front ++ escape (join_with_byte 46 (codes "root" ∷ (names ++ name ∷ rest))))
unfolding escape_byte
path_lacks_name old mid front names rest name grown is h =
    let before = join_with_byte 46 (codes "root" ∷ names) in
    let more = join_front 46 (codes "root") (names ++ name ∷ []) rest in
    let text : join_with_byte 46 (codes "root" ∷ (names ++ name ∷ rest)) ≡ (before ++ 46 ∷ name) ++ more.0 =
    ap (λ ns. join_with_byte 46 (codes "root" ∷ ns)) (sym (append_assoc names (name ∷ []) rest)) ∙ more.1 ∙ ap (λ t. t ++ more.0) (join_push 46 (codes "root") names name) in
    let escaped : escape (join_with_byte 46 (codes "root" ∷ (names ++ name ∷ rest))) ≡ (escape before ++ (codes "." ++ escape name)) ++ escape more.0 =
    ap escape text ∙ flat_map-append escape_byte (before ++ 46 ∷ name) more.0 ∙ ap (λ t. t ++ escape more.0) (flat_map-append escape_byte before (46 ∷ name)) in
    subst (λ t. Lacks old t)
    (ap (λ t. t ++ escape more.0) (append_assoc front (escape before) (codes "." ++ escape name)) ∙ append_assoc front (escape before ++ (codes "." ++ escape name)) (escape more.0)
    ∙ ap (λ t. front ++ t) (sym escaped))
    (lacks_first old ((front ++ escape before) ++ (codes "." ++ escape name)) (escape more.0) (lacks_behind old mid (front ++ escape before) (codes "." ++ escape name) grown is h))
