-- One share of the lists is written.
use Rattle.std.proofs.Common.{◌≡◌, ℕ, zero, suc, ◌<◌, List, [], ◌∷◌, map, length, get_or, set, Vec, sym, ap, subst, ◌∙◌, arith}
use Rattle.std.specs.Global.{Global}
use Rattle.std.proofs.lemmas.List.{length-map}
use Rattle.ynl_inventory.specs.declared.layout.settings.shares.Share.{Share}
use Rattle.ynl_inventory.specs.layout.settings.Shares.{with_at}

-- an element that is written is what stood there, changed
pub set-at : {X : Type 0} (q : ℕ) (xs : List X) (old new : X) (change : X → X) → q < length xs → old ≡ get_or xs q old → new ≡ change old → set xs q new ≡ with_at q change xs
set-at q [] old new change inside is made = absurd (omega (arith, inside))
set-at zero (x ∷ xs) old new change inside is made = ap (λ y. y ∷ xs) (made ∙ ap change is)
set-at (suc q) (x ∷ xs) old new change inside is made = ap (λ ys. x ∷ ys) (set-at q xs old new change (omega (arith, inside)) is made)

-- so is a row
pub set-row : (p : ℕ) (rows : List (Vec Share Global)) (old new : Vec Share Global) (change : List Share → List Share) → p < length rows → old ≡ get_or rows p old → new.items ≡ change old.items
    → map (λ (row : Vec Share Global). row.items) (set rows p new) ≡ with_at p change (map (λ (row : Vec Share Global). row.items) rows)
set-row p [] old new change inside is made = absurd (omega (arith, inside))
set-row zero (row ∷ rows) old new change inside is made = ap (λ us. us ∷ map (λ (row : Vec Share Global). row.items) rows) (made ∙ ap (λ (r : Vec Share Global). change r.items) is)
set-row (suc p) (row ∷ rows) old new change inside is made = ap (λ us. row.items ∷ us) (set-row p rows old new change (omega (arith, inside)) is made)

-- there are as many rows as lists, and each is as long
pub inside-rows : (p : ℕ) (rows : List (Vec Share Global)) (lists : List (List Share)) → map (λ (row : Vec Share Global). row.items) rows ≡ lists → p < length lists → p < length rows
inside-rows p rows lists is inside = subst (λ (n : ℕ). p < n) (ap length (sym is) ∙ length-map rows (λ (row : Vec Share Global). row.items)) inside

pub row-is : (p : ℕ) (rows : List (Vec Share Global)) (lists : List (List Share)) (row : Vec Share Global) → map (λ (row : Vec Share Global). row.items) rows ≡ lists → p < length rows → row ≡ get_or rows p row → get_or lists p [] ≡ row.items
row-is p rows lists row is inside at = ap (λ (ls : List (List Share)). get_or ls p []) (sym is) ∙ go p rows inside at
  where
    go : (p : ℕ) (rows : List (Vec Share Global)) → p < length rows → row ≡ get_or rows p row → get_or (map (λ (row : Vec Share Global). row.items) rows) p [] ≡ row.items
    go p [] inside at = absurd (omega (arith, inside))
    go zero (r ∷ rs) inside at = ap (λ (v : Vec Share Global). v.items) (sym at)
    go (suc p) (r ∷ rs) inside at = go p rs (omega (arith, inside)) at
