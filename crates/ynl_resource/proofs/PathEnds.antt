-- Paths that are compared from the end.
use Rattle.std.proofs.Common.{◌≡◌, Bool, true, false, ◌&&◌, [], ◌∷◌, ◌++◌, refl, ap, sym, ◌∙◌}
use Rattle.ynl_resource.specs.Names.{Name, Path, same_name, same_path}

and-later : (b : Bool) → false ≡ (b && false)
and-later true = refl
and-later false = refl

and-turned : (a b c : Bool) → (a && (b && c)) ≡ (b && (a && c))
and-turned true b c = refl
and-turned false true c = refl
and-turned false false c = refl

beyond : (p : Path) (x : Name) → same_path (p ++ x ∷ []) [] ≡ false
beyond [] x = refl
beyond (n ∷ p) x = refl

short : (p : Path) (x : Name) → same_path [] (p ++ x ∷ []) ≡ false
short [] x = refl
short (n ∷ p) x = refl

-- two paths are the same where their last names are, and the paths above these
pub same_path-push : (p q : Path) (x y : Name) → same_path (p ++ x ∷ []) (q ++ y ∷ []) ≡ (same_name x y && same_path p q)
same_path-push [] [] x y = refl
same_path-push [] (m ∷ q) x y = ap (λ b. same_name x m && b) (short q y) ∙ (sym (and-later (same_name x m)) ∙ and-later (same_name x y))
same_path-push (n ∷ p) [] x y = ap (λ b. same_name n y && b) (beyond p x) ∙ (sym (and-later (same_name n y)) ∙ and-later (same_name x y))
same_path-push (n ∷ p) (m ∷ q) x y = ap (λ b. same_name n m && b) (same_path-push p q x y) ∙ and-turned (same_name n m) (same_name x y) (same_path p q)

-- the same of two paths whose last names are known
pub ends : (path other : Path) (above over : Path) (name end : Name) → path ≡ above ++ name ∷ [] → other ≡ over ++ end ∷ [] → same_path path other ≡ (same_name name end && same_path above over)
ends path other above over name end e f = ap (λ p. same_path p other) e ∙ (ap (same_path (above ++ name ∷ [])) f ∙ same_path-push above over name end)
