-- The queues on the way to a queue are its first names, one more at each step.
use Rattle.std.proofs.Common.{◌≡◌, ℕ, zero, suc, ◌+◌, ◌<◌, ◌≤◌, List, [], ◌∷◌, ◌++◌, length, take, map, fold, refl, sym, ap, ◌∙◌, arith, add-one}
use Rattle.std.proofs.lemmas.List.{take-map, map_push, take_all}
use Rattle.ynl_resource.specs.declared.names.Name.{Name}
use Rattle.ynl_resource.specs.declared.paths.Path.{Path}
use Rattle.ynl_resource.specs.Names.{way_to, top_level}

abbrev below : Name → Path → Path
below name path = name ∷ path

way_step : (path : Path) (k : ℕ) → k < length path → take (suc k) (way_to path) ≡ take k (way_to path) ++ take (suc k) path ∷ []
way_step [] k h = absurd (omega arith)
way_step (name ∷ path) zero h = refl
way_step (name ∷ path) (suc k) h =
    ap (λ ys. top_level name ∷ ys)
    (take-map (below name) (suc k) (way_to path)
    ∙ ap (map (below name)) (way_step path k (omega arith))
    ∙ map_push (below name) (take k (way_to path)) (take (suc k) path)
    ∙ ap (λ ys. ys ++ (name ∷ take (suc k) path) ∷ []) (sym (take-map (below name) k (way_to path))))

-- one step more
pub way_more : (path : Path) (k : ℕ) → k < length path → take (k + 1) (way_to path) ≡ take k (way_to path) ++ take (k + 1) path ∷ []
way_more path k h = rw add-one (way_step path k h)

length-map : {A B : Type 0} (f : A → B) (xs : List A) → length (map f xs) ≡ length xs
length-map f [] = refl
length-map f (x ∷ xs) = ap suc (length-map f xs)

-- as many steps as names
pub length_way : (path : Path) → length (way_to path) ≡ length path
length_way [] = refl
length_way (name ∷ path) = ap suc (length-map (below name) (way_to path) ∙ length_way path)

-- past the last step are all steps
pub way_end : (path : Path) (k : ℕ) → length path ≤ k → take k (way_to path) ≡ way_to path
way_end path k h = take_all k (way_to path) (omega (arith, length_way path))

fold-last : {A B : Type 0} (f : B → A → B) (b : B) (xs : List A) (x : A) → fold f b (xs ++ x ∷ []) ≡ f (fold f b xs) x
fold-last f b [] x = refl
fold-last f b (y ∷ xs) x = fold-last f (f b y) xs x

-- what is folded over the steps, with one step more
pub way_fold : {B : Type 0} (f : B → Path → B) (b : B) (path : Path) (k : ℕ) → k < length path → fold f b (take (k + 1) (way_to path)) ≡ f (fold f b (take k (way_to path))) (take (k + 1) path)
way_fold f b path k h = ap (fold f b) (way_more path k h) ∙ fold-last f b (take k (way_to path)) (take (k + 1) path)
