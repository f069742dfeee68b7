-- One step down the tree of queues.
use Rattle.std.proofs.Common.{◌≡◌, ℕ, Bool, true, false, ◌&&◌, List, [], ◌∷◌, ◌++◌, map, fold, refl, ap, ◌∙◌}
use Rattle.std.specs.List.{list_all}
use Rattle.std.proofs.lemmas.List.{map-append}
use Rattle.std.proofs.lemmas.List.Folds.{list_all-append}
use Rattle.ynl_resource.specs.Amounts.{fits_in, scale_floor}
use Rattle.ynl_resource.specs.Names.{root, top_level, way_to}
use Rattle.ynl_resource.specs.Ranges.{whole}
use Rattle.ynl_resource.specs.declared.amounts.Resource.{Resource}
use Rattle.ynl_resource.specs.declared.labels.Label.{Label}
use Rattle.ynl_resource.specs.declared.names.Name.{Name}
use Rattle.ynl_resource.specs.declared.paths.Path.{Path}
use Rattle.ynl_model.specs.Queues.{Config, capacity_on, guaranteed as guaranteed_of, maximum as maximum_of, maximum_on, nested_floor}
use Rattle.ynl_model.specs.Cluster.{State, guaranteed, maximum, total}
use Rattle.ynl_laws.specs.Decided.{below}
use Rattle.ynl_search.specs.notes.Shut.{keeps_maximum}
use Rattle.ynl_search.specs.Places.{can_take}

-- the way to a queue ends with it
pub way-below : (path : Path) (name : Name) → way_to (below path name) ≡ way_to path ++ below path name ∷ []
way-below [] name = refl
way-below (first ∷ path) name =
    ap (λ rest. top_level first ∷ rest)
    (ap (map (λ (queue : Path). first ∷ queue)) (way-below path name) ∙ map-append (λ (queue : Path). first ∷ queue) (way_to path) (below path name ∷ []))

-- a fold over one more is one more step
fold-last : {A B : Type 0} (step : B → A → B) (start : B) (xs : List A) (x : A) → fold step start (xs ++ x ∷ []) ≡ step (fold step start xs) x
fold-last step start [] x = refl
fold-last step start (y ∷ ys) x = fold-last step (step start y) ys x

floor-below : (share : Path → ℕ) (path : Path) (name : Name) (amount : Resource) → nested_floor share (below path name) amount ≡ scale_floor (nested_floor share path amount) (share (below path name)) whole
floor-below share path name amount =
    ap (fold (λ (above : Resource) (step : Path). scale_floor above (share step) whole) amount) (way-below path name)
    ∙ fold-last (λ (above : Resource) (step : Path). scale_floor above (share step) whole) amount (way_to path) (below path name)

-- what root is guaranteed, and may use, is the total
pub guaranteed-root : (c : Config) (s : State) (label : Label) → guaranteed c s root label ≡ total s label
unfolding guaranteed guaranteed_of
guaranteed-root c s label = refl

pub maximum-root : (s : State) (label : Label) → maximum s root label ≡ total s label
unfolding maximum maximum_of
maximum-root s label = refl

-- a queue gets its share of what its parent has
pub guaranteed-below : (c : Config) (s : State) (label : Label) (path : Path) (name : Name)
    → guaranteed c s (below path name) label ≡ scale_floor (guaranteed c s path label) (capacity_on c (below path name) label) whole
unfolding guaranteed guaranteed_of
guaranteed-below c s label path name = floor-below (λ step. capacity_on c step label) path name (total s label)

pub maximum-below : (s : State) (label : Label) (path : Path) (name : Name) → maximum s (below path name) label ≡ scale_floor (maximum s path label) (maximum_on s.maxima (below path name) label) whole
unfolding maximum maximum_of
maximum-below s label path name = floor-below (λ step. maximum_on s.maxima step label) path name (total s label)

-- root alone
pub take-root : (s : State) (label : Label) (free size : Resource) → can_take s label free root size ≡ (fits_in size free && keeps_maximum s label size root)
take-root s label free size = ap (λ b. fits_in size free && b) (alone (keeps_maximum s label size root))
  where
    alone : (b : Bool) → (b && true) ≡ b
    alone true = refl
    alone false = refl

-- a queue takes what its parent takes, and what its own maximum allows
pub take-below : (s : State) (label : Label) (free : Resource) (path : Path) (name : Name) (size : Resource)
    → can_take s label free (below path name) size ≡ (can_take s label free path size && keeps_maximum s label size (below path name))
take-below s label free path name size =
    ap (λ way. fits_in size free && list_all keeps (root ∷ way)) (way-below path name)
    ∙ ap (λ b. fits_in size free && (keeps root && b)) (list_all-append keeps (way_to path) (below path name ∷ []))
    ∙ split (fits_in size free) (keeps root) (list_all keeps (way_to path)) (keeps (below path name))
  where
    keeps : Path → Bool
    keeps = keeps_maximum s label size

    split : (a b d e : Bool) → (a && (b && (d && (e && true)))) ≡ ((a && (b && d)) && e)
    split false b d e = refl
    split true false d e = refl
    split true true false e = refl
    split true true true true = refl
    split true true true false = refl
