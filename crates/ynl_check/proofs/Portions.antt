-- What a queue has of a partition is a part of what its parent has.
use Rattle.std.proofs.Common.{◌≡◌, ℕ, ◌+◌, ◌*◌, ◌/◌, ◌<◌, List, [], ◌∷◌, length, take, map, fold, refl, sym, ap, ◌∙◌, arith}
use Rattle.std.proofs.lemmas.List.{take-map, take_all}
use Rattle.ynl_resource.specs.declared.amounts.Resource.{Resource}
use Rattle.ynl_resource.specs.declared.names.Name.{Name}
use Rattle.ynl_resource.specs.declared.labels.Label.{Label}
use Rattle.ynl_resource.specs.declared.paths.Path.{Path}
use Rattle.ynl_resource.specs.Amounts.{scale_floor}
use Rattle.ynl_resource.specs.Names.{way_to, top_level}
use Rattle.ynl_resource.specs.Ranges.{whole}
use Rattle.ynl_model.specs.Accepted.{parent_of}
use Rattle.ynl_model.specs.Queues.{Config, capacity_on, configured_maximum, guaranteed, nested_floor}
use Rattle.ynl_queues.proofs.Prefixes.{way_fold, way_end}
use Rattle.ynl_check.specs.Tree.{share, most, millions}

below : Name → Path → Path
below name path = name ∷ path

-- all steps but the last lead to the parent
way_above : (name : Name) (path : Path) → take (length path) (way_to (name ∷ path)) ≡ way_to (parent_of (name ∷ path))
unfolding below
way_above name [] = refl
way_above name (next ∷ path) =
    ap (λ (ys : List Path). top_level name ∷ ys) (take-map (below name) (length path) (way_to (next ∷ path)) ∙ ap (map (below name)) (way_above next path))

-- what reaches a queue is what reaches its parent, with one step more
floor_below : (f : Path → ℕ) (amount : Resource) (name : Name) (path : Path)
    → nested_floor f (name ∷ path) amount ≡ scale_floor (nested_floor f (parent_of (name ∷ path)) amount) (f (name ∷ path)) whole
floor_below f amount name path =
    let step : Resource → Path → Resource = λ above queue. scale_floor above (f queue) whole in
    let n = length path in
    ap (fold step amount) (sym (way_end (name ∷ path) (n + 1) (omega arith)))
    ∙ way_fold step amount (name ∷ path) n (omega arith)
    ∙ ap (λ (way : List Path). step (fold step amount way) (take (n + 1) (name ∷ path))) (way_above name path)
    ∙ ap (step (fold step amount (way_to (parent_of (name ∷ path))))) (take_all (n + 1) (name ∷ path) (omega arith))

pub share_below : (c : Config) (path : Path) (label : Label) → 0 < length path → share c path label ≡ share c (parent_of path) label * capacity_on c path label / whole
unfolding guaranteed
share_below c [] label some = absurd (omega arith)
share_below c (name ∷ path) label some = ap (λ (r : Resource). r.memory) (floor_below (λ step. capacity_on c step label) millions name path)

pub most_below : (c : Config) (path : Path) (label : Label) → 0 < length path → most c path label ≡ most c (parent_of path) label * configured_maximum c path label / whole
most_below c [] label some = absurd (omega arith)
most_below c (name ∷ path) label some = ap (λ (r : Resource). r.memory) (floor_below (λ step. configured_maximum c step label) millions name path)
