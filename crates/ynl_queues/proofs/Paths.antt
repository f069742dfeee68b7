-- Paths of queues.
use Rattle.std.proofs.Common.{◌≡◌, [], ◌∷◌, ◌++◌, refl, ap}
use Rattle.ynl_resource.specs.declared.names.Name.{Name}
use Rattle.ynl_resource.specs.declared.paths.Path.{Path}
use Rattle.ynl_model.specs.Accepted.{parent_of}

-- a path without its last name
pub parent_of-push : (path : Path) (name : Name) → parent_of (path ++ name ∷ []) ≡ path
parent_of-push [] name = refl
parent_of-push (step ∷ []) name = refl
parent_of-push (step ∷ next ∷ path) name = ap (λ p. step ∷ p) (parent_of-push (next ∷ path) name)
