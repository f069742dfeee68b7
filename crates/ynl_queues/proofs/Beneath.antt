-- What is below a queue is within it, and has a longer path.
use Rattle.std.proofs.Common.{◌≡◌, ◌<◌, ◌≤◌, true, false, not, ◌&&◌, [], ◌∷◌, length, refl, arith}
use Rattle.ynl_resource.specs.declared.paths.Path.{Path}
use Rattle.ynl_resource.specs.Names.{same_name, same_path, is_within}

pub longer : (queue path : Path) → length queue < length path → is_within queue path ≡ (is_within queue path && not (same_path queue path))
longer [] [] h = absurd (omega arith)
longer [] (step ∷ path) h = refl
longer (name ∷ queue) [] h = refl
longer (name ∷ queue) (step ∷ path) h =
    elim (same_name name step) as (λ b. (b && is_within queue path) ≡ ((b && is_within queue path) && not (b && same_path queue path))) [ true ↦ longer queue path (omega arith) | false ↦ refl ]

pub no_longer : (queue path : Path) → length path ≤ length queue → false ≡ (is_within queue path && not (same_path queue path))
no_longer [] [] h = refl
no_longer [] (step ∷ path) h = absurd (omega arith)
no_longer (name ∷ queue) [] h = refl
no_longer (name ∷ queue) (step ∷ path) h =
    elim (same_name name step) as (λ b. false ≡ ((b && is_within queue path) && not (b && same_path queue path))) [ true ↦ no_longer queue path (omega arith) | false ↦ refl ]
