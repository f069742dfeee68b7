-- The queues on the line to a queue stand one below the other.
use Rattle.std.proofs.Common.{◌≡◌, ℕ, zero, suc, ◌-◌, ◌<◌, ◌≤◌, List, [], ◌∷◌, length, take, get_or, refl, sym, ap, subst, ◌∙◌, arith}
use Rattle.ynl_resource.specs.declared.paths.Path.{Path}
use Rattle.ynl_model.specs.Service.{last_name}
use Rattle.ynl_laws.specs.Decided.{below}
use Rattle.ynl_inventory.specs.layout.Paths.{IsChild, IsLine, path_at}
use Rattle.ynl_inventory.proofs.layout.Lines.{parted}

take-take : (k : ℕ) (path : Path) → take k (take (suc k) path) ≡ take k path
take-take zero path = refl
take-take (suc k) [] = refl
take-take (suc k) (name ∷ path) = ap (λ xs. name ∷ xs) (take-take k path)

length-take : (k : ℕ) (path : Path) → k ≤ length path → length (take k path) ≡ k
length-take zero path h = refl
length-take (suc k) [] h = absurd (omega (arith, h))
length-take (suc k) (name ∷ path) h = ap suc (length-take k path (omega (arith, h)))

module _ (paths : List Path) (n : ℕ) (line : List ℕ) (is : IsLine paths n line) where
  abbrev way : Path
  way = path_at paths n

  -- each stands below the one before
  one-below : (k : ℕ) → suc k < length line → IsChild paths (get_or line k 0) (get_or line (suc k) 0)
  one-below k inside = record {
    there = is.there (suc k) 0 inside;
    path =
        parted k (path_at paths (get_or line (suc k) 0)) (ap length (is.path (suc k) 0 inside) ∙ length-take (suc k) way (omega (arith, inside, is.len)) ∙ omega arith)
        ∙ ap (λ path. below path (last_name (path_at paths (get_or line (suc k) 0))))
        (ap (take k) (is.path (suc k) 0 inside) ∙ take-take k way ∙ sym (is.path k 0 (omega (arith, inside))));
  }

  pub next-below : (at : ℕ) → 1 ≤ at → at < length line → IsChild paths (get_or line (at - 1) 0) (get_or line at 0)
  next-below zero some inside = absurd (omega (arith, some))
  next-below (suc k) some inside = subst (λ m. IsChild paths (get_or line m 0) (get_or line (suc k) 0)) (omega arith) (one-below k inside)
