-- Paths by lines and last names.
use Rattle.std.proofs.Common.{◌≡◌, ℕ, zero, suc, ◌<◌, List, [], ◌∷◌, length, map, take, get_or, ext_get_or, Some, refl, sym, ap, ◌∙◌, arith}
use Rattle.std.specs.Prelude.{slice_get, Vec}
use Rattle.std.specs.declared.alloc.Global.{Global}
use Rattle.std.proofs.lemmas.List.{get_or-map, length-map}
use Rattle.std.proofs.lemmas.Option.{slice_get-get_or}
use Rattle.ynl_resource.specs.Names.{root}
use Rattle.ynl_resource.specs.declared.names.Name.{Name}
use Rattle.ynl_resource.specs.declared.paths.Path.{Path}
use Rattle.ynl_model.specs.Service.{last_name}
use Rattle.ynl_inventory.specs.layout.Paths.{AreLines, HasNumber, IsLine, path_at}
use Rattle.ynl_inventory.specs.layout.Building.{name_in, path_by, paths_by}

-- the name at a place of a path is the last of the path up to there
last-taken : (k : ℕ) (path : Path) → k < length path → last_name (take (suc k) path) ≡ get_or path k []
last-taken k [] inside = absurd (omega (arith, inside))
last-taken zero (name ∷ path) inside = refl
last-taken (suc k) (name ∷ []) inside = absurd (omega (arith, inside))
last-taken (suc k) (name ∷ next ∷ path) inside = last-taken k (next ∷ path) (omega (arith, inside))

-- the last name under a number is that of the path there
last-at : (paths : List Path) (n : ℕ) → get_or (map last_name paths) n [] ≡ last_name (get_or paths n root)
last-at [] n = refl
last-at (path ∷ paths) zero = refl
last-at (path ∷ paths) (suc n) = last-at paths n

module _ (paths : List Path) where
  -- the path of a line
  line-path : (n : ℕ) (line : List ℕ) → IsLine paths n line → path_by (map last_name paths) line ≡ path_at paths n
  line-path n [] is = absurd (omega (arith, is.len))
  line-path n (top ∷ rest) is = ext_get_or [] (map name rest) (path_at paths n) (omega (arith, is.len, length-map rest name)) each
    where
      name : ℕ → Name
      name m = get_or ([] ∷ map last_name paths) m []

      each : (k : ℕ) → k < length (map name rest) → get_or (map name rest) k [] ≡ get_or (path_at paths n) k []
      each k inside =
          let within : k < length rest = omega (arith, inside, length-map rest name) in
          get_or-map name rest k 0 [] within ∙ last-at (root ∷ paths) (get_or rest k 0) ∙ ap last_name (is.path (suc k) 0 (omega (arith, within))) ∙ last-taken k (path_at paths n) (omega (arith, within, is.len))

  -- the paths of all lines
  lines-paths : (lines : List (Vec ℕ Global)) → AreLines paths lines → paths_by lines (map last_name paths) ≡ paths
  unfolding paths_by
  lines-paths [] are = absurd (omega (arith, are.many))
  lines-paths (top ∷ rest) are = ext_get_or root (map path rest) paths (omega (arith, are.many, length-map rest path)) each
    where
      path : Vec ℕ Global → Path
      path line = path_by (map last_name paths) line.items

      each : (k : ℕ) → k < length (map path rest) → get_or (map path rest) k root ≡ get_or paths k root
      each k inside =
          let within : k < length rest = omega (arith, inside, length-map rest path) in
          get_or-map path rest k top root within ∙ line-path (suc k) (get_or rest k top).items (are.each (suc k) top (omega (arith, within, are.many)))

  pub same-paths : (lines : List (Vec ℕ Global)) (names : List Name) → AreLines paths lines → names ≡ map last_name paths → paths ≡ paths_by lines names
  same-paths lines names are own = sym (ap (paths_by lines) own ∙ lines-paths lines are)

  -- a queue below root has its last name
  pub named : (names : List Name) → names ≡ map last_name paths → (n : ℕ) → 0 < n → HasNumber paths n → name_in names n ≡ Some (last_name (path_at paths n))
  named names own zero low there = absurd (omega (arith, low))
  named names own (suc k) low there =
      ap (slice_get names) (omega arith) ∙ ap (λ (all : List Name). slice_get all k) own ∙ slice_get-get_or (map last_name paths) k [] (omega (arith, there, length-map paths last_name)) ∙ ap Some (last-at paths k)
