-- The ways to queues, root not among them.
use Rattle.std.proofs.Common.{◌≡◌, ◌≢◌, ℕ, zero, suc, ◌-◌, ◌<◌, List, [], ◌∷◌, length, take, drop, refl, sym, ap, ◌∙◌, arith}
use Rattle.std.specs.List.{AllByRecursion}
use Rattle.ynl_resource.specs.Names.{root}
use Rattle.ynl_resource.specs.declared.paths.Path.{Path}
use Rattle.ynl_laws.specs.Ways.{IsWay}
use Rattle.ynl_inventory.specs.layout.Paths.{HasNumber, is_above, IsLine, IsTree}
use Rattle.ynl_inventory.proofs.layout.settings.SharesMean.{IsBelowRoot}

take-own : (ns : List ℕ) → take (length ns) ns ≡ ns
take-own [] = refl
take-own (n ∷ ns) = ap (λ rest. n ∷ rest) (take-own ns)

-- a line begins at root
pub line-begins : (paths : List Path) → IsTree paths → (q : ℕ) (line : List ℕ) → IsLine paths q line → line ≡ 0 ∷ take (length line - 1) (drop 1 line)
line-begins paths tree q [] is = absurd (omega (arith, is.len))
line-begins paths tree q (n ∷ ns) is =
    ap (λ m. m ∷ ns) (tree.apart n 0 (is.there 0 0 (omega arith)) (omega arith) (is.path 0 0 (omega arith)))
    ∙ ap (λ rest. 0 ∷ rest) (sym (ap (λ k. take k ns) (one-less (length ns)) ∙ take-own ns))
  where
    one-less : (k : ℕ) → suc k - 1 ≡ k
    one-less k = omega arith

above-none : (n : ℕ) → 0 ≢ n → 0 < n
above-none zero apart = absurd (apart refl)
above-none (suc n) apart = omega arith

each-below : (paths : List Path) (way : List ℕ) → AllByRecursion (λ n. 0 ≢ n) way → AllByRecursion (HasNumber paths) way → AllByRecursion (IsBelowRoot paths) way
each-below paths [] apart inside = tt
each-below paths (n ∷ way) apart inside = ((above-none n apart.0, inside.0), each-below paths way apart.1 inside.1)

-- the other queues of a line stand below root
pub way-below : (paths : List Path) (q : ℕ) (way : List ℕ) → IsWay (root ∷ paths) (is_above paths q) (0 ∷ way) → AllByRecursion (IsBelowRoot paths) way
way-below paths q way is = each-below paths way is.apart.0 is.inside.1
