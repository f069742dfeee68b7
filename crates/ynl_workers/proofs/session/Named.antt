-- Of the nodes of a cluster, one has a name that is there, and none has any other.
use Rattle.std.proofs.Common.{◌≡◌, Bool, true, false, cond, ℕ, ◌+◌, List, [], ◌∷◌, Some, arith, refl, sym, ap, ◌∙◌}
use Rattle.std.specs.List.{AllByRecursion}
use Rattle.std.specs.Prelude.{count_by, is_some, map}
use Rattle.std.proofs.lemmas.List.Sums.{sum_by-cons}
use mathlib.Core.Bool.{true≢false}
use Rattle.ynl_resource.specs.Names.{same_name}
use Rattle.ynl_resource.specs.declared.names.Name.{Name}
use Rattle.ynl_model.specs.declared.nodes.Node.{Node}
use Rattle.ynl_model.specs.declared.nodes.Tracked.{Tracked}
use Rattle.ynl_model.specs.Promises.{without_stamp}
use Rattle.ynl_model.specs.View.{is_there, tracked}
use Rattle.ynl_laws.specs.Working.{Apart}
use Rattle.ynl_laws.proofs.Lists.{Each-weaker}
use Rattle.ynl_laws.proofs.Names.{same-name_sym, same-name_self}

abbrev times : Name → List Tracked → ℕ
times name nodes = count_by (λ node. same_name node.name name) nodes

more : (name : Name) (node : Tracked) (nodes : List Tracked) → times name (node ∷ nodes) ≡ cond (same_name node.name name) 1 0 + times name nodes
more name node nodes = sum_by-cons (λ (other : Tracked). cond (same_name other.name name) 1 0) node nodes

none : (name : Name) (nodes : List Tracked) → AllByRecursion (λ node. same_name node.name name ≡ false) nodes → times name nodes ≡ 0
none name [] h = refl
none name (node ∷ nodes) h = more name node nodes ∙ (λ i. cond {A = ℕ} (h.0 i) 1 0 + none name nodes h.1 i)

-- beside a node of this name no other has it
others : (name : Name) (node other : Tracked) → same_name node.name name ≡ true → same_name node.name other.name ≡ false → same_name other.name name ≡ false
others name node other is off = go (same_name other.name name) refl
  where
    go : (b : Bool) → same_name other.name name ≡ b → same_name other.name name ≡ false
    go false e = e
    go true e =
        let same : node.name ≡ other.name = same-name_sym node.name name is ∙ sym (same-name_sym other.name name e) in
        absurd (true≢false (sym (same-name_self node.name) ∙ ap (same_name node.name) same ∙ off))

pub once : (name : Name) (nodes : List Tracked) → Apart nodes → times name nodes ≡ cond (is_there nodes name) 1 0
once name [] h = refl
once name (node ∷ nodes) h = more name node nodes ∙ go (same_name node.name name) refl (once name nodes h.1)
  where
    go : (b : Bool) → same_name node.name name ≡ b → times name nodes ≡ cond (is_there nodes name) 1 0
        → cond b 1 0 + times name nodes ≡ cond (is_some (cond b (Some node) (tracked nodes name))) 1 0
    go true e rest = let zero = none name nodes (Each-weaker _ _ (λ other off. others name node other e off) nodes h.0) in omega (arith, zero)
    go false e rest = omega (arith, rest)

-- a node has its name with its stamp and without
pub names-unstamped : (nodes : List Node) → map (λ node. node.name) nodes ≡ map (λ node. node.name) (map without_stamp nodes)
names-unstamped [] = refl
names-unstamped (node ∷ nodes) = ap (λ names. node.name ∷ names) (names-unstamped nodes)
