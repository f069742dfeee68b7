-- What containers use of a node, and what that leaves free.
use Rattle.std.proofs.Common.{◌≡◌, ◌≤◌, ◌+◌, ◌-◌, ℕ, Bool, true, false, cond, not, nat_le, List, [], ◌∷◌, ◌++◌, filter, Some, nat_eq, refl, sym, ap, subst, ◌∙◌, arith}
use Rattle.std.specs.Map.{lookup}
use Rattle.std.proofs.lemmas.Bool.{and_from, and_parts}
use Rattle.std.proofs.lemmas.Bool.Decides.{nat_tests}
use Rattle.std.proofs.lemmas.Option.{none-some, same_Some}
use Rattle.ynl_slots.specs.Slots.{HasDistinctNumbers, IsUnused, without}
use Rattle.ynl_slots.proofs.Entries.{without-unused}
use Rattle.ynl_resource.specs.Amounts.{nothing, plus, less, fits_in, total_of, IsSmall}
use Rattle.ynl_resource.specs.declared.amounts.Resource.{Resource}
use Rattle.ynl_tables.specs.declared.containers.container.Container.{Container}
use Rattle.ynl_inventory.specs.Parts.{used_of}

plus-nothing : (a : Resource) → plus nothing a ≡ a
plus-nothing a = λ i. record { memory = memory i; vcores = vcores i }
  where
    memory : 0 + a.memory ≡ a.memory
    memory = omega arith

    vcores : 0 + a.vcores ≡ a.vcores
    vcores = omega arith

pub nothing-plus : (a : Resource) → plus a nothing ≡ a
nothing-plus a = λ i. record { memory = memory i; vcores = vcores i }
  where
    memory : a.memory + 0 ≡ a.memory
    memory = omega arith

    vcores : a.vcores + 0 ≡ a.vcores
    vcores = omega arith

plus-assoc : (a b d : Resource) → plus a (plus b d) ≡ plus (plus a b) d
plus-assoc a b d = λ i. record { memory = memory i; vcores = vcores i }
  where
    memory : a.memory + (b.memory + d.memory) ≡ a.memory + b.memory + d.memory
    memory = omega arith

    vcores : a.vcores + (b.vcores + d.vcores) ≡ a.vcores + b.vcores + d.vcores
    vcores = omega arith

plus-comm : (a b : Resource) → plus a b ≡ plus b a
plus-comm a b = λ i. record { memory = memory i; vcores = vcores i }
  where
    memory : a.memory + b.memory ≡ b.memory + a.memory
    memory = omega arith

    vcores : a.vcores + b.vcores ≡ b.vcores + a.vcores
    vcores = omega arith

nat_is : (a b : ℕ) → nat_eq a b ≡ true → a ≡ b
nat_is a b h = grind (arith, nat_tests, h)

-- what is left twice is what is left of both
pub less-twice : (a b d : Resource) → less (less a b) d ≡ less a (plus b d)
less-twice a b d = λ i. record { memory = memory i; vcores = vcores i }
  where
    memory : a.memory - b.memory - d.memory ≡ a.memory - (b.memory + d.memory)
    memory = omega arith

    vcores : a.vcores - b.vcores - d.vcores ≡ a.vcores - (b.vcores + d.vcores)
    vcores = omega arith

-- one more container uses its node
pub used-push : (node number : ℕ) (c : Container) (es : List (ℕ × Container)) → used_of (es ++ (number, c) ∷ []) node ≡ plus (used_of es node) (cond (nat_eq c.node node) c.size nothing)
used-push node number c [] = go (nat_eq c.node node)
  where
    go : (b : Bool) → total_of (λ (e : ℕ × Container). e.1.size) (cond b ((number, c) ∷ []) []) ≡ plus nothing (cond b c.size nothing)
    go true = nothing-plus c.size ∙ sym (plus-nothing c.size)
    go false = sym (plus-nothing nothing)
used-push node number c (e ∷ es) = go (nat_eq e.1.node node) (used-push node number c es)
  where
    go : (b : Bool) → used_of (es ++ (number, c) ∷ []) node ≡ plus (used_of es node) (cond (nat_eq c.node node) c.size nothing)
        → total_of (λ (e : ℕ × Container). e.1.size) (cond b (e ∷ filter (λ e. nat_eq e.1.node node) (es ++ (number, c) ∷ [])) (filter (λ e. nat_eq e.1.node node) (es ++ (number, c) ∷ [])))
        ≡ plus (total_of (λ (e : ℕ × Container). e.1.size) (cond b (e ∷ filter (λ e. nat_eq e.1.node node) es) (filter (λ e. nat_eq e.1.node node) es))) (cond (nat_eq c.node node) c.size nothing)
    go true k = ap (plus e.1.size) k ∙ plus-assoc e.1.size (used_of es node) (cond (nat_eq c.node node) c.size nothing)
    go false k = k

le-of : (a b : ℕ) → nat_le a b ≡ true → a ≤ b
le-of a b h = grind (arith, nat_tests, h)

of-le : (a b : ℕ) → a ≤ b → nat_le a b ≡ true
of-le a b h = grind (arith, nat_tests, h)

-- an amount that fits part by part
pub fits-parts : (a b : Resource) → fits_in a b ≡ true → (a.memory ≤ b.memory) × (a.vcores ≤ b.vcores)
fits-parts a b h =
    let both = and_parts (nat_le a.memory b.memory) (nat_le a.vcores b.vcores) h in (le-of a.memory b.memory both.0, le-of a.vcores b.vcores both.1)

pub parts-fit : (a b : Resource) → a.memory ≤ b.memory → a.vcores ≤ b.vcores → fits_in a b ≡ true
parts-fit a b memory vcores = and_from (nat_le a.memory b.memory) (nat_le a.vcores b.vcores) (of-le a.memory b.memory memory) (of-le a.vcores b.vcores vcores)

-- what fits in what is left fits with what is used
pub fits-left : (used more whole : Resource) → fits_in used whole ≡ true → fits_in more (less whole used) ≡ true → fits_in (plus used more) whole ≡ true
fits-left used more whole h k =
    let one = fits-parts used whole h in
    let two = fits-parts more (less whole used) k in
    parts-fit (plus used more) whole (omega (arith, one.0, two.0)) (omega (arith, one.1, two.1))

-- what is given back is free again
pub given-back : (whole used one : Resource) → fits_in (plus used one) whole ≡ true → plus (less whole (plus used one)) one ≡ less whole used
given-back whole used one h = λ i. record { memory = memory i; vcores = vcores i }
  where
    fit : (used.memory + one.memory ≤ whole.memory) × (used.vcores + one.vcores ≤ whole.vcores)
    fit = fits-parts (plus used one) whole h

    memory : whole.memory - (used.memory + one.memory) + one.memory ≡ whole.memory - used.memory
    memory = omega (arith, fit.0)

    vcores : whole.vcores - (used.vcores + one.vcores) + one.vcores ≡ whole.vcores - used.vcores
    vcores = omega (arith, fit.1)

-- and less is used
pub fits-less : (whole used one : Resource) → fits_in (plus used one) whole ≡ true → fits_in used whole ≡ true
fits-less whole used one h = let fit = fits-parts (plus used one) whole h in parts-fit used whole (omega (arith, fit.0)) (omega (arith, fit.1))

-- what is free of a small node is small with what it gives back
pub small-back : (whole used one : Resource) → fits_in (plus used one) whole ≡ true → IsSmall whole → IsSmall (plus (less whole (plus used one)) one)
small-back whole used one h small =
    let fit = fits-parts (plus used one) whole h in (omega (arith, fit.0, small.0), omega (arith, fit.1, small.1))

-- a container that goes uses its node no more
pub used-without : (node number : ℕ) (c : Container) (es : List (ℕ × Container)) → HasDistinctNumbers es → lookup (nat_eq number) es ≡ Some c
    → used_of es node ≡ plus (used_of (without number es) node) (cond (nat_eq c.node node) c.size nothing)
used-without node number c [] d found = absurd (none-some c found)
used-without node number c (e ∷ es) d found = go (nat_eq number e.0) refl found (used-without node number c es d.1)
  where
    own : (b : Bool) → total_of (λ (f : ℕ × Container). f.1.size) (cond b (e ∷ filter (λ f. nat_eq f.1.node node) es) (filter (λ f. nat_eq f.1.node node) es)) ≡ plus (used_of es node) (cond b e.1.size nothing)
    own true = plus-comm e.1.size (used_of es node)
    own false = sym (nothing-plus (used_of es node))

    further : (b : Bool) → used_of es node ≡ plus (used_of (without number es) node) (cond (nat_eq c.node node) c.size nothing)
        → total_of (λ (f : ℕ × Container). f.1.size) (cond b (e ∷ filter (λ f. nat_eq f.1.node node) es) (filter (λ f. nat_eq f.1.node node) es))
        ≡ plus (total_of (λ (f : ℕ × Container). f.1.size) (cond b (e ∷ filter (λ f. nat_eq f.1.node node) (without number es)) (filter (λ f. nat_eq f.1.node node) (without number es)))) (cond (nat_eq c.node node) c.size nothing)
    further true k = ap (plus e.1.size) k ∙ plus-assoc e.1.size (used_of (without number es) node) (cond (nat_eq c.node node) c.size nothing)
    further false k = k

    go : (b : Bool) → nat_eq number e.0 ≡ b → cond b (Some e.1) (lookup (nat_eq number) es) ≡ Some c
        → (lookup (nat_eq number) es ≡ Some c → used_of es node ≡ plus (used_of (without number es) node) (cond (nat_eq c.node node) c.size nothing))
        → used_of (e ∷ es) node ≡ plus (used_of (cond (not b) (e ∷ without number es) (without number es)) node) (cond (nat_eq c.node node) c.size nothing)
    go true q k rest =
        let is : e.1 ≡ c = same_Some e.1 c k in
        let gone : without number es ≡ es = without-unused number es (subst (λ n. IsUnused n es) (sym (nat_is number e.0 q)) d.0) in
        own (nat_eq e.1.node node) ∙ (λ i. plus (used_of (sym gone i) node) (cond (nat_eq (is i).node node) (is i).size nothing))
    go false q k rest = further (nat_eq e.1.node node) (rest k)
