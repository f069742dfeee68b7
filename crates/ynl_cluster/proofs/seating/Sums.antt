-- What the containers of a list that pass a test use together, and whether one passes, as one comes or goes.
use Rattle.std.proofs.Common.{◌≡◌, ℕ, ◌+◌, Bool, true, false, cond, not, ◌||◌, List, [], ◌∷◌, ◌++◌, filter, Some, nat_eq, refl, sym, ap, subst, ◌∙◌, arith}
use Rattle.std.specs.List.{list_any}
use Rattle.std.specs.Map.{lookup}
use Rattle.std.proofs.lemmas.Bool.{eqb-true}
use Rattle.std.proofs.lemmas.List.{append-nil}
use Rattle.std.proofs.lemmas.List.Elements.{filter-append}
use Rattle.std.proofs.lemmas.Option.{none-some, same_Some}
use Rattle.ynl_resource.specs.Amounts.{nothing, plus, total_of}
use Rattle.ynl_resource.specs.declared.amounts.Resource.{Resource}
use Rattle.ynl_laws.proofs.Amounts.{total-append}
use Rattle.ynl_slots.specs.Slots.{HasDistinctNumbers, IsUnused, without}
use Rattle.ynl_slots.proofs.Entries.{without-unused}
use Rattle.ynl_tables.specs.declared.containers.container.Container.{Container}
use Rattle.ynl_inventory.proofs.Used.{nothing-plus}

plus-comm : (a b : Resource) → plus a b ≡ plus b a
plus-comm a b = λ i. record { memory = memory i; vcores = vcores i }
  where
    memory : a.memory + b.memory ≡ b.memory + a.memory
    memory = omega arith

    vcores : a.vcores + b.vcores ≡ b.vcores + a.vcores
    vcores = omega arith

plus-assoc : (a b d : Resource) → plus a (plus b d) ≡ plus (plus a b) d
plus-assoc a b d = λ i. record { memory = memory i; vcores = vcores i }
  where
    memory : a.memory + (b.memory + d.memory) ≡ a.memory + b.memory + d.memory
    memory = omega arith

    vcores : a.vcores + (b.vcores + d.vcores) ≡ a.vcores + b.vcores + d.vcores
    vcores = omega arith

abbrev pub size_of : ℕ × Container → Resource
size_of e = e.1.size

module _ (test : ℕ × Container → Bool) where
  -- what those that pass use together
  abbrev pub sum : List (ℕ × Container) → Resource
  sum es = total_of size_of (filter test es)

  -- one container more
  pub sum-push : (es : List (ℕ × Container)) (number : ℕ) (c : Container) → sum (es ++ (number, c) ∷ []) ≡ plus (sum es) (cond (test (number, c)) c.size nothing)
  sum-push es number c = ap (total_of size_of) (filter-append test es ((number, c) ∷ [])) ∙ go (test (number, c))
    where
      go : (b : Bool) → total_of size_of (filter test es ++ cond b ((number, c) ∷ []) []) ≡ plus (sum es) (cond b c.size nothing)
      go true = total-append size_of (filter test es) (number, c)
      go false = ap (total_of size_of) (append-nil (filter test es)) ∙ sym (nothing-plus (sum es))

  module _ (number : ℕ) (c : Container) where
    -- where it stands in front, it alone goes
    front : (e : ℕ × Container) (es : List (ℕ × Container)) → HasDistinctNumbers (e ∷ es) → nat_eq number e.0 ≡ true → without number es ≡ es
    front e es d q = without-unused number es (subst (λ n. IsUnused n es) (sym (eqb-true number e.0 q)) d.0)

    -- one container less
    pub sum-gone : (es : List (ℕ × Container)) → HasDistinctNumbers es → lookup (nat_eq number) es ≡ Some c → sum es ≡ plus (sum (without number es)) (cond (test (number, c)) c.size nothing)
    sum-gone [] d found = absurd (none-some c found)
    sum-gone (e ∷ es) d found = go (nat_eq number e.0) refl found (sum-gone es d.1)
      where
        more : Resource
        more = cond (test (number, c)) c.size nothing

        own : (b : Bool) → total_of size_of (cond b (e ∷ filter test es) (filter test es)) ≡ plus (sum es) (cond b e.1.size nothing)
        own true = plus-comm e.1.size (sum es)
        own false = sym (nothing-plus (sum es))

        further : (b : Bool) → sum es ≡ plus (sum (without number es)) more
            → total_of size_of (cond b (e ∷ filter test es) (filter test es)) ≡ plus (total_of size_of (cond b (e ∷ filter test (without number es)) (filter test (without number es)))) more
        further true k = ap (plus e.1.size) k ∙ plus-assoc e.1.size (sum (without number es)) more
        further false k = k

        go : (b : Bool) → nat_eq number e.0 ≡ b → cond b (Some e.1) (lookup (nat_eq number) es) ≡ Some c
            → (lookup (nat_eq number) es ≡ Some c → sum es ≡ plus (sum (without number es)) more)
            → sum (e ∷ es) ≡ plus (sum (cond (not b) (e ∷ without number es) (without number es))) more
        go true q k rest =
            let is : ◌≡◌ {A = ℕ × Container} e (number, c) = λ i. (sym (eqb-true number e.0 q) i, same_Some e.1 c k i) in
            own (test e) ∙ (λ i. plus (sum (sym (front e es d q) i)) (cond (test (is i)) (is i).1.size nothing))
        go false q k rest = further (test e) (rest k)

    -- whether one passes stays, where one goes that does not
    pub any-gone : (es : List (ℕ × Container)) → HasDistinctNumbers es → lookup (nat_eq number) es ≡ Some c → test (number, c) ≡ false → list_any test (without number es) ≡ list_any test es
    any-gone [] d found fails = absurd (none-some c found)
    any-gone (e ∷ es) d found fails = go (nat_eq number e.0) refl found (λ k. any-gone es d.1 k fails)
      where
        go : (b : Bool) → nat_eq number e.0 ≡ b → cond b (Some e.1) (lookup (nat_eq number) es) ≡ Some c
            → (lookup (nat_eq number) es ≡ Some c → list_any test (without number es) ≡ list_any test es)
            → list_any test (cond (not b) (e ∷ without number es) (without number es)) ≡ (test e || list_any test es)
        go true q k rest =
            let is : ◌≡◌ {A = ℕ × Container} e (number, c) = λ i. (sym (eqb-true number e.0 q) i, same_Some e.1 c k i) in
            ap (list_any test) (front e es d q) ∙ ap (λ b. b || list_any test es) (sym (ap test is ∙ fails))
        go false q k rest = ap (λ b. test e || b) (rest k)
