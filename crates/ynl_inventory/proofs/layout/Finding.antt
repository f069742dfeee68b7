-- Queues are found by their names.
use Rattle.std.proofs.Common.{◌≡◌, ℕ, ◌<◌, ◌≤◌, nat_eq, length-append, zero, suc, take, Bool, true, false, List, [], ◌∷◌, find, length, map, arith, get_or, Option, Some, None, refl, sym, ap, ◌∙◌, true≢false}
use Rattle.std.specs.Prelude.{IfNone, IfSome}
use Rattle.std.specs.List.{Contains}
use Rattle.std.specs.Option.{option_map_or}
use Rattle.std.proofs.lemmas.Bool.Decides.{nat_tests}
use Rattle.std.proofs.lemmas.List.{take_all}
use Rattle.std.proofs.lemmas.List.Elements.{All-contains}
use Rattle.ynl_resource.specs.declared.names.Name.{Name}
use Rattle.ynl_resource.specs.declared.paths.Path.{Path}
use Rattle.ynl_resource.specs.Names.{same_name}
use Rattle.ynl_model.specs.Service.{last_name}
use Rattle.ynl_laws.specs.Decided.{below}
use Rattle.ynl_laws.proofs.Lists.{Each-find, none-found, all-of, each-contained}
use Rattle.ynl_laws.proofs.Names.{same-name_self, same-name_sym}
use Rattle.ynl_inventory.specs.layout.Paths.{AreChildren, HasNoChild, HasNoNumber, HasNumber, HasParent, IsChild, IsChildOf, IsTree, path_at}
use Rattle.ynl_inventory.specs.layout.Building.{is_named}
use Rattle.ynl_inventory.proofs.layout.Children.{child-named}

-- a name put at the end of a path is its last
last-of : (path : Path) (name : Name) → last_name (below path name) ≡ name
last-of [] name = refl
last-of (x ∷ []) name = refl
last-of (x ∷ y ∷ path) name = last-of (y ∷ path) name

module _ (paths : List Path) (names : List Name) (own-names : names ≡ map last_name paths) (tree : IsTree paths) (queue : ℕ) (has : HasNumber paths queue) (numbers : List ℕ) (are : AreChildren paths queue numbers) (name : Name) where
  -- what is asked of a child's name
  asked : (child : ℕ) → IsChild paths queue child → is_named names name child ≡ same_name name (last_name (path_at paths child))
  asked child is = ap (λ (o : Option Name). option_map_or (same_name name) o false) (child-named paths tree queue has names own-names child is)

  -- the child of a name is found
  pub child-some : (o : Option ℕ) → o ≡ find (is_named names name) numbers → IfSome o (IsChildOf paths queue name)
  child-some None is = tt
  child-some (Some child) is =
      let found = Each-find (Contains numbers) (is_named names name) numbers (each-contained numbers) child (sym is) in
      let own : IsChild paths queue child = All-contains (IsChild paths queue) numbers child are.each found.0 in
      record { there = own.there; path = own.path ∙ ap (below (path_at paths queue)) (sym (same-name_sym name (last_name (path_at paths child)) (sym (asked child own) ∙ found.1))) }

  -- and where none is found there is none
  pub child-none : (o : Option ℕ) → o ≡ find (is_named names name) numbers → IfNone o (HasNoChild paths queue name)
  child-none (Some child) is = tt
  child-none None is = λ child there path.
      let own : IsChild paths queue child = record { there = there; path = path ∙ ap (below (path_at paths queue)) (sym (ap last_name path ∙ last-of (path_at paths queue) name)) } in
      let fails = All-contains (λ n. is_named names name n ≡ false) numbers child (all-of (λ n. is_named names name n ≡ false) numbers (none-found (is_named names name) numbers (sym is))) (are.all child own) in
      true≢false (sym (asked child own ∙ ap (same_name name) (ap last_name path ∙ last-of (path_at paths queue) name) ∙ same-name_self name) ∙ fails)

-- ---- along the way to a queue

-- one more name of a path
pub take-next : (path : Path) (k : ℕ) (name : Name) → k < length path → get_or path k name ≡ name → take (suc k) path ≡ below (take k path) name
take-next [] k name h is = absurd (omega (arith, h))
take-next (x ∷ path) zero name h is = ap (λ (y : Name). y ∷ []) is
take-next (x ∷ path) (suc k) name h is = ap (λ ys. x ∷ ys) (take-next path k name (omega (arith, h)) is)

take-below : (k : ℕ) (path : Path) (name : Name) → k ≤ length path → take k (below path name) ≡ take k path
take-below zero path name h = refl
take-below (suc k) [] name h = absurd (omega (arith, h))
take-below (suc k) (x ∷ path) name h = ap (λ xs. x ∷ xs) (take-below k path name (omega (arith, h)))

take-none : (path : Path) (k : ℕ) → length path ≡ 0 → path ≡ take k path
take-none [] zero h = refl
take-none [] (suc k) h = refl
take-none (x ∷ path) k h = absurd (omega (arith, h))

module _ (paths : List Path) (tree : IsTree paths) where
  -- each queue above a queue has a number
  above-at : (len n : ℕ) → HasNumber paths n → length (path_at paths n) ≡ len → (k : ℕ) → k ≤ len → (m : ℕ) × HasNumber paths m × (path_at paths m ≡ take k (path_at paths n))
  above-at zero n there is k h = (n, there, take-none (path_at paths n) k is)
  above-at (suc len) zero there is k h = absurd (omega (arith, is))
  above-at (suc len) (suc n) there is k h = go (nat_eq k (suc len)) refl (λ inside. above-at len parent.parent parent.there shorter k inside)
    where
      parent : HasParent paths (suc n)
      parent = tree.parents (suc n) (omega arith) there

      shorter : length (path_at paths parent.parent) ≡ len
      shorter = omega (arith, is, ap length parent.above, length-append (path_at paths parent.parent) (last_name (path_at paths (suc n)) ∷ []))

      go : (b : Bool) → nat_eq k (suc len) ≡ b → (k ≤ len → (m : ℕ) × HasNumber paths m × (path_at paths m ≡ take k (path_at paths parent.parent))) → (m : ℕ) × HasNumber paths m × (path_at paths m ≡ take k (path_at paths (suc n)))
      go true q above = let same : k ≡ suc len = grind (arith, nat_tests) in (suc n, there, sym (take_all k (path_at paths (suc n)) (omega (arith, is, same))))
      go false q above =
          let inside : k ≤ len = grind (arith, nat_tests, h) in
          let m = above inside in
          (m.0, m.1, m.2 ∙ sym (take-below k (path_at paths parent.parent) (last_name (path_at paths (suc n))) (omega (arith, inside, shorter))) ∙ ap (take k) (sym parent.above))

  -- where a queue on the way has no child of the next name, the queue of the path has no number
  pub no-number : (queue : Path) (k at : ℕ) (name : Name) → path_at paths at ≡ take k queue → k < length queue → get_or queue k name ≡ name → HasNoChild paths at name → HasNoNumber paths queue
  no-number queue k at name here inside next none n there path =
      let m = above-at (length queue) n there (ap length path) (suc k) (omega (arith, inside)) in
      none m.0 m.1 (m.2 ∙ ap (take (suc k)) path ∙ take-next queue k name inside next ∙ ap (λ (p : Path). below p name) (sym here))
