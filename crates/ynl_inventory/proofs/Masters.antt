-- The masters of applications among the containers of a partition.
use Rattle.std.proofs.Common.{◌≡◌, ◌≢◌, ◌&&◌, ◌||◌, ℕ, Bool, true, false, cond, not, find, is_some, List, [], ◌∷◌, ◌++◌, slice_get, Option, Some, None, option_map, nat_eq, refl, sym, ap, ◌∙◌, arith, true≢false}
use Rattle.std.specs.List.{AllByRecursion, list_any}
use Rattle.std.specs.Map.{lookup}
use Rattle.std.specs.Option.{option_map_or}
use Rattle.std.proofs.lemmas.Bool.{and_from, and_parts}
use Rattle.std.proofs.lemmas.Bool.Decides.{nat_tests}
use Rattle.std.proofs.lemmas.Option.{same_Some}
use Rattle.ynl_laws.proofs.Lists.{Each-weaker, find-append_none, find-nothing, none-found}
use Rattle.ynl_slots.specs.Slots.{HasDistinctNumbers, IsUnused, without}
use Rattle.ynl_slots.proofs.Entries.{itself, other}
use Rattle.ynl_slots.proofs.Lookups.{lookup-push}
use Rattle.ynl_tables.specs.declared.containers.container.Container.{Container}
use Rattle.ynl_inventory.specs.Rows.{Rows, PartitionRow, AppRow}
use Rattle.ynl_inventory.specs.Apps.{HasOneMasterEach, containers_of, is_master_role, is_master_of, master_in, runs_at}
use Rattle.ynl_inventory.proofs.Finding.{not-true}
use Rattle.ynl_inventory.proofs.Updates.{each-number, at-number}

-- ---- what is found of a list

module _ {X : Type 0} (test : X → Bool) where
  -- something passes where something is found
  pub any-found : (xs : List X) → list_any test xs ≡ is_some (find test xs)
  any-found [] = refl
  any-found (x ∷ xs) = go (test x) (any-found xs)
    where
      go : (b : Bool) → list_any test xs ≡ is_some (find test xs) → (b || list_any test xs) ≡ is_some (cond b (Some x) (find test xs))
      go true rest = refl
      go false rest = rest

  -- and where nothing passes nothing is found
  pub none-passes : (xs : List X) → list_any test xs ≡ false → find test xs ≡ None
  none-passes xs none = go (find test xs) (sym (any-found xs) ∙ none)
    where
      go : (o : Option X) → is_some o ≡ false → o ≡ None
      go None is = refl
      go (Some x) is = absurd (true≢false is)

  -- one more that does not pass leaves what is found
  pub find-push : (x : X) → test x ≡ false → (xs : List X) → find test (xs ++ x ∷ []) ≡ find test xs
  find-push x fails [] = ap (λ (b : Bool). let o : Option X = cond b (Some x) None in o) fails
  find-push x fails (y ∷ xs) = ap (λ o. cond (test y) (Some y) o) (find-push x fails xs)

module _ {X : Type 0} (test : ℕ × X → Bool) (n : ℕ) where
  -- a row that goes and does not pass leaves what is found
  pub find-without : (es : List (ℕ × X)) → AllByRecursion (λ e. e.0 ≡ n → test e ≡ false) es → find test (without n es) ≡ find test es
  find-without [] fails = refl
  find-without (e ∷ es) fails = go (nat_eq n e.0) refl (find-without es fails.1)
    where
      go : (b : Bool) → nat_eq n e.0 ≡ b → find test (without n es) ≡ find test es → find test (cond (not b) (e ∷ without n es) (without n es)) ≡ cond (test e) (Some e) (find test es)
      go true is rest =
          let own : test e ≡ false = fails.0 (grind (arith, nat_tests, is)) in
          rest ∙ sym (ap (λ b. cond b (Some e) (find test es)) own)
      go false is rest = ap (λ o. cond (test e) (Some e) o) rest

  -- and where it alone passed nothing is found
  pub find-gone : (es : List (ℕ × X)) → AllByRecursion (λ e. test e ≡ true → e.0 ≡ n) es → find test (without n es) ≡ None
  find-gone [] only = refl
  find-gone (e ∷ es) only = go (nat_eq n e.0) refl (find-gone es only.1)
    where
      one : (b : Bool) → test e ≡ b → nat_eq n e.0 ≡ false → find test (without n es) ≡ None → cond b (Some e) (find test (without n es)) ≡ None
      one true passes is rest = absurd (true≢false (sym (ap (nat_eq n) (only.0 passes) ∙ itself n) ∙ is))
      one false fails is rest = rest

      go : (b : Bool) → nat_eq n e.0 ≡ b → find test (without n es) ≡ None → find test (cond (not b) (e ∷ without n es) (without n es)) ≡ None
      go true is rest = rest
      go false is rest = one (test e) refl is rest

-- ---- masters

-- a container of another application is not the master of this one
pub not-own : (n m : ℕ) (c : Container) → c.app ≢ n → is_master_of n (m, c) ≡ false
not-own n m c apart = not-true (is_master_role c.role && nat_eq c.app n) (λ both. true≢false (sym (and_parts (is_master_role c.role) (nat_eq c.app n) both).1 ∙ other c.app n apart))

-- nor is one that is no master
pub no-master : (n m : ℕ) (c : Container) → is_master_role c.role ≡ false → is_master_of n (m, c) ≡ false
no-master n m c is = ap (λ b. b && nat_eq c.app n) is

-- an application without containers has no master
pub none-master : (n : ℕ) (es : List (ℕ × Container)) → AllByRecursion (λ e. e.1.app ≢ n) es → master_in n es ≡ None
none-master n es none =
    ap (option_map (λ (e : ℕ × Container). e.0)) (find-nothing (is_master_of n) es (Each-weaker (λ (e : ℕ × Container). e.1.app ≢ n) (λ e. is_master_of n e ≡ false) (λ e apart. not-own n e.0 e.1 apart) es none))

module _ (number : ℕ) (c : Container) (es : List (ℕ × Container)) where
  -- one more container that is not an application's master
  pub master-stays : (n : ℕ) → is_master_of n (number, c) ≡ false → master_in n (es ++ (number, c) ∷ []) ≡ master_in n es
  master-stays n fails = ap (option_map (λ (e : ℕ × Container). e.0)) (find-push (is_master_of n) (number, c) fails es)

  -- and one that is, where it had none
  pub master-comes : is_master_role c.role ≡ true → find (is_master_of c.app) es ≡ None → master_in c.app (es ++ (number, c) ∷ []) ≡ Some number
  master-comes is none =
      let passes : is_master_of c.app (number, c) ≡ true = and_from (is_master_role c.role) (nat_eq c.app c.app) is (itself c.app) in
      ap (option_map (λ (e : ℕ × Container). e.0))
      (find-append_none (is_master_of c.app) es ((number, c) ∷ []) none ∙ ap (λ (b : Bool). let o : Option (ℕ × Container) = cond b (Some (number, c)) None in o) passes)

module _ (number : ℕ) (c : Container) (es : List (ℕ × Container)) (distinct : HasDistinctNumbers es) (found : lookup (nat_eq number) es ≡ Some c) where
  -- a container goes that is not an application's master
  pub master-left : (n : ℕ) → is_master_of n (number, c) ≡ false → master_in n (without number es) ≡ master_in n es
  master-left n fails =
      ap (option_map (λ (e : ℕ × Container). e.0))
      (find-without (is_master_of n) number es (each-number (λ m d. m ≡ number → is_master_of n (m, d) ≡ false) es distinct its))
    where
      its : (m : ℕ) (d : Container) → lookup (nat_eq m) es ≡ Some d → m ≡ number → is_master_of n (m, d) ≡ false
      its m d at same =
          let own : c ≡ d = same_Some c d (sym found ∙ ap (λ k. lookup (nat_eq k) es) (sym same) ∙ at) in
          ap (λ (d : Container). is_master_role d.role && nat_eq d.app n) (sym own) ∙ fails

  -- and the master of its application, of which there is no other
  pub master-goes : is_master_role c.role ≡ true → HasOneMasterEach es → master_in c.app (without number es) ≡ None
  master-goes is one =
      ap (option_map (λ (e : ℕ × Container). e.0))
      (find-gone (is_master_of c.app) number es (each-number (λ m d. is_master_of c.app (m, d) ≡ true → m ≡ number) es distinct only))
    where
      only : (m : ℕ) (d : Container) → lookup (nat_eq m) es ≡ Some d → is_master_of c.app (m, d) ≡ true → m ≡ number
      only m d at passes =
          let both = and_parts (is_master_role d.role) (nat_eq d.app c.app) passes in
          let own : nat_eq d.app c.app ≡ true = both.1 in
          one m number d c at found both.0 is (grind (arith, nat_tests, own))

-- an application that does not run has no master on its home partition
pub none-runs : (v : Rows) (app p : ℕ) (row : AppRow) (part : PartitionRow) → slice_get v.partitions p ≡ Some part → row.home ≡ p → runs_at v app row ≡ false → find (is_master_of app) part.containers ≡ None
none-runs v app p row part there home stands =
    let here : containers_of v row.home ≡ part.containers = ap (containers_of v) home ∙ ap (λ o. option_map_or (λ (row : PartitionRow). row.containers) o []) there in
    none-passes (is_master_of app) part.containers (sym (ap (list_any (is_master_of app)) here) ∙ stands)

module _ (number : ℕ) (c : Container) (es : List (ℕ × Container)) (unused : IsUnused number es) (one : HasOneMasterEach es)
    (none : is_master_role c.role ≡ true → find (is_master_of c.app) es ≡ None) where
  alone : (m : ℕ) (d : Container) → lookup (nat_eq m) es ≡ Some d → is_master_role c.role ≡ true → is_master_role d.role ≡ true → d.app ≡ c.app → ⊥
  alone m d at master own same =
      let fails : is_master_of c.app (m, d) ≡ false = at-number (λ m d. is_master_of c.app (m, d) ≡ false) es m d (none-found (is_master_of c.app) es (none master)) at in
      true≢false (sym (and_from (is_master_role d.role) (nat_eq d.app c.app) own (ap (λ n. nat_eq n c.app) same ∙ itself c.app)) ∙ fails)

  -- a container comes, and is master only of an application that had none
  pub masters-push : HasOneMasterEach (es ++ (number, c) ∷ [])
  masters-push n m x y at there own other same =
      go (nat_eq n number) refl (sym (lookup-push n number c es unused) ∙ at) (nat_eq m number) refl (sym (lookup-push m number c es unused) ∙ there)
    where
      is-number : (k : ℕ) → nat_eq k number ≡ true → k ≡ number
      is-number k q = grind (arith, nat_tests, q)

      go : (a : Bool) → nat_eq n number ≡ a → cond a (Some c) (lookup (nat_eq n) es) ≡ Some x
          → (b : Bool) → nat_eq m number ≡ b → cond b (Some c) (lookup (nat_eq m) es) ≡ Some y → n ≡ m
      go true p e true q f = is-number n p ∙ sym (is-number m q)
      go true p e false q f =
          let is : c ≡ x = same_Some c x e in
          absurd (alone m y f (ap (λ (c : Container). is_master_role c.role) is ∙ own) other (sym same ∙ ap (λ (c : Container). c.app) (sym is)))
      go false p e true q f =
          let is : c ≡ y = same_Some c y f in
          absurd (alone n x e (ap (λ (c : Container). is_master_role c.role) is ∙ other) own (same ∙ ap (λ (c : Container). c.app) (sym is)))
      go false p e false q f = one n m x y e f own other same
