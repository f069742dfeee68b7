-- The containers of an application in a partition, one after another along their chain.
use Rattle.std.proofs.Common.{◌≡◌, ℕ, ◌-◌, ◌<◌, true, is_some, IsSome, List, [], ◌∷◌, ◌++◌, filter, length, map, slice_get, nat_eq, Option, None, Some, refl, sym, ap, subst, ◌∙◌, arith}
use Rattle.std.specs.Prelude.{IfSome, option_map}
use Rattle.std.specs.List.{AllByRecursion}
use Rattle.std.specs.Map.{lookup}
use Rattle.std.specs.Option.{option_and_then, option_map_or}
use Rattle.std.proofs.lemmas.Bool.Decides.{nat_tests}
use Rattle.std.proofs.lemmas.List.{length-map, length_push, map-append}
use Rattle.std.proofs.lemmas.Option.{none-some, same_Some, slice_get-map}
use Rattle.ynl_model.specs.declared.containers.Placed.{Placed}
use Rattle.ynl_laws.proofs.Lists.{Each-both, Each-filter, Each-split, Each-weaker, filter-passes}
use Rattle.ynl_slots.specs.Chain.{first_or}
use Rattle.ynl_tables.specs.containers.Chains.{IsFirst, IsNext}
use Rattle.ynl_tables.specs.declared.containers.container.Container.{Container}
use Rattle.ynl_inventory.specs.Rows.{Rows, PartitionRow}
use Rattle.ynl_inventory.specs.Apps.{containers_of}
use Rattle.ynl_inventory.specs.Meaning.{label_at, placed_of}
use Rattle.ynl_inventory.specs.Parts.{held_at, IsHeldIn}
use Rattle.ynl_inventory.specs.Sound.{IsSound}
use Rattle.ynl_inventory.proofs.Lookups.{in-place}
use Rattle.ynl_inventory.proofs.Updates.{each-number}

abbrev Entry : Type 0
Entry = ℕ × Container

-- ---- lists

next-append : {X : Type 0} (xs : List X) (y : X) (ys : List X) → xs ++ y ∷ ys ≡ (xs ++ y ∷ []) ++ ys
next-append [] y ys = refl
next-append (x ∷ xs) y ys = ap (λ l. x ∷ l) (next-append xs y ys)

length-before : {X : Type 0} (xs : List X) (y : X) (ys : List X) → length xs < length (xs ++ y ∷ ys)
length-before [] y ys = omega arith
length-before (x ∷ xs) y ys = let h = length-before xs y ys in omega (arith, h)

-- ---- containers

-- what is held is one of the partition's
held-is : (v : Rows) (p number : ℕ) → held_at v p number ≡ lookup (nat_eq number) (containers_of v p)
held-is v p number = go (slice_get v.partitions p)
  where
    go : (o : Option PartitionRow) → option_and_then (λ (row : PartitionRow). lookup (nat_eq number) row.containers) o ≡ lookup (nat_eq number) (option_map_or (λ (row : PartitionRow). row.containers) o [])
    go None = refl
    go (Some row) = refl

-- each is found under its number
abbrev AreFound : List Entry → Type 0
AreFound es = AllByRecursion (λ (e : Entry). lookup (nat_eq e.0) es ≡ Some e.1) es

-- each of the partition's is held
pub each-held : (v : Rows) → IsSound v → (p : ℕ) → AllByRecursion (λ e. held_at v p e.0 ≡ Some e.1) (containers_of v p)
each-held v sound p = go (slice_get v.partitions p) refl
  where
    found : AreFound (containers_of v p)
    found = by (slice_get v.partitions p) refl
      where
        by : (o : Option PartitionRow) → slice_get v.partitions p ≡ o → AreFound (option_map_or (λ (row : PartitionRow). row.containers) o [])
        by None is = tt
        by (Some row) is = each-number (λ n c. lookup (nat_eq n) row.containers ≡ Some c) row.containers (sound.partitions p row is).numbers (λ n c h. h)

    go : (o : Option PartitionRow) → slice_get v.partitions p ≡ o → AllByRecursion (λ e. held_at v p e.0 ≡ Some e.1) (containers_of v p)
    go o is = Each-weaker (λ (e : Entry). lookup (nat_eq e.0) (containers_of v p) ≡ Some e.1) (λ (e : Entry). held_at v p e.0 ≡ Some e.1) (λ e h. held-is v p e.0 ∙ h) (containers_of v p) found

-- the application's containers so far, and that which comes next
pub record IsFollowing (v : Rows) (p app : ℕ) (next : Option ℕ) (list : List Placed) : Type 0 where
  pub front : List (ℕ × Container)
  pub back : List (ℕ × Container)
  pub all : filter (λ e. nat_eq e.1.app app) (containers_of v p) ≡ front ++ back
  pub next_is : next ≡ first_or None (map (λ e. e.0) back)
  pub listed : list ≡ map (λ e. placed_of v (label_at v.partitions p) e.1) front

-- at first that is the first
pub follows-first : (v : Rows) (p app : ℕ) (first : Option ℕ) → IsFirst (λ (c : Container). c.app) app (containers_of v p) first → IsFollowing v p app first []
follows-first v p app first is = record { front = []; back = filter (λ e. nat_eq e.1.app app) (containers_of v p); all = refl; next_is = is.number; listed = refl }

-- after the last it has all
pub follows-all : (v : Rows) (p app : ℕ) (list : List Placed) → IsFollowing v p app None list → list ≡ map (λ e. placed_of v (label_at v.partitions p) e.1) (filter (λ e. nat_eq e.1.app app) (containers_of v p))
follows-all v p app list is = go is.back refl is.next_is
  where
    empty : (xs : List Entry) → xs ++ [] ≡ xs
    empty [] = refl
    empty (x ∷ xs) = ap (λ l. x ∷ l) (empty xs)

    go : (back : List Entry) → is.back ≡ back → None ≡ first_or None (map (λ e. e.0) back) → list ≡ map (λ e. placed_of v (label_at v.partitions p) e.1) (filter (λ e. nat_eq e.1.app app) (containers_of v p))
    go [] same k = is.listed ∙ ap (map (λ (e : Entry). placed_of v (label_at v.partitions p) e.1)) (sym (is.all ∙ ap (λ back. is.front ++ back) same ∙ empty is.front))
    go (e ∷ back) same k = absurd (none-some e.0 k)

module _ (v : Rows) (sound : IsSound v) (p app number : ℕ) (list : List Placed) (is : IsFollowing v p app (Some number) list) where
  abbrev told : Entry → Placed
  told e = placed_of v (label_at v.partitions p) e.1

  abbrev own : List Entry
  own = filter (λ e. nat_eq e.1.app app) (containers_of v p)

  -- the next one, and those after it
  record IsNextOne : Type 0 where
    one : Entry
    rest : List Entry
    all : own ≡ is.front ++ one ∷ rest
    number_is : number ≡ one.0
    held : held_at v p one.0 ≡ Some one.1
    owner : one.1.app ≡ app

  next-one : IsNextOne
  next-one = go is.back refl is.next_is
    where
      known : AllByRecursion (λ e. (held_at v p e.0 ≡ Some e.1) × (nat_eq e.1.app app ≡ true)) own
      known =
          Each-both (λ e. held_at v p e.0 ≡ Some e.1) (λ e. nat_eq e.1.app app ≡ true) own
          (Each-filter (λ e. held_at v p e.0 ≡ Some e.1) (λ e. nat_eq e.1.app app) (containers_of v p) (each-held v sound p))
          (filter-passes (λ e. nat_eq e.1.app app) (containers_of v p))

      go : (back : List Entry) → is.back ≡ back → Some number ≡ first_or None (map (λ e. e.0) back) → IsNextOne
      go [] same k = absurd (none-some number (sym k))
      go (e ∷ back) same k =
          let all : own ≡ is.front ++ e ∷ back = is.all ∙ ap (λ back. is.front ++ back) same in
          let its = (Each-split (λ e. (held_at v p e.0 ≡ Some e.1) × (nat_eq e.1.app app ≡ true)) is.front (e ∷ back)
          (subst (AllByRecursion (λ e. (held_at v p e.0 ≡ Some e.1) × (nat_eq e.1.app app ≡ true))) all known)).1.0 in
          let owner : e.1.app ≡ app = grind (arith, nat_tests, its.1) in
          record { one = e; rest = back; all = all; number_is = same_Some number e.0 k; held = its.0; owner = owner }

  held-number : held_at v p number ≡ Some next-one.one.1
  held-number = ap (held_at v p) next-one.number_is ∙ next-one.held

  -- it is held
  pub follows-held : IsSome (held_at v p number)
  follows-held = ap is_some held-number

  -- it is listed, and the one after it comes next
  pub follows-on : (placed : Placed) → IfSome (held_at v p number) (λ c. placed ≡ placed_of v (label_at v.partitions p) c)
      → (next : Option ℕ) → IfSome (held_at v p number) (λ c. IsNext (λ (x : Container). x.app) c.app (containers_of v p) number next)
      → IsFollowing v p app next (list ++ placed ∷ [])
  follows-on placed placed-is next after = record {
    front = is.front ++ next-one.one ∷ [];
    back = next-one.rest;
    all = next-one.all ∙ next-append is.front next-one.one next-one.rest;
    next_is =
        (subst (λ o. IfSome o (λ c. IsNext (λ (x : Container). x.app) c.app (containers_of v p) number next)) held-number after).number (map (λ e. e.0) is.front) (map (λ e. e.0) next-one.rest) numbers;
    listed =
        (λ i. is.listed i ++ subst (λ o. IfSome o (λ c. placed ≡ placed_of v (label_at v.partitions p) c)) held-number placed-is i ∷ [])
        ∙ sym (map-append told is.front (next-one.one ∷ []));
  }
    where
      numbers : map (λ e. e.0) (filter (λ e. nat_eq e.1.app next-one.one.1.app) (containers_of v p)) ≡ map (λ e. e.0) is.front ++ number ∷ map (λ e. e.0) next-one.rest
      numbers =
          ap (λ n. map (λ e. e.0) (filter (λ e. nat_eq e.1.app n) (containers_of v p))) next-one.owner
          ∙ ap (map (λ e. e.0)) next-one.all
          ∙ map-append (λ (e : Entry). e.0) is.front (next-one.one ∷ next-one.rest)
          ∙ ap (λ n. map (λ e. e.0) is.front ++ n ∷ map (λ e. e.0) next-one.rest) (sym next-one.number_is)

  -- one less is to be listed
  pub follows-fewer : (placed : Placed) → length own - length (list ++ placed ∷ []) < length own - length list
  follows-fewer placed =
      let before : length list ≡ length is.front = ap length is.listed ∙ length-map is.front told in
      let inside : length is.front < length own = subst (λ es. length is.front < length es) (sym next-one.all) (length-before is.front next-one.one next-one.rest) in
      let longer = length_push list placed in
      omega (arith, before, inside, longer)

-- ---- all containers of a partition

-- each that is listed is held
pub listed-held : (v : Rows) → IsSound v → (p i : ℕ) (c : Container) → slice_get (map (λ e. e.1) (containers_of v p)) i ≡ Some c → IsHeldIn v p c
listed-held v sound p i c at = go (slice_get (containers_of v p) i) refl (sym (slice_get-map (λ (e : Entry). e.1) (containers_of v p) i) ∙ at)
  where
    go : (o : Option Entry) → slice_get (containers_of v p) i ≡ o → option_map (λ (e : Entry). e.1) o ≡ Some c → IsHeldIn v p c
    go None is k = absurd (none-some c k)
    go (Some e) is k = record {
      number = e.0;
      held = in-place (λ (e : Entry). held_at v p e.0 ≡ Some e.1) (containers_of v p) i e (each-held v sound p) is ∙ k;
    }
