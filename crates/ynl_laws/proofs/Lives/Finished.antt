-- Where an application finishes, its containers can go together once all clocks have risen.
use Rattle.std.proofs.Common.{◌≡◌, ℕ, ◌<◌, eqb, Bool, true, false, cond, not, ◌&&◌, ◌||◌, List, [], ◌∷◌, map, Option, Some, None, filter, find, option_map, flat_map, refl, sym, ap, subst, ◌∙◌, arith}
use Rattle.std.specs.List.{AllByRecursion, list_any}
use Rattle.std.specs.Option.{option_map_or}
use Rattle.std.proofs.lemmas.Bool.Decides.{nat_tests}
use mathlib.Core.Bool.{true≢false}
use Rattle.ynl_resource.specs.Tables.{without}
use Rattle.ynl_resource.specs.Names.{same_label, same_id}
use Rattle.ynl_resource.specs.declared.names.Name.{Name}
use Rattle.ynl_resource.specs.declared.labels.Label.{Label}
use Rattle.ynl_model.specs.Nodes.{Labels, clock_limit, rises, stamped}
use Rattle.ynl_model.specs.declared.containers.Placed.{Placed as Container}
use Rattle.ynl_model.specs.Queues.{Config}
use Rattle.ynl_model.specs.Cluster.{State, Partition, is_of, is_partition, in_partition, clock, next_clock}
use Rattle.ynl_model.specs.Changes.{changed_at, end, all_own, all_end}
use Rattle.ynl_laws.specs.Working.{Pairs, on_in, clock_in, EachFound, Numbered, IsOrdered}
use Rattle.ynl_laws.specs.Finishing.{clock_rises, clocks_rise, without_own, all_without_own}
use Rattle.ynl_laws.proofs.Lives.Homes.{in-rows}
use Rattle.ynl_laws.proofs.Lists.{Each-flat, Each-kept, Each-weaker, Each-with, find-through, filter-agree, Each-update, filter-constant, filter-twice}
use Rattle.ynl_laws.proofs.Logic.{some-same}
use Rattle.ynl_laws.proofs.Names.{same-label_path}
use Rattle.std.proofs.lemmas.Bool.{and_parts}

-- ---- one container after another ends, or their clocks rise and they go in the end

-- a partition's containers without the one that ends
abbrev hit : Container → Label → List Container → List Container
hit k p xs = cond (same_label p k.id.label) (without (λ other. same_id other.id k.id) xs) xs

-- and without all that end, after another change
abbrev all_hit : List Container → (Label → List Container → List Container) → Label → List Container → List Container
all_hit [] d = d
all_hit (k ∷ ks) d = all_hit ks (λ p xs. hit k p (d p xs))

abbrev cleared_row : (Label → List Container → List Container) → Partition → Partition
cleared_row d row = record row { containers = d row.label row.containers }

abbrev cleared : (Label → List Container → List Container) → State → State
cleared d s = record s { partitions = map (cleared_row d) s.partitions }

clock-same : (labels : Labels) (d : Label → List Container → List Container) (s : State) (p : Label) → next_clock labels (cleared d s) p ≡ next_clock labels s p
unfolding next_clock clock
clock-same labels d s p =
    ap (λ o. rises (clock_limit labels p) (option_map_or (λ (row : Partition). row.clock) o 0)) (find-through (cleared_row d) (is_partition p) (λ row. refl) s.partitions)
    ∙ ap (rises (clock_limit labels p)) (go (find (is_partition p) s.partitions))
  where
    go : (o : Option Partition) → option_map_or (λ (row : Partition). row.clock) (option_map (cleared_row d) o) 0 ≡ option_map_or (λ (row : Partition). row.clock) o 0
    go None = refl
    go (Some row) = refl

rows-one : (d : Label → List Container → List Container) (k : Container) (n : ℕ) (rows : List Partition) →
    in_partition k.id.label (λ row. record row { clock = n; containers = without (λ other. same_id other.id k.id) row.containers }) (map (cleared_row d) rows)
    ≡ map (cleared_row (λ p xs. hit k p (d p xs))) (in_partition k.id.label (λ row. record row { clock = n; containers = row.containers }) rows)
rows-one d k n [] = refl
rows-one d k n (row ∷ rows) = λ i. go (same_label row.label k.id.label) refl i ∷ rows-one d k n rows i
  where
    go : (b : Bool) → same_label row.label k.id.label ≡ b →
        cond b (record row { clock = n; containers = without (λ other. same_id other.id k.id) (d row.label row.containers) }) (record row { containers = d row.label row.containers })
        ≡ cleared_row (λ p xs. hit k p (d p xs)) (cond b (record row { clock = n; containers = row.containers }) row)
    go true e = λ i. record row { clock = n; containers = cond (sym e i) (without (λ other. same_id other.id k.id) (d row.label row.containers)) (d row.label row.containers) }
    go false e = λ i. record row { containers = cond (sym e i) (without (λ other. same_id other.id k.id) (d row.label row.containers)) (d row.label row.containers) }

module _ (c : Config) where
  end-one : (d : Label → List Container → List Container) (k : Container) (s : State) → end c (cleared d s) k ≡ cleared (λ p xs. hit k p (d p xs)) (clock_rises c s k)
  unfolding end changed_at
  end-one d k s =
      let same : next_clock c.labels (cleared d s) k.id.label ≡ next_clock c.labels s k.id.label = clock-same c.labels d s k.id.label in
      (λ i. record s {
        nodes = stamped k.node k.id.label (same i) s.nodes;
        partitions = in_partition k.id.label (λ row. record row { clock = same i; containers = without (λ other. same_id other.id k.id) row.containers }) (map (cleared_row d) s.partitions);
      })
      ∙ (λ i. record s { nodes = stamped k.node k.id.label (next_clock c.labels s k.id.label) s.nodes; partitions = rows-one d k (next_clock c.labels s k.id.label) s.partitions i })

  ends-are : (ks : List Container) (d : Label → List Container → List Container) (s : State) → all_end c ks (cleared d s) ≡ cleared (all_hit ks d) (clocks_rise c ks s)
  ends-are [] d s = refl
  ends-are (k ∷ ks) d s = ap (all_end c ks) (end-one d k s) ∙ ends-are ks (λ p xs. hit k p (d p xs)) (clock_rises c s k)

  -- what holds of the containers of each partition holds while clocks rise
  rises-keep : (P : Label → List Container → Type 0) (ks : List Container) (s : State) → AllByRecursion (λ row. P row.label row.containers) s.partitions → AllByRecursion (λ row. P row.label row.containers) (clocks_rise c ks s).partitions
  unfolding changed_at
  rises-keep P [] s h = h
  rises-keep P (k ∷ ks) s h = rises-keep P ks (clock_rises c s k) (Each-update (λ row. P row.label row.containers) (is_partition k.id.label) _ (λ row j. j) s.partitions h)

as-it-is : (rows : List Partition) → rows ≡ map (cleared_row (λ p xs. xs)) rows
as-it-is [] = refl
as-it-is (row ∷ rows) = λ i. row ∷ as-it-is rows i

-- ---- all that end, at once

hits-are : (ks : List Container) (d : Label → List Container → List Container) (p : Label) (xs : List Container) → all_hit ks d p xs ≡ filter (λ x. not (list_any (λ k. same_label p k.id.label && same_id x.id k.id) ks)) (d p xs)
hits-are [] d p xs = sym (filter-constant true (d p xs))
hits-are (k ∷ ks) d p xs = hits-are ks (λ p xs. hit k p (d p xs)) p xs ∙ go (same_label p k.id.label) refl
  where
    go : (b : Bool) → same_label p k.id.label ≡ b →
        filter (λ x. not (list_any (λ k. same_label p k.id.label && same_id x.id k.id) ks)) (hit k p (d p xs))
        ≡ filter (λ x. not ((same_label p k.id.label && same_id x.id k.id) || list_any (λ k. same_label p k.id.label && same_id x.id k.id) ks)) (d p xs)
    go true e =
        (λ i. filter (λ x. not (list_any (λ k. same_label p k.id.label && same_id x.id k.id) ks)) (cond (e i) (without (λ other. same_id other.id k.id) (d p xs)) (d p xs)))
        ∙ filter-twice (λ x. same_id x.id k.id) (λ x. list_any (λ k. same_label p k.id.label && same_id x.id k.id) ks) (d p xs)
        ∙ (λ i. filter (λ x. not ((sym e i && same_id x.id k.id) || list_any (λ k. same_label p k.id.label && same_id x.id k.id) ks)) (d p xs))
    go false e =
        (λ i. filter (λ x. not (list_any (λ k. same_label p k.id.label && same_id x.id k.id) ks)) (cond (e i) (without (λ other. same_id other.id k.id) (d p xs)) (d p xs)))
        ∙ (λ i. filter (λ x. not ((sym e i && same_id x.id k.id) || list_any (λ k. same_label p k.id.label && same_id x.id k.id) ks)) (d p xs))

-- ---- ids are those of one container each

-- an id is that of one container alone
abbrev IsAlone : Container → Container → Type 0
IsAlone x k = same_id x.id k.id ≡ true → x ≡ k

clocks-of : (x k : Container) → same_id x.id k.id ≡ true → x.id.clock ≡ k.id.clock
clocks-of x k h = go x.id.clock k.id.clock (and_parts (same_label x.id.label k.id.label) _ h).1
  where
    go : (a b : ℕ) → eqb a b ≡ true → a ≡ b
    go a b e = grind (arith, nat_tests, e)

alone-in : (xs : List Container) → Pairs (λ a b. a.id.clock < b.id.clock) xs → AllByRecursion (λ x. AllByRecursion (IsAlone x) xs) xs
alone-in [] h = tt
alone-in (x ∷ xs) h = (
  ((λ e. refl), Each-weaker _ _ (λ k less e. absurd (before x k less (clocks-of x k e))) xs h.0),
  Each-with _ _ (λ k. AllByRecursion (IsAlone k) (x ∷ xs)) (λ k less rest. ((λ e. absurd (before x k less (sym (clocks-of k x e)))), rest)) xs h.0 (alone-in xs h.1),
)
  where
    before : (a b : Container) → a.id.clock < b.id.clock → a.id.clock ≡ b.id.clock → ⊥
    before a b less e = omega (arith, less, e)

module _ (rows : List Partition) (found : EachFound rows) (ids : (p : Label) → Numbered p (clock_in rows p) (on_in rows p)) where
  -- a row that is found has its partition's containers
  numbered-row : (row : Partition) → find (is_partition row.label) rows ≡ Some row → Numbered row.label (clock_in rows row.label) row.containers
  numbered-row row e = subst (Numbered row.label (clock_in rows row.label)) (ap (λ o. option_map_or (λ (row : Partition). row.containers) o []) e) (ids row.label)

  alone-over : (row : Partition) (x : Container) → find (is_partition row.label) rows ≡ Some row → x.id.label ≡ row.label → AllByRecursion (IsAlone x) row.containers →
      (other : Partition) → find (is_partition other.label) rows ≡ Some other → AllByRecursion (IsAlone x) other.containers
  alone-over row x at label alone other e = go (same_label row.label other.label) refl
    where
      go : (b : Bool) → same_label row.label other.label ≡ b → AllByRecursion (IsAlone x) other.containers
      go true b =
          let same : find (is_partition row.label) rows ≡ Some other = ap (λ l. find (is_partition l) rows) (same-label_path row.label other.label b) ∙ e in
          subst (λ (r : Partition). AllByRecursion (IsAlone x) r.containers) (some-same row other (find (is_partition row.label) rows) at same) alone
      go false b = Each-weaker _ (IsAlone x) (λ k own h.
          absurd (true≢false (sym (
          (λ i. same_label (sym label i) (sym own.0 i)) ∙ (and_parts (same_label x.id.label k.id.label) _ h).0
          ) ∙ b))) other.containers (numbered-row other e).own

  module _ (tenant app : Name) where
    abbrev mine : List Container
    mine = flat_map (λ row. filter (is_of tenant app) row.containers) rows

    -- a container that is not the application's has no id of those that end
    others-stay : (x : Container) → ((other : Partition) → find (is_partition other.label) rows ≡ Some other → AllByRecursion (IsAlone x) other.containers) → is_of tenant app x ≡ false → AllByRecursion (λ k. same_id x.id k.id ≡ false) mine
    others-stay x alone off = Each-flat (λ row. find (is_partition row.label) rows ≡ Some row) (λ k. same_id x.id k.id ≡ false) (λ row. filter (is_of tenant app) row.containers)
        (λ row e. Each-kept (λ k. same_id x.id k.id ≡ false) (is_of tenant app) row.containers (Each-weaker (IsAlone x) _ (λ k same own. go k (same_id x.id k.id) refl own same) row.containers (alone row e))) rows found
      where
        go : (k : Container) (b : Bool) → same_id x.id k.id ≡ b → is_of tenant app k ≡ true → IsAlone x k → b ≡ false
        go k true e own same = absurd (true≢false (sym own ∙ ap (is_of tenant app) (sym (same e)) ∙ off))
        go k false e own same = refl

    none-any : (x : Container) (ks : List Container) → AllByRecursion (λ k. same_id x.id k.id ≡ false) ks → list_any (λ k. same_id x.id k.id) ks ≡ false
    none-any x [] h = refl
    none-any x (k ∷ ks) h = ap (λ b. b || list_any (λ k. same_id x.id k.id) ks) h.0 ∙ none-any x ks h.1

    -- just the application's containers end
    hit-own : (p : Label) (x : Container) → x.id.label ≡ p → (is_of tenant app x ≡ true → list_any (λ k. same_id x.id k.id) mine ≡ true) → (is_of tenant app x ≡ false → AllByRecursion (λ k. same_id x.id k.id ≡ false) mine) →
        list_any (λ k. same_label p k.id.label && same_id x.id k.id) mine ≡ is_of tenant app x
    hit-own p x label on off = (λ i. list_any (λ k. both k i) mine) ∙ go (is_of tenant app x) refl
      where
        twice : (a b : Bool) → (a && (a && b)) ≡ (a && b)
        twice true b = refl
        twice false b = refl

        both : (k : Container) → (same_label p k.id.label && same_id x.id k.id) ≡ same_id x.id k.id
        both k = ap (λ l. same_label l k.id.label && same_id x.id k.id) (sym label) ∙ twice (same_label x.id.label k.id.label) _

        go : (b : Bool) → is_of tenant app x ≡ b → list_any (λ k. same_id x.id k.id) mine ≡ b
        go true e = on e
        go false e = none-any x mine (off e)

    fewer-row : (row : Partition) → find (is_partition row.label) rows ≡ Some row → AllByRecursion (λ k. is_of tenant app k ≡ true → list_any (λ other. same_id k.id other.id) mine ≡ true) row.containers →
        all_hit mine (λ p xs. xs) row.label row.containers ≡ without (is_of tenant app) row.containers
    fewer-row row e on =
        hits-are mine (λ p xs. xs) row.label row.containers
        ∙ filter-agree (λ x. list_any (λ k. same_label row.label k.id.label && same_id x.id k.id) mine ≡ is_of tenant app x) _ _ (λ x same. ap not same) row.containers
        (Each-with (λ x. (x.id.label ≡ row.label) × AllByRecursion (IsAlone x) row.containers) _ _
        (λ x k own. hit-own row.label x k.0 own (others-stay x (alone-over row x e k.0 k.1))) row.containers
        (Each-with _ _ (λ x. (x.id.label ≡ row.label) × AllByRecursion (IsAlone x) row.containers) (λ x own alone. (own.0, alone)) row.containers (numbered-row row e).own (alone-in row.containers (numbered-row row e).rising)) on)

rows-agree : (f g : Partition → Partition) (rows : List Partition) → AllByRecursion (λ row. f row ≡ g row) rows → map f rows ≡ map g rows
rows-agree f g [] h = refl
rows-agree f g (row ∷ rows) h = λ i. h.0 i ∷ rows-agree f g rows h.1 i

-- the containers of an application end one by one: their clocks rise, and they go
pub own-end : (c : Config) (s : State) (tenant app : Name) → IsOrdered c s → all_end c (all_own s tenant app) s ≡ all_without_own tenant app (clocks_rise c (all_own s tenant app) s)
own-end c s tenant app h =
    let own : List Container = all_own s tenant app in
    let z : State = clocks_rise c own s in
    let each : AllByRecursion (λ row. all_hit own (λ p xs. xs) row.label row.containers ≡ without (is_of tenant app) row.containers) s.partitions =
    Each-with _ _ (λ row. all_hit own (λ p xs. xs) row.label row.containers ≡ without (is_of tenant app) row.containers) (λ row e on. fewer-row s.partitions h.found h.ids tenant app row e on) s.partitions h.found (in-rows c tenant app s.partitions) in
    ap (all_end c own) (λ i. record s { partitions = as-it-is s.partitions i })
    ∙ ends-are c own (λ p xs. xs) s
    ∙ (λ i. record z {
      partitions = rows-agree (cleared_row (all_hit own (λ p xs. xs))) (without_own tenant app) z.partitions
          (Each-weaker _ _ (λ row e j. record row { containers = e j }) z.partitions (rises-keep c (λ p xs. all_hit own (λ p xs. xs) p xs ≡ without (is_of tenant app) xs) own s each)) i;
    })
