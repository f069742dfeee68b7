-- A leaf is added to a sight, and what is there keeps its meaning.
use Rattle.std.proofs.Common.{◌≡◌, ℕ, ◌+◌, ◌-◌, ◌<◌, ◌≤◌, List, [], ◌∷◌, ◌++◌, length, map, flat_map, take, take_all, drop, append-nil, sym, ap, subst, ◌∙◌, arith}
use Rattle.std.specs.List.{AllByRecursion}
use Rattle.std.proofs.lemmas.Grind.{flat_map-append}
use Rattle.std.proofs.lemmas.List.{drop-append-le, drop_at, length-append, length-drop, take-append-le}
use Rattle.ynl_laws.proofs.Lists.{Each-append}
use Rattle.ynl_model.specs.declared.proposals.What.TheVariants.{Master, Ask as Asked}
use Rattle.ynl_inventory.specs.Sound.{HasPartition, IsSound}
use Rattle.ynl_cluster.specs.Cluster.{ClusterView, label_of}
use Rattle.ynl_sights.specs.declared.rows.QueueSight.{QueueSight}
use Rattle.ynl_sights.specs.declared.rows.LeafSight.{LeafSight}
use Rattle.ynl_sights.specs.declared.rows.LeafSights.{LeafSights}
use Rattle.ynl_sights.specs.Rows.{asks_at, asks_in, masters_at, masters_in, offer_by, reach_in, shown, way_in, IsSpan}
use Rattle.ynl_sights.specs.Copying.{AddsLeaf, AreAllTo, AreLeavesOn, AreLimitsOf}
use Rattle.ynl_sights.specs.Lists.{IsListOf}
use Rattle.ynl_sights.proofs.Seen.{asks-seen, masters-seen}

-- ---- lists that grow

widen : {X : Type 0} (P Q : X → Type 0) → ((x : X) → P x → Q x) → (xs : List X) → AllByRecursion P xs → AllByRecursion Q xs
widen P Q step [] all = tt
widen P Q step (x ∷ xs) all = (step x all.0, widen P Q step xs all.1)

each-same : {X Y : Type 0} (f g : X → List Y) (P : X → Type 0) → ((x : X) → P x → f x ≡ g x) → (xs : List X) → AllByRecursion P xs → flat_map f xs ≡ flat_map g xs
each-same f g P same [] all = λ i. []
each-same f g P same (x ∷ xs) all = λ i. same x all.0 i ++ each-same f g P same xs all.1 i

-- ---- ways

way-kept : (queues more : List QueueSight) (leaf : LeafSight) → IsSpan queues leaf → way_in (queues ++ more) leaf ≡ way_in queues leaf
way-kept queues more leaf is =
    let left : leaf.end - leaf.start ≤ length (drop leaf.start queues) = omega (arith, length-drop leaf.start queues, is.0, is.1) in
    ap (take (leaf.end - leaf.start)) (drop-append-le leaf.start queues more (omega (arith, is.0, is.1))) ∙ take-append-le (leaf.end - leaf.start) (drop leaf.start queues) more left

way-added : (queues more : List QueueSight) (leaf : LeafSight) → leaf.start ≡ length queues → leaf.end ≡ length queues + length more → way_in (queues ++ more) leaf ≡ more
way-added queues more leaf start end =
    (λ i. take (leaf.end - start i) (drop (start i) (queues ++ more)))
    ∙ ap (take (leaf.end - length queues)) (drop_at queues more (length queues) (λ i. length queues)) ∙ take_all (leaf.end - length queues) more (omega (arith, end))

-- ---- one leaf more

module _ (w : ClusterView) (sound : IsSound w.rows) (p : ℕ) (has : HasPartition w.rows p) (q : ℕ) where
  pub leaf-added : (old new : LeafSights) (leaf : LeafSight) (more : List QueueSight) → AreLeavesOn w p old → new.root ≡ old.root → new.queues.items ≡ old.queues.items ++ more → new.leaves.items ≡ old.leaves.items ++ leaf ∷ []
      → leaf.start ≡ length old.queues.items → leaf.end ≡ length new.queues.items → length old.queues.items < length new.queues.items
      → AreAllTo w p q more → AreLimitsOf w p q leaf.limits → IsListOf w.rows p q leaf.list.value → AddsLeaf w p q old new
  leaf-added old new leaf more are top grown pushed start end some own limits list = record {
    leaves = record {
      root = ap reach_in top ∙ are.root;
      ways =
          subst (AllByRecursion (IsSpan new.queues.items)) (sym pushed)
          (Each-append (IsSpan new.queues.items) old.leaves.items (leaf ∷ [])
          (widen (IsSpan old.queues.items) (IsSpan new.queues.items) (λ l is. (is.0, omega (arith, is.1, some))) old.leaves.items are.ways)
          ((omega (arith, start, end, some), omega (arith, end)), tt));
    };
    masters =
        ap (flat_map (masters_at new)) pushed
        ∙ flat_map-append (masters_at new) old.leaves.items (leaf ∷ [])
        ∙ (λ i. kept-masters i ++ (append-nil (masters_at new leaf) ∙ ap (λ way. map (λ o. offer_by new.root way leaf.limits Master (shown o)) leaf.list.value.masters.items) here
        ∙ masters-seen w sound p has q new.root (ap reach_in top ∙ are.root) more own leaf.limits limits leaf.list.value list) i);
    asks =
        ap (flat_map (asks_at (label_of w p) new)) pushed
        ∙ flat_map-append (asks_at (label_of w p) new) old.leaves.items (leaf ∷ [])
        ∙ (λ i. kept-asks i ++ (append-nil (asks_at (label_of w p) new leaf) ∙ ap (λ way. map (λ o. offer_by new.root way leaf.limits (Asked (label_of w p) o.wanted.priority) (shown o)) leaf.list.value.asks.items) here
        ∙ asks-seen w sound p has q new.root (ap reach_in top ∙ are.root) more own leaf.limits limits leaf.list.value list) i);
  }
    where
      here : way_in new.queues.items leaf ≡ more
      here =
          let many = ap length grown ∙ length-append old.queues.items more in
          ap (λ queues. way_in queues leaf) grown ∙ way-added old.queues.items more leaf start (end ∙ many)

      same : (l : LeafSight) → IsSpan old.queues.items l → way_in new.queues.items l ≡ way_in old.queues.items l
      same l is = ap (λ queues. way_in queues l) grown ∙ way-kept old.queues.items more l is

      kept-masters : flat_map (masters_at new) old.leaves.items ≡ masters_in old
      kept-masters =
          each-same (masters_at new) (masters_at old) (IsSpan old.queues.items)
          (λ l is i. map (λ o. offer_by (top i) (same l is i) l.limits Master (shown o)) l.list.value.masters.items) old.leaves.items are.ways

      kept-asks : flat_map (asks_at (label_of w p) new) old.leaves.items ≡ asks_in (label_of w p) old
      kept-asks =
          each-same (asks_at (label_of w p) new) (asks_at (label_of w p) old) (IsSpan old.queues.items)
          (λ l is i. map (λ o. offer_by (top i) (same l is i) l.limits (Asked (label_of w p) o.wanted.priority) (shown o)) l.list.value.asks.items) old.leaves.items are.ways
