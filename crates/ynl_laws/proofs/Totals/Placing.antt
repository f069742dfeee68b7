-- What queues use once a request is placed, and once a container ends.
use Rattle.std.proofs.Common.{◌≡◌, ℕ, Bool, true, false, cond, List, [], ◌∷◌, ◌++◌, filter, find, Option, None, Some, option_map, refl, sym, ap, subst, ◌∙◌, append-nil}
use Rattle.std.specs.Prelude.{IfSome, if◌then◌else◌}
use Rattle.std.specs.Option.{option_map_or}
use mathlib.Core.Bool.{true≢false}
use Rattle.ynl_resource.specs.Names.{same_label, same_id}
use Rattle.ynl_resource.specs.declared.names.Name.{Name}
use Rattle.ynl_resource.specs.declared.labels.Label.{Label}
use Rattle.ynl_resource.specs.declared.paths.Path.{Path}
use Rattle.ynl_resource.specs.Tables.{without}
use Rattle.ynl_model.specs.declared.nodes.Node.{Node}
use Rattle.ynl_model.specs.declared.containers.Placed.{Placed as Container}
use Rattle.ynl_model.specs.declared.uses.Use.{Use}
use Rattle.ynl_model.specs.Queues.{Config}
use Rattle.ynl_model.specs.Applications.{leaf_of, with_app}
use Rattle.ynl_model.specs.Cluster.{State, Partition, is_partition, containers_on, next_clock}
use Rattle.ynl_model.specs.Service.{Item}
use Rattle.ynl_model.specs.Changes.{changed_at, container_of, place, taken, end}
use Rattle.ynl_laws.specs.Working.{on_in, has_row}
use Rattle.ynl_laws.specs.Uses.{use_by, use_of, raised_in, lowered_in}
use Rattle.ynl_laws.proofs.Names.{same-label_path, same-label_self}
use Rattle.ynl_laws.proofs.Lists.{find-through, found-passes}
use Rattle.ynl_laws.proofs.Events.Kept.{leaf_of-kept, with_app-names}
use Rattle.ynl_laws.proofs.Soundness.Ordered.{with_both, ticked}
use Rattle.ynl_laws.proofs.Totals.Inserted.{inserted-once}
use Rattle.ynl_laws.proofs.Totals.Used.{use-is, use-with, use-taken, use-same}

pub label_sym : (a b : Label) → same_label a b ≡ same_label b a
label_sym a b = go (same_label a b) (same_label b a) refl refl
  where
    go : (x y : Bool) → same_label a b ≡ x → same_label b a ≡ y → x ≡ y
    go true true e f = refl
    go false false e f = refl
    go true false e f = absurd (true≢false (sym (same-label_self a) ∙ ap (λ l. same_label l a) (same-label_path a b e) ∙ f))
    go false true e f = absurd (true≢false (sym (same-label_self b) ∙ ap (λ l. same_label l b) (same-label_path b a f) ∙ e))

-- one partition's containers are changed, and the others stay
on-ticked : (label p : Label) (new : ℕ) (change : List Container → List Container) (rows : List Partition) → has_row rows label ≡ true → on_in (ticked label new change rows) p ≡ cond (same_label label p) (change (on_in rows p)) (on_in rows p)
on-ticked label p new change rows there =
    ap (λ o. option_map_or (λ (row : Partition). row.containers) o []) (find-through at (is_partition p) (λ row. elim (same_label row.label label) as (λ b. same_label (cond b (with_both new change row) row).label p ≡ same_label row.label p) [ true ↦ refl | false ↦ refl ]) rows)
    ∙ go (find (is_partition p) rows) refl (found-passes (is_partition p) rows)
  where
    at : Partition → Partition
    at row = if same_label row.label label then with_both new change row else row

    go : (o : Option Partition) → find (is_partition p) rows ≡ o → IfSome o (λ row. same_label row.label p ≡ true)
        → option_map_or (λ row. row.containers) (option_map at o) [] ≡ cond (same_label label p) (change (option_map_or (λ row. row.containers) o [])) (option_map_or (λ row. row.containers) o [])
    go None e passes = by (same_label label p) refl
      where
        by : (b : Bool) → same_label label p ≡ b → [] ≡ cond b (change []) []
        by true t = absurd (true≢false (sym there ∙ ap (has_row rows) (same-label_path label p t) ∙ ap (λ o. option_map_or (λ (row : Partition). true) o false) e))
        by false t = refl
    go (Some row) e passes = by (same_label row.label label) (same_label label p) (ap (λ l. same_label l label) (same-label_path row.label p passes) ∙ label_sym p label)
      where
        by : (a b : Bool) → a ≡ b → (cond a (with_both new change row) row).containers ≡ cond b (change row.containers) row.containers
        by true b same = ap (λ b. cond b (change row.containers) row.containers) same
        by false b same = ap (λ b. cond b (change row.containers) row.containers) same

-- ---- placing

pub on-place : (c : Config) (node : Node) (item : Item) (s : State) → has_row s.partitions node.label ≡ true → (p : Label) → containers_on (place c node item s) p ≡ cond (same_label node.label p) (containers_on s p ++ container_of c s node item ∷ []) (containers_on s p)
unfolding place changed_at
on-place c node item s there p = on-ticked node.label p (next_clock c.labels s node.label) (λ xs. xs ++ container_of c s node item ∷ []) s.partitions there

leaves-place : (c : Config) (node : Node) (item : Item) (s : State) (tenant name : Name) → leaf_of (place c node item s).leaves tenant name ≡ leaf_of s.leaves tenant name
unfolding place
leaves-place c node item s tenant name = leaf_of-kept item.leaf (with_app item.app (taken item.what)) (with_app-names item.app (taken item.what)) s.leaves tenant name

pub use-place : (c : Config) (node : Node) (item : Item) (s : State) → has_row s.partitions node.label ≡ true → (p : Label) (queue : Path) →
    use_of (place c node item s) p queue ≡ (if same_label node.label p then raised_in s.leaves queue (container_of c s node item) (use_of s p queue) else use_of s p queue)
use-place c node item s there p queue =
    let k : Container = container_of c s node item in
    let xs : List Container = containers_on s p in
    use-is (place c node item s) p queue
    ∙ use-same s.leaves (place c node item s).leaves (leaves-place c node item s) queue (containers_on (place c node item s) p)
    ∙ ap (use_by s.leaves queue) (on-place c node item s there p)
    ∙ go (same_label node.label p)
    ∙ ap (λ (u : Use). cond (same_label node.label p) (raised_in s.leaves queue k u) u) (sym (use-is s p queue))
  where
    go : (b : Bool) → use_by s.leaves queue (cond b (containers_on s p ++ container_of c s node item ∷ []) (containers_on s p))
        ≡ cond b (raised_in s.leaves queue (container_of c s node item) (use_by s.leaves queue (containers_on s p))) (use_by s.leaves queue (containers_on s p))
    go true = use-with s.leaves queue (containers_on s p) [] (container_of c s node item) ∙ ap (λ xs. raised_in s.leaves queue (container_of c s node item) (use_by s.leaves queue xs)) (append-nil (containers_on s p))
    go false = refl

-- ---- ending

pub on-end : (c : Config) (s : State) (k : Container) → has_row s.partitions k.id.label ≡ true → (p : Label) → containers_on (end c s k) p ≡ cond (same_label k.id.label p) (without (λ other. same_id other.id k.id) (containers_on s p)) (containers_on s p)
unfolding end changed_at
on-end c s k there p = on-ticked k.id.label p (next_clock c.labels s k.id.label) (without (λ other. same_id other.id k.id)) s.partitions there

pub use-end : (c : Config) (s : State) (k : Container) → has_row s.partitions k.id.label ≡ true → filter (λ other. same_id other.id k.id) (containers_on s k.id.label) ≡ k ∷ [] → (p : Label) (queue : Path) →
    use_of (end c s k) p queue ≡ (if same_label k.id.label p then lowered_in s.leaves queue k (use_of s p queue) else use_of s p queue)
unfolding end changed_at
use-end c s k there once p queue =
    use-is (end c s k) p queue
    ∙ ap (use_by s.leaves queue) (on-end c s k there p)
    ∙ go (same_label k.id.label p) refl
    ∙ ap (λ (u : Use). cond (same_label k.id.label p) (lowered_in s.leaves queue k u) u) (sym (use-is s p queue))
  where
    test : Container → Bool
    test other = same_id other.id k.id

    go : (b : Bool) → same_label k.id.label p ≡ b → use_by s.leaves queue (cond b (without test (containers_on s p)) (containers_on s p)) ≡ cond b (lowered_in s.leaves queue k (use_by s.leaves queue (containers_on s p))) (use_by s.leaves queue (containers_on s p))
    go true at =
        let here : filter test (containers_on s p) ≡ k ∷ [] = subst (λ l. filter test (containers_on s l) ≡ k ∷ []) (same-label_path k.id.label p at) once in
        sym (use-taken s.leaves queue k (containers_on s p) (without test (containers_on s p)) (inserted-once test (containers_on s p) k here))
    go false at = refl
