-- No allocation takes a queue above its maximum, and only a node that leaves or a lowered maximum can bring a queue above it.
use Rattle.std.proofs.Common.{◌≡◌, ◌≢◌, ◌⊎◌, inl, inr, ℕ, zero, suc, ◌+◌, ◌*◌, ◌≤◌, ◌<◌, Bool, true, false, cond, not, ◌&&◌, List, [], ◌∷◌, ◌++◌, map, length, take, Option, Some, None, is_some, option_map, filter, find, fold, refl, sym, ap, subst, ◌∙◌, arith, append-nil, le_refl, le_trans}
use Rattle.std.specs.Prelude.{IfSome, nat_lt, if◌then◌else◌}
use Rattle.std.specs.List.{list_all}
use Rattle.std.specs.Option.{option_map_or}
use Rattle.std.proofs.Math.Nat.{mul-le-mul_left, mul-le-mul_right}
use Rattle.std.proofs.lemmas.Bool.Decides.{nat_tests}
use Rattle.std.specs.Cmp.Lexicographic.{bytes_decides}
use mathlib.Core.Bool.{true≢false}
use Rattle.ynl_resource.specs.Amounts.{plus, fits_in, total_of, scale_floor}
use Rattle.ynl_resource.specs.declared.amounts.Resource.{Resource}
use Rattle.ynl_resource.specs.Names.{same_name, same_label, root, same_path, is_within, way_to, tenant_of}
use Rattle.ynl_resource.specs.declared.names.Name.{Name}
use Rattle.ynl_resource.specs.declared.labels.Label.{Label}
use Rattle.ynl_resource.specs.declared.paths.Path.{Path}
use Rattle.ynl_model.specs.Nodes.{nodes_of, total as total_on, joined, left, is_at}
use Rattle.ynl_model.specs.declared.nodes.Node.{Node}
use Rattle.ynl_model.specs.Queues.{Config, is_maximum_of, maximum_on, set_maximum, nested_floor, maximum as maximum_of}
use Rattle.ynl_model.specs.declared.queues.MaximumRow.{MaximumRow}
use Rattle.ynl_resource.specs.Ranges.{whole}
use Rattle.ynl_model.specs.Applications.{Application, LeafApps, leaf_of, find_app, in_leaf, submitted, with_app, finished, new_app}
use Rattle.ynl_model.specs.Cluster.{State, Partition, is_partition, in_partition, containers_on, sizes, is_guest, is_guest_on, is_below, used, maximum, node_of, opening, next_clock}
use Rattle.ynl_model.specs.declared.containers.Placed.{Placed as Container}
use Rattle.ynl_model.specs.Service.{Item, within_maximum}
use Rattle.ynl_model.specs.Changes.{node_joins, node_leaves, changed_at, container_of, taken, place, end, beat, all_own, all_end, app_finishes}
use Rattle.ynl_model.specs.Check.{proposed_item}
use Rattle.ynl_model.specs.Events.{container_at, container_for, home_of, accepted, reasons, step, after, state_after}
use Rattle.ynl_model.specs.declared.events.Event.{Event}
use Rattle.ynl_model.specs.declared.events.Event.TheVariants.{Register, Lost, Relabel, Heartbeat, Exited, Submit, Ask, Release, Finish, Stop, Start, Poll, Usage, Propose, Commit, Maximum}
use Rattle.ynl_model.specs.Promises.{without_stamp, KeepsMaximum, IsNeverOver, IsUnrefused, LowersMaximum, IsOnlyLoweredInto}
use Rattle.ynl_laws.specs.Working.{IsKnown, UsesAll, Kept}
use Rattle.ynl_laws.proofs.Soundness.Tracked.{Same, place-same, end-same}
use Rattle.ynl_laws.proofs.Amounts.{fits-refl, fits-trans, fits-filter, total-append}
use Rattle.ynl_laws.proofs.Events.Kept.{KeepsNames, Extends, kept-on, by-row, submit-extends, leaf-extends, with_app-names, finished-names}
use Rattle.ynl_laws.proofs.Events.Chosen.{Fits, commit-fits, none-holds}
use Rattle.ynl_laws.proofs.Events.Changed.{kept-place, place-extends, kept-leaves, kept-end, beat-keeps, step-keeps, after-keeps, kept-opening}
use Rattle.ynl_laws.proofs.Events.Outcomes.{step-cases, there}
use Rattle.ynl_laws.proofs.Lists.{found-passes, all-weaker, fold-same, find-through, filter-agree, filter-swap, filter-filter, filter-map, find-other}
use Rattle.ynl_laws.proofs.Logic.{not-true}
use Rattle.ynl_laws.proofs.Names.{same-path, same-name_sym, same-label_path, same-label_self}
use Rattle.ynl_laws.proofs.Amounts.{total-map}
use Rattle.std.proofs.lemmas.Bool.{and_from, and_parts}
use Rattle.std.proofs.lemmas.List.Folds.{list_all-map}
use Rattle.std.proofs.lemmas.List.Elements.{filter-append}

-- ---- use

-- what a queue uses by some containers
abbrev use_by : List LeafApps → Path → List Container → Resource
use_by leaves queue containers = sizes (filter (λ container. not (is_guest container) && is_below leaves queue container) containers)

use-extends : (old new : List LeafApps) (queue : Path) (containers : List Container) → Extends old new → UsesAll old containers → use_by new queue containers ≡ use_by old queue containers
use-extends old new queue containers ext h = ap sizes (filter-agree (λ container. is_some (leaf_of old container.tenant container.app) ≡ true) _ _
    (λ container e i. not (is_guest container) && option_map_or (is_within queue) (ext container.tenant container.app e i) false) containers h)

-- containers of which none is new
abbrev pub Fewer : List Container → List Container → Type 0
Fewer old new = (test : Container → Bool) → fits_in (sizes (filter test new)) (sizes (filter test old)) ≡ true

pub fewer-same : (containers : List Container) → Fewer containers containers
fewer-same containers test = fits-refl (sizes (filter test containers))

pub fewer-filter : (f : Container → Bool) (containers : List Container) → Fewer containers (filter f containers)
fewer-filter f containers test = subst (λ few. fits_in (sizes few) (sizes (filter test containers)) ≡ true) (filter-swap test f containers) (fits-filter _ f (filter test containers))

-- a change of a partition that keeps some containers
pub fewer-in : (rows : List Partition) (label p : Label) (change : Partition → Partition) → ((row : Partition) → (change row).label ≡ row.label) → ((row : Partition) → Fewer row.containers (change row).containers) →
    Fewer (option_map_or (λ row. row.containers) (find (is_partition p) rows) []) (option_map_or (λ row. row.containers) (find (is_partition p) (in_partition label change rows)) [])
fewer-in rows label p change keeps few = by-row Fewer (λ row. row.containers) [] label p change keeps rows (λ row _ e. go (same_label row.label label) row) (fewer-same [])
  where
    go : (b : Bool) (row : Partition) → Fewer row.containers (cond b (change row) row).containers
    go true row = few row
    go false row = fewer-same row.containers

-- the use of a queue does not rise
abbrev NoMoreUsed : State → State → Path → Label → Type 0
NoMoreUsed s u queue p = fits_in (used u queue p) (used s queue p) ≡ true

use-falls : (s u : State) (queue : Path) (p : Label) → Kept s → Extends s.leaves u.leaves → Fewer (containers_on s p) (containers_on u p) → NoMoreUsed s u queue p
unfolding used
use-falls s u queue p h ext few =
    subst (λ old. fits_in (use_by u.leaves queue (containers_on u p)) old ≡ true) (use-extends s.leaves u.leaves queue (containers_on s p) ext (kept-on s h p)) (few _)

-- ---- maxima

-- the total is that of the nodes without their stamps
pub total-places : (nodes : List Node) (p : Label) → total_on nodes p ≡ total_of (λ node. node.size) (filter (λ node. same_label node.label p) (map without_stamp nodes))
unfolding total_on
total-places nodes p = sym (ap (total_of (λ node. node.size)) (filter-map without_stamp (λ node. same_label node.label p) nodes) ∙ total-map (λ node. node.size) without_stamp (nodes_of nodes p))

pub total-same : (s u : State) (p : Label) → Same s u → total_on u.nodes p ≡ total_on s.nodes p
total-same s u p same = total-places u.nodes p ∙ ap (λ nodes. total_of (λ node. node.size) (filter (λ node. same_label node.label p) nodes)) same ∙ sym (total-places s.nodes p)

floor-more : (a b : Resource) (less more : ℕ) → less ≤ more → fits_in a b ≡ true → fits_in (scale_floor a less whole) (scale_floor b more whole) ≡ true
floor-more a b less more up h =
    let memory : a.memory * less ≤ b.memory * more = le_trans (mul-le-mul_right less (memories h)) (mul-le-mul_left b.memory up) in
    let vcores : a.vcores * less ≤ b.vcores * more = le_trans (mul-le-mul_right less (cores h)) (mul-le-mul_left b.vcores up) in
    grind (arith, nat_tests, memory, vcores)
  where
    memories : fits_in a b ≡ true → a.memory ≤ b.memory
    memories h = grind (arith, nat_tests)

    cores : fits_in a b ≡ true → a.vcores ≤ b.vcores
    cores h = grind (arith, nat_tests)

-- more at root, and shares that do not fall, come to more
nested-more : (old new : Path → ℕ) → ((queue : Path) → old queue ≤ new queue) → (way : List Path) (a b : Resource) → fits_in a b ≡ true →
    fits_in (fold (λ above step. scale_floor above (old step) whole) a way) (fold (λ above step. scale_floor above (new step) whole) b way) ≡ true
nested-more old new up [] a b h = h
nested-more old new up (queue ∷ way) a b h = nested-more old new up way _ _ (floor-more a b (old queue) (new queue) (up queue) h)

-- the maximum of a queue does not fall
abbrev NoLower : State → State → Path → Label → Type 0
NoLower s u queue p = fits_in (maximum s queue p) (maximum u queue p) ≡ true

maximum-more : (s u : State) (queue : Path) (p : Label) → u.maxima ≡ s.maxima → fits_in (total_on s.nodes p) (total_on u.nodes p) ≡ true → NoLower s u queue p
unfolding maximum maximum_of
maximum-more s u queue p same more =
    subst (λ maxima. fits_in (nested_floor (λ step. maximum_on s.maxima step p) queue (total_on s.nodes p)) (nested_floor (λ step. maximum_on maxima step p) queue (total_on u.nodes p)) ≡ true) (sym same)
    (nested-more (λ step. maximum_on s.maxima step p) (λ step. maximum_on s.maxima step p) (λ step. le_refl (maximum_on s.maxima step p)) (way_to queue) _ _ more)

maximum-stays : (s u : State) (queue : Path) (p : Label) → u.maxima ≡ s.maxima → Same s u → NoLower s u queue p
maximum-stays s u queue p same nodes = maximum-more s u queue p same (subst (λ total. fits_in (total_on s.nodes p) total ≡ true) (sym (total-same s u p nodes)) (fits-refl (total_on s.nodes p)))

-- ---- quiet changes

-- the use of a queue does not rise and its maximum does not fall, or the use is within the maximum after that
abbrev Quiet : State → State → Path → Label → Type 0
Quiet s u queue p = (NoMoreUsed s u queue p × NoLower s u queue p) ⊎ (fits_in (used u queue p) (maximum u queue p) ≡ true)

quiet-self : (s : State) (queue : Path) (p : Label) → Quiet s s queue p
quiet-self s queue p = inl (fits-refl (used s queue p), fits-refl (maximum s queue p))

quiet-then : (s u v : State) (queue : Path) (p : Label) → Quiet s u queue p → Quiet u v queue p → Quiet s v queue p
quiet-then s u v queue p h (inr k) = inr k
quiet-then s u v queue p (inl h) (inl k) =
    inl (fits-trans (used v queue p) (used u queue p) (used s queue p) k.0 h.0, fits-trans (maximum s queue p) (maximum u queue p) (maximum v queue p) h.1 k.1)
quiet-then s u v queue p (inr h) (inl k) =
    inr (fits-trans (used v queue p) (used u queue p) (maximum v queue p) k.0 (fits-trans (used u queue p) (maximum u queue p) (maximum v queue p) h k.1))

-- containers go, or none comes, and nodes and maxima stay
quiet-fewer : (s u : State) (queue : Path) (p : Label) → Kept s → Extends s.leaves u.leaves → Fewer (containers_on s p) (containers_on u p) → u.maxima ≡ s.maxima → Same s u → Quiet s u queue p
quiet-fewer s u queue p h ext few maxima nodes = inl (use-falls s u queue p h ext few, maximum-stays s u queue p maxima nodes)

same-leaves : (leaves : List LeafApps) → Extends leaves leaves
same-leaves leaves tenant name h = refl

-- ---- placements

-- what holds of root and of each queue on the way to a leaf holds of each queue that the leaf is within
on-way : (f : Path → Bool) (queue leaf : Path) → is_within queue leaf ≡ true → list_all f (root ∷ way_to leaf) ≡ true → f queue ≡ true
on-way f [] leaf w h = (and_parts _ _ h).0
on-way f (name ∷ queue) [] w h = absurd (true≢false (sym w))
on-way f (name ∷ queue) (step ∷ leaf) w h =
    let below : (f (step ∷ []) && list_all f (map (λ path. step ∷ path) (way_to leaf))) ≡ true = (and_parts (f []) _ h).1 in
    subst (λ n. f (n ∷ queue) ≡ true) (sym (same-name_sym name step (and_parts _ _ w).0))
    (on-way (λ path. f (step ∷ path)) queue leaf (and_parts (same_name name step) _ w).1 (and_from _ _ (and_parts _ _ below).0 (sym (list_all-map f (λ path. step ∷ path) (way_to leaf)) ∙ (and_parts (f (step ∷ [])) _ below).1)))

-- the use stays, or it rises by the size of a request that is no guest, on the partition of the node, in a queue that its leaf is within
Rises : Label → Label → Item → Path → Resource → Resource → Type 0
Rises at p item queue old new = (new ≡ old) ⊎ ((at ≡ p) × (new ≡ plus old item.size) × (is_within queue item.leaf ≡ true) × (is_guest_on at item.what ≡ false))

place-rises : (c : Config) (node : Node) (item : Item) (s : State) (queue : Path) (p : Label) → Kept s → IsKnown s.leaves item.leaf item.app → Rises node.label p item queue (used s queue p) (used (place c node item s) queue p)
unfolding used place changed_at container_of Rises
place-rises c node item s queue p h known =
    subst (λ old. Rises node.label p item queue old (use_by new queue (containers_on (place c node item s) p))) (use-extends s.leaves new queue (containers_on s p) (place-extends s item) (kept-on s h p))
    (by-row (λ a b. Rises node.label p item queue (use_by new queue a) (use_by new queue b)) (λ row. row.containers) [] node.label p _ (λ row. refl) s.partitions (λ row _ e. go row e (same_label row.label node.label) refl) (inl refl))
  where
    new : List LeafApps
    new = in_leaf item.leaf (with_app item.app (taken item.what)) s.leaves

    counts : Container → Bool
    counts container = not (is_guest container) && is_below new queue container

    below : leaf_of new (tenant_of item.leaf) item.app ≡ Some item.leaf
    below = place-extends s item (tenant_of item.leaf) item.app (ap is_some known) ∙ known

    added : (row : Partition) → node.label ≡ p → (b : Bool) → counts (container_of c s node item) ≡ b →
        Rises node.label p item queue (use_by new queue row.containers) (sizes (filter counts row.containers ++ cond b (container_of c s node item ∷ []) []))
    added row at false e = inl (ap sizes (append-nil (filter counts row.containers)))
    added row at true e =
        inr (
          at,
          total-append (λ container. container.size) (filter counts row.containers) (container_of c s node item),
          sym (λ i. option_map_or (is_within queue) (below i) false) ∙ (and_parts (not (is_guest (container_of c s node item))) _ e).1,
          not-true _ (and_parts _ _ e).0,
        )

    go : (row : Partition) → same_label row.label p ≡ true → (b : Bool) → same_label row.label node.label ≡ b →
        Rises node.label p item queue (use_by new queue row.containers) (use_by new queue (cond b (record row { clock = next_clock c.labels s node.label; containers = row.containers ++ container_of c s node item ∷ [] }) row).containers)
    go row e false f = inl refl
    go row e true f =
        subst (λ few. Rises node.label p item queue (use_by new queue row.containers) (sizes few)) (sym (filter-append counts row.containers (container_of c s node item ∷ [])))
        (subst (λ b. Rises node.label p item queue (use_by new queue row.containers) (sizes (filter counts row.containers ++ cond b (container_of c s node item ∷ []) []))) refl
        (added row (sym (same-label_path row.label node.label f) ∙ same-label_path row.label p e) (counts (container_of c s node item)) refl))

kept-maximum : (s : State) (p : Label) (item : Item) (queue : Path) → within_maximum s p item ≡ true → is_within queue item.leaf ≡ true → fits_in (plus (used s queue p) item.size) (maximum s queue p) ≡ true
unfolding within_maximum
kept-maximum s p item queue h w = on-way (λ queue. fits_in (plus (used s queue p) item.size) (maximum s queue p)) queue item.leaf w h

place-maxima : (c : Config) (node : Node) (item : Item) (s : State) → (place c node item s).maxima ≡ s.maxima
unfolding place changed_at
place-maxima c node item s = refl

place-quiet : (c : Config) (node : Node) (item : Item) (s : State) (queue : Path) (p : Label) → Kept s → Fits s node item → Quiet s (place c node item s) queue p
unfolding Rises
place-quiet c node item s queue p h fits = go (place-rises c node item s queue p h fits.known) fits.within
  where
    lower : NoLower s (place c node item s) queue p
    lower = maximum-stays s (place c node item s) queue p (place-maxima c node item s) (place-same c node item s)

    go : Rises node.label p item queue (used s queue p) (used (place c node item s) queue p) → (is_guest_on node.label item.what ≡ true) ⊎ (within_maximum s node.label item ≡ true) → Quiet s (place c node item s) queue p
    go (inl same) w = inl (subst (λ u. fits_in u (used s queue p) ≡ true) (sym same) (fits-refl (used s queue p)), lower)
    go (inr (at, more, within, own)) (inl guest) = absurd (true≢false (sym guest ∙ own))
    go (inr (at, more, within, own)) (inr w) = inr (fits-trans (used (place c node item s) queue p) (maximum s queue p) (maximum (place c node item s) queue p)
        (subst (λ u. fits_in u (maximum s queue p) ≡ true) (sym more)
        (subst (λ l. fits_in (plus (used s queue l) item.size) (maximum s queue l) ≡ true) at (kept-maximum s node.label item queue w within))) lower)

-- ---- nodes

joined-more : (node : Node) (nodes : List Node) (p : Label) → fits_in (total_on nodes p) (total_on (joined node nodes) p) ≡ true
unfolding total_on joined
joined-more node nodes p = subst (λ more. fits_in (total_of (λ n. n.size) (nodes_of nodes p)) (total_of (λ n. n.size) more) ≡ true) (sym (filter-append (λ n. same_label n.label p) nodes (node ∷ []))) (go (same_label node.label p))
  where
    go : (b : Bool) → fits_in (total_of (λ n. n.size) (nodes_of nodes p)) (total_of (λ n. n.size) (nodes_of nodes p ++ cond b (node ∷ []) [])) ≡ true
    go false = subst (λ xs. fits_in (total_of (λ n. n.size) (nodes_of nodes p)) (total_of (λ n. n.size) xs) ≡ true) (sym (append-nil (nodes_of nodes p))) (fits-refl (total_of (λ n. n.size) (nodes_of nodes p)))
    go true = subst (λ t. fits_in (total_of (λ n. n.size) (nodes_of nodes p)) t ≡ true) (sym (total-append (λ n. n.size) (nodes_of nodes p) node)) (grind (arith, nat_tests))

-- a node that leaves is of no other partition
left-elsewhere : (node : Node) (nodes : List Node) (p : Label) → same_label node.label p ≡ false → total_on (left node nodes) p ≡ total_on nodes p
unfolding total_on left
left-elsewhere node nodes p off = ap (total_of (λ n. n.size)) (filter-filter (λ n. not (is_at node.name node.label n)) (λ n. same_label n.label p) (λ n e. go n e (is_at node.name node.label n) refl) nodes)
  where
    go : (n : Node) → same_label n.label p ≡ true → (b : Bool) → is_at node.name node.label n ≡ b → not b ≡ true
    go n e false f = refl
    go n e true f = absurd (true≢false (sym e ∙ ap (λ l. same_label l p) (same-label_path n.label node.label (and_parts (same_name n.name node.name) _ f).1) ∙ off))

joins-falls : (c : Config) (name : Name) (label : Label) (size : Resource) (s : State) (queue : Path) (p : Label) → Kept s → NoMoreUsed s (node_joins c name label size s) queue p
unfolding node_joins
joins-falls c name label size s queue p h =
    use-falls s (node_joins c name label size s) queue p h (same-leaves s.leaves) (fewer-in s.partitions label p _ (λ row. refl) (λ row. fewer-same row.containers))

joins-quiet : (c : Config) (name : Name) (label : Label) (size : Resource) (s : State) (queue : Path) (p : Label) → Kept s → Quiet s (node_joins c name label size s) queue p
unfolding node_joins
joins-quiet c name label size s queue p h = inl (joins-falls c name label size s queue p h, maximum-more s (node_joins c name label size s) queue p refl (joined-more _ s.nodes p))

leaves-falls : (node : Node) (s : State) (queue : Path) (p : Label) → Kept s → NoMoreUsed s (node_leaves node s) queue p
unfolding node_leaves
leaves-falls node s queue p h =
    use-falls s (node_leaves node s) queue p h (same-leaves s.leaves) (fewer-in s.partitions node.label p _ (λ row. refl) (λ row. fewer-filter _ row.containers))

leaves-quiet : (node : Node) (s : State) (queue : Path) (p : Label) → Kept s → same_label node.label p ≡ false → Quiet s (node_leaves node s) queue p
unfolding node_leaves
leaves-quiet node s queue p h off = inl (
  leaves-falls node s queue p h,
  maximum-more s (node_leaves node s) queue p refl
      (subst (λ t. fits_in (total_on s.nodes p) t ≡ true) (sym (left-elsewhere node s.nodes p off)) (fits-refl (total_on s.nodes p))),
)

-- ---- ends

end-quiet : (c : Config) (s : State) (container : Container) (queue : Path) (p : Label) → Kept s → Quiet s (end c s container) queue p
unfolding end changed_at
end-quiet c s container queue p h =
    quiet-fewer s (end c s container) queue p h (same-leaves s.leaves) (fewer-in s.partitions container.id.label p _ (λ row. refl) (λ row. fewer-filter _ row.containers)) refl (end-same c s container)

leaf-quiet : (s : State) (leaf : Path) (change : LeafApps → LeafApps) (queue : Path) (p : Label) → KeepsNames change → Kept s → Quiet s (record s { leaves = in_leaf leaf change s.leaves }) queue p
leaf-quiet s leaf change queue p same h =
    quiet-fewer s (record s { leaves = in_leaf leaf change s.leaves }) queue p h (leaf-extends leaf change same s.leaves) (fewer-same (containers_on s p)) refl refl

finish-quiet : (c : Config) (app : Application) (s : State) (queue : Path) (p : Label) → Kept s → Quiet s (app_finishes c app s) queue p
unfolding app_finishes end changed_at
finish-quiet c app s queue p h = go (all_own s (tenant_of app.leaf) app.name) s h
  where
    go : (containers : List Container) (u : State) → Kept u → Quiet u (record (all_end c containers u) { leaves = in_leaf app.leaf (finished app.name) u.leaves }) queue p
    go [] u k = leaf-quiet u app.leaf (finished app.name) queue p (finished-names app.name) k
    go (container ∷ containers) u k = quiet-then u (end c u container) _ queue p (end-quiet c u container queue p k) (go containers (end c u container) (kept-end c u container k))

beat-quiet : (c : Config) (node : Node) (times : ℕ) (s : State) (queue : Path) (p : Label) → Kept s → Quiet s (beat c node times s).state queue p
beat-quiet c node times s queue p h =
    (beat-keeps (λ u. Kept u × Quiet s u queue p) c node
    (λ u item k fits _. (kept-place c node item u k.0 fits.known, quiet-then s u (place c node item u) queue p k.1 (place-quiet c node item u queue p k.0 fits))) (λ u k. k.0) times s (h, quiet-self s queue p)).1

-- ---- a maximum is set

-- each queue on the way to a queue is above it
way-above : (queue : Path) → list_all (λ step. is_within step queue) (way_to queue) ≡ true
way-above [] = refl
way-above (name ∷ queue) =
    let self : same_name name name ≡ true = (bytes_decides name name).1 refl in
    and_from _ _ (and_from _ _ self refl)
    (list_all-map (λ step. is_within step (name ∷ queue)) (λ below. name ∷ below) (way_to queue)
    ∙ all-weaker (λ step. is_within step queue) (λ step. same_name name name && is_within step queue) (λ step k. and_from _ _ self k) (way_to queue) (way-above queue))

set-other : (above step queue : Path) (label p : Label) (share : ℕ) (maxima : List MaximumRow) → (same_label label p && is_within above queue) ≡ false → is_within step queue ≡ true →
    maximum_on (set_maximum above label share maxima) step p ≡ maximum_on maxima step p
unfolding maximum_on
set-other above step queue label p share maxima off below =
    ap (λ found. option_map_or (λ row. row.share) found 0) (find-other (is_maximum_of step p) (is_maximum_of above label) (λ row. record row { share = share }) (λ row. refl)
    (λ row e. go row (is_maximum_of above label row) refl (and_parts _ _ e).0 (and_parts (same_path row.queue step) _ e).1) maxima)
  where
    go : (row : MaximumRow) (b : Bool) → is_maximum_of above label row ≡ b → same_path row.queue step ≡ true → same_label row.label p ≡ true → is_maximum_of above label row ≡ false
    go row false f at on = f
    go row true f at on =
        let queues : above ≡ step = sym (same-path row.queue above (and_parts _ _ f).0) ∙ same-path row.queue step at in
        absurd (true≢false (sym (and_from _ _ (subst (λ l. same_label l p ≡ true) (same-label_path row.label label (and_parts (same_path row.queue above) _ f).1) on) (ap (λ path. is_within path queue) queues ∙ below)) ∙ off))

set-stays : (s : State) (above queue : Path) (label p : Label) (share : ℕ) → (same_label label p && is_within above queue) ≡ false → maximum (record s { maxima = set_maximum above label share s.maxima }) queue p ≡ maximum s queue p
unfolding maximum maximum_of
set-stays s above queue label p share off =
    fold-same (λ step. is_within step queue) _ _ (λ amount step below. ap (λ part. scale_floor amount part whole) (set-other above step queue label p share s.maxima off below)) (way_to queue) (way-above queue) (total_on s.nodes p)

-- a maximum that is not set lower leaves no maximum lower
set-rises : (above step : Path) (label p : Label) (share : ℕ) (maxima : List MaximumRow) → maximum_on maxima above label ≤ share → maximum_on maxima step p ≤ maximum_on (set_maximum above label share maxima) step p
unfolding maximum_on
set-rises above step label p share maxima up =
    subst (λ found. option_map_or (λ row. row.share) (find (is_maximum_of step p) maxima) 0 ≤ option_map_or (λ row. row.share) found 0)
    (sym (find-through at (is_maximum_of step p) (λ row. by row (is_maximum_of above label row)) maxima))
    (go (find (is_maximum_of step p) maxima) refl (found-passes (is_maximum_of step p) maxima))
  where
    at : MaximumRow → MaximumRow
    at row = if is_maximum_of above label row then record row { share = share } else row

    by : (row : MaximumRow) (b : Bool) → is_maximum_of step p (cond b (record row { share = share }) row) ≡ is_maximum_of step p row
    by row true = refl
    by row false = refl

    -- a row that is set is the one that is found
    same : (row : MaximumRow) → find (is_maximum_of step p) maxima ≡ Some row → is_maximum_of step p row ≡ true → is_maximum_of above label row ≡ true → row.share ≤ share
    same row e found set =
        let queues : above ≡ step = sym (same-path row.queue above (and_parts _ _ set).0) ∙ same-path row.queue step (and_parts _ _ found).0 in
        let labels : label ≡ p = sym (same-label_path row.label label (and_parts (same_path row.queue above) _ set).1) ∙ same-label_path row.label p (and_parts (same_path row.queue step) _ found).1 in
        subst (λ n. n ≤ share) ((λ i. option_map_or (λ row. row.share) (find (is_maximum_of (queues i) (labels i)) maxima) 0) ∙ ap (λ o. option_map_or (λ row. row.share) o 0) e) up

    go : (o : Option MaximumRow) → find (is_maximum_of step p) maxima ≡ o → IfSome o (λ row. is_maximum_of step p row ≡ true) → option_map_or (λ row. row.share) o 0 ≤ option_map_or (λ row. row.share) (option_map at o) 0
    go None e found = le_refl 0
    go (Some row) e found = by-set (is_maximum_of above label row) refl
      where
        by-set : (b : Bool) → is_maximum_of above label row ≡ b → row.share ≤ (cond b (record row { share = share }) row).share
        by-set true set = same row e found set
        by-set false set = le_refl row.share

set-more : (s : State) (above queue : Path) (label p : Label) (share : ℕ) → maximum_on s.maxima above label ≤ share → NoLower s (record s { maxima = set_maximum above label share s.maxima }) queue p
unfolding maximum maximum_of
set-more s above queue label p share up =
    nested-more (λ step. maximum_on s.maxima step p) (λ step. maximum_on (set_maximum above label share s.maxima) step p) (λ step. set-rises above step label p share s.maxima up) (way_to queue) _ _ (fits-refl (total_on s.nodes p))

-- ---- each event

-- the event is quiet for the queue, or it is not refused, may lower the queue's maximum, and does not raise its use
abbrev Allowed : Config → State → State → Event → Path → Label → Type 0
Allowed c s u event queue p = Quiet s u queue p ⊎ (NoMoreUsed s u queue p × IsUnrefused c s event × LowersMaximum s event queue p)

accepted-allowed : (c : Config) (s : State) (event : Event) (queue : Path) (p : Label) → Kept s → IsUnrefused c s event → Allowed c s (accepted c s event).state event queue p
unfolding accepted reasons
accepted-allowed c s (Register name label size) queue p h none = inl (joins-quiet c name label size s queue p h)
accepted-allowed c s (Lost name) queue p h none =
    there (λ u. Allowed c s u (Lost name) queue p) (node_of s name) s _ (inl (quiet-self s queue p)) (λ node e. go node e (same_label node.label p) refl)
  where
    go : (node : Node) → node_of s name ≡ Some node → (b : Bool) → same_label node.label p ≡ b → Allowed c s (node_leaves node s) (Lost name) queue p
    go node e true f = inr (leaves-falls node s queue p h, none, (node, e, same-label_path node.label p f))
    go node e false f = inl (leaves-quiet node s queue p h f)
accepted-allowed c s (Relabel name label) queue p h none =
    there (λ u. Allowed c s u (Relabel name label) queue p) (node_of s name) s _ (inl (quiet-self s queue p)) (λ node e. go node e (same_label node.label p) refl)
  where
    -- it goes to another label
    moves : (node : Node) → node_of s name ≡ Some node → node.label ≡ p → label ≢ p
    moves node e at to = absurd (true≢false (sym (same-label_self p) ∙ (λ i. same_label (sym at i) (sym to i)) ∙ (λ i. option_map_or (λ other. same_label other.label label) (sym e i) false)
        ∙ (none-holds (reasons c s (Relabel name label)) none).1.1.0))

    go : (node : Node) → node_of s name ≡ Some node → (b : Bool) → same_label node.label p ≡ b → Allowed c s (node_joins c name label node.size (node_leaves node s)) (Relabel name label) queue p
    go node e true f =
        let at : node.label ≡ p = same-label_path node.label p f in
        inr (
          fits-trans (used (node_joins c name label node.size (node_leaves node s)) queue p) (used (node_leaves node s) queue p) (used s queue p)
              (joins-falls c name label node.size (node_leaves node s) queue p (kept-leaves node s h)) (leaves-falls node s queue p h),
          none,
          ((node, e, at), moves node e at),
        )
    go node e false f = inl (quiet-then s (node_leaves node s) (node_joins c name label node.size (node_leaves node s)) queue p (leaves-quiet node s queue p h f)
        (joins-quiet c name label node.size (node_leaves node s) queue p (kept-leaves node s h)))
accepted-allowed c s (Heartbeat name) queue p h none =
    inl (there (λ u. Quiet s u queue p) (node_of s name) s _ (quiet-self s queue p) (λ node e. beat-quiet c node c.containers_per_heartbeat s queue p h))
accepted-allowed c s (Exited name id) queue p h none = inl (there (λ u. Quiet s u queue p) (container_at s name id) s _ (quiet-self s queue p) (λ container e. end-quiet c s container queue p h))
accepted-allowed c s (Submit leaf app user label master) queue p h none =
    inl (quiet-fewer s (record s { leaves = in_leaf leaf (submitted (new_app leaf app user (home_of c leaf label) master)) s.leaves }) queue p h
    (submit-extends (new_app leaf app user (home_of c leaf label) master) s.leaves (none-holds (reasons c s (Submit leaf app user label master)) none).1.1.1.1.1.1.0) (fewer-same (containers_on s p)) refl refl)
accepted-allowed c s (Ask tenant app label priority count size) queue p h none =
    inl (there (λ u. Quiet s u queue p) (find_app s.leaves tenant app) s _ (quiet-self s queue p) (λ found e. leaf-quiet s found.leaf _ queue p (with_app-names app _) h))
accepted-allowed c s (Release tenant id) queue p h none = inl (there (λ u. Quiet s u queue p) (container_for s tenant id) s _ (quiet-self s queue p) (λ container e. end-quiet c s container queue p h))
accepted-allowed c s (Finish tenant app) queue p h none = inl (there (λ u. Quiet s u queue p) (find_app s.leaves tenant app) s _ (quiet-self s queue p) (λ found e. finish-quiet c found s queue p h))
accepted-allowed c s (Stop stopped) queue p h none = inl (quiet-fewer s (accepted c s (Stop stopped)).state queue p h (same-leaves s.leaves) (fewer-same (containers_on s p)) refl refl)
accepted-allowed c s (Start stopped) queue p h none = inl (quiet-fewer s (accepted c s (Start stopped)).state queue p h (same-leaves s.leaves) (fewer-same (containers_on s p)) refl refl)
accepted-allowed c s (Poll tenant app label) queue p h none = inl (quiet-self s queue p)
accepted-allowed c s (Usage asked label) queue p h none = inl (quiet-self s queue p)
accepted-allowed c s (Propose name) queue p h none = inl (there (λ u. Quiet s u queue p) (node_of s name) s _ (quiet-self s queue p) (λ node e. quiet-self s queue p))
accepted-allowed c s (Commit proposal) queue p h none =
    inl (there (λ u. Quiet s u queue p) (node_of s proposal.node) s _ (quiet-self s queue p)
    (λ node e. there (λ u. Quiet s u queue p) (find_app s.leaves proposal.tenant proposal.app) s _ (quiet-self s queue p)
    (λ app f. place-quiet c node (proposed_item proposal app) s queue p h (commit-fits c s proposal node app h none e f))))
accepted-allowed c s (Maximum above label share) queue p h none = go (same_label label p && is_within above queue) (nat_lt share (maximum_on s.maxima above label)) refl refl
  where
    falls : NoMoreUsed s (record s { maxima = set_maximum above label share s.maxima }) queue p
    falls = use-falls s (record s { maxima = set_maximum above label share s.maxima }) queue p h (same-leaves s.leaves) (fewer-same (containers_on s p))

    -- where another maximum is set, or this one not lower, the queue's does not fall
    stays : NoLower s (record s { maxima = set_maximum above label share s.maxima }) queue p → Allowed c s (record s { maxima = set_maximum above label share s.maxima }) (Maximum above label share) queue p
    stays up = inl (inl (falls, up))

    go : (b d : Bool) → (same_label label p && is_within above queue) ≡ b → nat_lt share (maximum_on s.maxima above label) ≡ d → Allowed c s (record s { maxima = set_maximum above label share s.maxima }) (Maximum above label share) queue p
    go false d f g = stays (subst (λ most. fits_in (maximum s queue p) most ≡ true) (sym (set-stays s above queue label p share f)) (fits-refl (maximum s queue p)))
    go true false f g = stays (set-more s above queue label p share (grind (arith, nat_tests, g)))
    go true true f g =
        let at : label ≡ p = same-label_path label p (and_parts _ _ f).0 in
        inr (falls, none, (at, (and_parts (same_label label p) _ f).1, subst (λ l. share < maximum_on s.maxima above l) at (grind (arith, nat_tests, g))))

step-allowed : (c : Config) (s : State) (event : Event) (queue : Path) (p : Label) → Kept s → Allowed c s (step c s event).state event queue p
step-allowed c s event queue p h = step-cases (λ u. Allowed c s u event queue p) c s event (inl (quiet-self s queue p)) (accepted-allowed c s event queue p h)

-- ---- runs

allowed-keeps : (c : Config) (s u : State) (event : Event) (queue : Path) (p : Label) → Allowed c s u event queue p → KeepsMaximum s u queue p
allowed-keeps c s u event queue p (inl (inl quiet)) rose = absurd (true≢false (sym quiet.0 ∙ rose))
allowed-keeps c s u event queue p (inl (inr within)) rose = within
allowed-keeps c s u event queue p (inr lowered) rose = absurd (true≢false (sym lowered.0 ∙ rose))

never-over : (c : Config) (events : List Event) (s : State) (p : Label) → Kept s → (k : ℕ) (queue : Path) → k < length events → KeepsMaximum (after c s (take k events)) (after c s (take (suc k) events)) queue p
never-over c [] s p h k queue below = absurd (grind (arith, below))
never-over c (event ∷ events) s p h zero queue below = allowed-keeps c s (step c s event).state event queue p (step-allowed c s event queue p h)
never-over c (event ∷ events) s p h (suc k) queue below = never-over c events (step c s event).state p (step-keeps c s event h) k queue (grind (arith, below))

pub is_never_over : IsNeverOver
is_never_over c events p k queue below =
    let next : suc k ≡ k + 1 = grind (arith) in
    subst (λ j. KeepsMaximum (state_after c (take k events)) (state_after c (take j events)) queue p) next (never-over c events (opening c) p (kept-opening c) k queue below)

allowed-lowers : (c : Config) (s u : State) (event : Event) (queue : Path) (p : Label) → Allowed c s u event queue p → fits_in (used s queue p) (maximum s queue p) ≡ true → fits_in (used u queue p) (maximum u queue p) ≡ false → IsUnrefused c s event × LowersMaximum s event queue p
allowed-lowers c s u event queue p (inl (inl quiet)) before over =
    absurd (true≢false (sym (fits-trans (used u queue p) (used s queue p) (maximum u queue p) quiet.0 (fits-trans (used s queue p) (maximum s queue p) (maximum u queue p) before quiet.1)) ∙ over))
allowed-lowers c s u event queue p (inl (inr within)) before over = absurd (true≢false (sym within ∙ over))
allowed-lowers c s u event queue p (inr lowered) before over = (lowered.1, lowered.2)

pub after-last : (c : Config) (events : List Event) (event : Event) (s : State) → after c s (events ++ event ∷ []) ≡ (step c (after c s events) event).state
after-last c [] event s = refl
after-last c (first ∷ events) event s = after-last c events event (step c s first).state

pub is_only_lowered_into : IsOnlyLoweredInto
is_only_lowered_into c events event queue p before over =
    allowed-lowers c (state_after c events) (step c (state_after c events) event).state event queue p (step-allowed c (state_after c events) event queue p (after-keeps c events (opening c) (kept-opening c))) before
    (subst (λ u. fits_in (used u queue p) (maximum u queue p) ≡ false) (after-last c events event (opening c)) over)
