-- Use and totals are in bounds: what stands on a partition fits in its total, and the total is that of so many nodes.
use Rattle.std.proofs.Common.{◌≡◌, ℕ, ◌*◌, ◌≤◌, ◌<◌, ◌^◌, Bool, true, false, cond, not, ◌||◌, List, [], ◌∷◌, length, Some, filter, refl, sym, ap, subst, ◌∙◌, arith}
use Rattle.std.specs.List.{AllByRecursion, list_any}
use Rattle.std.specs.Option.{option_map_or}
use mathlib.Core.Bool.{true≢false}
use Rattle.ynl_resource.specs.Amounts.{nothing, plus, fits_in, total_of, IsSize}
use Rattle.ynl_resource.specs.Names.{same_name, same_label}
use Rattle.ynl_resource.specs.declared.names.Name.{Name}
use Rattle.ynl_resource.specs.declared.labels.Label.{Label}
use Rattle.ynl_resource.specs.declared.paths.Path.{Path}
use Rattle.ynl_model.specs.Nodes.{nodes_of, total as total_on}
use Rattle.ynl_model.specs.declared.nodes.Node.{Node}
use Rattle.ynl_model.specs.Queues.{Config}
use Rattle.ynl_model.specs.declared.containers.Placed.{Placed as Container}
use Rattle.ynl_model.specs.Cluster.{State, total, containers_on, sizes, counted, used, user_used, masters_used, guests, opening}
use Rattle.ynl_model.specs.View.{tracked}
use Rattle.ynl_model.specs.declared.nodes.Tracked.{Tracked}
use Rattle.ynl_model.specs.Events.{state_after}
use Rattle.ynl_laws.specs.Bounded.{IsBounded, IsAlwaysBounded}
use Rattle.ynl_laws.specs.Working.{places, StandsOn, filled, IsWorking}
use Rattle.ynl_laws.proofs.Amounts.{fits-trans, fits-plus, fits-filter}
use Rattle.ynl_laws.proofs.Limits.Within.{total-places}
use Rattle.ynl_laws.proofs.Soundness.Working.{working-opening, working-after}
use Rattle.ynl_laws.proofs.Lists.{Each-filter, Each-kept, Each-weaker, filter-swap}
use Rattle.ynl_laws.proofs.Logic.{not-true}
use Rattle.ynl_laws.proofs.Names.{same-name_sym, same-name_self, same-label_path}
use Rattle.ynl_laws.proofs.Amounts.{fits-each}
use Rattle.std.proofs.lemmas.Bool.{or_right}

-- ---- totals

-- so many sizes come to so much
sum-small : (nodes : List Node) (n : ℕ) → AllByRecursion (λ node. IsSize node.size) nodes → length nodes ≡ n →
    ((total_of (λ node. node.size) nodes).memory ≤ n * 4294967295) × ((total_of (λ node. node.size) nodes).vcores ≤ n * 65536)
sum-small [] n h e = (grind (arith), grind (arith))
sum-small (node ∷ nodes) n h e =
    let rest = sum-small nodes (length nodes) h.1 refl in
    let memory : node.size.memory < 2 ^ 32 = h.0.memory in
    let vcores : node.size.vcores ≤ 65536 = h.0.vcores in
    let more_memory : (total_of (λ node. node.size) nodes).memory ≤ length nodes * 4294967295 = rest.0 in
    let more_vcores : (total_of (λ node. node.size) nodes).vcores ≤ length nodes * 65536 = rest.1 in
    (omega (arith, memory, more_memory, e), omega (arith, vcores, more_vcores, e))

-- the total of a partition is less than 2^48 MB, and at most 2^32 vcores
pub total-small : (c : Config) (s : State) → IsWorking c s → (p : Label) → ((total s p).memory < 2 ^ 48) × ((total s p).vcores ≤ 2 ^ 32)
unfolding total_on
total-small c s h p =
    let both = sum-small (nodes_of s.nodes p) (length (nodes_of s.nodes p)) (Each-filter _ _ s.nodes h.sizes) refl in
    let memory : (total_of (λ (node : Node). node.size) (nodes_of s.nodes p)).memory ≤ length (nodes_of s.nodes p) * 4294967295 = both.0 in
    let vcores : (total_of (λ (node : Node). node.size) (nodes_of s.nodes p)).vcores ≤ length (nodes_of s.nodes p) * 65536 = both.1 in
    let count : length (nodes_of s.nodes p) ≤ 65536 = h.counts p in
    (omega (arith, memory, count), omega (arith, vcores, count))

-- ---- containers on nodes

-- a sum is that of what passes a test and of what fails it
split-sum : (f : Container → Bool) (xs : List Container) → sizes xs ≡ plus (sizes (filter f xs)) (sizes (filter (λ x. not (f x)) xs))
split-sum f [] = refl
split-sum f (x ∷ xs) = go (f x) (split-sum f xs)
  where
    go : (b : Bool) → sizes xs ≡ plus (sizes (filter f xs)) (sizes (filter (λ x. not (f x)) xs)) →
        plus x.size (sizes xs) ≡ plus (sizes (cond b (x ∷ filter f xs) (filter f xs))) (sizes (cond (not b) (x ∷ filter (λ x. not (f x)) xs) (filter (λ x. not (f x)) xs)))
    go true e = grind (arith, e)
    go false e = grind (arith, e)

-- a container stands on one of some nodes
abbrev IsAmong : List Tracked → Container → Type 0
IsAmong nodes container = list_any (λ node. same_name container.node node.name) nodes ≡ true

none-among : (containers : List Container) → AllByRecursion (IsAmong []) containers → sizes containers ≡ nothing
none-among [] h = refl
none-among (container ∷ containers) h = absurd (true≢false (sym h.0))

-- each container is counted at least once
covered : (nodes : List Tracked) (containers : List Container) → AllByRecursion (IsAmong nodes) containers → fits_in (sizes containers) (total_of (λ node. filled containers node.name) nodes) ≡ true
covered [] containers h = ap (λ a. fits_in a nothing) (none-among containers h)
covered (node ∷ nodes) containers h =
    subst (λ a. fits_in a (total_of (λ node. filled containers node.name) (node ∷ nodes)) ≡ true) (sym (split-sum here containers))
    (fits-plus (filled containers node.name) (sizes others) (total_of (λ node. filled containers node.name) nodes)
    (fits-trans (sizes others) (total_of (λ node. filled others node.name) nodes) (total_of (λ node. filled containers node.name) nodes)
    (covered nodes others (Each-kept (IsAmong nodes) (λ x. not (here x)) containers (Each-weaker _ _ (λ container k away. rest container k (not-true _ away)) containers h)))
    (fits-each (λ node. filled others node.name) (λ node. filled containers node.name) nodes (fewer nodes))))
  where
    here : Container → Bool
    here container = same_name container.node node.name

    others : List Container
    others = filter (λ x. not (here x)) containers

    rest : (container : Container) → IsAmong (node ∷ nodes) container → here container ≡ false → IsAmong nodes container
    rest container k away = sym (ap (λ b. b || list_any (λ node. same_name container.node node.name) nodes) away) ∙ k

    fewer : (more : List Tracked) → AllByRecursion (λ node. fits_in (filled others node.name) (filled containers node.name) ≡ true) more
    fewer [] = tt
    fewer (other ∷ more) = (
      subst (λ few. fits_in (sizes few) (filled containers other.name) ≡ true) (sym (filter-swap (λ x. not (here x)) (λ x. same_name x.node other.name) containers)) (fits-filter _ _ (filter (λ x. same_name x.node other.name) containers)),
      fewer more,
    )

among : (p : Label) (nodes : List Tracked) (container : Container) → StandsOn nodes p container → IsAmong (filter (λ node. same_label node.label p) nodes) container
among p [] container h = absurd (true≢false (sym h))
among p (node ∷ nodes) container h = go (same_name node.name container.node) refl (same_label node.label p) refl h (among p nodes container)
  where
    turned : same_name node.name container.node ≡ true → same_name container.node node.name ≡ true
    turned e = ap (same_name container.node) (same-name_sym node.name container.node e) ∙ same-name_self container.node

    go : (a : Bool) → same_name node.name container.node ≡ a → (b : Bool) → same_label node.label p ≡ b →
        option_map_or (λ node. same_label node.label p) (cond a (Some node) (tracked nodes container.node)) false ≡ true →
        (StandsOn nodes p container → IsAmong (filter (λ node. same_label node.label p) nodes) container) →
        IsAmong (cond b (node ∷ filter (λ node. same_label node.label p) nodes) (filter (λ node. same_label node.label p) nodes)) container
    go true e true f h rest = ap (λ b. b || list_any (λ node. same_name container.node node.name) (filter (λ node. same_label node.label p) nodes)) (turned e)
    go true e false f h rest = absurd (true≢false (sym h ∙ f))
    go false e true f h rest = or_right (same_name container.node node.name) _ (rest h)
    go false e false f h rest = rest h

-- what stands on a partition fits in its total
pub on-within : (c : Config) (s : State) → IsWorking c s → (p : Label) → fits_in (sizes (containers_on s p)) (total s p) ≡ true
on-within c s h p =
    subst (λ t. fits_in (sizes (containers_on s p)) t ≡ true) (sym (total-places s.nodes p))
    (fits-trans (sizes (containers_on s p)) (total_of (λ node. filled (containers_on s p) node.name) nodes) (total_of (λ node. node.size) nodes)
    (covered nodes (containers_on s p) (Each-weaker _ _ (λ container k. among p (places s) container k) (containers_on s p) (h.housed.standing p)))
    (fits-each _ (λ (node : Tracked). node.size) nodes (Each-kept _ _ (places s) (Each-weaker _ _ (λ node k at. subst (λ l. fits_in (filled (containers_on s l) node.name) node.size ≡ true) (same-label_path node.label p at) k) (places s) h.housed.room))))
  where
    nodes : List Tracked
    nodes = filter (λ node. same_label node.label p) (places s)

-- ---- use

-- what some of the containers of a partition use
pub part-within : (c : Config) (s : State) → IsWorking c s → (p : Label) (f : Container → Bool) → fits_in (sizes (filter f (containers_on s p))) (total s p) ≡ true
part-within c s h p f = fits-trans (sizes (filter f (containers_on s p))) (sizes (containers_on s p)) (total s p) (fits-filter _ f (containers_on s p)) (on-within c s h p)

-- the use of a queue, of a user in it, of its masters, and of its guests
pub used-within : (c : Config) (s : State) → IsWorking c s → (queue : Path) (p : Label) → fits_in (used s queue p) (total s p) ≡ true
unfolding used
used-within c s h queue p = part-within c s h p _

counted-within : (c : Config) (s : State) → IsWorking c s → (queue : Path) (p : Label) (f : Container → Bool) → fits_in (sizes (filter f (counted s queue p))) (total s p) ≡ true
counted-within c s h queue p f = fits-trans (sizes (filter f (counted s queue p))) (sizes (counted s queue p)) (total s p) (fits-filter _ f (counted s queue p)) (part-within c s h p _)

pub user_used-within : (c : Config) (s : State) → IsWorking c s → (queue : Path) (user : Name) (p : Label) → fits_in (user_used s queue user p) (total s p) ≡ true
unfolding user_used
user_used-within c s h queue user p = counted-within c s h queue p _

pub masters_used-within : (c : Config) (s : State) → IsWorking c s → (queue : Path) (p : Label) → fits_in (masters_used s queue p) (total s p) ≡ true
unfolding masters_used
masters_used-within c s h queue p = counted-within c s h queue p _

pub guests-within : (c : Config) (s : State) → IsWorking c s → (queue : Path) (p : Label) → fits_in (guests s queue p) (total s p) ≡ true
unfolding guests
guests-within c s h queue p = part-within c s h p _

-- ---- runs

less-is : {a b : ℕ} → a < b → a ≤ b
less-is h = omega (arith, h)

bounded : (c : Config) (s : State) → IsWorking c s → (queue : Path) (p : Label) → IsBounded s queue p
bounded c s h queue p = record {
  memory = less-is (total-small c s h p).0;
  vcores = (total-small c s h p).1;
  all_fits = on-within c s h p;
  use_fits = used-within c s h queue p;
  users_fit = λ user. user_used-within c s h queue user p;
  masters_fit = masters_used-within c s h queue p;
  guests_fit = guests-within c s h queue p;
}

-- each state after events in range
pub is_always_bounded : IsAlwaysBounded
is_always_bounded c events queue p ranged = bounded c (state_after c events) (working-after c events (opening c) ranged (working-opening c)) queue p
