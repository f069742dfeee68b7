-- The first as a relation, and the first by definition.
use Rattle.std.proofs.Common.{◌≡◌, Bool, true, false, cond, not, ◌&&◌, List, [], ◌∷◌, Option, Some, None, filter, fold, is_some, refl, sym, ap, ◌∙◌}
use Rattle.std.specs.List.{AllByRecursion, Contains}
use Rattle.std.specs.Option.{option_or}
use Rattle.std.specs.Ordering.{is_gt, ordering_reverse}
use Rattle.std.specs.declared.cmp.Ordering.{Ordering}
use Rattle.std.specs.declared.cmp.Ordering.TheVariants.{Less, Equal, Greater}
use Rattle.std.proofs.lemmas.List.Elements.{All-contains}
use mathlib.Core.Bool.{true≢false}
use Rattle.ynl_resource.specs.declared.labels.Label.TheVariants.{Unlabelled}
use Rattle.ynl_model.specs.declared.nodes.Node.{Node}
use Rattle.ynl_model.specs.Queues.{Config}
use Rattle.ynl_model.specs.Cluster.{State}
use Rattle.ynl_model.specs.Service.{Item, Key, key, key_order, items_for, asks_for, is_eligible, eligible, some_eligible, has_room, takes_guests, guests_for, is_first, first_of, choice}
use Rattle.ynl_laws.specs.Least.{sooner}
use Rattle.ynl_laws.specs.Untied.{HaveOwnKeys}
use Rattle.ynl_laws.specs.First.{IsFirst, is_later, IsFirstFound, IsFirstAlone, AreUntied, IsFirstChosenUntied}
use Rattle.ynl_laws.proofs.Lists.{Each-filter, all-of, each-of, Each-find, each-contained}
use Rattle.ynl_laws.proofs.Logic.{not-true}
use Rattle.ynl_laws.proofs.Service.Least.{least_is_first}
use Rattle.ynl_laws.proofs.Service.OrderTotal.{key_order_total}

-- ---- the first of a list

-- what holds of each element of a list holds of what it contains
contained : {X : Type 0} (P : X → Type 0) (xs : List X) (x : X) → AllByRecursion P xs → Contains xs x → P x
contained P xs x h there = All-contains P xs x (all-of P xs h) there

-- one pass over a list that is not empty ends with a request
some-held : (key_of : Item → Key) (best : Item) (items : List Item) → is_some (fold (sooner key_of) (Some best) items) ≡ true
some-held key_of best [] = refl
some-held key_of best (item ∷ items) = go (is_later key_of best item) (some-held key_of item items) (some-held key_of best items)
  where
    go : (b : Bool) → is_some (fold (sooner key_of) (Some item) items) ≡ true → is_some (fold (sooner key_of) (Some best) items) ≡ true → is_some (fold (sooner key_of) (cond b (Some item) (Some best)) items) ≡ true
    go true taken left = taken
    go false taken left = left

pub is_first_found : IsFirstFound
is_first_found key_of items = go (first_of key_of items) refl
  where
    go : (o : Option Item) → first_of key_of items ≡ o → IsFirst (is_later key_of) (Contains items) o
    go None e = λ x there. nothing items e x there
      where
        nothing : (items : List Item) → first_of key_of items ≡ None → (x : Item) → Contains items x → ⊥
        nothing [] e x there = contained (λ y. ⊥) [] x tt there
        nothing (best ∷ rest) e x there = absurd (true≢false (sym (some-held key_of best rest) ∙ ap is_some (least_is_first key_of (best ∷ rest) ∙ e)))
    go (Some x) e =
        let found = Each-find (Contains items) (is_first key_of items) items (each-contained items) x e in
        (found.0, λ y there. not-true _ (contained (λ z. not (is_later key_of x z) ≡ true) items y (each-of (λ z. not (is_later key_of x z)) items found.1) there))

-- two that are not later than each other tie
tied : (a b : Key) → is_gt (key_order a b) ≡ false → is_gt (key_order b a) ≡ false → key_order a b ≡ Equal
tied a b h k = go (key_order a b) h (ap is_gt (sym (key_order_total.antisymm b a)) ∙ k)
  where
    go : (o : Ordering) → is_gt o ≡ false → is_gt (ordering_reverse o) ≡ false → o ≡ Equal
    go Less h k = absurd (true≢false k)
    go Equal h k = refl
    go Greater h k = absurd (true≢false h)

pub is_first_alone : IsFirstAlone
is_first_alone key_of items o own first = go o (first_of key_of items) first (is_first_found key_of items)
  where
    go : (o p : Option Item) → IsFirst (is_later key_of) (Contains items) o → IsFirst (is_later key_of) (Contains items) p → o ≡ p
    go None None h k = refl
    go None (Some y) h k = absurd (h y k.0)
    go (Some x) None h k = absurd (k x h.0)
    go (Some x) (Some y) h k = ap (λ z. Some z) (own x y h.0 k.0 (tied (key_of x) (key_of y) (h.1 y k.0) (k.1 x h.0)))

-- ---- the choice

-- of some of a list no two tie where no two of all do
pub untied-filter : (key_of : Item → Key) (test : Item → Bool) (items : List Item) → HaveOwnKeys key_of items → HaveOwnKeys key_of (filter test items)
untied-filter key_of test items own a b i j tie = own a b (kept a i) (kept b j) tie
  where
    kept : (x : Item) → Contains (filter test items) x → Contains items x
    kept x there = contained (Contains items) (filter test items) x (Each-filter (Contains items) test items (each-contained items)) there

untied-none : (key_of : Item → Key) → HaveOwnKeys key_of []
untied-none key_of a b i j tie = absurd (contained (λ x. ⊥) [] a tt i)

untied-guests : (c : Config) (s : State) (node : Node) → AreUntied c s → HaveOwnKeys (key c s Unlabelled) (guests_for c s node)
unfolding guests_for
untied-guests c s node untied = go (takes_guests c node.label && not (some_eligible c s node))
  where
    go : (b : Bool) → HaveOwnKeys (key c s Unlabelled) (cond b (filter (λ item. has_room s node item.size) (asks_for s Unlabelled)) [])
    go true = untied-filter (key c s Unlabelled) (λ item. has_room s node item.size) (asks_for s Unlabelled) untied.guests
    go false = untied-none (key c s Unlabelled)

pub is_first_chosen_untied : IsFirstChosenUntied
unfolding choice
is_first_chosen_untied c s node untied own guest first next = λ i. option_or
    (is_first_alone (key c s node.label) (eligible c s node) own (untied-filter (key c s node.label) (is_eligible c s node) (items_for s node.label) (untied.requests node.label)) first i)
    (is_first_alone (key c s Unlabelled) (guests_for c s node) guest (untied-guests c s node untied) next i)
