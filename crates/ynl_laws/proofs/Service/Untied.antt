-- No two requests tie, and what is chosen is before all others.
use Rattle.std.proofs.Common.{◌≡◌, inl, inr, ℕ, Bool, true, false, cond, not, ◌&&◌, List, [], ◌∷◌, map, Option, Some, None, filter, find, refl, sym, ap, subst, ◌∙◌}
use Rattle.std.specs.Prelude.{IsFalse, nat_lt}
use Rattle.std.specs.List.{AllByRecursion, Contains}
use Rattle.std.specs.Option.{option_or}
use Rattle.std.specs.Ordering.{nat_cmp, is_gt, ordering_then}
use Rattle.std.specs.declared.cmp.Ordering.{Ordering}
use Rattle.std.specs.declared.cmp.Ordering.TheVariants.{Less, Equal, Greater}
use Rattle.std.specs.Cmp.Lexicographic.{slice_cmp}
use Rattle.std.proofs.lemmas.List.Elements.{All-contains}
use Rattle.std.proofs.lemmas.Map.Lookups.{exact_bytes}
use mathlib.Core.Bool.{true≢false}
use Rattle.ynl_resource.specs.Names.{same_label, way_to, name_order}
use Rattle.ynl_resource.specs.declared.labels.Label.{Label}
use Rattle.ynl_resource.specs.declared.labels.Label.TheVariants.{Unlabelled}
use Rattle.ynl_resource.specs.declared.paths.Path.{Path}
use Rattle.ynl_model.specs.declared.nodes.Node.{Node}
use Rattle.ynl_model.specs.Queues.{Config}
use Rattle.ynl_model.specs.Applications.{Application, all_apps, is_ask_of}
use Rattle.ynl_model.specs.declared.applications.AskRow.{AskRow}
use Rattle.ynl_model.specs.Cluster.{State, runs, waits, opening}
use Rattle.ynl_model.specs.Service.{Item, Key, master_item, ask_item, asks_of, masters_for, asks_for, items_for, is_eligible, eligible, some_eligible, has_room, takes_guests, guests_for, ratio_order, standing, standing_order, last_name, place_in_leaf, rank, key, key_order, is_first, first_of, choice}
use Rattle.ynl_model.specs.Events.{state_after}
use Rattle.ynl_model.specs.declared.events.Event.{Event}
use Rattle.ynl_laws.specs.Untied.{AllDistinct, HaveOwnKeys, DoRequestsNotTie, DoGuestsNotTie, IsBeforeOthers, IsChosenAlone, IsChoiceBeforeAllOthers}
use Rattle.ynl_laws.proofs.Events.Changed.{kept-opening, after-keeps}
use Rattle.ynl_laws.proofs.Events.Found.{is_found}
use Rattle.ynl_laws.proofs.Lives.Asks.{each-found, distinct-after}
use Rattle.ynl_laws.proofs.Lives.InTurn.{IsInTurn, in-turn, one-in-turn, rows-after}
use Rattle.ynl_laws.proofs.Lists.{Each-filter, Each-append, Each-map, all-of, Each-flat, Each-weaker, filter-passes, Each-both, Each-find, each-of, each-contained}
use Rattle.ynl_laws.proofs.Logic.{not-true, some-same}
use Rattle.ynl_laws.proofs.Names.{same-label_path}
use Rattle.std.proofs.lemmas.Bool.{and_parts}

-- ---- keys that tie

-- the last names along a way are the path
last-names : (path : Path) → map last_name (way_to path) ≡ path
last-names [] = refl
last-names (name ∷ []) = refl
last-names (name ∷ next ∷ path) = ap (λ names. name ∷ next ∷ names) (deeper (way_to path)) ∙ ap (λ names. name ∷ names) (last-names (next ∷ path))
  where
    deeper : (ways : List Path) → map last_name (map (λ (below : Path). name ∷ below) (map (λ (below : Path). next ∷ below) ways)) ≡ map last_name (map (λ (below : Path). next ∷ below) ways)
    deeper [] = refl
    deeper (way ∷ ways) = ap (λ names. last_name (next ∷ way) ∷ names) (deeper ways)

pub both-equal : (o p : Ordering) → ordering_then o p ≡ Equal → (o ≡ Equal) × (p ≡ Equal)
both-equal Less p h = cc
both-equal Equal p h = (refl, h)
both-equal Greater p h = cc

-- queues that stand alike have one last name
names-tie : (c : Config) (s : State) (p : Label) (qs rs : List Path) → slice_cmp standing_order (map (standing c s p) qs) (map (standing c s p) rs) ≡ Equal → map last_name qs ≡ map last_name rs
names-tie c s p [] [] h = refl
names-tie c s p [] (r ∷ rs) h = cc
names-tie c s p (q ∷ qs) [] h = cc
names-tie c s p (q ∷ qs) (r ∷ rs) h =
    let parts = both-equal (standing_order (standing c s p q) (standing c s p r)) (slice_cmp standing_order (map (standing c s p) qs) (map (standing c s p) rs)) h in
    let last = both-equal (ratio_order (standing c s p q).ratio (standing c s p r).ratio) (name_order (last_name q) (last_name r)) parts.0 in
    λ i. exact_bytes (last_name q) (last_name r) last.1 i ∷ names-tie c s p qs rs parts.1 i

-- what keys that tie have in common: the leaf, the place there, and the rank in the application
record IsTied (s : State) (a b : Item) : Type 0 where
  leaf : a.leaf ≡ b.leaf
  place : place_in_leaf s a.leaf a.app ≡ place_in_leaf s b.leaf b.app
  rank : rank a.what ≡ rank b.what

tied : (c : Config) (s : State) (p : Label) (a b : Item) → key_order (key c s p a) (key c s p b) ≡ Equal → IsTied s a b
unfolding key
tied c s p a b h =
    let parts = both-equal (slice_cmp standing_order (map (standing c s p) (way_to a.leaf)) (map (standing c s p) (way_to b.leaf))) (slice_cmp nat_cmp (turn a) (turn b)) h in
    let turns : turn a ≡ turn b = exact_bytes (turn a) (turn b) parts.1 in
    record {
      leaf = sym (last-names a.leaf) ∙ names-tie c s p (way_to a.leaf) (way_to b.leaf) parts.0 ∙ last-names b.leaf;
      place = first _ _ _ _ turns;
      rank = rest _ _ _ _ turns;
    }
  where
    turn : Item → List ℕ
    turn item = place_in_leaf s item.leaf item.app ∷ rank item.what

    first : (m n : ℕ) (xs ys : List ℕ) → (m ∷ xs) ≡ (n ∷ ys) → m ≡ n
    first m n xs ys e = cc

    rest : (m n : ℕ) (xs ys : List ℕ) → (m ∷ xs) ≡ (n ∷ ys) → xs ≡ ys
    rest m n xs ys e = cc

-- ---- what a request is of

-- a request is for the master of a live application, or an ask of one for the partition
pub data Source (s : State) (p : Label) (item : Item) : Type 0 where
  of_master : (app : Application) → IsInTurn s app → item ≡ master_item app → Source s p item
  of_ask : (app : Application) (ask : AskRow) → IsInTurn s app → find (is_ask_of ask.label ask.priority) app.asks ≡ Some ask → ask.label ≡ p → item ≡ ask_item app ask → Source s p item

-- requests whose keys tie are one, since an application has its own place in its leaf, and its own ask of a label and priority
one-source : (s : State) (p : Label) (a b : Item) → Source s p a → Source s p b → IsTied s a b → a ≡ b
one-source s p a b i j t = go i j
  where
    tied-as : (x y : Item) → a ≡ x → b ≡ y → IsTied s x y
    tied-as x y e f = subst (IsTied s x) f (subst (λ z. IsTied s z b) e t)

    not-both : (priority : ℕ) → (0 ∷ []) ≡ (1 ∷ priority ∷ []) → ⊥
    not-both priority e = cc

    number : (q r : ℕ) → (1 ∷ q ∷ []) ≡ (1 ∷ r ∷ []) → q ≡ r
    number q r e = cc

    go : Source s p a → Source s p b → a ≡ b
    go (of_master m first e) (of_master n second f) = let u = tied-as (master_item m) (master_item n) e f in e ∙ ap master_item (one-in-turn s m n first second u.leaf u.place) ∙ sym f
    go (of_master m first e) (of_ask n y second mine on f) = absurd (not-both y.priority (tied-as (master_item m) (ask_item n y) e f).rank)
    go (of_ask m x first own at e) (of_master n second f) = absurd (not-both x.priority (sym (tied-as (ask_item m x) (master_item n) e f).rank))
    go (of_ask m x first own at e) (of_ask n y second mine on f) =
        let u = tied-as (ask_item m x) (ask_item n y) e f in
        let one : m ≡ n = one-in-turn s m n first second u.leaf u.place in
        let priority : x.priority ≡ y.priority = number x.priority y.priority u.rank in
        let ask : x ≡ y = some-same x y (find (is_ask_of x.label x.priority) m.asks) own ((λ i. find (is_ask_of ((at ∙ sym on) i) (priority i)) (one i).asks) ∙ mine) in
        e ∙ (λ i. ask_item (one i) (ask i)) ∙ sym f

-- each request of a list that is of such a source has its own key
pub untied : (c : Config) (s : State) (p : Label) (items : List Item) → AllByRecursion (Source s p) items → HaveOwnKeys (key c s p) items
untied c s p items h a b i j tie = one-source s p a b (All-contains (Source s p) items a (all-of (Source s p) items h) i) (All-contains (Source s p) items b (all-of (Source s p) items h) j) (tied c s p a b tie)

module _ (s : State) (turns : AllByRecursion (IsInTurn s) (all_apps s.leaves)) (distinct : AllDistinct s.leaves) where
  masters : (p : Label) → AllByRecursion (Source s p) (masters_for s p)
  masters p = Each-map (IsInTurn s) (Source s p) master_item (λ app turn. of_master app turn refl) (filter (λ app. waits s app && same_label app.home p) (all_apps s.leaves)) (Each-filter (IsInTurn s) _ (all_apps s.leaves) turns)

  -- a live application in its turn, whose asks are found
  abbrev Asks : Application → Type 0
  Asks app = IsInTurn s app × AllByRecursion (λ ask. find (is_ask_of ask.label ask.priority) app.asks ≡ Some ask) app.asks

  each-asks : AllByRecursion Asks (all_apps s.leaves)
  each-asks = Each-both _ _ (all_apps s.leaves) turns (Each-flat _ _ (λ row. row.apps) (λ row k. Each-weaker _ _ (λ app d. each-found app.asks d) row.apps k) s.leaves distinct)

  pub asks : (p : Label) → AllByRecursion (Source s p) (asks_for s p)
  unfolding asks_for
  asks p = Each-flat Asks (Source s p) (asks_of p) (λ app k. of-app app k) (filter (runs s) (all_apps s.leaves)) (Each-filter Asks (runs s) (all_apps s.leaves) each-asks)
    where
      wanted : AskRow → Bool
      wanted ask = same_label ask.label p && nat_lt 0 ask.count

      of-app : (app : Application) → Asks app → AllByRecursion (Source s p) (asks_of p app)
      of-app app k = Each-map _ (Source s p) (ask_item app) (λ ask e. of_ask app ask k.0 e.0 (same-label_path ask.label p (and_parts (same_label ask.label p) _ e.1).0) refl) (filter wanted app.asks)
          (Each-both _ _ (filter wanted app.asks) (Each-filter _ wanted app.asks k.1) (filter-passes wanted app.asks))

  pub requests : (p : Label) → AllByRecursion (Source s p) (items_for s p)
  unfolding items_for
  requests p = Each-append (Source s p) (masters_for s p) (asks_for s p) (masters p) (asks p)

-- ---- the first of those that do not tie

before-others : (key_of : Item → Key) (items : List Item) (item : Item) → HaveOwnKeys key_of items → first_of key_of items ≡ Some item → IsBeforeOthers key_of items item
before-others key_of items item own e = record { among = found.0; before = λ other there differs. less (order other) (not-true _ (leads other there)) (λ tie. differs (sym (own item other found.0 there tie))) }
  where
    order : Item → Ordering
    order other = key_order (key_of item) (key_of other)

    found : Contains items item × (is_first key_of items item ≡ true)
    found = Each-find (Contains items) (is_first key_of items) items (each-contained items) item e

    leads : (other : Item) → Contains items other → not (is_gt (order other)) ≡ true
    leads other there = All-contains (λ each. not (is_gt (order each)) ≡ true) items other (all-of (λ each. not (is_gt (order each)) ≡ true) items (each-of (λ each. not (is_gt (order each))) items found.1)) there

    less : (o : Ordering) → is_gt o ≡ false → (o ≡ Equal → ⊥) → o ≡ Less
    less Less h tie = refl
    less Equal h tie = absurd (tie refl)
    less Greater h tie = absurd (true≢false h)

module _ (c : Config) (s : State) (turns : AllByRecursion (IsInTurn s) (all_apps s.leaves)) (distinct : AllDistinct s.leaves) (node : Node) (item : Item) where
  eligible-first : first_of (key c s node.label) (eligible c s node) ≡ Some item → IsBeforeOthers (key c s node.label) (eligible c s node) item
  eligible-first e = before-others _ _ item (untied c s node.label (eligible c s node) (Each-filter _ (is_eligible c s node) (items_for s node.label) (requests s turns distinct node.label))) e

  guest-first : first_of (key c s Unlabelled) (guests_for c s node) ≡ Some item → IsFalse (some_eligible c s node) × IsBeforeOthers (key c s Unlabelled) (guests_for c s node) item
  unfolding guests_for
  guest-first e = go (takes_guests c node.label && not (some_eligible c s node)) refl e
    where
      coming : List Item
      coming = filter (λ item. has_room s node item.size) (asks_for s Unlabelled)

      go : (b : Bool) → (takes_guests c node.label && not (some_eligible c s node)) ≡ b → first_of (key c s Unlabelled) (cond b coming []) ≡ Some item → IsFalse (some_eligible c s node) × IsBeforeOthers (key c s Unlabelled) (cond b coming []) item
      go false at e = cc
      go true at e = (not-true _ (and_parts (takes_guests c node.label) _ at).1, before-others _ _ item (untied c s Unlabelled coming (Each-filter _ _ (asks_for s Unlabelled) (asks s turns distinct Unlabelled))) e)

  chosen-alone : choice c s node ≡ Some item → IsChosenAlone c s node item
  unfolding choice
  chosen-alone e = go (first_of (key c s node.label) (eligible c s node)) refl e
    where
      go : (o : Option Item) → first_of (key c s node.label) (eligible c s node) ≡ o → option_or o (first_of (key c s Unlabelled) (guests_for c s node)) ≡ Some item → IsChosenAlone c s node item
      go None at e = inr (guest-first e)
      go (Some first) at e = inl (eligible-first (at ∙ e))

-- ---- each state

pub turns-after : (c : Config) (events : List Event) → AllByRecursion (IsInTurn (state_after c events)) (all_apps (state_after c events).leaves)
turns-after c events = in-turn (state_after c events) (after-keeps c events (opening c) (kept-opening c)).apps (is_found c events) (rows-after c events)

pub do_requests_not_tie : DoRequestsNotTie
do_requests_not_tie c events p = untied c (state_after c events) p (items_for (state_after c events) p) (requests (state_after c events) (turns-after c events) (distinct-after c events) p)

pub do_guests_not_tie : DoGuestsNotTie
do_guests_not_tie c events = untied c (state_after c events) Unlabelled (asks_for (state_after c events) Unlabelled) (asks (state_after c events) (turns-after c events) (distinct-after c events) Unlabelled)

pub is_choice_before_all_others : IsChoiceBeforeAllOthers
is_choice_before_all_others c events node item e = chosen-alone c (state_after c events) (turns-after c events) (distinct-after c events) node item e
