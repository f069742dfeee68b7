-- The next child, and what is known once children were tried.
use Rattle.std.proofs.Common.{◌≡◌, ℕ, zero, suc, ◌+◌, ◌<◌, ◌≤◌, Bool, true, false, cond, List, [], ◌∷◌, ◌++◌, length, Option, Some, None, refl, sym, ap, subst, ◌∙◌, get_or, arith}
use Rattle.std.specs.Prelude.{is_some, option_map, nat_lt, filter, IfSome}
use Rattle.std.specs.List.{Contains}
use Rattle.std.specs.Ordering.{is_lt, is_gt}
use Rattle.std.specs.declared.cmp.Ordering.TheVariants.{Equal}
use mathlib.Core.Bool.{true≢false}
use Rattle.std.proofs.lemmas.Bool.{and_from, ltb-true, ltb-false}
use Rattle.std.proofs.lemmas.List.{get_or_default}
use Rattle.std.proofs.lemmas.List.Elements.{Contains-get_or}
use Rattle.ynl_resource.specs.declared.names.Name.{Name}
use Rattle.ynl_resource.specs.declared.paths.Path.{Path}
use Rattle.ynl_model.specs.Service.{Item, Standing as Stands, key, standing_order}
use Rattle.ynl_resource.specs.Names.{is_within}
use Rattle.ynl_laws.specs.Decided.{below}
use Rattle.ynl_laws.proofs.Names.{within-trans, same-name_self}
use Rattle.ynl_laws.specs.Descent.{IsBelow, IsBelowSome}
use Rattle.ynl_laws.specs.First.{IsFirst, is_later}
use Rattle.ynl_laws.proofs.Service.Decided.{do_siblings_not_tie}
use Rattle.ynl_laws.proofs.Service.Descent.{is_first_below_least}
use Rattle.ynl_search.specs.declared.descent.standing.Standing.{Standing}
use Rattle.ynl_search.specs.descent.Scenes.{Scene, Branch, AreAllBelow, HasNone, HasNoneAt, IsChildAt, IsFirstBelow, IsFirstOf, name_at, path_at, stands, stands_at}
use Rattle.ynl_search.specs.descent.Turns.{AreNoneLeft, AreTried, HaveNone, HavePlaces, IsNext, IsStanding, is_before, is_left, told}
use Rattle.ynl_search.proofs.descent.Siblings.{before-trans, before-itself, tied, not-after}

-- what comes after one that is left is left
left-trans : (b : Branch) (last : Option Standing) (x y : Stands) → is_left b last x ≡ true → is_lt (standing_order x y) ≡ true → is_left b last y ≡ true
left-trans b None x y h k = refl
left-trans b (Some last) x y h k = before-trans (told b last) x y h k

-- what comes before one that is before the best is before the best
before-best : (b : Branch) (best : Option Standing) (x y : Stands) → is_lt (standing_order x y) ≡ true → is_before b y best ≡ true → is_before b x best ≡ true
before-best b None x y h k = refl
before-best b (Some best) x y h k = before-trans x y (told b best) h k

-- how many pass a test
abbrev pub count : {X : Type 0} → (X → Bool) → List X → ℕ
count test xs = length (filter test xs)

-- where all that pass the second test pass the first too, no more pass the second
counts-le : {X : Type 0} (more less : X → Bool) (xs : List X) → ((x : X) → less x ≡ true → more x ≡ true) → count less xs ≤ count more xs
counts-le more less [] implies = omega arith
counts-le more less (x ∷ xs) implies = go (less x) (more x) (implies x) (counts-le more less xs implies)
  where
    go : (a b : Bool) → (a ≡ true → b ≡ true) → count less xs ≤ count more xs → length (cond a (x ∷ filter less xs) (filter less xs)) ≤ length (cond b (x ∷ filter more xs) (filter more xs))
    go true true h rest = omega (arith, rest)
    go true false h rest = absurd (true≢false (sym (h refl)))
    go false true h rest = omega (arith, rest)
    go false false h rest = rest

-- and fewer, where one passes the first alone
pub counts-less : {X : Type 0} (more less : X → Bool) (xs : List X) (i : ℕ) (d : X) → ((x : X) → less x ≡ true → more x ≡ true) → i < length xs → more (get_or xs i d) ≡ true → less (get_or xs i d) ≡ false
    → count less xs < count more xs
counts-less more less [] i d implies inside h k = omega (arith, inside)
counts-less more less (x ∷ xs) zero d implies inside h k = go (less x) (more x) k h
  where
    go : (a b : Bool) → a ≡ false → b ≡ true → length (cond a (x ∷ filter less xs) (filter less xs)) < length (cond b (x ∷ filter more xs) (filter more xs))
    go true b h k = absurd (true≢false h)
    go false true h k = omega (arith, counts-le more less xs implies)
    go false false h k = absurd (true≢false (sym k))
counts-less more less (x ∷ xs) (suc i) d implies inside h k = go (less x) (more x) (implies x) (counts-less more less xs i d implies (omega (arith, inside)) h k)
  where
    go : (a b : Bool) → (a ≡ true → b ≡ true) → count less xs < count more xs → length (cond a (x ∷ filter less xs) (filter less xs)) < length (cond b (x ∷ filter more xs) (filter more xs))
    go true true h rest = omega (arith, rest)
    go true false h rest = absurd (true≢false (sym (h refl)))
    go false true h rest = omega (arith, rest)
    go false false h rest = rest

-- a queue is above what is below it
above : (queue rest : Path) → is_within queue (queue ++ rest) ≡ true
above [] rest = refl
above (name ∷ queue) rest = and_from _ _ (same-name_self name) (above queue rest)

-- what is found is told as something
pub mapped : {X Y : Type 0} (f : X → Y) (o : Option X) → is_some o ≡ true → is_some (option_map f o) ≡ true
mapped f None e = e
mapped f (Some x) e = refl

-- where nothing is found there is none
pub nothing : {X : Type 0} (scene : Scene) (queue : Path) (f : X → Item) (o : Option X) → is_some o ≡ false → IsFirstBelow scene queue (option_map f o) → HasNone scene queue
nothing scene queue f None e first = first
nothing scene queue f (Some x) e first = absurd (true≢false e)

-- the first of a child is the first below it
pub of-child : (b child : Branch) (place : ℕ) (found : Option Item) → IsChildAt b place child → IsFirstOf child found → IsFirstBelow b.scene (path_at b place) found
of-child b child place found is first = subst (λ path. IsFirstBelow b.scene path found) is.path (subst (λ scene. IsFirstBelow scene child.path found) is.scene first)

module _ (b : Branch) where
  abbrev pub at : ℕ → Stands
  at place = stands_at b place

  -- ---- the next child

  -- one child more, which has no request below it, or was tried, or comes after the best
  pub none-more : (n : ℕ) (last best : Option Standing) → HaveNone b n last best
      → (is_left b last (at n) ≡ true → is_before b (at n) best ≡ true → HasNoneAt b n)
      → HaveNone b (n + 1) last best
  none-more n last best none here place before inside left soon = go (nat_lt place n) refl
    where
      go : (o : Bool) → nat_lt place n ≡ o → HasNoneAt b place
      go true e = none place (ltb-true place n e) inside left soon
      go false e = subst (HasNoneAt b) (sym same) (here (subst (λ i. is_left b last (at i) ≡ true) same left) (subst (λ i. is_before b (at i) best ≡ true) same soon))
        where
          same : place ≡ n
          same = omega (arith, before, ltb-false place n e)

  -- it is the best so far
  pub none-better : (n : ℕ) (last best : Option Standing) (s : Standing) → HaveNone b n last best → IsStanding b s → s.place ≡ n
      → is_before b (told b s) best ≡ true → HaveNone b (n + 1) last (Some s)
  none-better n last best s none standing here better =
      none-more n last (Some s)
      (λ place before inside left soon. none place before inside left (before-best b best (at place) (told b s) soon better))
      (λ left soon. absurd (true≢false (sym soon ∙ (λ i. is_lt (standing_order (at n) (own i))) ∙ before-itself (at n))))
    where
      own : told b s ≡ at n
      own = standing.right ∙ ap at here

  -- the best so far is one that is left
  abbrev pub IsBest : Option Standing → Option Standing → Type 0
  IsBest last best = IfSome best (λ s. IsStanding b s × (is_left b last (told b s) ≡ true))

  pub record Holds (n : ℕ) (last held : Option Standing) : Type 0 where
    pub best : IsBest last held
    pub none : HaveNone b n last held

  pub places-last : (last : Option Standing) → IfSome last (IsStanding b) → HavePlaces b last
  places-last None h = h
  places-last (Some s) h = h.there

  pub places-best : (last best : Option Standing) → IsBest last best → HavePlaces b best
  places-best last None h = h
  places-best last (Some s) h = h.0.there

  -- once one more is the best
  pub holds-better : (n : ℕ) (last best : Option Standing) (s : Standing) → Holds n last best → IsStanding b s → s.place ≡ n
      → is_left b last (told b s) ≡ true → is_before b (told b s) best ≡ true → Holds (n + 1) last (Some s)
  holds-better n last best s holds standing here left before = record { best = (standing, left); none = none-better n last best s holds.none standing here before }

  -- or was left out: there is none below it, or it was tried, or comes after the best
  pub holds-none : (n : ℕ) (last best : Option Standing) → Holds n last best → HasNoneAt b n → Holds (n + 1) last best
  holds-none n last best holds none = record { best = holds.best; none = none-more n last best holds.none (λ left before. none) }

  pub holds-tried : (n : ℕ) (last best : Option Standing) (s : Standing) → Holds n last best → IsStanding b s → s.place ≡ n → is_left b last (told b s) ≡ false → Holds (n + 1) last best
  holds-tried n last best s holds standing here tried = record {
    best = holds.best;
    none = none-more n last best holds.none (λ left before. absurd (true≢false (sym left ∙ ap (is_left b last) (sym (standing.right ∙ ap at here)) ∙ tried)));
  }

  pub holds-after : (n : ℕ) (last best : Option Standing) (s : Standing) → Holds n last best → IsStanding b s → s.place ≡ n → is_before b (told b s) best ≡ false → Holds (n + 1) last best
  holds-after n last best s holds standing here after = record {
    best = holds.best;
    none = none-more n last best holds.none (λ left before. absurd (true≢false (sym before ∙ ap (λ x. is_before b x best) (sym (standing.right ∙ ap at here)) ∙ after)));
  }

  -- ---- what was tried

  -- what comes before the next child has no request below it
  sooner : (last : Option Standing) (next : Standing) (place : ℕ) → AreTried b last → IsNext b last next → place < length b.children
      → is_lt (standing_order (at place) (told b next)) ≡ true → HasNoneAt b place
  sooner last next place tried is inside before = go (is_left b last (at place)) refl
    where
      go : (o : Bool) → is_left b last (at place) ≡ o → HasNoneAt b place
      go true e = is.between place inside inside e before
      go false e = tried place inside e

  -- and once it was tried neither has it
  pub tried-more : (last : Option Standing) (next : Standing) → AreTried b last → IsNext b last next → HasNoneAt b next.place
      → AreTried b (Some next)
  tried-more last next tried is none place inside gone = go (is_lt (standing_order (at place) (told b next))) refl
    where
      go : (o : Bool) → is_lt (standing_order (at place) (told b next)) ≡ o → HasNoneAt b place
      go true e = sooner last next place tried is inside e
      go false e = subst (λ name. HasNone b.scene (below b.path name)) (do_siblings_not_tie b.scene.config b.scene.state b.scene.label b.path (name_at b next.place) (name_at b place) tie) none
        where
          tie : standing_order (at next.place) (at place) ≡ Equal
          tie = (λ i. standing_order (sym is.standing.right i) (at place)) ∙ tied (told b next) (at place) gone e

  -- fewer are left
  pub fewer : (last : Option Standing) (next : Standing) → IsNext b last next
      → count (λ name. is_left b (Some next) (stands b name)) b.children < count (λ name. is_left b last (stands b name)) b.children
  fewer last next is =
      counts-less (λ name. is_left b last (stands b name)) (λ name. is_left b (Some next) (stands b name)) b.children next.place []
      (λ name h. left-trans b last (told b next) (stands b name) is.left h) is.standing.there
      (ap (is_left b last) (sym is.standing.right) ∙ is.left)
      (ap (λ s. is_lt (standing_order (told b next) s)) (sym is.standing.right) ∙ before-itself (told b next))

  -- ---- what is found

  -- the place of a name among names
  placed : (some : List Name) (name : Name) → Contains some name → (place : ℕ) × (place < length some) × (get_or some place [] ≡ name)
  placed some name there = (there.0, there.1, get_or_default some there.0 [] name there.1 ∙ there.2)

  -- where nothing is left, no child has a request below it, and so neither has the queue
  pub none-below : (last : Option Standing) → AreTried b last → AreNoneLeft b last → AreAllBelow b → IsFirstOf b None
  none-below last tried none all item is = go (is_left b last (at place)) refl
    where
      some : IsBelowSome b.scene.items b.path b.children item
      some = all item is

      found : (place : ℕ) × (place < length b.children) × (get_or b.children place [] ≡ some.child)
      found = placed b.children some.child some.there

      place : ℕ
      place = found.0

      stands-there : IsBelow b.scene.items (below b.path (name_at b place)) item
      stands-there = subst (λ name. IsBelow b.scene.items (below b.path name) item) (sym found.2) some.stands

      go : (o : Bool) → is_left b last (at place) ≡ o → ⊥
      go true e = none place found.1 found.1 e refl item stands-there
      go false e = tried place found.1 e item stands-there

  -- the first below the next child is the first below the queue
  pub first-below : (last : Option Standing) (next : Standing) (found : Option Item) → AreTried b last → IsNext b last next → AreAllBelow b
      → IsFirstBelow b.scene (path_at b next.place) found → is_some found ≡ true → IsFirstOf b found
  first-below last next None tried is all first some = absurd (true≢false (sym some))
  first-below last next (Some item) tried is all first some = (beneath least.0, λ other h. least.1 other (all other h))
    where
      name : Name
      name = name_at b next.place

      before : (other : Item) (h : IsBelowSome b.scene.items b.path b.children other) → is_gt (standing_order (stands b name) (stands b h.child)) ≡ false
      before other h = go (is_lt (standing_order (at place) (told b next))) refl
        where
          found : (place : ℕ) × (place < length b.children) × (get_or b.children place [] ≡ h.child)
          found = placed b.children h.child h.there

          place : ℕ
          place = found.0

          go : (o : Bool) → is_lt (standing_order (at place) (told b next)) ≡ o → is_gt (standing_order (stands b name) (stands b h.child)) ≡ false
          go true e = absurd (sooner last next place tried is found.1 e other (subst (λ n. IsBelow b.scene.items (below b.path n) other) (sym found.2) h.stands))
          go false e = (λ i. is_gt (standing_order (sym is.standing.right i) (stands b (sym found.2 i)))) ∙ not-after (told b next) (at place) e

      least : IsFirst (is_later (key b.scene.config b.scene.state b.scene.label)) (IsBelowSome b.scene.items b.path b.children) (Some item)
      least =
          is_first_below_least b.scene.config b.scene.state b.scene.label b.scene.items b.path b.children name item
          (record { there = Contains-get_or b.children next.place [] is.standing.there; before = before })
          first

      -- what stands below a child stands below the queue
      beneath : IsBelowSome b.scene.items b.path b.children item → IsBelow b.scene.items b.path item
      beneath h = record { among = h.stands.among; within = within-trans b.path (below b.path h.child) item.leaf (above b.path (h.child ∷ [])) h.stands.within }
