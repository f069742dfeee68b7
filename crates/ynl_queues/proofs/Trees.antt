-- What is known of queues that are a tree.
use Rattle.std.proofs.Common.{◌≡◌, ℕ, zero, suc, ◌+◌, ◌<◌, Bool, true, false, not, cond, List, [], ◌∷◌, length, map, take, find, get_or, Option, Some, None, ◌-◌, refl, sym, ap, subst, ◌∙◌, arith}
use Rattle.std.specs.Prelude.{◌&&◌, ◌||◌, is_some}
use Rattle.std.specs.List.{list_any, list_all, filter, position}
use Rattle.std.proofs.lemmas.Bool.{and_parts}
use Rattle.std.proofs.lemmas.List.Folds.{list_any_at}
use Rattle.ynl_resource.specs.Names.{same_path, root, is_within, top_level}
use Rattle.ynl_resource.specs.declared.names.Name.{Name}
use Rattle.ynl_resource.specs.declared.paths.Path.{Path}
use Rattle.ynl_resource.specs.declared.labels.Label.TheVariants.{Unlabelled}
use Rattle.ynl_model.specs.Queues.{QueueRow, Config, Inherited, is_queue, queue_row}
use Rattle.ynl_model.specs.View.{restrict}
use Rattle.ynl_model.specs.Accepted.{all_differ, parent_of}
use Rattle.ynl_queues.specs.Index.{HasSteps}
use Rattle.ynl_queues.specs.Trees.{HasTree}
use Rattle.ynl_queues.proofs.Places.{same_path_equal, no_row}
use Rattle.ynl_queues.proofs.PlaceMaps.{path_self}

-- ---- lists

is_false : (b : Bool) → not b ≡ true → b ≡ false
is_false true h = absurd cc
is_false false h = refl

-- an element that passes one test, where all pass another, passes both
found_both : {X : Type 0} (q p : X → Bool) (xs : List X) → list_all q xs ≡ true → is_some (find p xs) ≡ true → (x : X) × (q x ≡ true) × (p x ≡ true)
found_both q p [] all some = absurd cc
found_both {X} q p (x ∷ xs) all some = by_test (p x) refl (and_parts (q x) (list_all q xs) all) (λ u g. found_both q p xs u g) some
  where
    by_test : (b : Bool) → p x ≡ b → (q x ≡ true) × (list_all q xs ≡ true) → (list_all q xs ≡ true → is_some (find p xs) ≡ true → (y : X) × (q y ≡ true) × (p y ≡ true))
        → is_some (cond b (Some x) (find p xs)) ≡ true → (y : X) × (q y ≡ true) × (p y ≡ true)
    by_test true e parts rest g = (x, parts.0, e)
    by_test false e parts rest g = rest parts.1 g

found_at : {X : Type 0} (p : X → Bool) (xs : List X) (i : ℕ) (d : X) → i < length xs → p (get_or xs i d) ≡ true → is_some (find p xs) ≡ true
found_at p [] i d inside here = absurd (omega (arith, inside))
found_at p (x ∷ xs) zero d inside here = ap (λ b. is_some (cond b (Some x) (find p xs))) here
found_at p (x ∷ xs) (suc i) d inside here = elim (p x) as (λ b. is_some (cond b (Some x) (find p xs)) ≡ true) [ true ↦ refl | false ↦ found_at p xs i d (omega (arith, inside)) here ]

-- what is found is found among those that pass another test, where it passes that
found_filter : {X : Type 0} (p q : X → Bool) → ((x : X) → p x ≡ true → q x ≡ true) → (xs : List X) → is_some (find p xs) ≡ true → is_some (find p (filter q xs)) ≡ true
found_filter p q passes [] some = some
found_filter {X} p q passes (x ∷ xs) some = by_tests (p x) (q x) refl refl (λ g. found_filter p q passes xs g) some
  where
    by_tests : (a b : Bool) → p x ≡ a → q x ≡ b → (is_some (find p xs) ≡ true → is_some (find p (filter q xs)) ≡ true) → is_some (cond a (Some x) (find p xs)) ≡ true → is_some (find p (cond b (x ∷ filter q xs) (filter q xs))) ≡ true
    by_tests true true e f rest g = ap (λ b. is_some (cond b (Some x) (find p (filter q xs)))) e
    by_tests true false e f rest g = let both = passes x e in absurd cc
    by_tests false true e f rest g = ap (λ b. is_some (cond b (Some x) (find p (filter q xs)))) e ∙ rest g
    by_tests false false e f rest g = rest g

none_filter : {X Y : Type 0} (p : Y → Bool) (f : X → Y) (q : X → Bool) (xs : List X) → list_any p (map f xs) ≡ false → list_any p (map f (filter q xs)) ≡ false
none_filter p f q [] none = none
none_filter {X} p f q (x ∷ xs) none = by_tests (p (f x)) (q x) refl (λ g. none_filter p f q xs g) none
  where
    by_tests : (a b : Bool) → p (f x) ≡ a → (list_any p (map f xs) ≡ false → list_any p (map f (filter q xs)) ≡ false) → (a || list_any p (map f xs)) ≡ false → list_any p (map f (cond b (x ∷ filter q xs) (filter q xs))) ≡ false
    by_tests true b e rest g = absurd cc
    by_tests false true e rest g = ap (λ b. b || list_any p (map f (filter q xs))) e ∙ rest g
    by_tests false false e rest g = rest g

-- what differs still differs where some are left out
differ_filter : {X Y : Type 0} (same : Y → Y → Bool) (f : X → Y) (q : X → Bool) (xs : List X) → all_differ same (map f xs) ≡ true → all_differ same (map f (filter q xs)) ≡ true
differ_filter same f q [] h = h
differ_filter {X} same f q (x ∷ xs) h =
    let parts = and_parts (not (list_any (same (f x)) (map f xs))) (all_differ same (map f xs)) h in
    let rest = differ_filter same f q xs parts.1 in
    elim (q x) as (λ b. all_differ same (map f (cond b (x ∷ filter q xs) (filter q xs))) ≡ true) [
      | true ↦ (λ i. not (none_filter (same (f x)) f q xs (is_false (list_any (same (f x)) (map f xs)) parts.0) i) && rest i)
      | false ↦ rest
    ]

all_filter : {X : Type 0} (p r q : X → Bool) → ((x : X) → q x ≡ true → p x ≡ true → r x ≡ true) → (xs : List X) → list_all p xs ≡ true → list_all r (filter q xs) ≡ true
all_filter p r q holds [] h = refl
all_filter {X} p r q holds (x ∷ xs) h = by_test (q x) refl (and_parts (p x) (list_all p xs) h) (λ g. all_filter p r q holds xs g)
  where
    by_test : (b : Bool) → q x ≡ b → (p x ≡ true) × (list_all p xs ≡ true) → (list_all p xs ≡ true → list_all r (filter q xs) ≡ true) → list_all r (cond b (x ∷ filter q xs) (filter q xs)) ≡ true
    by_test true e parts rest = λ i. holds x e parts.0 i && rest parts.1 i
    by_test false e parts rest = rest parts.1

-- paths that differ are one path only under one number
pub apart : (paths : List Path) → all_differ same_path paths ≡ true → (i j : ℕ) → i < length paths → j < length paths → get_or paths i root ≡ get_or paths j root → i ≡ j
apart [] h i j inside within e = absurd (omega (arith, inside))
apart (path ∷ paths) h zero zero inside within e = refl
apart (path ∷ paths) h zero (suc j) inside within e =
    let parts = and_parts (not (list_any (same_path path) paths)) (all_differ same_path paths) h in
    let some = list_any_at (same_path path) paths j root (omega (arith, within)) (path_self path (get_or paths j root) e) in
    absurd cc
apart (path ∷ paths) h (suc i) zero inside within e =
    let parts = and_parts (not (list_any (same_path path) paths)) (all_differ same_path paths) h in
    let some = list_any_at (same_path path) paths i root (omega (arith, inside)) (path_self path (get_or paths i root) (sym e)) in
    absurd cc
apart (path ∷ paths) h (suc i) (suc j) inside within e =
    ap suc (apart paths (and_parts (not (list_any (same_path path) paths)) (all_differ same_path paths) h).1 i j (omega (arith, inside)) (omega (arith, within)) e)

-- ---- the way to a queue

parent_of-take : (path : Path) (k : ℕ) → k < length path → parent_of (take (suc k) path) ≡ take k path
parent_of-take [] k h = absurd (omega (arith, h))
parent_of-take (name ∷ path) zero h = refl
parent_of-take (name ∷ []) (suc k) h = absurd (omega (arith, h))
parent_of-take (name ∷ next ∷ path) (suc k) h = ap (λ p. name ∷ p) (parent_of-take (next ∷ path) k (omega (arith, h)))

take-whole : (path : Path) → take (length path) path ≡ path
take-whole [] = refl
take-whole (name ∷ path) = ap (λ p. name ∷ p) (take-whole path)

-- a row of no queue
pub blank_row : QueueRow
blank_row = record {
  path = root;
  stopped = false;
  capacity = 0;
  maximum = 0;
  access = Inherited;
  leaf = record { default_label = Unlabelled; minimum_user_limit_percent = 0; user_limit_factor = 0; maximum_am_resource_percent = 0; maximum_applications = 0 };
  capacities = [];
}

module _ (c : Config) (tree : HasTree c) where
  -- a queue's parent is a queue
  above : (queue : Path) → is_queue c queue ≡ true → is_queue c (parent_of queue) ≡ true
  above [] h = refl
  above (name ∷ queue) h =
      let found = found_both (λ (row : QueueRow). is_queue c (parent_of row.path)) (λ (row : QueueRow). same_path row.path (name ∷ queue)) c.queues tree.parents h in
      subst (λ (q : Path). is_queue c (parent_of q) ≡ true) (same_path_equal found.0.path (name ∷ queue) found.2) found.1

  -- and so is each queue on the way to it
  on_way : (queue : Path) → is_queue c queue ≡ true → (n k : ℕ) → k + n ≡ length queue → is_queue c (take k queue) ≡ true
  on_way queue h zero k e = subst (λ (q : Path). is_queue c q ≡ true) (sym (ap (λ m. take m queue) (omega (arith, e)) ∙ take-whole queue)) h
  on_way queue h (suc n) k e = subst (λ (q : Path). is_queue c q ≡ true) (parent_of-take queue k (omega (arith, e))) (above (take (suc k) queue) (on_way queue h n (suc k) (omega (arith, e))))

  placed : (queue : Path) → is_some (queue_row c queue) ≡ true → is_some (position (λ row. same_path row.path queue) c.queues) ≡ true
  placed queue h = go (position (λ row. same_path row.path queue) c.queues) refl
    where
      go : (o : Option ℕ) → position (λ row. same_path row.path queue) c.queues ≡ o → is_some o ≡ true
      go (Some place) e = refl
      go None e = sym (ap (λ (o : Option QueueRow). is_some o) (no_row c queue e)) ∙ h

  has_row : (queue : Path) (depth : ℕ) → depth < length queue → is_queue c (take (suc depth) queue) ≡ true → is_some (queue_row c (take (suc depth) queue)) ≡ true
  has_row [] depth inside h = absurd (omega (arith, inside))
  has_row (name ∷ queue) depth inside h = h

  -- all queues on the way to a queue have places
  pub has_steps : (place : ℕ) (d : QueueRow) → place < length c.queues → HasSteps c.queues (get_or c.queues place d).path
  has_steps place d inside depth below =
      let queue : Path = (get_or c.queues place d).path in
      let there : is_queue c queue ≡ true = is_there queue (found_at (λ (row : QueueRow). same_path row.path queue) c.queues place d inside (path_self queue queue refl)) in
      let row = has_row queue depth below (on_way queue there (length queue - suc depth) (suc depth) (omega (arith, below))) in
      let next : suc depth ≡ depth + 1 = omega arith in
      subst (λ (k : ℕ). is_some (position (λ row. same_path row.path (take k queue)) c.queues) ≡ true) next (placed (take (suc depth) queue) row)
    where
      is_there : (queue : Path) → is_some (queue_row c queue) ≡ true → is_queue c queue ≡ true
      is_there [] h = refl
      is_there (name ∷ queue) h = h

  -- without the queues of other tenants
  pub alone : (tenant : Name) → HasTree (restrict c tenant)
  alone tenant =
      let mine = λ (row : QueueRow). is_within (top_level tenant) row.path in
      let path_of = λ (row : QueueRow). row.path in
      let parts = and_parts (not (list_any (same_path root) (map path_of c.queues))) (all_differ same_path (map path_of c.queues)) tree.paths in
      record {
        labels = tree.labels;
        paths = λ i. not (none_filter (same_path root) path_of mine c.queues (is_false (list_any (same_path root) (map path_of c.queues)) parts.0) i) && differ_filter same_path path_of mine c.queues parts.1 i;
        parents = all_filter (λ (row : QueueRow). is_queue c (parent_of row.path)) (λ (row : QueueRow). is_queue (restrict c tenant) (parent_of row.path)) mine (λ row within there. parent_kept row.path within there) c.queues tree.parents;
      }
    where
      parent_kept : (path : Path) → is_within (top_level tenant) path ≡ true → is_queue c (parent_of path) ≡ true → is_queue (restrict c tenant) (parent_of path) ≡ true
      parent_kept [] within there = refl
      parent_kept (name ∷ []) within there = refl
      parent_kept (name ∷ next ∷ path) within there =
          let queue : Path = name ∷ parent_of (next ∷ path) in
          found_filter (λ (row : QueueRow). same_path row.path queue) (λ (row : QueueRow). is_within (top_level tenant) row.path)
          (λ row same. subst (λ (q : Path). is_within (top_level tenant) q ≡ true) (sym (same_path_equal row.path queue same)) within) c.queues there
