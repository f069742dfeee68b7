-- A request below a queue is eligible where the queue takes it, and where what is to be kept below the queue is kept.
use Rattle.std.proofs.Common.{◌≡◌, Bool, true, false, ◌&&◌, ◌||◌, List, [], ◌∷◌, map, refl, sym, ap, subst, ◌∙◌, true≢false}
use Rattle.std.specs.List.{list_all}
use Rattle.std.proofs.lemmas.Bool.{and_from, and_parts}
use Rattle.std.proofs.lemmas.List.Folds.{list_all-append}
use Rattle.ynl_resource.specs.Amounts.{fits_in}
use Rattle.ynl_resource.specs.Names.{is_within, root, same_name, way_to}
use Rattle.ynl_resource.specs.declared.paths.Path.{Path}
use Rattle.ynl_model.specs.declared.nodes.Node.{Node}
use Rattle.ynl_model.specs.Cluster.{State, free}
use Rattle.ynl_model.specs.Queues.{Config}
use Rattle.ynl_model.specs.Service.{Item, has_room, is_eligible, within_master_share, within_maximum, within_user_limit}
use Rattle.ynl_laws.proofs.Lists.{all-weaker}
use Rattle.ynl_laws.proofs.Names.{same-name_sym}
use Rattle.ynl_laws.proofs.Service.Decided.{way-below}
use Rattle.ynl_search.specs.notes.Shut.{keeps_below, keeps_maximum}
use Rattle.ynl_search.specs.Places.{can_take}

-- what holds of all that is made of a list
all-of-map : {X Y : Type 0} (p : Y → Bool) (f : X → Y) (xs : List X) → list_all p (map f xs) ≡ true → list_all (λ x. p (f x)) xs ≡ true
all-of-map p f [] h = refl
all-of-map p f (x ∷ xs) h =
    let parts = and_parts (p (f x)) (list_all p (map f xs)) h in
    and_from (p (f x)) (list_all (λ x. p (f x)) xs) parts.0 (all-of-map p f xs parts.1)

-- what holds of root and of each queue on the way to a leaf holds of each queue that the leaf is within
pub on-way : (f : Path → Bool) (queue leaf : Path) → is_within queue leaf ≡ true → list_all f (root ∷ way_to leaf) ≡ true → f queue ≡ true
on-way f [] leaf w h = (and_parts _ _ h).0
on-way f (name ∷ queue) [] w h = absurd (true≢false (sym w))
on-way f (name ∷ queue) (step ∷ leaf) w h =
    let below : (f (step ∷ []) && list_all f (map (λ path. step ∷ path) (way_to leaf))) ≡ true = (and_parts (f []) _ h).1 in
    let parts = and_parts (f (step ∷ [])) (list_all f (map (λ path. step ∷ path) (way_to leaf))) below in
    subst (λ n. f (n ∷ queue) ≡ true) (sym (same-name_sym name step (and_parts _ _ w).0))
    (on-way (λ path. f (step ∷ path)) queue leaf (and_parts (same_name name step) _ w).1 (and_from _ _ parts.0 (all-of-map f (λ path. step ∷ path) (way_to leaf) parts.1)))

or-right : (a b : Bool) → b ≡ true → (a || b) ≡ true
or-right true b h = refl
or-right false b h = h

module _ (f : Path → Bool) (queue leaf : Path) (w : is_within queue leaf ≡ true) where
  -- whether a queue is on the way to the first one, or passes
  abbrev others : Path → Bool
  others step = is_within step queue || f step

  way-front : list_all f (root ∷ way_to leaf) ≡ true → list_all f (root ∷ way_to queue) ≡ true
  way-front h =
      let at = way-below queue leaf w in
      let parts = and_parts (f root) (list_all f (way_to leaf)) h in
      let both : (list_all f (way_to queue) && list_all f at.0) ≡ true = sym (list_all-append f (way_to queue) at.0) ∙ ap (list_all f) (sym at.1) ∙ parts.1 in
      and_from (f root) (list_all f (way_to queue)) parts.0 (and_parts (list_all f (way_to queue)) (list_all f at.0) both).0

  way-others : list_all f (root ∷ way_to leaf) ≡ true → list_all others (root ∷ way_to leaf) ≡ true
  way-others h = all-weaker f others (λ step passes. or-right (is_within step queue) (f step) passes) (root ∷ way_to leaf) h

  way-all : list_all f (root ∷ way_to queue) ≡ true → list_all others (root ∷ way_to leaf) ≡ true → list_all f (root ∷ way_to leaf) ≡ true
  way-all above h = all-weaker others f (λ step passes. go step (is_within step queue) refl passes) (root ∷ way_to leaf) h
    where
      go : (step : Path) (b : Bool) → is_within step queue ≡ b → (b || f step) ≡ true → f step ≡ true
      go step true within passes = on-way f step queue within above
      go step false within passes = passes

module _ (c : Config) (s : State) (node : Node) (queue : Path) (item : Item) (w : is_within queue item.leaf ≡ true) where
  abbrev keeps : Path → Bool
  keeps = keeps_maximum s node.label item.size

  abbrev limits : Bool
  limits = within_user_limit c s node.label item && within_master_share c s node.label item.leaf item.what item.size

  abbrev all : Bool
  all = list_all keeps (root ∷ way_to item.leaf)

  abbrev room : Bool
  room = has_room s node item.size

  abbrev user : Bool
  user = within_user_limit c s node.label item

  abbrev share : Bool
  share = within_master_share c s node.label item.leaf item.what item.size

  -- what is eligible can be taken by each queue that it stands below, and keeps what is to be kept below that
  pub eligible-parts : is_eligible c s node item ≡ true → (can_take s node.label (free s node) queue item.size ≡ true) × (keeps_below c s node.label queue item ≡ true)
  unfolding is_eligible within_maximum
  eligible-parts h =
      let first = and_parts (room && all && user) share h in
      let second = and_parts (room && all) user first.0 in
      let third = and_parts room all second.0 in (
        and_from (fits_in item.size (free s node)) (list_all keeps (root ∷ way_to queue)) third.0 (way-front keeps queue item.leaf w third.1),
        and_from (list_all (λ step. is_within step queue || keeps step) (root ∷ way_to item.leaf)) limits (way-others keeps queue item.leaf w third.1) (and_from user share second.1 first.1),
      )

  -- and what does so is eligible
  pub parts-eligible : can_take s node.label (free s node) queue item.size ≡ true → keeps_below c s node.label queue item ≡ true → is_eligible c s node item ≡ true
  unfolding is_eligible within_maximum
  parts-eligible takes kept =
      let above = and_parts (fits_in item.size (free s node)) (list_all keeps (root ∷ way_to queue)) takes in
      let rest = and_parts (list_all (λ step. is_within step queue || keeps step) (root ∷ way_to item.leaf)) limits kept in
      let last = and_parts user share rest.1 in
      and_from (room && all && user) share
      (and_from (room && all) user (and_from room all above.0 (way-all keeps queue item.leaf w above.1 rest.0)) last.0) last.1
