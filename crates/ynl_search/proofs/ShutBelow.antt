-- Below a queue that is shut or closed nothing is eligible, and where nothing is eligible below a queue it is shut.
use Rattle.std.proofs.Common.{◌≡◌, ℕ, Bool, true, false, ◌&&◌, ◌||◌, not, ap, cond, nat_eq, ◌∷◌, Option, None, Some, refl, sym, subst, ◌∙◌, arith, true≢false}
use Rattle.std.specs.List.{list_all}
use Rattle.std.specs.Prelude.{IfSome}
use Rattle.std.proofs.lemmas.Bool.{and_from, and_parts}
use Rattle.std.proofs.lemmas.Bool.Decides.{nat_tests}
use Rattle.ynl_resource.specs.Amounts.{fits_in}
use Rattle.ynl_resource.specs.Names.{root, way_to}
use Rattle.ynl_resource.specs.declared.amounts.Resource.{Resource}
use Rattle.ynl_resource.specs.declared.labels.Label.{Label}
use Rattle.ynl_resource.specs.declared.names.Name.{Name}
use Rattle.ynl_resource.specs.declared.paths.Path.{Path}
use Rattle.ynl_model.specs.declared.nodes.Node.{Node}
use Rattle.ynl_model.specs.Cluster.{State, free}
use Rattle.ynl_model.specs.Queues.{Config}
use Rattle.ynl_model.specs.Service.{Item, eligible, is_eligible, items_for}
use Rattle.ynl_laws.specs.Decided.{below}
use Rattle.ynl_laws.specs.Descent.{IsBelow}
use Rattle.ynl_laws.proofs.Amounts.{fits-trans}
use Rattle.ynl_search.specs.descent.Scenes.{HasNone}
use Rattle.ynl_inventory.proofs.Finding.{not-true}
use Rattle.ynl_cluster.proofs.requests.Members.{among-contained, among-filter, contained-among, filter-among}
use Rattle.ynl_cluster.specs.Cluster.{ClusterView, label_of, path_of, state_in}
use Rattle.ynl_search.specs.declared.notes.noted.Noted.{Noted}
use Rattle.ynl_search.specs.notes.Notes.{Changes, Notes, Table, has_at, noted, noted_at}
use Rattle.ynl_search.specs.notes.Shut.{AreGuestsRight, AreOwnRight, AreShut, IsRight, IsShut, keeps_below, keeps_maximum}
use Rattle.ynl_search.specs.declared.place.Place.{Place}
use Rattle.ynl_search.specs.declared.headroom.Headroom.{Headroom}
use Rattle.ynl_search.specs.Places.{IsPlace, allows, can_take}
use Rattle.ynl_search.specs.Scenes.{own_scene}
use Rattle.ynl_search.specs.Shut.{HasNoneIn, IsClosed, IsClosedIn, IsRightIn, IsShutIn, covers, is_passed}
use Rattle.ynl_search.proofs.Steps.{take-below}
use Rattle.ynl_search.proofs.Splits.{eligible-parts, parts-eligible}

-- what is shut in a room is shut in those that it covers
pub covered : (c : Config) (s : State) (label : Label) (queue : Path) (noted : Option Resource) (room : Resource) → IfSome noted (IsShut c s label queue) → covers noted room ≡ true → IsShut c s label queue room
covered c s label queue None room shut h item below fits = absurd (true≢false (sym h))
covered c s label queue (Some r) room shut h item below fits = shut item below (fits-trans item.size room r fits h)

module _ (c : Config) (s : State) (node : Node) where
  -- where no request below a queue is eligible, the queue is shut in its room
  none-shut : (queue : Path) (place : Place) → IsPlace c s node.label (free s node) queue place → place.headroom.is_open ≡ true
      → ((item : Item) → IsBelow (eligible c s node) queue item → ⊥) → IsShut c s node.label queue place.headroom.room
  none-shut queue place is opens none item h fits = not-true (keeps_below c s node.label queue item) found
    where
      found : keeps_below c s node.label queue item ≡ true → ⊥
      found keeps =
          let takes : can_take s node.label (free s node) queue item.size ≡ true = sym (is.headroom item.size) ∙ and_from place.headroom.is_open (fits_in item.size place.headroom.room) opens fits in
          none item
          (record {
            among =
                contained-among item (eligible c s node)
                (filter-among (is_eligible c s node) item (items_for s node.label) (parts-eligible c s node queue item h.within takes keeps) (among-contained item (items_for s node.label) h.among));
            within = h.within;
          })

  -- what is eligible below a queue is a request there, which the queue takes, and which keeps what is to be kept below
  record IsTaken (queue : Path) (item : Item) : Type 0 where
    below : IsBelow (items_for s node.label) queue item
    takes : can_take s node.label (free s node) queue item.size ≡ true
    keeps : keeps_below c s node.label queue item ≡ true

  taken : (queue : Path) (item : Item) → IsBelow (eligible c s node) queue item → IsTaken queue item
  taken queue item h =
      let one = among-filter (is_eligible c s node) item (items_for s node.label) (among-contained item (eligible c s node) h.among) in
      let parts = eligible-parts c s node queue item h.within one.1 in
      record { below = record { among = contained-among item (items_for s node.label) one.0; within = h.within }; takes = parts.0; keeps = parts.1 }

  -- nothing is below a queue that is closed where its parent was reached
  closed-none : (parent : Path) (name : Name) (place : Place) → IsPlace c s node.label (free s node) parent place → IsClosed c s node.label place.headroom (below parent name)
      → (item : Item) → IsBelow (eligible c s node) (below parent name) item → ⊥
  closed-none parent name place is closed item h =
      let its = taken (below parent name) item h in
      let parts = and_parts (can_take s node.label (free s node) parent item.size) (keeps_maximum s node.label item.size (below parent name)) (sym (take-below s node.label (free s node) parent name item.size) ∙ its.takes) in
      true≢false (sym its.keeps ∙ closed item its.below (is.headroom item.size ∙ parts.0) parts.1)

  -- nor below one that is shut in all that is free
  shut-none : (queue : Path) → IsShut c s node.label queue (free s node) → (item : Item) → IsBelow (eligible c s node) queue item → ⊥
  shut-none queue shut item h =
      let its = taken queue item h in
      true≢false (sym its.keeps ∙ shut item its.below (and_parts (fits_in item.size (free s node)) (list_all (keeps_maximum s node.label item.size) (root ∷ way_to queue)) its.takes).0)

module _ (w : ClusterView) (p : ℕ) (node : Node) (there : node.label ≡ label_of w p) where
  module _ (place : Place) (is : IsPlace w.config (state_in w) (label_of w p) (free (state_in w) node) (path_of w place.queue) place) where
    at-label : IsPlace w.config (state_in w) node.label (free (state_in w) node) (path_of w place.queue) place
    at-label = subst (λ (label : Label). IsPlace w.config (state_in w) label (free (state_in w) node) (path_of w place.queue) place) (sym there) is

    pub none-is-shut : place.headroom.is_open ≡ true → HasNone (own_scene w node) (path_of w place.queue) → IsShutIn w p place.queue place.headroom.room
    none-is-shut opens none =
        subst (λ (label : Label). IsShut w.config (state_in w) label (path_of w place.queue) place.headroom.room) there
        (none-shut w.config (state_in w) node (path_of w place.queue) place at-label opens none)

    -- below a child that is closed there is none
    pub closed-has-none : (q : ℕ) (name : Name) → path_of w q ≡ below (path_of w place.queue) name → IsClosedIn w p place.headroom q → HasNone (own_scene w node) (below (path_of w place.queue) name)
    closed-has-none q name path closed =
        closed-none w.config (state_in w) node (path_of w place.queue) name place at-label
        (subst (λ (label : Label). IsClosed w.config (state_in w) label place.headroom (below (path_of w place.queue) name)) (sym there)
        (subst (IsClosed w.config (state_in w) (label_of w p) place.headroom) path closed))

  -- so it is below a queue that is shut in all that is free
  pub shut-has-none : (q : ℕ) (room : Resource) → room ≡ free (state_in w) node → IsShutIn w p q room → HasNone (own_scene w node) (path_of w q)
  shut-has-none q room is shut =
      shut-none w.config (state_in w) node (path_of w q)
      (subst (λ (label : Label). IsShut w.config (state_in w) label (path_of w q) (free (state_in w) node)) (sym there)
      (subst (IsShut w.config (state_in w) (label_of w p) (path_of w q)) is shut))

-- ---- a child that is closed

module _ (w : ClusterView) (p q : ℕ) where
  -- a queue that is shut in a room has none for which there is headroom, if that is no more
  pub shut-closed : (h : Headroom) → IsShutIn w p q h.room → HasNoneIn w p h q
  shut-closed h shut item below allowed = shut item below (and_parts h.is_open (fits_in item.size h.room) allowed).1

  -- and it is closed
  pub shut-above : (h : Headroom) → IsShutIn w p q h.room → IsClosedIn w p h q
  shut-above h shut item below allowed keeps = shut-closed h shut item below allowed

  -- where a queue has none for which there is headroom below its parent and in it, it is closed
  pub none-closed : (above own : Headroom)
      → ((size : Resource) → allows own size ≡ (allows above size && keeps_maximum (state_in w) (label_of w p) size (path_of w q))) → HasNoneIn w p own q → IsClosedIn w p above q
  none-closed above own is none item below allowed keeps = none item below (is item.size ∙ and_from (allows above item.size) (keeps_maximum (state_in w) (label_of w p) item.size (path_of w q)) allowed keeps)

-- what is noted stays right where one more queue's is right
noted-own : (w : ClusterView) (p q : ℕ) (more : Noted) (old new : Table) → AreOwnRight w old → Changes (noted old p q more) old new → IsRightIn w p q more → AreOwnRight w new
noted-own w p q more old new right changes own r t cell = subst (IsRightIn w r t) (sym (changes.noted r t)) (go (nat_eq r p) (has_at old r t) (nat_eq t q) refl refl)
  where
    go : (one has two : Bool) → nat_eq r p ≡ one → nat_eq t q ≡ two → IsRightIn w r t (cond (one && (has && two)) more (noted_at old r t))
    go false has two e f = right r t cell
    go true false two e f = right r t cell
    go true true false e f = right r t cell
    go true true true e f =
        let same : p ≡ r = grind (arith, nat_tests, e) in
        let alike : q ≡ t = grind (arith, nat_tests, f) in
        subst (λ n. IsRightIn w r n more) alike (subst (λ n. IsRightIn w n q more) same own)

-- and so do the notes
pub noted-shut : (w : ClusterView) (p q : ℕ) (more : Noted) (old new : Notes) → AreShut w old → Changes (noted old.own p q more) old.own new.own → new.guests ≡ old.guests → IsRightIn w p q more → AreShut w new
noted-shut w p q more old new shut changes same own = record {
  own = noted-own w p q more old.own new.own shut.own changes own;
  guests = subst (AreGuestsRight w) (sym same) shut.guests;
}

-- a queue that is passed by in a room is shut in it
pub passed : (c : Config) (s : State) (label : Label) (queue : Path) (n : Noted) (room : Resource) → IsRight c s label queue n → is_passed n room ≡ true → IsShut c s label queue room
passed c s label queue n room right h = go (covers n.room room) refl h
  where
    go : (b : Bool) → covers n.room room ≡ b → (b || not (fits_in n.least room)) ≡ true → IsShut c s label queue room
    go true e h = covered c s label queue n.room room right.room e
    go false e h = λ item stands fits. absurd (true≢false (sym h ∙ ap not (fits-trans n.least item.size room (right.least item stands) fits)))
