-- What is told, by the nodes on which a request may be placed: `next` where it is chosen on one, and else `turn` where there are any.
use Rattle.std.proofs.Common.{◌≡◌, ◌⊎◌, inl, inr, ℕ, not, Bool, true, false, cond, ◌||◌, List, [], ◌∷◌, ◌++◌, length, fold, Option, Some, None, is_some, refl, sym}
use Rattle.std.specs.Prelude.{⊤, flat_map}
use Rattle.std.specs.List.{AllByRecursion, list_any}
use Rattle.std.specs.Option.{option_map_or}
use Rattle.std.proofs.lemmas.Bool.{or_left}
use Rattle.std.specs.Ordering.{is_gt}
use mathlib.Core.Bool.{true≢false}
use Rattle.ynl_resource.specs.Names.{name_order, root, way_to}
use Rattle.ynl_resource.specs.declared.names.Name.{Name}
use Rattle.ynl_resource.specs.declared.paths.Path.{Path}
use Rattle.ynl_model.specs.declared.proposals.Proposal.{Proposal}
use Rattle.ynl_model.specs.Queues.{Config}
use Rattle.ynl_model.specs.Cluster.{State, is_master_what}
use Rattle.ynl_model.specs.Service.{within_user_limit, within_master_share}
use Rattle.ynl_model.specs.Check.{proposed}
use Rattle.ynl_laws.proofs.Lists.{Each-all, Each-append, Each-flat}
use Rattle.ynl_laws.proofs.Logic.{some-same}
use Rattle.ynl_waits.specs.Grounds.{Spot, Ground, has_nodes, fits_any, earlier, first_by_name}
use Rattle.ynl_waits.specs.Laws.{is_next}
use Rattle.ynl_waits.specs.Waits.{Applicant, Request, Reason, item, application_told, nodes_told, clock_told, keeps_maximum, maximum_of_told, maximum_told, user_limit_told, master_share_told, limits_told, room_told, turn_on, turn_told, next_told, held_back, or_else}
use Rattle.ynl_waits.specs.declared.waits.Reason.TheVariants.{Next, Turn}
use Rattle.ynl_waits.specs.declared.waits.Turn.{Turn as Ahead}
use Rattle.ynl_waits.proofs.Among.{IsAmong, among-each}
use Rattle.ynl_waits.proofs.Spots.{all_if, all_unless}

-- ---- the first by name

held-some : (held : Spot) (spots : List Spot) → is_some (fold earlier (Some held) spots) ≡ true
held-some held [] = refl
held-some held (other ∷ spots) = go (is_gt (name_order held.node.name other.node.name)) (held-some other spots) (held-some held spots)
  where
    go : (b : Bool) → is_some (fold earlier (Some other) spots) ≡ true → is_some (fold earlier (Some held) spots) ≡ true → is_some (fold earlier (cond b (Some other) (Some held)) spots) ≡ true
    go true new old = new
    go false new old = old

held-among : (held : Spot) (spots : List Spot) (first : Spot) → fold earlier (Some held) spots ≡ Some first → (held ≡ first) ⊎ IsAmong first spots
held-among held [] first e = inl (some-same held first (Some held) refl e)
held-among held (other ∷ spots) first e = go (is_gt (name_order held.node.name other.node.name)) e (held-among other spots first) (held-among held spots first)
  where
    past : (held ≡ first) ⊎ IsAmong first spots → (held ≡ first) ⊎ ((other ≡ first) ⊎ IsAmong first spots)
    past (inl k) = inl k
    past (inr k) = inr (inr k)

    go : (b : Bool) → fold earlier (cond b (Some other) (Some held)) spots ≡ Some first → (fold earlier (Some other) spots ≡ Some first → (other ≡ first) ⊎ IsAmong first spots) →
        (fold earlier (Some held) spots ≡ Some first → (held ≡ first) ⊎ IsAmong first spots) → (held ≡ first) ⊎ ((other ≡ first) ⊎ IsAmong first spots)
    go true e new old = inr (new e)
    go false e new old = past (old e)

-- there is one where there are any, and it is one of them
pub first-some : (spots : List Spot) (there : Spot) → IsAmong there spots → is_some (first_by_name spots) ≡ true
first-some [] there k = absurd k
first-some (spot ∷ spots) there k = held-some spot spots

pub first-among : (spots : List Spot) (first : Spot) → first_by_name spots ≡ Some first → IsAmong first spots
first-among [] first e = absurd (cc)
first-among (spot ∷ spots) first e = held-among spot spots first e

-- ---- next

-- where it is told there is a first of the nodes on which the request is chosen, and that is the one that is named
pub told-next : (chosen : List Spot) (rest : List Reason) → AllByRecursion (λ r. is_next r ≡ false) rest → (node : Name) (nodes : ℕ) → IsAmong (Next node nodes) (or_else (next_told chosen) rest) →
    (first : Spot) × IsAmong first chosen × (first.node.name ≡ node)
told-next chosen rest others node nodes there = go (first_by_name chosen) refl there
  where
    go : (o : Option Spot) → first_by_name chosen ≡ o → IsAmong (Next node nodes) (or_else (option_map_or (λ (first : Spot). Next first.node.name (length chosen) ∷ []) o []) rest) →
        (first : Spot) × IsAmong first chosen × (first.node.name ≡ node)
    go None e k = absurd (true≢false (among-each (λ r. is_next r ≡ false) (Next node nodes) rest others k))
    go (Some first) e (inl same) = (first, first-among chosen first e, cc)
    go (Some first) e (inr k) = absurd k

-- and it is told where the request is chosen on any
pub next-told : (chosen : List Spot) (rest : List Reason) (there : Spot) → IsAmong there chosen → list_any is_next (or_else (next_told chosen) rest) ≡ true
next-told chosen rest there k = go (first_by_name chosen) (first-some chosen there k)
  where
    go : (o : Option Spot) → is_some o ≡ true → list_any is_next (or_else (option_map_or (λ (first : Spot). Next first.node.name (length chosen) ∷ []) o []) rest) ≡ true
    go None some = absurd (true≢false (sym some))
    go (Some first) some = refl

-- ---- turn

-- where there are any nodes, and something is proposed on each, another is told to be ahead on the first
pub turn-told : (p : Reason → Bool) → ((turn : Ahead) → p (Turn turn) ≡ true) → (c : Config) (s : State) (spots : List Spot) (there : Spot) → IsAmong there spots →
    AllByRecursion (λ (spot : Spot). is_some (proposed c s spot.node) ≡ true) spots → list_any p (turn_told c s spots) ≡ true
turn-told p turns c s spots there k some = go (first_by_name spots) refl (first-some spots there k)
  where
    ahead : (first : Spot) (o : Option Proposal) → is_some o ≡ true → list_any p (option_map_or (turn_on first spots) o []) ≡ true
    ahead first None h = absurd (true≢false (sym h))
    ahead first (Some proposal) h = or_left _ _ (turns (record { node = first.node.name; nodes = length spots; ahead = proposal }))

    go : (o : Option Spot) → first_by_name spots ≡ o → is_some o ≡ true → list_any p (option_map_or (λ (first : Spot). option_map_or (turn_on first spots) (proposed c s first.node) []) o []) ≡ true
    go None e h = absurd (true≢false (sym h))
    go (Some first) e h = ahead first (proposed c s first.node) (among-each (λ (spot : Spot). is_some (proposed c s spot.node) ≡ true) first spots some (first-among spots first e))

-- ---- no other reason is that the request is next

abbrev Other : Reason → Type 0
Other r = is_next r ≡ false

others-turn : (c : Config) (s : State) (spots : List Spot) → AllByRecursion Other (turn_told c s spots)
others-turn c s spots = go (first_by_name spots)
  where
    ahead : (first : Spot) (o : Option Proposal) → AllByRecursion Other (option_map_or (turn_on first spots) o [])
    ahead first None = tt
    ahead first (Some proposal) = (refl, tt)

    go : (o : Option Spot) → AllByRecursion Other (option_map_or (λ (first : Spot). option_map_or (turn_on first spots) (proposed c s first.node) []) o [])
    go None = tt
    go (Some first) = ahead first (proposed c s first.node)

module _ (c : Config) (s : State) (app : Applicant) (request : Request) (own : Ground) (guests : List Ground) where
  others-maxima : AllByRecursion Other (maximum_told s app request)
  unfolding maximum_told
  others-maxima = Each-flat (λ (queue : Path). ⊤) Other (maximum_of_told s app request) (λ queue _. all_unless Other (keeps_maximum s request queue) _ (refl, tt)) (root ∷ way_to app.leaf)
      (Each-all (λ (queue : Path). ⊤) (λ queue. tt) (root ∷ way_to app.leaf))

  others-user : AllByRecursion Other (user_limit_told c s app request)
  unfolding user_limit_told
  others-user = all_unless Other (within_user_limit c s request.label (item app request)) _ (refl, tt)

  others-share : AllByRecursion Other (master_share_told c s app request)
  unfolding master_share_told
  others-share = all_unless Other (within_master_share c s request.label app.leaf request.what request.size) _ (refl, tt)

  others-limits : AllByRecursion Other (limits_told c s app request own)
  unfolding limits_told
  others-limits = Each-append Other _ (master_share_told c s app request)
      (all_if Other (has_nodes own) _ (Each-append Other (maximum_told s app request) (user_limit_told c s app request) others-maxima others-user)) others-share

  others-clocks : AllByRecursion Other (flat_map clock_told (own ∷ guests))
  others-clocks = Each-flat (λ (there : Ground). ⊤) Other clock_told (λ there _. all_if Other there.is_spent _ (refl, tt)) (own ∷ guests) (Each-all (λ (there : Ground). ⊤) (λ there. tt) (own ∷ guests))

  others-rooms : AllByRecursion Other (flat_map (room_told request.size) (own ∷ guests))
  others-rooms = Each-flat (λ (there : Ground). ⊤) Other (room_told request.size) (λ there _. all_unless Other (not (has_nodes there) || fits_any request.size there.spots) _ (refl, tt)) (own ∷ guests)
      (Each-all (λ (there : Ground). ⊤) (λ there. tt) (own ∷ guests))

  pub others : (spots : List Spot) → AllByRecursion (λ r. is_next r ≡ false) (held_back c s app request own guests ++ turn_told c s spots)
  unfolding held_back
  others spots = Each-append Other _ (turn_told c s spots)
      (Each-append Other _ (flat_map (room_told request.size) (own ∷ guests)) (Each-append Other _ (limits_told c s app request own) (Each-append Other _ (flat_map clock_told (own ∷ guests))
      (Each-append Other (application_told app request) (nodes_told own) (all_unless Other (app.runs || is_master_what request.what) _ (refl, tt)) (all_unless Other (has_nodes own) _ (refl, tt))) others-clocks) others-limits) others-rooms) (others-turn c s spots)
