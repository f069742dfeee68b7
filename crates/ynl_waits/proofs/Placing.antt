-- Where a request may be placed: the nodes on which it may be are those that an explanation lists, and on each of them something is proposed.
use Rattle.std.proofs.Common.{◌≡◌, ◌⊎◌, inl, inr, Bool, true, false, cond, not, List, [], ◌∷◌, ◌++◌, map, filter, find, Option, Some, None, is_some, refl, sym, ap, subst, ◌∙◌}
use Rattle.std.specs.Prelude.{flat_map, nat_lt}
use Rattle.std.specs.List.{AllByRecursion, Contains}
use Rattle.std.specs.Option.{option_map_or, option_or}
use Rattle.std.proofs.lemmas.Bool.{and_from, and_parts}
use mathlib.Core.Bool.{true≢false}
use Rattle.ynl_resource.specs.Amounts.{fits_in}
use Rattle.ynl_resource.specs.declared.amounts.Resource.{Resource}
use Rattle.ynl_resource.specs.Names.{same_label}
use Rattle.ynl_resource.specs.declared.labels.Label.{Label}
use Rattle.ynl_resource.specs.declared.labels.Label.TheVariants.{Unlabelled}
use Rattle.ynl_model.specs.declared.nodes.Node.{Node}
use Rattle.ynl_model.specs.Nodes.{partition_labels}
use Rattle.ynl_model.specs.Queues.{Config}
use Rattle.ynl_model.specs.declared.applications.AskRow.{AskRow}
use Rattle.ynl_model.specs.Applications.{Application, all_apps}
use Rattle.ynl_model.specs.Cluster.{State, Partition, is_partition, is_spent, free}
use Rattle.ynl_model.specs.Service.{Item, Key, has_room, within_maximum, within_user_limit, within_master_share, items_for, asks_for, is_eligible, eligible, some_eligible, takes_guests, guests_for, key, first_of, choice}
use Rattle.ynl_model.specs.Check.{comes_as_guest, proposal_of, proposed}
use Rattle.ynl_laws.specs.First.{IsFirst, is_later}
use Rattle.ynl_laws.specs.Working.{IsWorking, has_row}
use Rattle.ynl_laws.proofs.Lists.{Each-append, Each-filter, Each-flat, Each-kept, Each-map, Each-weaker, filter-passes}
use Rattle.ynl_laws.proofs.Logic.{is_some-map}
use Rattle.ynl_laws.proofs.Names.{same-label_path, same-label_self}
use Rattle.ynl_laws.proofs.Service.First.{is_first_found}
use Rattle.ynl_waits.specs.Grounds.{Spot, Ground, spot, all_spots, spots_on, ground, has_nodes, guest_labels, guest_grounds, open_spots}
use Rattle.ynl_waits.specs.Laws.{IsWellFormed}
use Rattle.ynl_waits.specs.Waits.{Applicant, Request, applicant, item, is_ready, passes, places}
use Rattle.ynl_waits.proofs.Among.{IsAmong, any-among, among-contained, among-each, among-filter, among-flat, among-left, among-map, among-right, each-among, not-empty}
use Rattle.ynl_waits.proofs.Requests.{Source, request-there, guest-there, guests-taken}

-- a request comes to a node of its own partition, whose tests it passes, or as a guest
abbrev pub Comes : Config → State → Applicant → Request → Node → Type 0
Comes c s app request node = ((node.label ≡ request.label) × (passes c s app request ≡ true)) ⊎ ((app.runs ≡ true) × (comes_as_guest c node.label request.what ≡ true))

-- so it may be placed there, where the clock of the partition goes on and it fits what is free
pub record MayStand (c : Config) (s : State) (app : Applicant) (request : Request) (node : Node) : Type 0 where
  pub there : IsAmong node s.nodes
  pub fresh : is_spent c.labels s node.label ≡ false
  pub room : has_room s node request.size ≡ true
  pub how : Comes c s app request node

-- ---- the nodes that are listed

-- a node of a partition, with what is free on it
record IsIn (s : State) (label : Label) (there : Spot) : Type 0 where
  stands : IsAmong there.node s.nodes
  at : there.node.label ≡ label
  room : there.free ≡ free s there.node

module _ (c : Config) (s : State) where
  spots-in : (label : Label) → AllByRecursion (IsIn s label) (spots_on label (all_spots s))
  spots-in label = Each-kept (IsIn s label) (λ (there : Spot). same_label there.node.label label) (all_spots s)
      (Each-map (λ node. IsAmong node s.nodes) (λ (there : Spot). same_label there.node.label label ≡ true → IsIn s label there) (spot s)
      (λ node k on. record { stands = k; at = same-label_path node.label label on; room = refl }) s.nodes (each-among s.nodes))

  -- one that is open, in a partition whose clock goes on
  abbrev IsOpen : Label → Resource → Spot → Type 0
  IsOpen label size there = IsIn s label there × (is_spent c.labels s label ≡ false) × (fits_in size there.free ≡ true)

  open-in : (label : Label) (size : Resource) → AllByRecursion (IsOpen label size) (open_spots size (ground c s label))
  unfolding ground
  open-in label size = go (is_spent c.labels s label) refl
    where
      go : (b : Bool) → is_spent c.labels s label ≡ b → AllByRecursion (IsOpen label size) (cond b [] (filter (λ (there : Spot). fits_in size there.free) (spots_on label (all_spots s))))
      go true e = tt
      go false e = Each-kept (IsOpen label size) (λ (there : Spot). fits_in size there.free) (spots_on label (all_spots s))
          (Each-weaker (IsIn s label) (λ (there : Spot). fits_in size there.free ≡ true → IsOpen label size there) (λ there k on. (k, e, on)) (spots_on label (all_spots s)) (spots-in label))

  -- and the other way round
  spot-listed : (node : Node) → IsAmong node s.nodes → IsAmong (spot s node) (spots_on node.label (all_spots s))
  spot-listed node there = among-filter (λ (other : Spot). same_label other.node.label node.label) (spot s node) (all_spots s) (same-label_self node.label) (among-map (spot s) node s.nodes there)

  spot-open : (node : Node) (size : Resource) → IsAmong node s.nodes → is_spent c.labels s node.label ≡ false → has_room s node size ≡ true → IsAmong (spot s node) (open_spots size (ground c s node.label))
  unfolding ground
  spot-open node size there fresh room = subst (λ b. IsAmong (spot s node) (cond b [] (filter (λ (other : Spot). fits_in size other.free) (spots_on node.label (all_spots s))))) (sym fresh)
      (among-filter (λ (other : Spot). fits_in size other.free) (spot s node) (spots_on node.label (all_spots s)) room (spot-listed node there))

  nodes-there : (node : Node) → IsAmong node s.nodes → has_nodes (ground c s node.label) ≡ true
  unfolding ground
  nodes-there node there = not-empty (spot s node) (spots_on node.label (all_spots s)) (spot-listed node there)

  module _ (app : Applicant) (request : Request) where
    abbrev Stands : Spot → Type 0
    Stands there = MayStand c s app request there.node

    stand-in : (label : Label) → ((node : Node) → node.label ≡ label → Comes c s app request node) → AllByRecursion Stands (open_spots request.size (ground c s label))
    stand-in label how = Each-weaker (IsOpen label request.size) Stands (λ there k. record {
      there = k.0.stands;
      fresh = ap (is_spent c.labels s) k.0.at ∙ k.1;
      room = ap (fits_in request.size) (sym k.0.room) ∙ k.2;
      how = how there.node k.0.at;
    }) (open_spots request.size (ground c s label)) (open-in label request.size)

    -- on each node that is listed the request may be placed
    pub listed-stand : AllByRecursion Stands (places app request (passes c s app request) (ground c s request.label) (guest_grounds c s request.what))
    unfolding places guest_grounds
    listed-stand = Each-append Stands _ _ (own (passes c s app request) refl) (guests app.runs refl)
      where
        own : (b : Bool) → passes c s app request ≡ b → AllByRecursion Stands (cond b (open_spots request.size (ground c s request.label)) [])
        own true e = stand-in request.label (λ node at. inl (at, e))
        own false e = tt

        guests : (b : Bool) → app.runs ≡ b → AllByRecursion Stands (cond b (flat_map (open_spots request.size) (filter has_nodes (map (ground c s) (guest_labels c request.what)))) [])
        guests true e = Each-flat (λ (there : Ground). AllByRecursion Stands (open_spots request.size there)) Stands (open_spots request.size) (λ there k. k) (filter has_nodes (map (ground c s) (guest_labels c request.what)))
            (Each-filter (λ (there : Ground). AllByRecursion Stands (open_spots request.size there)) has_nodes (map (ground c s) (guest_labels c request.what))
            (Each-map (λ label. comes_as_guest c label request.what ≡ true) (λ (there : Ground). AllByRecursion Stands (open_spots request.size there)) (ground c s)
            (λ label comes. stand-in label (λ node at. inr (e, ap (λ l. comes_as_guest c l request.what) at ∙ comes))) (guest_labels c request.what)
            (filter-passes (λ label. comes_as_guest c label request.what) (partition_labels c.labels))))
        guests false e = tt

-- the partition of a row is among those of the rows
row-label : (rows : List Partition) (p : Label) → has_row rows p ≡ true → IsAmong p (map (λ (row : Partition). row.label) rows)
row-label [] p h = absurd (true≢false (sym h))
row-label (row ∷ rows) p h = go (same_label row.label p) refl h (row-label rows p)
  where
    go : (b : Bool) → same_label row.label p ≡ b → option_map_or (λ (row : Partition). true) (cond b (Some row) (find (is_partition p) rows)) false ≡ true → (has_row rows p ≡ true → IsAmong p (map (λ (row : Partition). row.label) rows)) →
        (row.label ≡ p) ⊎ IsAmong p (map (λ (row : Partition). row.label) rows)
    go true e h rest = inl (same-label_path row.label p e)
    go false e h rest = inr (rest h)

module _ (c : Config) (s : State) (working : IsWorking c s) (formed : IsWellFormed c s) where
  -- the partition of a node is a configured one
  configured : (node : Node) → IsAmong node s.nodes → IsAmong node.label (partition_labels c.labels)
  configured node there = subst (IsAmong node.label) formed.partitions (row-label s.partitions node.label (among-each _ node s.nodes working.ordered.stamps there).0)

  guests-listed : (node : Node) (request : Request) → IsAmong node s.nodes → comes_as_guest c node.label request.what ≡ true → IsAmong (ground c s node.label) (guest_grounds c s request.what)
  unfolding guest_grounds
  guests-listed node request there comes = among-filter has_nodes (ground c s node.label) (map (ground c s) (guest_labels c request.what)) (nodes-there c s node there)
      (among-map (ground c s) node.label (guest_labels c request.what) (among-filter (λ label. comes_as_guest c label request.what) node.label (partition_labels c.labels) comes (configured node there)))

  -- each node on which it may be placed is listed
  pub stand-listed : (app : Applicant) (request : Request) (node : Node) → MayStand c s app request node →
      IsAmong (spot s node) (places app request (passes c s app request) (ground c s request.label) (guest_grounds c s request.what))
  unfolding places
  stand-listed app request node h = go h.how
    where
      here : IsAmong (spot s node) (open_spots request.size (ground c s node.label))
      here = spot-open c s node request.size h.there h.fresh h.room

      go : Comes c s app request node →
          IsAmong (spot s node) (cond (passes c s app request) (open_spots request.size (ground c s request.label)) [] ++ cond app.runs (flat_map (open_spots request.size) (guest_grounds c s request.what)) [])
      go (inl k) = among-left (spot s node) _ _ (subst (λ b. IsAmong (spot s node) (cond b (open_spots request.size (ground c s request.label)) [])) (sym k.1) (subst (λ l. IsAmong (spot s node) (open_spots request.size (ground c s l))) k.0 here))
      go (inr k) = among-right (spot s node) _ _ (subst (λ b. IsAmong (spot s node) (cond b (flat_map (open_spots request.size) (guest_grounds c s request.what)) [])) (sym k.0)
          (among-flat (open_spots request.size) (spot s node) (ground c s node.label) (guest_grounds c s request.what) (guests-listed node request h.there k.1) here))

-- ---- something is proposed

first-there : (key_of : Item → Key) (items : List Item) (item : Item) → IsAmong item items → is_some (first_of key_of items) ≡ true
first-there key_of items item there = go (first_of key_of items) (is_first_found key_of items)
  where
    go : (o : Option Item) → IsFirst (is_later key_of) (Contains items) o → is_some o ≡ true
    go None h = absurd (h item (among-contained item items there))
    go (Some first) h = refl

or-first : (a b : Option Item) → is_some a ≡ true → is_some (option_or a b) ≡ true
or-first None b h = absurd (true≢false (sym h))
or-first (Some item) b h = refl

or-next : (a b : Option Item) → is_some b ≡ true → is_some (option_or a b) ≡ true
or-next None b h = h
or-next (Some item) b h = refl

module _ (c : Config) (s : State) (app : Application) (live : IsAmong app (all_apps s.leaves)) (wanted : AllByRecursion (λ (ask : AskRow). nat_lt 0 ask.count ≡ true) app.asks) (request : Request) (source : Source s app request) (node : Node) where
  abbrev asked : Item
  asked = item (applicant s app) request

  eligible-here : node.label ≡ request.label → has_room s node request.size ≡ true → passes c s (applicant s app) request ≡ true → IsAmong asked (eligible c s node)
  unfolding is_eligible passes
  eligible-here at room passed =
      let three = and_parts _ (within_master_share c s request.label app.leaf request.what request.size) passed in
      let two = and_parts _ (within_user_limit c s request.label asked) three.0 in
      let one = and_parts (is_ready (applicant s app) request.what) (within_maximum s request.label asked) two.0 in
      among-filter (is_eligible c s node) asked (items_for s node.label)
      (and_from _ _ (and_from _ _ (and_from _ _ room (ap (λ l. within_maximum s l asked) at ∙ one.1)) (ap (λ l. within_user_limit c s l asked) at ∙ two.1))
      (ap (λ l. within_master_share c s l app.leaf request.what request.size) at ∙ three.1))
      (subst (λ l. IsAmong asked (items_for s l)) (sym at) (request-there s app live wanted request source one.0))

  guests-here : takes_guests c node.label ≡ true → some_eligible c s node ≡ false → has_room s node request.size ≡ true → IsAmong asked (asks_for s Unlabelled) → IsAmong asked (guests_for c s node)
  unfolding guests_for
  guests-here takes none room there =
      subst (λ b. IsAmong asked (cond b (filter (λ other. has_room s node other.size) (asks_for s Unlabelled)) [])) (sym (and_from _ _ takes (ap not none)))
      (among-filter (λ other. has_room s node other.size) asked (asks_for s Unlabelled) room there)

  choice-there : MayStand c s (applicant s app) request node → is_some (choice c s node) ≡ true
  unfolding choice
  choice-there h = go h.how
    where
      go : Comes c s (applicant s app) request node →
          is_some (option_or (first_of (key c s node.label) (eligible c s node)) (first_of (key c s Unlabelled) (guests_for c s node))) ≡ true
      go (inl k) = or-first _ (first_of (key c s Unlabelled) (guests_for c s node)) (first-there (key c s node.label) (eligible c s node) asked (eligible-here k.0 h.room k.1))
      go (inr k) = by (some_eligible c s node) refl
        where
          by : (b : Bool) → some_eligible c s node ≡ b → is_some (option_or (first_of (key c s node.label) (eligible c s node)) (first_of (key c s Unlabelled) (guests_for c s node))) ≡ true
          by true e = let other = any-among (is_eligible c s node) (items_for s node.label) e in
              or-first _ (first_of (key c s Unlabelled) (guests_for c s node)) (first-there (key c s node.label) (eligible c s node) other.0 other.1)
          by false e = or-next (first_of (key c s node.label) (eligible c s node)) _ (first-there (key c s Unlabelled) (guests_for c s node) asked
              (guests-here (guests-taken c node.label request.what k.1) e h.room (guest-there s app live wanted c node.label request source k.0 k.1)))

  -- where it may be placed something is proposed
  pub proposed-there : MayStand c s (applicant s app) request node → is_some (proposed c s node) ≡ true
  unfolding proposed
  proposed-there h = is_some-map (proposal_of node) (choice c s node) ∙ choice-there h
