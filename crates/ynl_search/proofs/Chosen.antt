-- The first of what is eligible on a node, or else the first of the guests, is the choice, and may be placed.
use Rattle.std.proofs.Common.{◌≡◌, ℕ, Bool, true, false, not, ◌&&◌, cond, nat_eq, List, [], filter, Contains, slice_get, is_some, Option, None, Some, option_map, inl, inr, ◌⊎◌, refl, sym, ap, subst, ◌∙◌, arith, true≢false}
use Rattle.std.specs.Prelude.{IfSome, slice_index_or}
use Rattle.std.specs.List.{list_any}
use Rattle.std.specs.Map.{lookup}
use Rattle.std.specs.Option.{option_map_or, option_or}
use Rattle.std.proofs.lemmas.Bool.{and_from, and_parts}
use Rattle.std.proofs.lemmas.Bool.Decides.{nat_tests}
use Rattle.std.proofs.lemmas.Option.{slice_get-get_or, same_Some}
use Rattle.ynl_resource.specs.Amounts.{fits_in}
use Rattle.ynl_resource.specs.Names.{root}
use Rattle.ynl_resource.specs.declared.labels.Label.TheVariants.{Unlabelled}
use Rattle.ynl_model.specs.declared.nodes.Node.{Node}
use Rattle.ynl_model.specs.Cluster.{State, free}
use Rattle.ynl_model.specs.Service.{Item, asks_for, choice, eligible, guests_for, has_room, is_eligible, items_for, key, some_eligible, takes_guests}
use Rattle.ynl_laws.specs.Descent.{IsBelow}
use Rattle.ynl_laws.specs.First.{AreUntied, IsFirst, is_later}
use Rattle.ynl_laws.proofs.Service.First.{is_first_chosen_untied}
use Rattle.ynl_laws.proofs.Totals.Untied.{are-tabled-untied}
use Rattle.ynl_tables.specs.declared.containers.container.Role.{Role}
use Rattle.ynl_tables.specs.declared.containers.container.Role.TheVariants.{Master, Ask as Asked}
use Rattle.ynl_tables.specs.apps.Asks.{find_ask}
use Rattle.ynl_inventory.specs.Rows.{Rows, AppRow, NodeRow, PartitionRow}
use Rattle.ynl_inventory.specs.Apps.{runs_at}
use Rattle.ynl_inventory.specs.Changes.{partition_of_node}
use Rattle.ynl_inventory.specs.Meaning.{has_none_below, item_of, node_of}
use Rattle.ynl_inventory.specs.Parts.{free_of}
use Rattle.ynl_inventory.specs.Sound.{CanTake, HasPartition, IsAskedThere, IsFor, IsSound}
use Rattle.ynl_inventory.proofs.Finding.{not-true, own-label}
use Rattle.ynl_inventory.proofs.Lookups.{place-there}
use Rattle.ynl_cluster.proofs.requests.Members.{Among, among-contained, among-filter, any-among, contained-among, filter-among}
use Rattle.ynl_cluster.proofs.requests.Tables.{distinct, tabled}
use Rattle.ynl_cluster.specs.Cluster.{ClusterView, maxima_in, state_in, stops_in}
use Rattle.ynl_search.specs.declared.found.Found.{Found}
use Rattle.ynl_search.specs.Choosing.{MayBePlaced}
use Rattle.ynl_search.specs.Laws.{asks_role, is_asked, is_wanted, item_asked, item_found, item_if, item_wanted, no_item, wants_role}
use Rattle.ynl_search.specs.Scenes.{IsFirstGuest, IsFirstOwn, guest_scene}
use Rattle.ynl_search.proofs.Below.{HaveLeaves, StandsIn, among-any, guests-stand, own-stand}
use Rattle.ynl_search.proofs.FreeMeans.{free-means}
use Rattle.ynl_search.proofs.Splits.{eligible-parts}

-- ---- firsts

-- the first of those with one property is the first of those with another, if the same have both
first-as : {X : Type 0} (later : X → X → Bool) (P Q : X → Type 0) (o : Option X) → ((x : X) → P x → Q x) → ((x : X) → Q x → P x) → IsFirst later P o → IsFirst later Q o
first-as later P Q None to from first = λ x q. first x (from x q)
first-as later P Q (Some x) to from first = (to x first.0, λ y q. first.1 y (from y q))

-- all requests stand below root
below-root : (later : Item → Item → Bool) (items : List Item) (o : Option Item) → IsFirst later (IsBelow items root) o → IsFirst later (Contains items) o
below-root later items o first = first-as later (IsBelow items root) (Contains items) o (λ item h. h.among) (λ item there. record { among = there; within = refl }) first

-- ---- what was found is there

module _ (v : Rows) (test : Found → Bool) (items : List Item) (stand : HaveLeaves v items) (found : Found) (there : Contains items (item_if test v found)) where
  passes : test found ≡ true
  passes = go (test found) refl there
    where
      nowhere : StandsIn v no_item → ⊥
      nowhere at = true≢false (sym (ap (has_none_below v.paths) at.path ∙ at.is.none_below))

      go : (b : Bool) → test found ≡ b → Contains items (cond b (item_found v found) no_item) → test found ≡ true
      go true q h = q
      go false q h = absurd (nowhere (stand no_item h))

  itself : item_if test v found ≡ item_found v found
  itself = ap (λ b. cond b (item_found v found) no_item) passes

-- an application is there where something is known of it
record IsLiveFor (v : Rows) (test : AppRow → Bool) (n : ℕ) : Type 0 where
  row : AppRow
  found : lookup (nat_eq n) v.apps ≡ Some row
  passes : test row ≡ true

live-for : (v : Rows) (test : AppRow → Bool) (n : ℕ) → option_map_or test (lookup (nat_eq n) v.apps) false ≡ true → IsLiveFor v test n
live-for v test n h = go (lookup (nat_eq n) v.apps) refl h
  where
    go : (o : Option AppRow) → lookup (nat_eq n) v.apps ≡ o → option_map_or test o false ≡ true → IsLiveFor v test n
    go None is h = absurd (true≢false (sym h))
    go (Some row) is h = record { row = row; found = is; passes = h }

size-is : (v : Rows) (found : Found) (row : AppRow) → lookup (nat_eq found.app) v.apps ≡ Some row → (item_found v found).size ≡ found.size
size-is v found row is = ap (λ o. (option_map_or (λ (row : AppRow). item_of v row found.role found.size) o no_item).size) is

not-false : (b : Bool) → not b ≡ true → b ≡ false
not-false true h = absurd (true≢false (sym h))
not-false false h = refl

wanted-taken : (v : Rows) (n p q : ℕ) (guests : Bool) (row : AppRow) (role : Role) → q ≡ p → wants_role v p n row role ≡ true → CanTake v n q guests row role
wanted-taken v n p q guests row Master same h =
    let parts = and_parts (not (runs_at v n row)) (nat_eq row.home p) h in
    let home : row.home ≡ p = grind (arith, nat_tests, parts.1) in
    (home ∙ sym same, not-false (runs_at v n row) parts.0)
wanted-taken v n p q guests row (Asked asked priority) same h =
    let parts = and_parts (nat_eq asked p) (is_some (find_ask asked priority row.asks)) h in
    let own : asked ≡ p = grind (arith, nat_tests, parts.0) in
    (parts.1, inl (own ∙ sym same))

asked-taken : (v : Rows) (n q : ℕ) (guests : Bool) (row : AppRow) (role : Role) → guests ≡ true → asks_role 0 row role ≡ true → CanTake v n q guests row role
asked-taken v n q guests row Master takes h = absurd (true≢false (sym h))
asked-taken v n q guests row (Asked asked priority) takes h =
    let parts = and_parts (nat_eq asked 0) (is_some (find_ask asked priority row.asks)) h in
    let own : asked ≡ 0 = grind (arith, nat_tests, parts.0) in
    (parts.1, inr (own, takes))

-- ---- a node

module _ (w : ClusterView) (sound : IsSound w.rows) (n : ℕ) (row : NodeRow) (at : lookup (nat_eq n) w.rows.nodes ≡ Some row) where
  abbrev pub node : Node
  node = node_of w.rows.partitions row

  abbrev p : ℕ
  p = row.partition

  abbrev s : State
  s = state_in w

  abbrev fit : Item → Bool
  fit item = has_room s node item.size

  has : HasPartition w.rows p
  has = sound.nodes n row at

  free-is : free s node ≡ free_of w.rows n
  free-is = free-means w.rows sound n row at (stops_in w) (maxima_in w)

  here : partition_of_node w.rows.nodes n ≡ p
  here = ap (λ o. option_map_or (λ (r : NodeRow). r.partition) o 0) at

  -- ---- whether anything is eligible

  none-eligible : ((item : Item) → Contains (eligible w.config s node) item → ⊥) → some_eligible w.config s node ≡ false
  none-eligible none = not-true (list_any (is_eligible w.config s node) (items_for s node.label)) (λ some. go (any-among (is_eligible w.config s node) (items_for s node.label) some))
    where
      go : (item : Item) × Among item (items_for s node.label) × (is_eligible w.config s node item ≡ true) → ⊥
      go x = none x.0 (contained-among x.0 (eligible w.config s node) (filter-among (is_eligible w.config s node) x.0 (items_for s node.label) x.2 x.1))

  one-eligible : (item : Item) → Contains (eligible w.config s node) item → some_eligible w.config s node ≡ true
  one-eligible item there =
      let one = among-filter (is_eligible w.config s node) item (items_for s node.label) (among-contained item (eligible w.config s node) there) in
      among-any (is_eligible w.config s node) item (items_for s node.label) one.0 one.1

  -- it is where something was found
  pub eligible-found : (own : Option Found) → IsFirstOwn w p node 0 own → is_some own ≡ some_eligible w.config s node
  eligible-found None first = sym (none-eligible (λ item there. first item (record { among = there; within = refl })))
  eligible-found (Some found) first = sym (one-eligible (item_wanted w.rows p found) first.0.among)

  -- ---- the choice

  untied : AreUntied w.config s
  untied = are-tabled-untied w.config s (tabled w.rows sound (stops_in w) (maxima_in w)) (distinct w.rows sound (stops_in w) (maxima_in w))

  own-first : (own : Option Found) → IsFirstOwn w p node 0 own → IsFirst (is_later (key w.config s node.label)) (Contains (eligible w.config s node)) (option_map (item_wanted w.rows p) own)
  own-first own first = below-root (is_later (key w.config s node.label)) (eligible w.config s node) (option_map (item_wanted w.rows p) own) first

  chosen : (own guest : Option Item) → IsFirst (is_later (key w.config s node.label)) (Contains (eligible w.config s node)) own
      → IsFirst (is_later (key w.config s Unlabelled)) (Contains (guests_for w.config s node)) guest → choice w.config s node ≡ option_or own guest
  chosen own guest first next = sym (is_first_chosen_untied w.config s node untied own guest first next)

  no-guests : takes_guests w.config node.label && not (some_eligible w.config s node) ≡ false → (item : Item) → Contains (guests_for w.config s node) item → ⊥
  unfolding guests_for
  no-guests none item there = omega (arith, (subst (λ b. Contains (cond b (filter fit (asks_for s Unlabelled)) []) item) none there).1)

  some-guests : takes_guests w.config node.label && not (some_eligible w.config s node) ≡ true → guests_for w.config s node ≡ filter fit (asks_for s Unlabelled)
  unfolding guests_for
  some-guests some = ap (λ b. cond b (filter fit (asks_for s Unlabelled)) []) some

  dropped : (b c : Bool) → c ≡ true → (b && not c) ≡ false
  dropped true true h = refl
  dropped true false h = absurd (true≢false (sym h))
  dropped false c h = refl

  -- what is first among the eligible is the choice
  pub own-chosen : (found : Found) → IsFirstOwn w p node 0 (Some found) → choice w.config s node ≡ Some (item_found w.rows found)
  own-chosen found first =
      chosen (Some (item_wanted w.rows p found)) None (own-first (Some found) first)
      (no-guests (dropped (takes_guests w.config node.label) (some_eligible w.config s node) (one-eligible (item_wanted w.rows p found) first.0.among)))
      ∙ ap (λ item. Some item) (itself w.rows (is_wanted w.rows p) (eligible w.config s node) (own-stand w sound p has node refl) found first.0.among)

  -- where none is, and the partition takes no guests, there is none
  pub none-chosen : IsFirstOwn w p node 0 None → takes_guests w.config node.label ≡ false → choice w.config s node ≡ None
  none-chosen first closed = chosen None None (own-first None first) (no-guests (ap (λ b. b && not (some_eligible w.config s node)) closed))

  -- and where it takes guests the first of them is
  pub guest-chosen : IsFirstOwn w p node 0 None → takes_guests w.config node.label ≡ true → (guest : Option Found) → IsFirstGuest w node 0 guest
      → choice w.config s node ≡ option_map (item_found w.rows) guest
  guest-chosen first open_to guest next =
      chosen None (option_map (item_asked w.rows 0) guest) (own-first None first)
      (subst (λ items. IsFirst (is_later (key w.config s Unlabelled)) (Contains items) (option_map (item_asked w.rows 0) guest)) (sym (some-guests both))
      (below-root (is_later (key w.config s Unlabelled)) (filter fit (asks_for s Unlabelled)) (option_map (item_asked w.rows 0) guest) next))
      ∙ real guest next
    where
      both : takes_guests w.config node.label && not (some_eligible w.config s node) ≡ true
      both = and_from (takes_guests w.config node.label) (not (some_eligible w.config s node)) open_to (ap not (sym (eligible-found None first)))

      real : (guest : Option Found) → IsFirstGuest w node 0 guest → option_map (item_asked w.rows 0) guest ≡ option_map (item_found w.rows) guest
      real None next = refl
      real (Some found) next = ap (λ item. Some item) (itself w.rows (is_asked w.rows 0) (guest_scene w node).items (guests-stand w sound node) found next.0.among)

  -- ---- what is chosen may be placed

  module _ (found : Found) (arow : AppRow) (live : lookup (nat_eq found.app) w.rows.apps ≡ Some arow) where
    -- the partition of what is asked for is there
    asked-there : (role : Role) → ((partition : PartitionRow) → slice_get w.rows.partitions p ≡ Some partition → CanTake w.rows found.app p partition.guests arow role) → IsAskedThere w.rows role
    asked-there Master takes = tt
    asked-there (Asked q priority) takes =
        let part = place-there w.rows.partitions p has in
        by part.0.guests (takes part.0 part.1).1
      where
        by : (guests : Bool) → (q ≡ p) ⊎ ((q ≡ 0) × (guests ≡ true)) → HasPartition w.rows q
        by guests (inl same) = subst (HasPartition w.rows) (sym same) has
        by guests (inr both) = subst (HasPartition w.rows) (sym both.0) sound.some

    placed : fits_in (item_found w.rows found).size (free s node) ≡ true
        → ((partition : PartitionRow) → slice_get w.rows.partitions p ≡ Some partition → CanTake w.rows found.app p partition.guests arow found.role)
        → MayBePlaced w n found
    placed fits takes = record {
      named = record { live = subst (λ (o : Option AppRow). is_some o ≡ true) (sym live) refl; asked = asked-there found.role takes };
      fits = (λ i. fits_in (sym (size-is w.rows found arow live) i) (sym free-is i)) ∙ fits;
      placeable = λ partition there rises.
          let own : slice_get w.rows.partitions p ≡ Some partition = ap (slice_get w.rows.partitions) (sym here) ∙ there in
          record {
            node_row = row;
            node_found = at;
            partition = partition;
            partition_found = own;
            rises = rises;
            app_row = arow;
            app_found = live;
            role = takes partition own;
          };
    }

  pub own-placed : (found : Found) → IsFirstOwn w p node 0 (Some found) → MayBePlaced w n found
  own-placed found first =
      let stand = own-stand w sound p has node refl in
      let test = is_wanted w.rows p in
      let passing : is_wanted w.rows p found ≡ true = passes w.rows (is_wanted w.rows p) (eligible w.config s node) stand found first.0.among in
      let app : IsLiveFor w.rows (λ r. wants_role w.rows p found.app r found.role) found.app = live-for w.rows (λ r. wants_role w.rows p found.app r found.role) found.app passing in
      let one = among-filter (is_eligible w.config s node) (item_wanted w.rows p found) (items_for s node.label) (among-contained (item_wanted w.rows p found) (eligible w.config s node) first.0.among) in
      let parts = eligible-parts w.config s node root (item_wanted w.rows p found) refl one.1 in
      let fits = and_parts (fits_in (item_wanted w.rows p found).size (free s node)) _ parts.0 in
      placed found app.row app.found
      (ap (λ (item : Item). fits_in item.size (free s node)) (sym (itself w.rows (is_wanted w.rows p) (eligible w.config s node) stand found first.0.among)) ∙ fits.0)
      (λ partition there. wanted-taken w.rows found.app p p partition.guests app.row found.role refl app.passes)

  pub guest-placed : (found : Found) → ((partition : PartitionRow) → slice_get w.rows.partitions p ≡ Some partition → partition.guests ≡ true) → IsFirstGuest w node 0 (Some found) → MayBePlaced w n found
  guest-placed found takes first =
      let stand = guests-stand w sound node in
      let items = (guest_scene w node).items in
      let passing : is_asked w.rows 0 found ≡ true = passes w.rows (is_asked w.rows 0) (guest_scene w node).items stand found first.0.among in
      let app : IsLiveFor w.rows (λ r. asks_role 0 r found.role) found.app = live-for w.rows (λ r. asks_role 0 r found.role) found.app passing in
      let one = among-filter fit (item_asked w.rows 0 found) (asks_for s Unlabelled) (among-contained (item_asked w.rows 0 found) (guest_scene w node).items first.0.among) in
      placed found app.row app.found
      (ap (λ (item : Item). fits_in item.size (free s node)) (sym (itself w.rows (is_asked w.rows 0) (guest_scene w node).items stand found first.0.among)) ∙ one.1)
      (λ partition there. asked-taken w.rows found.app p partition.guests app.row found.role (takes partition there) app.passes)

  -- ---- whether the partition takes guests

  module _ (configured : IsFor w.config w.rows) (result : Bool) (read : IfSome (slice_get w.rows.partitions p) (λ partition. result ≡ partition.guests)) where
    read-at : (partition : PartitionRow) → slice_get w.rows.partitions p ≡ Some partition → result ≡ partition.guests
    read-at partition there = subst (λ o. IfSome o (λ partition. result ≡ partition.guests)) there read

    pub takes-there : result ≡ true → (partition : PartitionRow) → slice_get w.rows.partitions p ≡ Some partition → partition.guests ≡ true
    takes-there open_to partition there = sym (read-at partition there) ∙ open_to

    pub takes-is : result ≡ takes_guests w.config node.label
    takes-is =
        let part = place-there w.rows.partitions p has in
        let is : slice_index_or w.rows.partitions p part.0 ≡ part.0 = same_Some (slice_index_or w.rows.partitions p part.0) part.0 (sym (slice_get-get_or w.rows.partitions p part.0 has) ∙ part.1) in
        read-at part.0 part.1
        ∙ subst (λ (r : PartitionRow). r.guests ≡ takes_guests w.config r.label) is (configured.guests p part.0 has)
        ∙ ap (takes_guests w.config) (sym (own-label w.rows sound p part.0 part.1))

  -- ---- what a search for own requests, and then for guests, gives

  pub own-choice : (own : Option Found) → is_some own ≡ true → IsFirstOwn w p node 0 own → choice w.config s node ≡ option_map (item_found w.rows) own
  own-choice None some first = absurd (true≢false (sym some))
  own-choice (Some found) some first = own-chosen found first

  pub own-may : (own : Option Found) → IsFirstOwn w p node 0 own → IfSome own (MayBePlaced w n)
  own-may None first = tt
  own-may (Some found) first = own-placed found first

  none-own : (own : Option Found) → is_some own ≡ false → IsFirstOwn w p node 0 own → IsFirstOwn w p node 0 None
  none-own None none first = first
  none-own (Some found) none first = absurd (true≢false none)

  module _ (configured : IsFor w.config w.rows) (result : Bool) (read : IfSome (slice_get w.rows.partitions p) (λ partition. result ≡ partition.guests))
      (own : Option Found) (none : is_some own ≡ false) (first : IsFirstOwn w p node 0 own) where
    pub no-choice : result ≡ false → choice w.config s node ≡ None
    no-choice closed = none-chosen (none-own own none first) (sym (takes-is configured result read) ∙ closed)

    pub guest-choice : result ≡ true → (guest : Option Found) → IsFirstGuest w node 0 guest → choice w.config s node ≡ option_map (item_found w.rows) guest
    guest-choice takes guest next = guest-chosen (none-own own none first) (sym (takes-is configured result read) ∙ takes) guest next

    pub guest-may : result ≡ true → (guest : Option Found) → IsFirstGuest w node 0 guest → IfSome guest (MayBePlaced w n)
    guest-may takes None next = tt
    guest-may takes (Some found) next = guest-placed found (takes-there configured result read takes) next
