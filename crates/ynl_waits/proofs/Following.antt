-- What the very next event does with each request that is explained.
use Rattle.std.proofs.Common.{◌≡◌, ◌⊎◌, inl, inr, ◌<◌, Bool, true, false, ◌&&◌, List, [], ◌∷◌, ◌++◌, length, map, filter, find, is_some, Option, Some, None, option_map, refl, sym, ap, subst, ◌∙◌}
use Rattle.std.specs.Prelude.{IfSome, nat_lt}
use Rattle.std.specs.List.{AllByRecursion, list_any}
use Rattle.std.specs.Option.{option_map_or, option_and_then}
use Rattle.std.proofs.lemmas.Bool.{and_parts}
use mathlib.Core.Bool.{true≢false}
use Rattle.ynl_resource.specs.Names.{same_name, tenant_of}
use Rattle.ynl_resource.specs.declared.names.Name.{Name}
use Rattle.ynl_resource.specs.declared.refusals.Refusal.TheVariants.{NoSuchApplication}
use Rattle.ynl_model.specs.declared.nodes.Node.{Node}
use Rattle.ynl_model.specs.declared.proposals.Proposal.{Proposal}
use Rattle.ynl_model.specs.declared.events.Event.TheVariants.{Heartbeat, Commit}
use Rattle.ynl_model.specs.Queues.{Config}
use Rattle.ynl_model.specs.declared.applications.AskRow.{AskRow}
use Rattle.ynl_model.specs.Applications.{Application, LeafApps, all_apps, row_of, find_app}
use Rattle.ynl_model.specs.Cluster.{State, node_of}
use Rattle.ynl_model.specs.Service.{Item, choice}
use Rattle.ynl_model.specs.Changes.{container_of}
use Rattle.ynl_model.specs.Check.{proposal_of, proposed}
use Rattle.ynl_model.specs.Events.{step}
use Rattle.ynl_laws.specs.Found.{FindsItself}
use Rattle.ynl_laws.specs.Tabled.{Tabled}
use Rattle.ynl_laws.specs.Untied.{Distinct, AllDistinct}
use Rattle.ynl_laws.specs.Working.{IsWorking}
use Rattle.ynl_laws.proofs.Events.Found.{IsFound, finds-apps, finds-found}
use Rattle.ynl_laws.proofs.Lists.{all-of, Each-both, Each-filter, Each-find, Each-flat, Each-map, Each-weaker, filter-passes, found-passes}
use Rattle.ynl_laws.proofs.Logic.{some-same}
use Rattle.ynl_laws.proofs.Names.{same-name_sym}
use Rattle.ynl_laws.proofs.Totals.Tabling.{finds-all}
use Rattle.ynl_waits.specs.Grounds.{Spot, Ground, spot, ground, guest_grounds, first_by_name}
use Rattle.ynl_waits.specs.Laws.{is_placed_first, is_committed, is_next, is_turn, IsNextPlaced, AreNextPlaced, IsNotPlaced, IsNotCommitted, IsTold, OfEach, IsWellFormed}
use Rattle.ynl_waits.specs.Waits.{Applicant, Request, Reason, Wait, applicant, passes, places, same_what, is_for, is_chosen_on, turn_told, held_back, or_else, next_told, told_by, reasons, requests, wait, explained_of}
use Rattle.ynl_waits.specs.declared.waits.Explained.TheVariants as explained
use Rattle.ynl_waits.specs.declared.waits.Reason.TheVariants.{Next}
use Rattle.ynl_waits.proofs.Among.{IsAmong, among-each, among-filter, among-flat, among-found, any-right, contained-among}
use Rattle.ynl_waits.proofs.Listed.{told-next, next-told, turn-told, others}
use Rattle.ynl_waits.proofs.Placing.{MayStand, listed-stand, stand-listed, proposed-there}
use Rattle.ynl_waits.proofs.Requests.{Source, requests-are}
use Rattle.ynl_waits.proofs.Served.{node-found, heartbeat-free, chosen-first, IsServed, heartbeat-is, IsCommit, commit-is}
use Rattle.ynl_waits.proofs.Taken.{IsLive, IsTaken, taken-stands, chosen-taken, committed-taken}
use Rattle.ynl_waits.proofs.Told.{is-told}

-- what is known of a state
pub record IsKnown (c : Config) (s : State) : Type 0 where
  pub working : IsWorking c s
  pub tabled : Tabled s
  pub formed : IsWellFormed c s
  pub distinct : AllDistinct s.leaves

live-all : (s : State) → Tabled s → AllDistinct s.leaves → AllByRecursion (IsLive s) (all_apps s.leaves)
live-all s tabled distinct = Each-both (FindsItself s) Distinct (all_apps s.leaves) (finds-apps s (finds-all s tabled)) (Each-flat (λ (row : LeafApps). AllByRecursion Distinct row.apps) Distinct (λ row. row.apps) (λ row k. k) s.leaves distinct)

-- ---- one request

module _ (c : Config) (s : State) (known : IsKnown c s) (app : Application) (found : FindsItself s app) (live : IsAmong app (all_apps s.leaves)) (request : Request) (source : Source s app request) where
  abbrev asker : Applicant
  asker = applicant s app

  abbrev tenant : Name
  tenant = tenant_of app.leaf

  abbrev own : Ground
  own = ground c s request.label

  abbrev guests : List Ground
  guests = guest_grounds c s request.what

  abbrev listed : List Spot
  listed = places asker request (passes c s asker request) own guests

  abbrev chosen : List Spot
  chosen = filter (is_chosen_on c s asker request) listed

  abbrev rest : List Reason
  rest = held_back c s asker request own guests ++ turn_told c s listed

  each-live : AllByRecursion (IsLive s) (all_apps s.leaves)
  each-live = live-all s known.tabled known.distinct

  asks-differ : Distinct app
  asks-differ = (among-each (IsLive s) app (all_apps s.leaves) each-live live).1

  asks-wanted : AllByRecursion (λ (ask : AskRow). nat_lt 0 ask.count ≡ true) app.asks
  asks-wanted = among-each (λ (app : Application). AllByRecursion (λ (ask : AskRow). nat_lt 0 ask.count ≡ true) app.asks) app (all_apps s.leaves)
      (Each-flat (λ (row : LeafApps). AllByRecursion (λ (app : Application). AllByRecursion (λ (ask : AskRow). nat_lt 0 ask.count ≡ true) app.asks) row.apps) (λ (app : Application). AllByRecursion (λ (ask : AskRow). nat_lt 0 ask.count ≡ true) app.asks) (λ row. row.apps) (λ row k. k) s.leaves known.formed.wanted) live

  -- ---- next

  -- a node on which it is listed as chosen
  record IsChosenOn (there : Spot) : Type 0 where
    stands : MayStand c s asker request there.node
    on : is_chosen_on c s asker request there ≡ true

  chosen-are : AllByRecursion IsChosenOn chosen
  chosen-are = Each-weaker (λ (there : Spot). MayStand c s asker request there.node × (is_chosen_on c s asker request there ≡ true)) IsChosenOn (λ there k. record { stands = k.0; on = k.1 }) chosen
      (Each-both (λ (there : Spot). MayStand c s asker request there.node) (λ there. is_chosen_on c s asker request there ≡ true) chosen
      (Each-filter (λ (there : Spot). MayStand c s asker request there.node) (is_chosen_on c s asker request) listed (listed-stand c s asker request)) (filter-passes (is_chosen_on c s asker request) listed))

  -- a heartbeat of such a node places it first
  next-placed : (there : Spot) → IsChosenOn there → IsNextPlaced c s tenant app.name (wait c s asker request) there.node.name
  unfolding is_chosen_on proposed container_of
  next-placed there k = record {
    free = heartbeat-free c s tenant app.name request there.node at k.stands.fresh;
    first = λ some. go some (choice c s there.node) refl k.on;
  }
    where
      at : node_of s there.node.name ≡ Some there.node
      at = node-found s known.working.apart there.node k.stands.there

      go : 0 < c.containers_per_heartbeat → (o : Option Item) → choice c s there.node ≡ o → option_map_or (is_for asker request) (option_map (proposal_of there.node) o) false ≡ true →
          is_placed_first tenant app.name request (step c s (Heartbeat there.node.name)).reply ≡ true
      go some None e h = absurd (true≢false (sym h))
      go some (Some item) e h = chosen-first c s tenant app.name request there.node at k.stands.fresh item some e h

  pub law-next : AreNextPlaced c s tenant app.name (wait c s asker request)
  unfolding reasons told_by
  law-next node nodes there =
      let k = told-next chosen rest (others c s asker request own guests listed) node nodes (contained-among (Next node nodes) (or_else (next_told chosen) rest) there) in
      subst (IsNextPlaced c s tenant app.name (wait c s asker request)) k.2 (next-placed k.0 (among-each IsChosenOn k.0 chosen chosen-are k.1))

  -- ---- not next

  -- the application of what is placed is this one, where its tenant and name are
  same-app : (t n : Name) (other : Application) → find_app s.leaves t n ≡ Some other → (same_name t tenant && same_name n app.name) ≡ true → other ≡ app
  same-app t n other e h =
      let parts = and_parts (same_name t tenant) (same_name n app.name) h in
      some-same other app (find_app s.leaves tenant app.name) ((λ i. find_app s.leaves (sym (same-name_sym t tenant parts.0) i) (sym (same-name_sym n app.name parts.1) i)) ∙ e) found

  -- where it may be placed it is listed
  stands-listed : (node : Node) → MayStand c s asker request node → IsAmong (spot s node) listed
  stands-listed node h = stand-listed c s known.working known.formed asker request node h

  -- what a heartbeat places first stands on a node that is listed, and is chosen there
  served-stands : (name : Name) (k : IsServed c s tenant app.name request name) → MayStand c s asker request k.node
  unfolding container_of
  served-stands name k =
      let item = k.item in
      let names = and_parts (same_name (tenant_of item.leaf) tenant && same_name item.app app.name) (same_what item.what request.what) k.of in
      let taken = chosen-taken c s each-live k.node item k.chosen (among-found (λ (node : Node). same_name node.name name) k.node s.nodes k.there) k.fresh in
      taken-stands c s app request k.node item.what item.size
      (subst (λ other. IsTaken c s k.node other item.what item.size) (same-app (tenant_of item.leaf) item.app taken.0 taken.1 names.0) taken.2) asks-differ source names.1

  served-told : (name : Name) → IsServed c s tenant app.name request name → list_any is_next (reasons c s asker request) ≡ true
  unfolding reasons told_by is_chosen_on proposed container_of
  served-told name k = next-told chosen rest (spot s k.node)
      (among-filter (is_chosen_on c s asker request) (spot s k.node) listed (ap (λ o. option_map_or (is_for asker request) (option_map (proposal_of k.node) o) false) k.chosen ∙ k.of) (stands-listed k.node (served-stands name k)))

  pub law-placed : IsNotPlaced c s tenant app.name (wait c s asker request)
  law-placed none name = go (is_placed_first tenant app.name request (step c s (Heartbeat name)).reply) refl
    where
      go : (b : Bool) → is_placed_first tenant app.name request (step c s (Heartbeat name)).reply ≡ b → is_placed_first tenant app.name request (step c s (Heartbeat name)).reply ≡ false
      go false e = e
      go true e = absurd (true≢false (sym (served-told name (heartbeat-is c s tenant app.name request name e)) ∙ none))

  -- ---- neither next nor behind another

  committed-stands : (proposal : Proposal) (k : IsCommit c s tenant app.name request proposal) → MayStand c s asker request k.node
  unfolding container_of
  committed-stands proposal k =
      let other = k.found in
      let names = and_parts (same_name (tenant_of other.leaf) tenant && same_name other.name app.name) (same_what proposal.what request.what) k.of in
      taken-stands c s app request k.node proposal.what proposal.size
      (subst (λ other. IsTaken c s k.node other proposal.what proposal.size)
      (same-app (tenant_of other.leaf) other.name other (finds-found s (finds-all s known.tabled) proposal.tenant proposal.app other k.live) names.0)
      (committed-taken c s proposal k.node other k.free k.there k.live)) asks-differ source names.1

  -- where a node is listed the request is next, or another is ahead
  listed-told : (there : Spot) → IsAmong there listed → (list_any is_next (reasons c s asker request) ≡ true) ⊎ (list_any is_turn (reasons c s asker request) ≡ true)
  unfolding reasons told_by
  listed-told there k = go (first_by_name chosen)
    where
      turn : list_any is_turn rest ≡ true
      turn = any-right is_turn (held_back c s asker request own guests) (turn_told c s listed) (turn-told is_turn (λ turn. refl) c s listed there k
          (Each-weaker (λ (spot : Spot). MayStand c s asker request spot.node) (λ (spot : Spot). is_some (proposed c s spot.node) ≡ true)
          (λ spot h. proposed-there c s app live asks-wanted request source spot.node h) listed (listed-stand c s asker request)))

      go : (o : Option Spot) → (list_any is_next (or_else (option_map_or (λ (first : Spot). Next first.node.name (length chosen) ∷ []) o []) rest) ≡ true)
          ⊎ (list_any is_turn (or_else (option_map_or (λ (first : Spot). Next first.node.name (length chosen) ∷ []) o []) rest) ≡ true)
      go None = inr turn
      go (Some first) = inl refl

  pub law-committed : IsNotCommitted c s tenant app.name (wait c s asker request)
  law-committed no-next no-turn proposal = go (is_committed tenant app.name request (step c s (Commit proposal)).reply) refl
    where
      refuted : (list_any is_next (reasons c s asker request) ≡ true) ⊎ (list_any is_turn (reasons c s asker request) ≡ true) → ⊥
      refuted (inl e) = true≢false (sym e ∙ no-next)
      refuted (inr e) = true≢false (sym e ∙ no-turn)

      go : (b : Bool) → is_committed tenant app.name request (step c s (Commit proposal)).reply ≡ b → is_committed tenant app.name request (step c s (Commit proposal)).reply ≡ false
      go false e = e
      go true e =
          let k = commit-is c s tenant app.name request proposal e in
          absurd (refuted (listed-told (spot s k.node) (stands-listed k.node (committed-stands proposal k))))

  pub law-told : IsTold c s (wait c s asker request)
  law-told = is-told c s app request source live asks-wanted

-- ---- each request that is explained

-- a live application that is found is among all, under the tenant and the name by which it is found
record IsFoundBy (s : State) (tenant name : Name) (app : Application) : Type 0 where
  live : IsAmong app (all_apps s.leaves)
  owner : tenant_of app.leaf ≡ tenant
  named : app.name ≡ name

found-by : (s : State) → Tabled s → (tenant name : Name) (app : Application) → find_app s.leaves tenant name ≡ Some app → IsFoundBy s tenant name app
unfolding find_app
found-by s tabled tenant name app e = go (row_of s.leaves tenant name) refl (found-passes (λ (row : LeafApps). same_name (tenant_of row.leaf) tenant && list_any (same_name name) row.names) s.leaves) e
  where
    go : (o : Option LeafApps) → row_of s.leaves tenant name ≡ o → IfSome o (λ row. (same_name (tenant_of row.leaf) tenant && list_any (same_name name) row.names) ≡ true) →
        option_and_then (λ (row : LeafApps). find (λ (app : Application). same_name app.name name) row.apps) o ≡ Some app → IsFoundBy s tenant name app
    go None f h e = absurd (cc)
    go (Some row) f h e =
        let there : IsAmong row s.leaves = among-found _ row s.leaves f in
        let own = Each-find (IsFound s.leaves row) (λ (app : Application). same_name app.name name) row.apps (among-each (λ row. AllByRecursion (IsFound s.leaves row) row.apps) row s.leaves (finds-all s tabled) there) app e in
        record {
          live = among-flat (λ (row : LeafApps). row.apps) app row s.leaves there (among-found (λ (app : Application). same_name app.name name) app row.apps e);
          owner = ap tenant_of own.0.at ∙ same-name_sym (tenant_of row.leaf) tenant (and_parts (same_name (tenant_of row.leaf) tenant) _ h).0;
          named = same-name_sym app.name name own.1;
        }

module _ (c : Config) (s : State) (known : IsKnown c s) (law : Name → Name → Wait → Type 0) where
  pub of-each : ((app : Application) → FindsItself s app → IsAmong app (all_apps s.leaves) → (request : Request) → Source s app request → law (tenant_of app.leaf) app.name (wait c s (applicant s app) request)) →
      (tenant name : Name) → OfEach (law tenant name) (explained_of c s tenant name)
  unfolding explained_of
  of-each holds tenant name = go (find_app s.leaves tenant name) refl
    where
      by : (app : Application) → find_app s.leaves tenant name ≡ Some app → (request : Request) → Source s app request → law tenant name (wait c s (applicant s app) request)
      by app e request source =
          let k = found-by s known.tabled tenant name app e in
          subst (λ n. law tenant n (wait c s (applicant s app) request)) k.named (subst (λ t. law t app.name (wait c s (applicant s app) request)) k.owner
          (holds app (finds-found s (finds-all s known.tabled) tenant name app e) k.live request source))

      go : (o : Option Application) → find_app s.leaves tenant name ≡ o →
          OfEach (law tenant name) (option_map_or (λ app. explained.Waits (map (wait c s (applicant s app)) (requests c s app))) o (explained.Refused NoSuchApplication))
      go None e = tt
      go (Some app) e = all-of (law tenant name) _ (Each-map (Source s app) (law tenant name) (wait c s (applicant s app)) (λ request source. by app e request source) (requests c s app) (requests-are c s app))

module _ (c : Config) (s : State) (known : IsKnown c s) (tenant name : Name) where
  pub each-next-placed : OfEach (AreNextPlaced c s tenant name) (explained_of c s tenant name)
  each-next-placed = of-each c s known (AreNextPlaced c s) (λ app found live request source. law-next c s known app found live request source) tenant name

  pub each-not-placed : OfEach (IsNotPlaced c s tenant name) (explained_of c s tenant name)
  each-not-placed = of-each c s known (IsNotPlaced c s) (λ app found live request source. law-placed c s known app found live request source) tenant name

  pub each-not-committed : OfEach (IsNotCommitted c s tenant name) (explained_of c s tenant name)
  each-not-committed = of-each c s known (IsNotCommitted c s) (λ app found live request source. law-committed c s known app found live request source) tenant name

  pub each-told : OfEach (IsTold c s) (explained_of c s tenant name)
  each-told = of-each c s known (λ tenant name. IsTold c s) (λ app found live request source. law-told c s known app found live request source) tenant name
