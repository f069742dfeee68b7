-- Something is told of each partition where a request may go, unless it is next.
use Rattle.std.proofs.Common.{◌≡◌, ◌⊎◌, inl, inr, Bool, true, false, cond, not, ◌&&◌, ◌||◌, List, [], ◌∷◌, ◌++◌, length, map, filter, is_some, Option, Some, None, refl, sym, ap, subst, ◌∙◌}
use Rattle.std.specs.Prelude.{flat_map, nat_lt}
use Rattle.std.specs.List.{AllByRecursion, list_any, list_all}
use Rattle.std.specs.Option.{option_map_or}
use Rattle.std.proofs.lemmas.Bool.{and_from, or_left, or_right}
use mathlib.Core.Bool.{true≢false}
use Rattle.ynl_resource.specs.Amounts.{fits_in}
use Rattle.ynl_resource.specs.Names.{root, way_to}
use Rattle.ynl_resource.specs.declared.labels.Label.{Label}
use Rattle.ynl_model.specs.Nodes.{partition_labels}
use Rattle.ynl_model.specs.Queues.{Config}
use Rattle.ynl_model.specs.Applications.{Application, all_apps}
use Rattle.ynl_model.specs.declared.applications.AskRow.{AskRow}
use Rattle.ynl_model.specs.declared.proposals.What.{What}
use Rattle.ynl_model.specs.declared.proposals.What.TheVariants.{Master, Ask as Asked}
use Rattle.ynl_model.specs.Cluster.{State, runs, is_master_what}
use Rattle.ynl_model.specs.Service.{within_maximum, within_user_limit, within_master_share}
use Rattle.ynl_model.specs.Check.{comes_as_guest, proposed}
use Rattle.ynl_model.specs.Events.{pending}
use Rattle.ynl_laws.proofs.Lists.{all-each, Each-both, Each-filter, Each-map, Each-weaker, filter-passes}
use Rattle.ynl_laws.proofs.Names.{same-label_self}
use Rattle.ynl_waits.specs.Grounds.{Spot, Ground, ground, has_nodes, guest_labels, guest_grounds, open_spots, fits_any, first_by_name}
use Rattle.ynl_waits.specs.Laws.{is_next, is_reason_on, IsTold}
use Rattle.ynl_waits.specs.Waits.{Applicant, Request, Reason, applicant, ask_request, item, is_ready, passes, places, is_chosen_on, application_told, nodes_told, clock_told, keeps_maximum, maximum_of_told, maximum_told, user_limit_told, master_share_told, limits_told, room_told, turn_told, held_back, or_else, told_by, reasons, wait}
use Rattle.ynl_waits.specs.declared.waits.Reason.TheVariants.{Next}
use Rattle.ynl_waits.proofs.Among.{IsAmong, any-among, any-flat, any-left, any-right, among-each, among-flat, among-left, among-right, each-among}
use Rattle.ynl_waits.proofs.Listed.{turn-told}
use Rattle.ynl_waits.proofs.Placing.{MayStand, listed-stand, proposed-there}
use Rattle.ynl_waits.proofs.Requests.{Source, of_master, of_ask}

-- ---- where a reason stands among all that keep a request back

module _ (p : Reason → Bool) (a n k l r : List Reason) where
  in-application : list_any p a ≡ true → list_any p (a ++ n ++ k ++ l ++ r) ≡ true
  in-application h = any-left p (a ++ n ++ k ++ l) r (any-left p (a ++ n ++ k) l (any-left p (a ++ n) k (any-left p a n h)))

  in-nodes : list_any p n ≡ true → list_any p (a ++ n ++ k ++ l ++ r) ≡ true
  in-nodes h = any-left p (a ++ n ++ k ++ l) r (any-left p (a ++ n ++ k) l (any-left p (a ++ n) k (any-right p a n h)))

  in-clocks : list_any p k ≡ true → list_any p (a ++ n ++ k ++ l ++ r) ≡ true
  in-clocks h = any-left p (a ++ n ++ k ++ l) r (any-left p (a ++ n ++ k) l (any-right p (a ++ n) k h))

  in-limits : list_any p l ≡ true → list_any p (a ++ n ++ k ++ l ++ r) ≡ true
  in-limits h = any-left p (a ++ n ++ k ++ l) r (any-right p (a ++ n ++ k) l h)

  in-rooms : list_any p r ≡ true → list_any p (a ++ n ++ k ++ l ++ r) ≡ true
  in-rooms h = any-right p (a ++ n ++ k ++ l) r h

-- a reason that is told where a test fails, and one that is told where it holds
told-unless : (p : Reason → Bool) (test : Bool) (reason : Reason) → test ≡ false → p reason ≡ true → list_any p (cond test [] (reason ∷ [])) ≡ true
told-unless p true reason e h = absurd (true≢false e)
told-unless p false reason e h = or_left (p reason) false h

told-if : (p : Reason → Bool) (test : Bool) (reason : Reason) → test ≡ true → p reason ≡ true → list_any p (cond test (reason ∷ []) []) ≡ true
told-if p true reason e h = or_left (p reason) false h
told-if p false reason e h = absurd (true≢false (sym e))

-- where not all pass a test, one is told that does not
all-or-told : {X : Type 0} (p : Reason → Bool) (test : X → Bool) (told : X → List Reason) → ((x : X) → test x ≡ false → list_any p (told x) ≡ true) → (xs : List X) → list_all test xs ≡ false → list_any p (flat_map told xs) ≡ true
all-or-told p test told tells [] h = absurd (true≢false h)
all-or-told {X = X} p test told tells (x ∷ xs) h = go (test x) refl h (all-or-told p test told tells xs)
  where
    go : (b : Bool) → test x ≡ b → (b && list_all test xs) ≡ false → (list_all test xs ≡ false → list_any p (flat_map told xs) ≡ true) → list_any p (told x ++ flat_map told xs) ≡ true
    go true e h rest = any-right p (told x) (flat_map told xs) (rest h)
    go false e h rest = any-left p (told x) (flat_map told xs) (tells x e)

-- ---- one partition

module _ (c : Config) (s : State) (app : Application) (request : Request) (source : Source s app request) where
  abbrev asker : Applicant
  asker = applicant s app

  abbrev own : Ground
  own = ground c s request.label

  abbrev guests : List Ground
  guests = guest_grounds c s request.what

  abbrev listed : List Spot
  listed = places asker request (passes c s asker request) own guests

  abbrev held : List Reason
  held = held_back c s asker request own guests

  -- a reason on a partition is told, or a node is listed
  abbrev IsKept : Label → Type 0
  IsKept label = (list_any (is_reason_on request label) held ≡ true) ⊎ ((there : Spot) × IsAmong there listed)

  by-application : (label : Label) → list_any (is_reason_on request label) (application_told asker request) ≡ true → IsKept label
  unfolding held_back
  by-application label h = inl (in-application (is_reason_on request label) (application_told asker request) (nodes_told own) (flat_map clock_told (own ∷ guests)) (limits_told c s asker request own) (flat_map (room_told request.size) (own ∷ guests)) h)

  by-nodes : (label : Label) → list_any (is_reason_on request label) (nodes_told own) ≡ true → IsKept label
  unfolding held_back
  by-nodes label h = inl (in-nodes (is_reason_on request label) (application_told asker request) (nodes_told own) (flat_map clock_told (own ∷ guests)) (limits_told c s asker request own) (flat_map (room_told request.size) (own ∷ guests)) h)

  by-clock : (label : Label) (there : Ground) → IsAmong there (own ∷ guests) → list_any (is_reason_on request label) (clock_told there) ≡ true → IsKept label
  unfolding held_back
  by-clock label there k h = inl (in-clocks (is_reason_on request label) (application_told asker request) (nodes_told own) (flat_map clock_told (own ∷ guests)) (limits_told c s asker request own) (flat_map (room_told request.size) (own ∷ guests))
      (any-flat (is_reason_on request label) clock_told there (own ∷ guests) k h))

  by-limits : (label : Label) → list_any (is_reason_on request label) (limits_told c s asker request own) ≡ true → IsKept label
  unfolding held_back
  by-limits label h = inl (in-limits (is_reason_on request label) (application_told asker request) (nodes_told own) (flat_map clock_told (own ∷ guests)) (limits_told c s asker request own) (flat_map (room_told request.size) (own ∷ guests)) h)

  by-room : (label : Label) (there : Ground) → IsAmong there (own ∷ guests) → list_any (is_reason_on request label) (room_told request.size there) ≡ true → IsKept label
  unfolding held_back
  by-room label there k h = inl (in-rooms (is_reason_on request label) (application_told asker request) (nodes_told own) (flat_map clock_told (own ∷ guests)) (limits_told c s asker request own) (flat_map (room_told request.size) (own ∷ guests))
      (any-flat (is_reason_on request label) (room_told request.size) there (own ∷ guests) k h))

  -- a partition with nodes: its clock is spent, or it has room on none, or one is open
  open-or-told : (there : Ground) → IsAmong there (own ∷ guests) → has_nodes there ≡ true → ((spot : Spot) → IsAmong spot (open_spots request.size there) → IsAmong spot listed) → IsKept there.label
  open-or-told there k nodes lists = go there.is_spent refl (fits_any request.size there.spots) refl
    where
      go : (a : Bool) → there.is_spent ≡ a → (b : Bool) → fits_any request.size there.spots ≡ b → IsKept there.label
      go true e b f = by-clock there.label there k (told-if (is_reason_on request there.label) there.is_spent _ e (same-label_self there.label))
      go false e false f = by-room there.label there k (told-unless (is_reason_on request there.label) (not (has_nodes there) || fits_any request.size there.spots) _ (λ i. not (nodes i) || f i) (same-label_self there.label))
      go false e true f =
          let found = any-among (λ (spot : Spot). fits_in request.size spot.free) there.spots f in
          inr (found.0, lists found.0 (subst (λ b. IsAmong found.0 (cond b [] (filter (λ (spot : Spot). fits_in request.size spot.free) there.spots))) (sym e) found.1))

  -- the application is ready for the request, or it is told that it is not
  ready-or-told : (label : Label) → (is_ready asker request.what ≡ true) ⊎ (list_any (is_reason_on request label) (application_told asker request) ≡ true)
  ready-or-told label = go source
    where
      by : (ask : AskRow) → request ≡ ask_request ask.label (pending ask) → (b : Bool) → runs s app ≡ b → (is_ready asker request.what ≡ true) ⊎ (list_any (is_reason_on request label) (application_told asker request) ≡ true)
      by ask e true f = inl (ap (λ (r : Request). is_ready asker r.what) e ∙ f)
      by ask e false f = inr (told-unless (is_reason_on request label) (runs s app || is_master_what request.what) _ (λ i. f i || is_master_what (e i).what) refl)

      go : Source s app request → (is_ready asker request.what ≡ true) ⊎ (list_any (is_reason_on request label) (application_told asker request) ≡ true)
      go (of_master waiting e) = inl (ap (λ (r : Request). is_ready asker r.what) e ∙ ap not waiting)
      go (of_ask ask here e) = by ask e (runs s app) refl

  -- ---- its own partition

  own-label : own.label ≡ request.label
  unfolding ground
  own-label = refl

  own-lists : passes c s asker request ≡ true → (spot : Spot) → IsAmong spot (open_spots request.size own) → IsAmong spot listed
  unfolding places
  own-lists passed spot k = among-left spot _ _ (subst (λ b. IsAmong spot (cond b (open_spots request.size own) [])) (sym passed) k)

  -- a reason on its own partition
  abbrev on-own : Reason → Bool
  on-own = is_reason_on request request.label

  -- the limits that are told only where a node is there
  abbrev within-nodes : Bool → List Reason
  within-nodes b = cond b (maximum_told s asker request ++ user_limit_told c s asker request) []

  over-maximum : has_nodes own ≡ true → within_maximum s request.label (item asker request) ≡ false → IsKept request.label
  unfolding limits_told maximum_told within_maximum
  over-maximum nodes e = by-limits request.label (any-left on-own (within-nodes (has_nodes own)) (master_share_told c s asker request)
      (subst (λ b. list_any on-own (within-nodes b) ≡ true) (sym nodes)
      (any-left on-own (maximum_told s asker request) (user_limit_told c s asker request) (all-or-told on-own (keeps_maximum s request) (maximum_of_told s asker request)
      (λ queue k. told-unless on-own (keeps_maximum s request queue) _ k (same-label_self request.label)) (root ∷ way_to app.leaf) e))))

  over-user : has_nodes own ≡ true → within_user_limit c s request.label (item asker request) ≡ false → IsKept request.label
  unfolding limits_told user_limit_told
  over-user nodes e = by-limits request.label (any-left on-own (within-nodes (has_nodes own)) (master_share_told c s asker request)
      (subst (λ b. list_any on-own (within-nodes b) ≡ true) (sym nodes)
      (any-right on-own (maximum_told s asker request) (user_limit_told c s asker request)
      (told-unless on-own (within_user_limit c s request.label (item asker request)) _ e (same-label_self request.label)))))

  over-share : within_master_share c s request.label app.leaf request.what request.size ≡ false → IsKept request.label
  unfolding limits_told master_share_told
  over-share e = by-limits request.label (any-right on-own (within-nodes (has_nodes own)) (master_share_told c s asker request)
      (told-unless on-own (within_master_share c s request.label app.leaf request.what request.size) _ e (same-label_self request.label)))

  passed-all : is_ready asker request.what ≡ true → within_maximum s request.label (item asker request) ≡ true → within_user_limit c s request.label (item asker request) ≡ true
      → within_master_share c s request.label app.leaf request.what request.size ≡ true → passes c s asker request ≡ true
  unfolding passes
  passed-all ready maximum user share = and_from _ _ (and_from _ _ (and_from _ _ ready maximum) user) share

  own-kept : IsKept request.label
  own-kept = go (ready-or-told request.label)
    where
      share : is_ready asker request.what ≡ true → has_nodes own ≡ true → within_maximum s request.label (item asker request) ≡ true → within_user_limit c s request.label (item asker request) ≡ true
          → (b : Bool) → within_master_share c s request.label app.leaf request.what request.size ≡ b → IsKept request.label
      share ready nodes maximum user false e = over-share e
      share ready nodes maximum user true e = subst IsKept own-label (open-or-told own (inl refl) nodes (own-lists (passed-all ready maximum user e)))

      user : is_ready asker request.what ≡ true → has_nodes own ≡ true → within_maximum s request.label (item asker request) ≡ true → (b : Bool) → within_user_limit c s request.label (item asker request) ≡ b → IsKept request.label
      user ready nodes maximum false e = over-user nodes e
      user ready nodes maximum true e = share ready nodes maximum e (within_master_share c s request.label app.leaf request.what request.size) refl

      maxima : is_ready asker request.what ≡ true → has_nodes own ≡ true → (b : Bool) → within_maximum s request.label (item asker request) ≡ b → IsKept request.label
      maxima ready nodes false e = over-maximum nodes e
      maxima ready nodes true e = user ready nodes e (within_user_limit c s request.label (item asker request)) refl

      by-node : is_ready asker request.what ≡ true → (b : Bool) → has_nodes own ≡ b → IsKept request.label
      by-node ready false e = by-nodes request.label (told-unless on-own (has_nodes own) _ e (same-label_self request.label))
      by-node ready true e = maxima ready e (within_maximum s request.label (item asker request)) refl

      go : (is_ready asker request.what ≡ true) ⊎ (list_any on-own (application_told asker request) ≡ true) → IsKept request.label
      go (inl ready) = by-node ready (has_nodes own) refl
      go (inr told) = by-application request.label told

  -- ---- those where it may be a guest

  -- a partition with nodes, where the request comes as a guest
  abbrev TakesIt : Ground → Type 0
  TakesIt there = (has_nodes there ≡ true) × ((label : Label) × (comes_as_guest c label request.what ≡ true))

  guests-take : AllByRecursion TakesIt guests
  unfolding guest_grounds
  guests-take = Each-both (λ (there : Ground). has_nodes there ≡ true) (λ (there : Ground). (label : Label) × (comes_as_guest c label request.what ≡ true)) (filter has_nodes (map (ground c s) (guest_labels c request.what)))
      (filter-passes has_nodes (map (ground c s) (guest_labels c request.what)))
      (Each-filter (λ (there : Ground). (label : Label) × (comes_as_guest c label request.what ≡ true)) has_nodes (map (ground c s) (guest_labels c request.what))
      (Each-map (λ label. comes_as_guest c label request.what ≡ true) (λ (there : Ground). (label : Label) × (comes_as_guest c label request.what ≡ true)) (ground c s) (λ label k. (label, k)) (guest_labels c request.what)
      (filter-passes (λ label. comes_as_guest c label request.what) (partition_labels c.labels))))

  guests-run : (what : What) (label : Label) → is_ready asker what ≡ true → comes_as_guest c label what ≡ true → runs s app ≡ true
  guests-run Master label ready comes = absurd (true≢false (sym comes))
  guests-run (Asked asked priority) label ready comes = ready

  guest-lists : runs s app ≡ true → (there : Ground) → IsAmong there guests → (spot : Spot) → IsAmong spot (open_spots request.size there) → IsAmong spot listed
  unfolding places
  guest-lists running there k spot m = among-right spot _ _ (subst (λ b. IsAmong spot (cond b (flat_map (open_spots request.size) guests) [])) (sym running) (among-flat (open_spots request.size) spot there guests k m))

  guest-kept : (there : Ground) → IsAmong there guests → IsKept there.label
  guest-kept there k = go (ready-or-told there.label)
    where
      go : (is_ready asker request.what ≡ true) ⊎ (list_any (is_reason_on request there.label) (application_told asker request) ≡ true) → IsKept there.label
      go (inl ready) =
          let takes : TakesIt there = among-each TakesIt there guests guests-take k in
          open-or-told there (inr k) takes.0 (guest-lists (guests-run request.what takes.1.0 ready takes.1.1) there k)
      go (inr told) = by-application there.label told

  -- ---- all of them

  abbrev all-told : List Reason
  all-told = held ++ turn_told c s listed

  pub is-told : IsAmong app (all_apps s.leaves) → AllByRecursion (λ (ask : AskRow). nat_lt 0 ask.count ≡ true) app.asks → IsTold c s (wait c s asker request)
  unfolding reasons told_by
  is-told live wanted = go (first_by_name chosen)
    where
      chosen : List Spot
      chosen = filter (is_chosen_on c s asker request) listed

      proposals : AllByRecursion (λ (spot : Spot). is_some (proposed c s spot.node) ≡ true) listed
      proposals = Each-weaker (λ (spot : Spot). MayStand c s asker request spot.node) (λ (spot : Spot). is_some (proposed c s spot.node) ≡ true)
          (λ spot h. proposed-there c s app live wanted request source spot.node h) listed (listed-stand c s asker request)

      told : (label : Label) → IsKept label → list_any (is_reason_on request label) all-told ≡ true
      told label (inl h) = any-left (is_reason_on request label) held (turn_told c s listed) h
      told label (inr k) = any-right (is_reason_on request label) held (turn_told c s listed) (turn-told (is_reason_on request label) (λ turn. refl) c s listed k.0 k.1 proposals)

      each : AllByRecursion (λ (there : Ground). list_any (is_reason_on request there.label) all-told ≡ true) (own ∷ guests)
      each = (
        told own.label (subst IsKept (sym own-label) own-kept),
        Each-weaker (λ (there : Ground). IsAmong there guests) (λ (there : Ground). list_any (is_reason_on request there.label) all-told ≡ true) (λ there k. told there.label (guest-kept there k)) guests (each-among guests),
      )

      go : (o : Option Spot) → (list_any is_next (or_else (option_map_or (λ (first : Spot). Next first.node.name (length chosen) ∷ []) o []) all-told)
          || list_all (λ (there : Ground). list_any (is_reason_on request there.label) (or_else (option_map_or (λ (first : Spot). Next first.node.name (length chosen) ∷ []) o []) all-told)) (own ∷ guests)) ≡ true
      go None = or_right (list_any is_next all-told) _ (all-each (λ (there : Ground). list_any (is_reason_on request there.label) all-told) (own ∷ guests) each)
      go (Some first) = refl
