-- What is tested of a new ask, and how it comes last.
use Rattle.std.proofs.Common.{◌≡◌, ◌<◌, ◌⊎◌, inl, inr, ℕ, Bool, true, false, not, cond, ◌&&◌, ◌||◌, ◌==◌, ◌++◌, nat_eq, nat_le, nat_lt, is_some, List, [], ◌∷◌, map, find, count_by, Option, None, Some, option_map, Bor, refl, sym, ap, subst, ◌∙◌, arith, true≢false}
use Rattle.std.specs.Prelude.{IfSome}
use Rattle.std.specs.List.{AllByRecursion}
use Rattle.std.specs.Map.{lookup}
use Rattle.std.specs.Option.{option_copied, option_map_or}
use Rattle.std.proofs.lemmas.Bool.{and_from, and_parts, eqb-true}
use Rattle.std.proofs.lemmas.Bool.Decides.{nat_tests}
use Rattle.std.proofs.lemmas.Option.{none-some}
use Rattle.ynl_resource.specs.Amounts.{fits_in}
use Rattle.ynl_resource.specs.Names.{is_default, same_label, same_name, same_path}
use Rattle.ynl_resource.specs.Ranges.{most_asks}
use Rattle.ynl_resource.specs.Refusals.{first_that_holds}
use Rattle.ynl_resource.specs.Tables.{put, without}
use Rattle.ynl_resource.specs.declared.labels.Label.{Label}
use Rattle.ynl_resource.specs.declared.labels.Label.TheVariants.{Named, Unlabelled}
use Rattle.ynl_resource.specs.declared.names.Name.{Name}
use Rattle.ynl_resource.specs.declared.refusals.Refusal.{Refusal}
use Rattle.ynl_resource.specs.declared.refusals.Refusal.TheVariants.{LabelMismatch, NoSuchApplication, NoSuchLabel, TooLarge, TooManyAsks}
use Rattle.ynl_model.specs.declared.applications.AskRow.{AskRow}
use Rattle.ynl_model.specs.declared.events.Event.TheVariants as event
use Rattle.ynl_model.specs.Applications.{Application, LeafApps, find_app, find_ask, in_leaf, is_ask_of, set_ask, with_app}
use Rattle.ynl_model.specs.Cluster.{State}
use Rattle.ynl_model.specs.Events.{is_foreign, is_one_too_many, reasons}
use Rattle.ynl_model.specs.Nodes.{has_label}
use Rattle.ynl_model.specs.Queues.{Config}
use Rattle.ynl_laws.proofs.Events.Chosen.{none-holds}
use Rattle.ynl_laws.proofs.Lists.{Each-weaker, none-found}
use Rattle.ynl_laws.proofs.Logic.{and-false, either-false, either-true, is_some-map, not-false}
use Rattle.ynl_laws.proofs.Names.{same-label_path, same-label_self}
use Rattle.ynl_tables.proofs.containers.Removing.{at_live}
use Rattle.ynl_tables.specs.declared.apps.asks.Ask.{Ask}
use Rattle.ynl_tables.specs.apps.Asks.{find_ask as find_row, is_ask_of as is_row_of}
use Rattle.ynl_inventory.specs.Rows.{AppRow}
use Rattle.ynl_inventory.specs.Meaning.{app_name, app_of, ask_of}
use Rattle.ynl_inventory.specs.Sound.{HasPartition, IsAskedOn, IsFor, IsSound}
use Rattle.ynl_inventory.proofs.Asking.{same-ask}
use Rattle.ynl_inventory.proofs.Finding.{not-true as unless}
use Rattle.ynl_cluster.specs.Cluster.{ClusterView, label_of, maxima_in, path_of, state_in, stops_in}
use Rattle.ynl_replies.proofs.admission.FirstReasons.{first-ask}
use Rattle.ynl_replies.proofs.admission.LabelsKnown.{label-known}
use Rattle.ynl_replies.proofs.Apps.{app-is}
use Rattle.ynl_saved.specs.declared.lines.StateLine.TheVariants.{Ask as AskLine}
use Rattle.ynl_saved.specs.Restoring.{asks_on, is_given, is_sound_line, may_ask, with_ask, Restored}
use Rattle.ynl_saved.proofs.Leaved.{found-name}
use Rattle.ynl_snapshots.proofs.restoring.Clocks.{alike}
use Rattle.ynl_snapshots.proofs.restoring.Owners.{own-apps}
use Rattle.ynl_snapshots.proofs.saving.Apps.{each-asked}

-- ---- what is tested

-- of an ask of no application
pub ask-of_none : (c : Config) (r : Restored) (s : State) → r.state ≡ s → (tenant name : Name) (ask : AskRow) → find_app s.leaves tenant name ≡ None → is_sound_line c r (AskLine tenant name ask) ≡ false
unfolding is_sound_line
ask-of_none c r s is tenant name ask none = ap (λ (s : State). option_map_or (may_ask c ask) (find_app s.leaves tenant name) false) is ∙ ap (λ o. option_map_or (may_ask c ask) o false) none

-- and of one
pub ask-sound : (c : Config) (r : Restored) (s : State) → r.state ≡ s → (tenant name : Name) (ask : AskRow) (app : Application) → find_app s.leaves tenant name ≡ Some app → is_sound_line c r (AskLine tenant name ask) ≡ may_ask c ask app
unfolding is_sound_line
ask-sound c r s is tenant name ask app found = ap (λ (s : State). option_map_or (may_ask c ask) (find_app s.leaves tenant name) false) is ∙ ap (λ o. option_map_or (may_ask c ask) o false) found

-- an ask for nothing is none
pub no-count : (c : Config) (ask : AskRow) (app : Application) → ask.count ≡ 0 → may_ask c ask app ≡ false
no-count c ask app zero-is =
    (λ i. asks_on app ask.label && nat_lt 0 (zero-is i) && is_given c ask.size && not (is_some (find_ask app ask.label ask.priority)) && nat_lt (count_by (λ other. same_label other.label ask.label) app.asks) most_asks)
    ∙ (λ i. and-false (asks_on app ask.label) i && is_given c ask.size && not (is_some (find_ask app ask.label ask.priority)) && nat_lt (count_by (λ other. same_label other.label ask.label) app.asks) most_asks)

-- nor is one that is there already
pub there-already : (c : Config) (ask : AskRow) (app : Application) → is_some (find_ask app ask.label ask.priority) ≡ true → may_ask c ask app ≡ false
there-already c ask app there =
    (λ i. asks_on app ask.label && nat_lt 0 ask.count && is_given c ask.size && not (there i) && nat_lt (count_by (λ other. same_label other.label ask.label) app.asks) most_asks)
    ∙ (λ i. and-false (asks_on app ask.label && nat_lt 0 ask.count && is_given c ask.size) i && nat_lt (count_by (λ other. same_label other.label ask.label) app.asks) most_asks)

counted : (n : ℕ) → 0 < n → nat_lt 0 n ≡ true
counted n h = grind (arith, nat_tests, h)

fewer : (n most : ℕ) → nat_le most n ≡ false → nat_lt n most ≡ true
fewer n most h = grind (arith, nat_tests, h)

not-as_many : (n most : ℕ) → nat_lt n most ≡ true → nat_le most n ≡ false
not-as_many n most h = grind (arith, nat_tests, h)

turned : (a b : Label) → same_label a b ≡ true → same_label b a ≡ true
turned a b same = ap (λ l. same_label l a) (sym (same-label_path a b same)) ∙ same-label_self a

or-else : (a b : Bool) → b ≡ true → (a || b) ≡ true
or-else true b h = refl
or-else false b h = h

module _ (c : Config) (s : State) (tenant name : Name) (ask : AskRow) (app : Application) (found : find_app s.leaves tenant name ≡ Some app) where
  -- what is tested of an ask, each with whether it holds
  abbrev tests : List (Refusal × Bool)
  tests = (NoSuchApplication, false) ∷ (NoSuchLabel, not (has_label c.labels ask.label)) ∷ (LabelMismatch, is_foreign ask.label app) ∷ (TooLarge, not (fits_in ask.size c.maximum_allocation)) ∷ (TooManyAsks, is_one_too_many ask.label ask.priority ask.count app) ∷ []

  first : first_that_holds (reasons c s (event.Ask tenant name ask.label ask.priority ask.count ask.size))
      ≡ first_that_holds tests
  first =
      first-ask c s tenant name ask.label ask.priority ask.count ask.size true (has_label c.labels ask.label) (is_foreign ask.label app) (not (fits_in ask.size c.maximum_allocation)) (is_one_too_many ask.label ask.priority ask.count app)
      (ap is_some found) refl (ap (λ o. option_map_or (is_foreign ask.label) o false) found) refl (ap (λ o. option_map_or (is_one_too_many ask.label ask.priority ask.count) o false) found)

  -- what is not refused, and is new, the application may ask for
  pub may-free : first_that_holds (reasons c s (event.Ask tenant name ask.label ask.priority ask.count ask.size)) ≡ None → 0 < ask.count → is_some (find_ask app ask.label ask.priority) ≡ false → may_ask c ask app ≡ true
  may-free free above new =
      and_from _ _ (and_from _ _ (and_from _ _ (and_from _ _ on (counted ask.count above)) (not-false _ none.1.1.1.0)) (ap not new))
      (fewer (count_by (λ other. same_label other.label ask.label) app.asks) most_asks ((λ i. sym (counted ask.count above) i && not (sym new i) && nat_le most_asks (count_by (λ other. same_label other.label ask.label) app.asks)) ∙ none.1.1.1.1.0))
    where
      none : AllByRecursion {X = Refusal × Bool} (λ reason. reason.1 ≡ false)
          tests
      none = none-holds tests (sym first ∙ free)

      on : asks_on app ask.label ≡ true
      on = go (either-false (is_default ask.label) (same_label app.home ask.label) none.1.1.0)
        where
          go : (is_default ask.label ≡ true) ⊎ (same_label app.home ask.label ≡ true) → asks_on app ask.label ≡ true
          go (inl d) = ap (λ b. b || same_label ask.label app.home) d
          go (inr h) = or-else (is_default ask.label) (same_label ask.label app.home) (turned app.home ask.label h)

  -- what is refused it may not
  pub may-not : has_label c.labels app.home ≡ true → (refusal : Refusal) → first_that_holds (reasons c s (event.Ask tenant name ask.label ask.priority ask.count ask.size)) ≡ Some refusal → may_ask c ask app ≡ false
  may-not home refusal is = unless (may_ask c ask app) (λ may. none-some refusal (sym (nothing may) ∙ sym first ∙ is))
    where
      nothing : may_ask c ask app ≡ true
          → first_that_holds tests
          ≡ None
      nothing may =
          let p4 = and_parts _ _ may in
          let p3 = and_parts _ _ p4.0 in
          let p2 = and_parts _ _ p3.0 in
          let p1 = and_parts _ _ p2.0 in
          let own = on (either-true (is_default ask.label) (same_label ask.label app.home) p1.0) in
          λ i. first_that_holds ((NoSuchApplication, false) ∷ (NoSuchLabel, not (own.0 i)) ∷ (LabelMismatch, own.1 i) ∷ (TooLarge, not (p2.1 i)) ∷ (TooManyAsks, many p4.1 i) ∷ [])
        where
          on : (is_default ask.label ≡ true) ⊎ (same_label ask.label app.home ≡ true) → (has_label c.labels ask.label ≡ true) × (is_foreign ask.label app ≡ false)
          on (inl d) = (by ask.label d, ap (λ b. not b && not (same_label app.home ask.label)) d)
            where
              by : (label : Label) → is_default label ≡ true → has_label c.labels label ≡ true
              by Unlabelled d = refl
              by (Named name) d = absurd (true≢false (sym d))
          on (inr h) = (ap (has_label c.labels) (same-label_path ask.label app.home h) ∙ home, ap (λ b. not (is_default ask.label) && not b) (turned ask.label app.home h) ∙ and-false (not (is_default ask.label)))

          many : nat_lt (count_by (λ other. same_label other.label ask.label) app.asks) most_asks ≡ true → is_one_too_many ask.label ask.priority ask.count app ≡ false
          many few =
              (λ i. nat_lt 0 ask.count && not (is_some (find_ask app ask.label ask.priority)) && not-as_many (count_by (λ other. same_label other.label ask.label) app.asks) most_asks few i)
              ∙ and-false (nat_lt 0 ask.count && not (is_some (find_ask app ask.label ask.priority)))

-- ---- the ask of a partition and a priority

module _ (w : ClusterView) (sound : IsSound w.rows) (n : ℕ) (row : AppRow) (found : lookup (nat_eq n) w.rows.apps ≡ Some row) where
  -- an application's home is configured
  pub home-known : IsFor w.config w.rows → has_label w.config.labels (app_of w.rows (n, row)).home ≡ true
  home-known is = label-known w.config w.rows is (label_of w row.home) row.home (sound.apps n row found).home refl

  -- what it asks for of a label and a priority is the ask of the partition and the priority
  pub ask-found : (p priority : ℕ) → HasPartition w.rows p → find_ask (app_of w.rows (n, row)) (label_of w p) priority ≡ option_map (ask_of w.rows.partitions) (find_row p priority row.asks)
  ask-found p priority there = go row.asks (each-asked w.rows sound n row found)
    where
      go : (asks : List Ask) → AllByRecursion (λ (ask : Ask). HasPartition w.rows ask.partition) asks
          → find (is_ask_of (label_of w p) priority) (map (ask_of w.rows.partitions) asks) ≡ option_map (ask_of w.rows.partitions) (find (is_row_of p priority) asks)
      go [] h = refl
      go (ask ∷ asks) h =
          ap (λ (b : Bool). cond b (Some (ask_of w.rows.partitions ask)) (find (is_ask_of (label_of w p) priority) (map (ask_of w.rows.partitions) asks))) (same-ask w.rows sound p priority there ask h.0)
          ∙ step (is_row_of p priority ask) (go asks h.1)
        where
          step : (b : Bool) → find (is_ask_of (label_of w p) priority) (map (ask_of w.rows.partitions) asks) ≡ option_map (ask_of w.rows.partitions) (find (is_row_of p priority) asks)
              → cond b (Some (ask_of w.rows.partitions ask)) (find (is_ask_of (label_of w p) priority) (map (ask_of w.rows.partitions) asks)) ≡ option_map (ask_of w.rows.partitions) (cond b (Some ask) (find (is_row_of p priority) asks))
          step true rest = refl
          step false rest = rest

  -- and whether there is one is read there
  pub ask-read : (p priority : ℕ) → HasPartition w.rows p → (o : Option (Bor Ask)) (asks : List Ask) → option_copied o ≡ find_row p priority asks → asks ≡ row.asks → is_some (find_ask (app_of w.rows (n, row)) (label_of w p) priority) ≡ is_some o
  ask-read p priority there o asks read are =
      ap is_some (ask-found p priority there) ∙ is_some-map (ask_of w.rows.partitions) (find_row p priority row.asks) ∙ ap is_some (ap (find_row p priority) (sym are) ∙ sym read) ∙ copied o
    where
      copied : (o : Option (Bor Ask)) → is_some (option_copied o) ≡ is_some o
      copied None = refl
      copied (Some ask) = refl

  -- the partition on which it may ask is there
  pub asked-partition : (p : ℕ) → IfSome (lookup (nat_eq n) w.rows.apps) (λ row. IsAskedOn row.home p) → HasPartition w.rows p
  asked-partition p asked = go (at_live (λ (row : AppRow). IsAskedOn row.home p) (lookup (nat_eq n) w.rows.apps) row asked found)
    where
      go : (p ≡ row.home) ⊎ (p ≡ 0) → HasPartition w.rows p
      go (inl e) = subst (HasPartition w.rows) (sym e) (sound.apps n row found).home
      go (inr e) = subst (HasPartition w.rows) (sym e) sound.some

  -- ---- an ask that is new comes last

  -- what is done to the application of a row is done to it alone
  pub app-alike : (f g : Application → Application) → f (app_of w.rows (n, row)) ≡ g (app_of w.rows (n, row))
      → in_leaf (path_of w row.leaf) (with_app (app_name w.rows.tenants row.tenant row.turn) f) (state_in w).leaves ≡ in_leaf (path_of w row.leaf) (with_app (app_name w.rows.tenants row.tenant row.turn) g) (state_in w).leaves
  app-alike f g same =
      alike (λ (other : LeafApps). same_path other.leaf (path_of w row.leaf)) (with_app (app_name w.rows.tenants row.tenant row.turn) f) (with_app (app_name w.rows.tenants row.tenant row.turn) g) (state_in w).leaves
      (Each-weaker (λ (other : LeafApps). same_path other.leaf (path_of w row.leaf) ≡ true → AllByRecursion (λ (app : Application). same_name app.name (app_name w.rows.tenants row.tenant row.turn) ≡ true → app ≡ app_of w.rows (n, row)) other.apps) _
      (λ other own here. λ i. record other { apps = each other.apps (own here) i }) (state_in w).leaves
      (own-apps w sound (path_of w row.leaf) (app_name w.rows.tenants row.tenant row.turn) (app_of w.rows (n, row)) (app-is w.rows sound (stops_in w) (maxima_in w) n row found)))
    where
      each : (apps : List Application) → AllByRecursion (λ (app : Application). same_name app.name (app_name w.rows.tenants row.tenant row.turn) ≡ true → app ≡ app_of w.rows (n, row)) apps
          → (with_app (app_name w.rows.tenants row.tenant row.turn) f (record { leaf = path_of w row.leaf; names = []; apps = apps })).apps ≡ (with_app (app_name w.rows.tenants row.tenant row.turn) g (record { leaf = path_of w row.leaf; names = []; apps = apps })).apps
      each apps own =
          alike (λ (app : Application). same_name app.name (app_name w.rows.tenants row.tenant row.turn)) f g apps
          (Each-weaker (λ (app : Application). same_name app.name (app_name w.rows.tenants row.tenant row.turn) ≡ true → app ≡ app_of w.rows (n, row)) _
          (λ app own here. ap f (own here) ∙ same ∙ sym (ap g (own here))) apps own)

  pub asked-told : (tenant name : Name) → find_app (state_in w).leaves tenant name ≡ Some (app_of w.rows (n, row)) → (ask : AskRow) → 0 < ask.count → find_ask (app_of w.rows (n, row)) ask.label ask.priority ≡ None
      → record (state_in w) { leaves = in_leaf (path_of w row.leaf) (with_app (app_name w.rows.tenants row.tenant row.turn) (set_ask ask)) (state_in w).leaves } ≡ with_ask tenant name ask (state_in w)
  asked-told tenant name its ask above new =
      (λ i. record (state_in w) { leaves = app-alike (set_ask ask) (λ app. record app { asks = app.asks ++ ask ∷ [] }) last i })
      ∙ (λ i. record (state_in w) { leaves = in_leaf (path_of w row.leaf) (with_app (found-name (state_in w).leaves tenant name (app_of w.rows (n, row)) its i) (λ app. record app { asks = app.asks ++ ask ∷ [] })) (state_in w).leaves })
      ∙ sym (ap (λ o. option_map_or (λ (found : Application). record (state_in w) { leaves = in_leaf found.leaf (with_app name (λ app. record app { asks = app.asks ++ ask ∷ [] })) (state_in w).leaves }) o (state_in w)) its)
    where
      put-last : (test : AskRow → Bool) (asks : List AskRow) → AllByRecursion (λ other. test other ≡ false) asks → put test ask asks ≡ asks ++ ask ∷ []
      put-last test [] h = refl
      put-last test (other ∷ asks) h = ap (λ b. cond b (ask ∷ asks) (other ∷ put test ask asks)) h.0 ∙ ap (λ rest. other ∷ rest) (put-last test asks h.1)

      some-count : (ask.count == 0) ≡ false
      some-count = positive ask.count above
        where
          positive : (k : ℕ) → 0 < k → (k == 0) ≡ false
          positive k h = unless (k == 0) (λ same. omega (arith, h, eqb-true k 0 same))

      last : set_ask ask (app_of w.rows (n, row)) ≡ record (app_of w.rows (n, row)) { asks = (app_of w.rows (n, row)).asks ++ ask ∷ [] }
      last = λ i. record (app_of w.rows (n, row)) {
        asks =
            (ap (λ b. cond b (without (is_ask_of ask.label ask.priority) (app_of w.rows (n, row)).asks) (put (is_ask_of ask.label ask.priority) ask (app_of w.rows (n, row)).asks)) some-count
            ∙ put-last (is_ask_of ask.label ask.priority) (app_of w.rows (n, row)).asks (none-found (is_ask_of ask.label ask.priority) (app_of w.rows (n, row)).asks new))
            i;
      }
