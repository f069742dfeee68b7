-- What applications ask for, give back and hold, as the tenant of a partition sees it.
use Rattle.std.proofs.Common.{◌≡◌, ℕ, Bool, true, false, cond, not, ◌&&◌, ◌==◌, List, [], ◌∷◌, ◌++◌, map, length, Option, Some, None, is_some, option_map, filter, find, refl, sym, ap, subst, ◌∙◌}
use Rattle.std.specs.Prelude.{nat_le, nat_lt, flat_map, count_by, if◌then◌else◌}
use Rattle.std.specs.List.{AllByRecursion}
use Rattle.std.specs.Option.{option_map_or}
use Rattle.std.proofs.lemmas.List.Sums.{length-filter}
use mathlib.Core.Bool.{true≢false}
use Rattle.ynl_resource.specs.declared.amounts.Resource.{Resource}
use Rattle.ynl_resource.specs.Amounts.{fits_in}
use Rattle.ynl_resource.specs.Names.{same_name, same_label, same_id, tenant_of}
use Rattle.ynl_resource.specs.Tables.{without, put}
use Rattle.ynl_resource.specs.declared.names.Name.{Name}
use Rattle.ynl_resource.specs.declared.labels.Label.{Label}
use Rattle.ynl_resource.specs.declared.ids.Id.{Id}
use Rattle.ynl_resource.specs.declared.refusals.Refusal.TheVariants.{NoSuchLabel, TooLarge, NoSuchApplication, LabelMismatch, TooManyAsks, NoSuchContainer, IsMaster}
use Rattle.ynl_resource.specs.Refusals.{first_that_holds}
use Rattle.ynl_model.specs.Nodes.{has_label}
use Rattle.ynl_model.specs.Queues.{Config}
use Rattle.ynl_model.specs.Applications.{Application, LeafApps, find_app, in_leaf, with_app, finished, is_ask_of, set_ask}
use Rattle.ynl_resource.specs.Ranges.{most_asks}
use Rattle.ynl_model.specs.declared.applications.AskRow.{AskRow}
use Rattle.ynl_model.specs.Cluster.{State, Partition, is_master, is_of, containers_on}
use Rattle.ynl_model.specs.declared.containers.Placed.{Placed as Container}
use Rattle.ynl_model.specs.Changes.{changed_at, end, all_own, all_end, app_finishes}
use Rattle.ynl_model.specs.Check.{app_that, has_app}
use Rattle.ynl_model.specs.declared.replies.Reply.TheVariants.{Held}
use Rattle.ynl_model.specs.Events.{container_for, is_foreign, is_one_too_many, pending, sorted, pending_on, held, accepted, reasons}
use Rattle.ynl_model.specs.declared.events.Event.TheVariants.{Ask, Release, Finish, Poll}
use Rattle.ynl_model.specs.View.{kept_if, seen_of, restrict}
use Rattle.ynl_laws.specs.Working.{places}
use Rattle.ynl_laws.proofs.Isolating.Own.{option-only, only, only_row}
use Rattle.ynl_laws.proofs.Isolating.Mirrored.{Mirrors, cleared, on-same, leaves-here, leaves-other, leaves-unseen, with-leaves, changed-here, changed-there}
use Rattle.ynl_laws.proofs.Isolating.Alone.{Alone}
use Rattle.ynl_laws.proofs.Isolating.Firm.{Firm, app-part, owned, in-rows, found-in, found-other}
use Rattle.ynl_laws.proofs.Isolating.Follows.{Follows, kept, unseen, there-part, there-same, there-unseen}
use Rattle.ynl_laws.proofs.Lists.{Each-filter, Each-flat, Each-kept, Each-weaker, Each-find, find-filter, filter-swap, filter-filter, filter-nothing, filter-all, map-map, filter-map, filter-put, filter-put_off}
use Rattle.ynl_laws.proofs.Names.{same-name_sym, same-name_self, same-label_path, same-label_self}
use Rattle.std.proofs.lemmas.Bool.{and_parts}
use Rattle.std.proofs.lemmas.List.Elements.{filter-append}

-- ---- asks

-- whether an ask is for the partition
abbrev pub asks_on : Label → AskRow → Bool
asks_on p ask = same_label ask.label p

-- an ask for the partition is set alike
set-here : (p : Label) (ask : AskRow) → ask.label ≡ p → (app : Application) → only p (set_ask ask app) ≡ set_ask ask (only p app)
set-here p ask here app = λ i. record app { asks = go (ask.count == 0) i }
  where
    agrees : (other : AskRow) → is_ask_of ask.label ask.priority other ≡ true → asks_on p other ≡ true
    agrees other e = ap (λ l. same_label l p) (same-label_path other.label ask.label (and_parts _ _ e).0 ∙ here) ∙ same-label_self p

    go : (b : Bool) → filter (asks_on p) (cond b (without (is_ask_of ask.label ask.priority) app.asks) (put (is_ask_of ask.label ask.priority) ask app.asks))
        ≡ cond b (without (is_ask_of ask.label ask.priority) (filter (asks_on p) app.asks)) (put (is_ask_of ask.label ask.priority) ask (filter (asks_on p) app.asks))
    go true = filter-swap (λ other. not (is_ask_of ask.label ask.priority other)) (asks_on p) app.asks
    go false = filter-put (asks_on p) (is_ask_of ask.label ask.priority) ask (ap (λ l. same_label l p) here ∙ same-label_self p) agrees app.asks

-- one for another is not seen
set-there : (p : Label) (ask : AskRow) → same_label ask.label p ≡ false → (app : Application) → only p (set_ask ask app) ≡ only p app
set-there p ask off app = λ i. record app { asks = go (ask.count == 0) i }
  where
    away : (other : AskRow) → is_ask_of ask.label ask.priority other ≡ true → asks_on p other ≡ false
    away other e = ap (λ l. same_label l p) (same-label_path other.label ask.label (and_parts _ _ e).0) ∙ off

    left : (other : AskRow) → asks_on p other ≡ true → (b : Bool) → is_ask_of ask.label ask.priority other ≡ b → not (is_ask_of ask.label ask.priority other) ≡ true
    left other on true e = absurd (true≢false (sym on ∙ away other e))
    left other on false e = ap not e

    go : (b : Bool) → filter (asks_on p) (cond b (without (is_ask_of ask.label ask.priority) app.asks) (put (is_ask_of ask.label ask.priority) ask app.asks)) ≡ filter (asks_on p) app.asks
    go true = filter-filter (λ other. not (is_ask_of ask.label ask.priority other)) (asks_on p) (λ other on. left other on (is_ask_of ask.label ask.priority other) refl) app.asks
    go false = filter-put_off (asks_on p) (is_ask_of ask.label ask.priority) ask off away app.asks

-- a change of an application that is seen as another is seen so in its row
pub with_app-here : (p : Label) (name : Name) (change own : Application → Application) → ((app : Application) → only p (change app) ≡ own (only p app)) → (row : LeafApps) → only_row p (with_app name change row) ≡ with_app name own (only_row p row)
with_app-here p name change own same row = λ i. record {
  leaf = row.leaf;
  names = row.names;
  apps = (map-map (only p) (λ app. if same_name app.name name then change app else app) row.apps ∙ (λ j. map (λ app. by app (same_name app.name name) j) row.apps)
      ∙ sym (map-map (λ app. if same_name app.name name then own app else app) (only p) row.apps)) i;
}
  where
    by : (app : Application) (b : Bool) → only p (cond b (change app) app) ≡ cond b (own (only p app)) (only p app)
    by app true = same app
    by app false = refl

pub with_app-unseen : (p : Label) (name : Name) (change : Application → Application) → ((app : Application) → only p (change app) ≡ only p app) → (row : LeafApps) → only_row p (with_app name change row) ≡ only_row p row
with_app-unseen p name change same row = λ i. record {
  leaf = row.leaf;
  names = row.names;
  apps = (map-map (only p) (λ app. if same_name app.name name then change app else app) row.apps ∙ (λ j. map (λ app. by app (same_name app.name name) j) row.apps)) i;
}
  where
    by : (app : Application) (b : Bool) → only p (cond b (change app) app) ≡ only p app
    by app true = same app
    by app false = refl

finished-here : (p : Label) (name : Name) (row : LeafApps) → only_row p (finished name row) ≡ finished name (only_row p row)
finished-here p name row = λ i. record { leaf = row.leaf; names = row.names; apps = sym (filter-map (only p) (λ app. not (same_name app.name name)) row.apps) i }

-- too many asks are counted for the partition alone
too-many-same : (p : Label) (priority count : ℕ) (app : Application) → is_one_too_many p priority count (only p app) ≡ is_one_too_many p priority count app
too-many-same p priority count app = λ i. nat_lt 0 count && not (is_some (find-filter (is_ask_of p priority) (asks_on p) (λ ask e. (and_parts _ _ e).0) app.asks i)) && nat_le most_asks (counted i)
  where
    counted : count_by (asks_on p) (filter (asks_on p) app.asks) ≡ count_by (asks_on p) app.asks
    counted = sym (length-filter (asks_on p) (filter (asks_on p) app.asks)) ∙ ap length (filter-filter (asks_on p) (asks_on p) (λ ask e. e) app.asks) ∙ length-filter (asks_on p) app.asks

-- ---- containers that end

-- whether a container is on the partition
abbrev stands_on : Label → Container → Bool
stands_on p container = same_label container.id.label p

module _ (c : Config) (t : Name) (p : Label) where
  pub ends-here : (s u : State) → Mirrors t p s u → (container : Container) → container.id.label ≡ p → Mirrors t p (end c s container) (end (restrict c t) u container)
  unfolding end
  ends-here s u m container here = subst
      (λ q. Mirrors t p (changed_at c container.node q (without (λ other. same_id other.id container.id)) s) (changed_at (restrict c t) container.node q (without (λ other. same_id other.id container.id)) u))
      (sym here) (changed-here c t p s u m container.node (without (λ other. same_id other.id container.id)))

  pub ends-there : (s u : State) → Mirrors t p s u → (container : Container) → same_label container.id.label p ≡ false → Mirrors t p (end c s container) u
  unfolding end
  ends-there s u m container off = changed-there c t p s u m container.node container.id.label (without (λ other. same_id other.id container.id)) off

  -- of a list of containers that end those on the partition end in the tenant's cluster
  all-end : (containers : List Container) (s u : State) → Mirrors t p s u → Mirrors t p (all_end c containers s) (all_end (restrict c t) (filter (stands_on p) containers) u)
  all-end [] s u m = m
  all-end (container ∷ containers) s u m = go (stands_on p container) refl (λ v k. all-end containers (end c s container) v k)
    where
      go : (b : Bool) → stands_on p container ≡ b → ((v : State) → Mirrors t p (end c s container) v → Mirrors t p (all_end c containers (end c s container)) (all_end (restrict c t) (filter (stands_on p) containers) v)) →
          Mirrors t p (all_end c containers (end c s container)) (all_end (restrict c t) (cond b (container ∷ filter (stands_on p) containers) (filter (stands_on p) containers)) u)
      go true e rest = rest (end (restrict c t) u container) (ends-here s u m container (same-label_path container.id.label p e))
      go false e rest = rest u (ends-there s u m container e)

  -- where none is on the partition nothing is seen
  all-end_unseen : (containers : List Container) → AllByRecursion (λ container. stands_on p container ≡ false) containers → (s u : State) → Mirrors t p s u → Mirrors t p (all_end c containers s) u
  all-end_unseen [] off s u m = m
  all-end_unseen (container ∷ containers) off s u m = all-end_unseen containers off.1 (end c s container) u (ends-there s u m container off.0)

-- of the containers of rows that have the rows' labels, those of one row
flat-cleared : (p : Label) (own : Container → Bool) (rows : List Partition) → AllByRecursion (λ row. AllByRecursion (λ container. container.id.label ≡ row.label) row.containers) rows →
    flat_map (λ row. filter own row.containers) (map (cleared p) rows) ≡ filter (stands_on p) (flat_map (λ row. filter own row.containers) rows)
flat-cleared p own [] h = refl
flat-cleared p own (row ∷ rows) h =
    (λ i. by (same_label row.label p) refl i ++ flat-cleared p own rows h.1 i) ∙ sym (filter-append (stands_on p) (filter own row.containers) (flat_map (λ row. filter own row.containers) rows))
  where
    by : (b : Bool) → same_label row.label p ≡ b → filter own (cond b row (record { label = row.label; clock = 0; containers = [] })).containers ≡ filter (stands_on p) (filter own row.containers)
    by true e = sym (filter-all (stands_on p) (filter own row.containers) (Each-filter _ own row.containers (Each-weaker _ _ (λ container same. ap (λ l. same_label l p) same ∙ e) row.containers h.0)))
    by false e = sym (filter-nothing (stands_on p) (filter own row.containers) (Each-filter _ own row.containers (Each-weaker _ _ (λ container same. ap (λ l. same_label l p) same ∙ e) row.containers h.0)))

-- ---- the events

module _ (c : Config) (t : Name) (p : Label) (a : Alone c t p) (s u : State) (firm : Firm c s) (m : Mirrors t p s u) where
  app-found : (name : Name) → find_app u.leaves t name ≡ option_map (only p) (find_app s.leaves t name)
  app-found = app-part c t p a s firm u m

  has-same : (name : Name) → has_app s t name ≡ has_app u t name
  has-same name = sym (ap is_some (app-found name) ∙ go (find_app s.leaves t name))
    where
      go : (o : Option Application) → is_some (option_map (only p) o) ≡ is_some o
      go None = refl
      go (Some app) = refl

  that-same : (name : Name) (test : Application → Bool) → ((app : Application) → test (only p app) ≡ test app) → app_that s t name test ≡ app_that u t name test
  that-same name test same = sym (ap (λ o. option_map_or test o false) (app-found name) ∙ option-only test p false same (find_app s.leaves t name))

  -- ---- asks are set

  ask-here : (name : Name) (priority count : ℕ) (size : Resource) → Follows c t p s u (Ask t name p priority count size) (Some (Ask t name p priority count size))
  unfolding reasons accepted
  ask-here name priority count size = kept c t p s u m (Ask t name p priority count size) (Ask t name p priority count size)
      (λ i. first_that_holds (
      (NoSuchApplication, not (has-same name i)) ∷ (NoSuchLabel, not (has_label c.labels p))
      ∷ (LabelMismatch, that-same name (is_foreign p) (λ app. refl) i) ∷ (TooLarge, not (fits_in size c.maximum_allocation))
      ∷ (TooManyAsks, that-same name (is_one_too_many p priority count) (too-many-same p priority count) i) ∷ []))
      (λ none. there-part c t p s u m (only p) (find_app s.leaves t name) (find_app u.leaves t name) _ _ (app-found name) (λ found e. (
        with-leaves c t p s u m _ _ (ap (in_leaf found.leaf (with_app name (set_ask ask))) m.leaves
            ∙ sym (leaves-here t p found.leaf (with_app name (set_ask ask)) (λ row. refl) s.leaves (with_app name (set_ask ask)) (with_app-here p name (set_ask ask) (set_ask ask) (set-here p ask refl)))),
        refl,
      )))
    where
      ask : AskRow
      ask = record { label = p; priority = priority; count = count; size = size }

  pub sees-ask : (tenant name : Name) (label : Label) (priority count : ℕ) (size : Resource) →
      Follows c t p s u (Ask tenant name label priority count size) (seen_of t p c (places s) (Ask tenant name label priority count size))
  unfolding seen_of reasons accepted
  sees-ask tenant name label priority count size = go (same_name tenant t) (same_label label p) refl refl
    where
      ask : AskRow
      ask = record { label = label; priority = priority; count = count; size = size }

      go : (b d : Bool) → same_name tenant t ≡ b → same_label label p ≡ d → Follows c t p s u (Ask tenant name label priority count size) (kept_if (b && d) (Ask tenant name label priority count size))
      go true true e f = subst (λ n. Follows c t p s u (Ask n name label priority count size) (Some (Ask n name label priority count size))) (sym (same-name_sym tenant t e))
          (subst (λ l. Follows c t p s u (Ask t name l priority count size) (Some (Ask t name l priority count size))) (sym (same-label_path label p f)) (ask-here name priority count size))
      go true false e off = unseen c t p s u m (Ask tenant name label priority count size) (λ none. there-unseen c t p s u m (find_app s.leaves tenant name) _ (λ found k.
          with-leaves c t p s u m _ _ (m.leaves ∙ sym (leaves-unseen t p found.leaf (with_app name (set_ask ask)) (λ row. refl) s.leaves (with_app-unseen p name (set_ask ask) (set-there p ask off))))))
      go false d off f = unseen c t p s u m (Ask tenant name label priority count size) (λ none. there-unseen c t p s u m (find_app s.leaves tenant name) _ (λ found k.
          with-leaves c t p s u m _ _ (m.leaves ∙ sym (leaves-other t p found.leaf (with_app name (set_ask ask)) (λ row. refl) s.leaves (found-other c t p a s firm tenant name found off k)))))

  -- ---- what an application holds

  held-same : (name : Name) → held s t name p ≡ held u t name p
  unfolding held
  held-same name = λ i. Held (filter (is_of t name) (on-same c t p s u m i))
      (sym (ap (λ o. option_map_or (pending_on p) o []) (app-found name) ∙ option-only (pending_on p) p [] (λ app. ap (λ asks. map pending (sorted asks)) (filter-filter (asks_on p) (asks_on p) (λ ask e. e) app.asks)) (find_app s.leaves t name)) i)

  pub sees-poll : (tenant name : Name) (label : Label) → Follows c t p s u (Poll tenant name label) (seen_of t p c (places s) (Poll tenant name label))
  unfolding seen_of reasons accepted
  sees-poll tenant name label = go (same_name tenant t) (same_label label p) refl refl
    where
      here : Follows c t p s u (Poll t name p) (Some (Poll t name p))
      here = kept c t p s u m (Poll t name p) (Poll t name p) (λ i. first_that_holds ((NoSuchApplication, not (has-same name i)) ∷ (NoSuchLabel, not (has_label c.labels p)) ∷ [])) (λ none. (m, held-same name))

      go : (b d : Bool) → same_name tenant t ≡ b → same_label label p ≡ d → Follows c t p s u (Poll tenant name label) (kept_if (b && d) (Poll tenant name label))
      go true true e f = subst (λ n. Follows c t p s u (Poll n name label) (Some (Poll n name label))) (sym (same-name_sym tenant t e)) (subst (λ l. Follows c t p s u (Poll t name l) (Some (Poll t name l))) (sym (same-label_path label p f)) here)
      go true false e off = unseen c t p s u m (Poll tenant name label) (λ none. m)
      go false d off f = unseen c t p s u m (Poll tenant name label) (λ none. m)

  -- ---- a container is given back

  -- a container that is found has the id's label, and is the named tenant's
  for-found : (tenant : Name) (id : Id) (container : Container) → container_for s tenant id ≡ Some container → (container.id.label ≡ id.label) × (container.tenant ≡ tenant)
  for-found tenant id container e =
      let k : Unit {0} × ((same_id container.id id && same_name container.tenant tenant) ≡ true) = Each-find (λ other. Unit {0}) (λ other. same_id other.id id && same_name other.tenant tenant) (containers_on s id.label) (units (containers_on s id.label)) container e in
      (same-label_path container.id.label id.label (and_parts _ _ (and_parts _ _ k.1).0).0, same-name_sym container.tenant tenant (and_parts (same_id container.id id) _ k.1).1)
    where
      units : (xs : List Container) → AllByRecursion (λ other. Unit {0}) xs
      units [] = tt
      units (x ∷ xs) = (tt, units xs)

  release-here : (id : Id) → id.label ≡ p → Follows c t p s u (Release t id) (Some (Release t id))
  unfolding reasons accepted
  release-here id here = kept c t p s u m (Release t id) (Release t id)
      (λ i. first_that_holds ((NoSuchContainer, not (is_some (same i))) ∷ (IsMaster, option_map_or is_master (same i) false) ∷ []))
      (λ none. there-same c t p s u m (container_for s t id) (container_for u t id) _ _ same (λ container e. (ends-here c t p s u m container ((for-found t id container e).0 ∙ here), refl)))
    where
      same : container_for s t id ≡ container_for u t id
      same = ap (find (λ container. same_id container.id id && same_name container.tenant t)) (ap (containers_on s) here ∙ on-same c t p s u m ∙ ap (containers_on u) (sym here))

  pub sees-release : (tenant : Name) (id : Id) → Follows c t p s u (Release tenant id) (seen_of t p c (places s) (Release tenant id))
  unfolding seen_of reasons accepted
  sees-release tenant id = go (same_name tenant t) (same_label id.label p) refl refl
    where
      elsewhere : same_label id.label p ≡ false → Follows c t p s u (Release tenant id) None
      elsewhere off = unseen c t p s u m (Release tenant id) (λ none. there-unseen c t p s u m (container_for s tenant id) _ (λ container k.
          ends-there c t p s u m container (ap (λ l. same_label l p) (for-found tenant id container k).0 ∙ off)))

      go : (b d : Bool) → same_name tenant t ≡ b → same_label id.label p ≡ d → Follows c t p s u (Release tenant id) (kept_if (b && d) (Release tenant id))
      go true true e f = subst (λ n. Follows c t p s u (Release n id) (Some (Release n id))) (sym (same-name_sym tenant t e)) (release-here id (same-label_path id.label p f))
      go true false e off = elsewhere off
      go false false e off = elsewhere off
      go false true off f = unseen c t p s u m (Release tenant id) (λ none. there-unseen c t p s u m (container_for s tenant id) _ (λ container k.
          let own : container.tenant ≡ t = (Each-find (λ other. other.tenant ≡ t) (λ other. same_id other.id id && same_name other.tenant tenant) (containers_on s id.label)
          (subst (λ l. AllByRecursion (λ other. other.tenant ≡ t) (containers_on s l)) (sym (same-label_path id.label p f)) (owned c t p a s firm)) container k).0 in
          absurd (true≢false (sym (ap (same_name tenant) (sym own ∙ (for-found tenant id container k).1) ∙ same-name_self tenant) ∙ off))))

  -- ---- an application finishes

  own-part : (name : Name) → all_own u t name ≡ filter (stands_on p) (all_own s t name)
  own-part name = ap (flat_map (λ row. filter (is_of t name) row.containers)) m.partitions
      ∙ flat-cleared p (is_of t name) s.partitions (Each-weaker _ _ (λ row k. Each-weaker _ _ (λ container j. j.0) row.containers k) s.partitions (in-rows c t p a s firm))

  -- none of another tenant's is on the partition
  own-other : (tenant name : Name) → same_name tenant t ≡ false → AllByRecursion (λ container. stands_on p container ≡ false) (all_own s tenant name)
  own-other tenant name off = Each-flat _ (λ container. stands_on p container ≡ false) (λ row. filter (is_of tenant name) row.containers)
      (λ row k. Each-kept _ (is_of tenant name) row.containers (Each-weaker _ _ (λ container j of. away row container j of (stands_on p container) refl) row.containers k)) s.partitions (in-rows c t p a s firm)
    where
      away : (row : Partition) (container : Container) → (container.id.label ≡ row.label) × (row.label ≡ p → container.tenant ≡ t) → is_of tenant name container ≡ true → (b : Bool) → stands_on p container ≡ b → stands_on p container ≡ false
      away row container j of true e =
          let own : container.tenant ≡ t = j.1 (sym j.0 ∙ same-label_path container.id.label p e) in
          absurd (true≢false (sym (ap (same_name tenant) (sym own ∙ same-name_sym container.tenant tenant (and_parts _ _ of).0) ∙ same-name_self tenant) ∙ off))
      away row container j of false e = e

  finish-here : (name : Name) → Follows c t p s u (Finish t name) (Some (Finish t name))
  unfolding reasons accepted app_finishes
  finish-here name = kept c t p s u m (Finish t name) (Finish t name) (λ i. first_that_holds ((NoSuchApplication, not (has-same name i)) ∷ []))
      (λ none. there-part c t p s u m (only p) (find_app s.leaves t name) (find_app u.leaves t name) _ _ (app-found name) (λ found e. (
        with-leaves c t p (all_end c (all_own s (tenant_of found.leaf) found.name) s) (all_end (restrict c t) (all_own u (tenant_of found.leaf) found.name) u) (ended found e) _ _
            (ap (in_leaf found.leaf (finished found.name)) m.leaves ∙ sym (leaves-here t p found.leaf (finished found.name) (λ row. refl) s.leaves (finished found.name) (finished-here p found.name))),
        refl,
      )))
    where
      ended : (found : Application) → find_app s.leaves t name ≡ Some found → Mirrors t p (all_end c (all_own s (tenant_of found.leaf) found.name) s) (all_end (restrict c t) (all_own u (tenant_of found.leaf) found.name) u)
      ended found e = subst (λ n. Mirrors t p (all_end c (all_own s n found.name) s) (all_end (restrict c t) (all_own u n found.name) u)) (sym (found-in c t p a s firm t name found e).0)
          (subst (λ containers. Mirrors t p (all_end c (all_own s t found.name) s) (all_end (restrict c t) containers u)) (sym (own-part found.name)) (all-end c t p (all_own s t found.name) s u m))

  pub sees-finish : (tenant name : Name) → Follows c t p s u (Finish tenant name) (seen_of t p c (places s) (Finish tenant name))
  unfolding seen_of reasons accepted app_finishes
  sees-finish tenant name = go (same_name tenant t) refl
    where
      ended : (found : Application) → same_name tenant t ≡ false → find_app s.leaves tenant name ≡ Some found → Mirrors t p (all_end c (all_own s (tenant_of found.leaf) found.name) s) u
      ended found off e = all-end_unseen c t p (all_own s (tenant_of found.leaf) found.name)
          (own-other (tenant_of found.leaf) found.name (ap (λ n. same_name n t) (found-in c t p a s firm tenant name found e).0 ∙ off)) s u m

      go : (b : Bool) → same_name tenant t ≡ b → Follows c t p s u (Finish tenant name) (kept_if b (Finish tenant name))
      go true e = subst (λ n. Follows c t p s u (Finish n name) (Some (Finish n name))) (sym (same-name_sym tenant t e)) (finish-here name)
      go false off = unseen c t p s u m (Finish tenant name) (λ none. there-unseen c t p s u m (find_app s.leaves tenant name) _ (λ found k.
          with-leaves c t p (all_end c (all_own s (tenant_of found.leaf) found.name) s) u (ended found off k) _ _
          (m.leaves ∙ sym (leaves-other t p found.leaf (finished found.name) (λ row. refl) s.leaves (found-other c t p a s firm tenant name found off k)))))
