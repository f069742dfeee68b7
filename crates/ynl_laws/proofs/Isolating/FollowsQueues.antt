-- What is done and asked of queues, as the tenant of a partition sees it.
use Rattle.std.proofs.Common.{◌≡◌, ℕ, Bool, true, false, not, ◌&&◌, ◌||◌, [], ◌∷◌, ◌++◌, map, length, Option, Some, is_some, filter, refl, sym, ap, subst, ◌∙◌}
use Rattle.std.proofs.lemmas.List.{map-append, length-map}
use Rattle.std.specs.Prelude.{nat_le, nat_lt, unwrap_or}
use Rattle.std.specs.List.{list_any}
use mathlib.Core.Bool.{true≢false}
use Rattle.ynl_resource.specs.declared.amounts.Resource.{Resource}
use Rattle.ynl_resource.specs.Amounts.{fits_in}
use Rattle.ynl_resource.specs.Names.{same_name, same_label, root, top_level, same_path, is_within, tenant_of}
use Rattle.ynl_resource.specs.declared.names.Name.{Name}
use Rattle.ynl_resource.specs.declared.labels.Label.{Label}
use Rattle.ynl_resource.specs.declared.labels.Label.TheVariants.{Unlabelled}
use Rattle.ynl_resource.specs.declared.paths.Path.{Path}
use Rattle.ynl_resource.specs.declared.refusals.Refusal.TheVariants.{NoSuchLabel, NoSuchQueue, NotALeaf, QueueStopped, RootQueue, LabelNotAccessible, TooLarge, NameUsed, TooManyApplications, BelowCapacity}
use Rattle.ynl_resource.specs.Refusals.{first_that_holds}
use Rattle.ynl_model.specs.Nodes.{has_label}
use Rattle.ynl_model.specs.Queues.{Config, may_use, accepts}
use Rattle.ynl_model.specs.Applications.{Application, LeafApps, is_used, apps_of, in_leaf, submitted, new_app}
use Rattle.ynl_model.specs.Cluster.{State, guests, sizes, is_guest, is_below, containers_on}
use Rattle.ynl_model.specs.declared.replies.Reply.TheVariants.{Usage as UsageOf}
use Rattle.ynl_model.specs.Events.{home_of, has_most_apps, usage, accepted, reasons}
use Rattle.ynl_model.specs.declared.events.Event.TheVariants.{Submit, Stop, Start, Usage, Maximum}
use Rattle.ynl_model.specs.View.{kept_if, seen_of, restrict}
use Rattle.ynl_laws.specs.Working.{places}
use Rattle.ynl_laws.proofs.Isolating.Restricted.{setting-restrict, may_use-restrict, capacity-restrict, is_queue-restrict, is_leaf-restrict}
use Rattle.ynl_laws.proofs.Events.Chosen.{none-holds}
use Rattle.ynl_laws.proofs.Isolating.Own.{Holds, only, only_row, leaf-own, apps_of-own, below-own, used-own, masters_used-own, maximum-own, guaranteed-own}
use Rattle.ynl_laws.proofs.Isolating.Mirrored.{Mirrors, bears_on, leaves-here, leaves-other, with-leaves, stops-here, stops-there, maxima-here, maxima-there}
use Rattle.ynl_laws.proofs.Isolating.Alone.{Alone}
use Rattle.ynl_laws.proofs.Isolating.Firm.{Firm, within-tenant, holds}
use Rattle.ynl_laws.proofs.Isolating.Follows.{Follows, kept, unseen}
use Rattle.ynl_laws.proofs.Lists.{any-filter, filter-same}
use Rattle.ynl_laws.proofs.Names.{same-name_sym, same-label_path, way-within}
use Rattle.std.proofs.lemmas.Bool.{and_from, and_parts}

-- a queue at or above one that is the tenant's or below is the tenant's or below, or root
above : (t : Name) (upper queue : Path) → is_within upper queue ≡ true → is_within (top_level t) queue ≡ true → (is_within (top_level t) upper || same_path upper root) ≡ true
above t [] queue h w = refl
above t (x ∷ upper) [] h w = absurd (true≢false (sym h))
above t (x ∷ upper) (y ∷ queue) h w =
    ap (λ b. b || same_path (x ∷ upper) root) (and_from _ _ (ap (same_name t) (same-name_sym x y (and_parts _ _ h).0) ∙ (and_parts _ _ w).0) refl)

-- a new application asks for nothing yet
submitted-only : (p : Label) (app : Application) → only p app ≡ app → (row : LeafApps) → only_row p (submitted app row) ≡ submitted app (only_row p row)
submitted-only p app same row = λ i. record {
  leaf = row.leaf;
  names = row.names ++ app.name ∷ [];
  apps = (map-append (only p) row.apps (app ∷ []) ∙ (λ j. map (only p) row.apps ++ same j ∷ [])) i;
}

module _ (c : Config) (t : Name) (p : Label) (a : Alone c t p) (s u : State) (firm : Firm c s) (m : Mirrors t p s u) where
  abbrev d : Config
  d = restrict c t

  h : Holds t p s u
  h = holds c t p a s firm u m

  -- ---- applications are submitted

  accepts-same : (queue : Path) → is_within (top_level t) queue ≡ true → accepts s.stops queue ≡ accepts u.stops queue
  unfolding accepts
  accepts-same queue w = ap not (sym (ap (list_any (λ row. row.stopped && is_within row.queue queue)) m.stops
      ∙ any-filter (λ row. row.stopped && is_within row.queue queue) (bears_on t) (λ row e. above t row.queue queue (and_parts row.stopped _ e).1 w) s.stops))

  home-same : (queue : Path) (label : Option Label) → is_within (top_level t) queue ≡ true → home_of c queue label ≡ home_of d queue label
  home-same queue label w = ap (unwrap_or label) (sym (setting-restrict c t (λ row. row.leaf.default_label) Unlabelled queue w))

  used-same : (queue : Path) (app : Name) → is_within (top_level t) queue ≡ true → is_used s.leaves (tenant_of queue) app ≡ is_used u.leaves (tenant_of queue) app
  used-same queue app w =
      ap (λ n. is_used s.leaves n app) (within-tenant t queue w) ∙ ap is_some (sym (leaf-own c t p a.home a.exclusive s u h app)) ∙ ap (λ n. is_used u.leaves n app) (sym (within-tenant t queue w))

  most-same : (queue : Path) → is_within (top_level t) queue ≡ true → has_most_apps c s queue ≡ has_most_apps d u queue
  most-same queue w = λ i. nat_le (sym (setting-restrict c t (λ row. row.leaf.maximum_applications) 0 queue w) i) (sym (ap length (apps_of-own c t p a.home a.exclusive s u h queue w) ∙ length-map (apps_of s.leaves queue) (only p)) i)

  pub sees-submit : (queue : Path) (app user : Name) (label : Option Label) (master : Resource) → Follows c t p s u (Submit queue app user label master) (seen_of t p c (places s) (Submit queue app user label master))
  unfolding seen_of reasons accepted
  sees-submit queue app user label master = go (is_within (top_level t) queue) refl
    where
      new : Label → Application
      new home = new_app queue app user home master

      go : (b : Bool) → is_within (top_level t) queue ≡ b → Follows c t p s u (Submit queue app user label master) (kept_if b (Submit queue app user label master))
      go true w = kept c t p s u m (Submit queue app user label master) (Submit queue app user label master)
          (λ i. first_that_holds (
          (NoSuchQueue, not (sym (is_queue-restrict c t queue w) i)) ∷ (NotALeaf, not (sym (is_leaf-restrict c t queue w) i)) ∷ (QueueStopped, not (accepts-same queue w i))
          ∷ (NoSuchLabel, not (has_label c.labels (home-same queue label w i))) ∷ (LabelNotAccessible, not ((sym (may_use-restrict c t queue (home_of c queue label) w) ∙ ap (may_use d queue) (home-same queue label w)) i))
          ∷ (TooLarge, not (fits_in master c.maximum_allocation)) ∷ (NameUsed, used-same queue app w i)
          ∷ (TooManyApplications, most-same queue w i) ∷ []))
          (λ none. (
            with-leaves c t p s u m _ _ ((λ i. in_leaf queue (submitted (new (sym (home-same queue label w) i))) (m.leaves i))
                ∙ sym (leaves-here t p queue (submitted (new (home_of c queue label))) (λ row. refl) s.leaves (submitted (new (home_of c queue label))) (submitted-only p (new (home_of c queue label)) refl))),
            refl,
          ))
      go false off = unseen c t p s u m (Submit queue app user label master)
          (λ none. with-leaves c t p s u m _ _ (m.leaves ∙ sym (leaves-other t p queue (submitted (new (home_of c queue label))) (λ row. refl) s.leaves off)))

  -- ---- queues are stopped and started

  pub sees-stop : (queue : Path) → Follows c t p s u (Stop queue) (seen_of t p c (places s) (Stop queue))
  unfolding seen_of reasons accepted
  sees-stop queue = go (is_within (top_level t) queue) refl
    where
      go : (b : Bool) → is_within (top_level t) queue ≡ b → Follows c t p s u (Stop queue) (kept_if b (Stop queue))
      go true w = kept c t p s u m (Stop queue) (Stop queue) (λ i. first_that_holds ((NoSuchQueue, not (sym (is_queue-restrict c t queue w) i)) ∷ (RootQueue, same_path queue root) ∷ []))
          (λ none. (stops-here c t p s u m queue true, refl))
      go false off = unseen c t p s u m (Stop queue) (λ none. stops-there c t p s u m queue true off (none-holds (reasons c s (Stop queue)) none).1.0)

  pub sees-start : (queue : Path) → Follows c t p s u (Start queue) (seen_of t p c (places s) (Start queue))
  unfolding seen_of reasons accepted
  sees-start queue = go (is_within (top_level t) queue) refl
    where
      go : (b : Bool) → is_within (top_level t) queue ≡ b → Follows c t p s u (Start queue) (kept_if b (Start queue))
      go true w = kept c t p s u m (Start queue) (Start queue) (λ i. first_that_holds ((NoSuchQueue, not (sym (is_queue-restrict c t queue w) i)) ∷ (RootQueue, same_path queue root) ∷ []))
          (λ none. (stops-here c t p s u m queue false, refl))
      go false off = unseen c t p s u m (Start queue) (λ none. stops-there c t p s u m queue false off (none-holds (reasons c s (Start queue)) none).1.0)

  -- ---- what a queue uses

  guests-same : (queue : Path) → guests s queue p ≡ guests u queue p
  unfolding guests
  guests-same queue = ap sizes
      (filter-same (λ k. same_name k.tenant t) _ _ (λ k own. ap (λ b. is_guest k && b) (below-own c t p a.home a.exclusive s u h queue k own)) (containers_on s p) h.owned
      ∙ ap (filter (λ k. is_guest k && is_below u.leaves queue k)) h.on)

  usage-same : (queue : Path) → is_within (top_level t) queue ≡ true → usage c s queue p ≡ usage d u queue p
  unfolding usage
  usage-same queue w = λ i. UsageOf (used-own c t p a.home a.exclusive s u h queue i) (guaranteed-own c t p a.home a.exclusive s u h queue w i) (maximum-own c t p a.home a.exclusive s u h queue (way-within t queue w) i)
      (masters_used-own c t p a.home a.exclusive s u h queue i) (guests-same queue i)

  pub sees-usage : (queue : Path) (label : Label) → Follows c t p s u (Usage queue label) (seen_of t p c (places s) (Usage queue label))
  unfolding seen_of reasons accepted
  sees-usage queue label = go (same_label label p) (is_within (top_level t) queue) refl refl
    where
      here : is_within (top_level t) queue ≡ true → Follows c t p s u (Usage queue p) (Some (Usage queue p))
      here w = kept c t p s u m (Usage queue p) (Usage queue p) (λ i. first_that_holds ((NoSuchQueue, not (sym (is_queue-restrict c t queue w) i)) ∷ (NoSuchLabel, not (has_label c.labels p)) ∷ []))
          (λ none. (m, usage-same queue w))

      go : (b w : Bool) → same_label label p ≡ b → is_within (top_level t) queue ≡ w → Follows c t p s u (Usage queue label) (kept_if (b && w) (Usage queue label))
      go true true e w = subst (λ l. Follows c t p s u (Usage queue l) (Some (Usage queue l))) (sym (same-label_path label p e)) (here w)
      go true false e w = unseen c t p s u m (Usage queue label) (λ none. m)
      go false w e f = unseen c t p s u m (Usage queue label) (λ none. m)

  -- ---- a maximum is set

  pub sees-maximum : (queue : Path) (label : Label) (share : ℕ) → Follows c t p s u (Maximum queue label share) (seen_of t p c (places s) (Maximum queue label share))
  unfolding seen_of reasons accepted
  sees-maximum queue label share = go (same_label label p) (is_within (top_level t) queue) refl refl
    where
      here : is_within (top_level t) queue ≡ true → Follows c t p s u (Maximum queue p share) (Some (Maximum queue p share))
      here w = kept c t p s u m (Maximum queue p share) (Maximum queue p share)
          (λ i. first_that_holds (
          (NoSuchQueue, not (sym (is_queue-restrict c t queue w) i)) ∷ (RootQueue, same_path queue root) ∷ (NoSuchLabel, not (has_label c.labels p))
          ∷ (LabelNotAccessible, not (sym (may_use-restrict c t queue p w) i)) ∷ (BelowCapacity, nat_lt share (sym (capacity-restrict c t queue p w) i)) ∷ []))
          (λ none. (maxima-here c t p s u m queue share, refl))

      go : (b w : Bool) → same_label label p ≡ b → is_within (top_level t) queue ≡ w → Follows c t p s u (Maximum queue label share) (kept_if (b && w) (Maximum queue label share))
      go true true e w = subst (λ l. Follows c t p s u (Maximum queue l share) (Some (Maximum queue l share))) (sym (same-label_path label p e)) (here w)
      go true false e f = unseen c t p s u m (Maximum queue label share) (λ none. maxima-there c t p s u m queue label share (λ i. e i && f i))
      go false w e f = unseen c t p s u m (Maximum queue label share) (λ none. maxima-there c t p s u m queue label share (λ i. e i && f i))
