-- What is tested of a new application by numbers is what the model tests.
use Rattle.std.proofs.Common.{◌≡◌, ◌<◌, ℕ, zero, suc, Bool, true, false, cond, not, ◌&&◌, ◌||◌, nat_le, is_some, List, [], ◌∷◌, length, map, filter, Option, None, Some, option_map, refl, sym, ap, ◌∙◌, inl, inr, arith, true≢false}
use Rattle.std.specs.List.{list_any}
use Rattle.std.specs.Option.{option_map_or}
use Rattle.std.proofs.lemmas.Bool.{cases_lt}
use Rattle.std.proofs.lemmas.List.{get_or_past, length-map}
use Rattle.ynl_resource.specs.Names.{is_default, is_within, root, same_label, same_path, tenant_of, top_level}
use Rattle.ynl_resource.specs.declared.labels.Label.{Label}
use Rattle.ynl_resource.specs.declared.paths.Path.{Path}
use Rattle.ynl_resource.specs.Refusals.{first_that_holds}
use Rattle.ynl_resource.specs.declared.amounts.Resource.{Resource}
use Rattle.ynl_resource.specs.declared.names.Name.{Name}
use Rattle.ynl_resource.specs.declared.refusals.Refusal.TheVariants.{NameUsed, TooManyApplications}
use Rattle.ynl_model.specs.Applications.{Application, apps_of, is_used}
use Rattle.ynl_model.specs.Events.{has_most_apps, reasons}
use Rattle.ynl_model.specs.declared.events.Event.TheVariants.{Submit}
use Rattle.ynl_model.specs.declared.queues.LeafSettings.{LeafSettings}
use Rattle.ynl_model.specs.Queues.{QueueRow, is_leaf, queue_row, setting}
use Rattle.ynl_inventory.specs.layout.Paths.{HasNumber, path_at}
use Rattle.ynl_lanes.specs.lane.Seats.{Seat, Seats}
use Rattle.ynl_inventory.specs.Meaning.{app_of, has_none_below, label_at, submitted_to, tenant_at}
use Rattle.ynl_inventory.specs.Sound.{IsFor, IsLeaf, IsSound}
use Rattle.ynl_inventory.proofs.Tenants.{tenant-top}
use Rattle.ynl_cluster.specs.seating.Seating.{figures_of, seat_of, sitting}
use Rattle.ynl_cluster.proofs.seating.Sharing.{are-sharing}
use Rattle.ynl_replies.specs.declared.admission.submissions.Target.{Target}
use Rattle.ynl_replies.specs.admission.Admitted.{CanSubmitAs, IsTarget}
use Rattle.ynl_replies.proofs.admission.AppsNamed.{used-is}
use Rattle.ynl_replies.proofs.admission.FirstReasons.{first-submit}
use Rattle.ynl_replies.proofs.admission.QueuesNamed.{queue-there}
use Rattle.ynl_tables.specs.submissions.Submissions.{turn_of}
use Rattle.ynl_cluster.specs.Cluster.{ClusterView, IsCell, IsLaneIn, maxima_in, path_of, state_in, stops_in}

-- ---- leaves

-- a queue has none below it in the list of the paths as in the configuration
none-below : (queue : Path) (rows : List QueueRow)
    → list_any (λ other. is_within queue other && not (same_path queue other)) (map (λ row. row.path) rows) ≡ list_any (λ row. is_within queue row.path && not (same_path queue row.path)) rows
none-below queue [] = refl
none-below queue (row ∷ rows) = ap (λ (b : Bool). (is_within queue row.path && not (same_path queue row.path)) || b) (none-below queue rows)

-- a queue is a leaf where the configuration says so
pub leaf-told : (w : ClusterView) → IsFor w.config w.rows → (queue : Path) → has_none_below w.rows.paths queue ≡ is_leaf w.config queue
unfolding is_leaf
leaf-told w is queue = ap (λ (paths : List Path). has_none_below paths queue) is.paths ∙ ap (λ b. not (same_path queue root) && not b) (none-below queue w.config.queues)

module _ (w : ClusterView) (sound : IsSound w.rows) (q : ℕ) (leaf : IsLeaf w.rows q) where
  -- a leaf's tenant is a queue
  pub tenant-there : HasNumber w.rows.paths (tenant_at w.rows.paths q)
  tenant-there =
      elim (cases_lt (tenant_at w.rows.paths q) (length (root ∷ w.rows.paths))) [
        | inl inside ↦ inside
        | inr past ↦
            let none : root ≡ top_level (tenant_of (path_of w q)) =
            sym (get_or_past (root ∷ w.rows.paths) (tenant_at w.rows.paths q) root past) ∙ tenant-top w.rows.paths sound.tree q leaf.there leaf.none_below
            in
            absurd (cc none)
      ]

  -- a leaf is below root
  pub leaf-below : 0 < q
  leaf-below = go q refl
    where
      go : (n : ℕ) → q ≡ n → 0 < q
      go zero is = absurd (true≢false (sym leaf.none_below ∙ ap (λ (n : ℕ). has_none_below w.rows.paths (path_of w n)) is))
      go (suc n) is = omega (arith, is)

  -- the tenant is the queue of its name
  pub tenant-is : (t : ℕ) → HasNumber w.rows.paths t → path_at w.rows.paths t ≡ top_level (tenant_of (path_of w q)) → tenant_at w.rows.paths q ≡ t
  tenant-is t there path = sound.tree.apart (tenant_at w.rows.paths q) t tenant-there there (tenant-top w.rows.paths sound.tree q leaf.there leaf.none_below ∙ sym path)

  -- ---- how many live applications a leaf has

  all-kept : {X : Type 0} (p : X → Bool) (xs : List X) → ((x : X) → p x ≡ true) → filter p xs ≡ xs
  all-kept p [] all = refl
  all-kept p (x ∷ xs) all = (λ i. cond (all x i) (x ∷ filter p xs) (filter p xs)) ∙ ap (λ ys. x ∷ ys) (all-kept p xs all)

  -- as many as have a seat on DEFAULT, where all share
  pub apps-counted : (cell : IsCell w 0 q) (lane : Seats) → IsLaneIn w 0 q lane → length (apps_of (state_in w).leaves (path_of w q)) ≡ length lane.seats
  apps-counted cell lane there =
      ap (λ (apps : List Application). length apps)
      (sym (all-kept (λ (app : Application). is_default (label_at w.rows.partitions 0) || same_label app.home (label_at w.rows.partitions 0)) (apps_of (state_in w).leaves (path_of w q))
      (λ app. ap (λ (l : Label). is_default l || same_label app.home l) sound.default))
      ∙ are-sharing w.rows sound 0 q sound.some leaf (stops_in w) (maxima_in w))
      ∙ length-map (sitting 0 q w.rows.apps) (app_of w.rows)
      ∙ sym (length-map (sitting 0 q w.rows.apps) (seat_of (figures_of w.rows) 0 q))
      ∙ ap (λ (seats : List (ℕ × Seat)). length seats) (sym (ap (λ (l : Seats). l.seats) there.own ∙ (there.seated.seats 0 q cell.partition cell.queue).seats))

  -- a setting of a leaf is that of its row
  pub most-is : (set : LeafSettings) → option_map (λ row. row.leaf) (queue_row w.config (path_of w q)) ≡ Some set
      → setting (λ row. row.leaf.maximum_applications) 0 w.config (path_of w q) ≡ set.maximum_applications
  most-is set found = through (queue_row w.config (path_of w q)) ∙ ap (λ o. option_map_or (λ (set : LeafSettings). set.maximum_applications) o 0) found
    where
      through : (o : Option QueueRow) → option_map_or (λ row. row.leaf.maximum_applications) o 0 ≡ option_map_or (λ (set : LeafSettings). set.maximum_applications) (option_map (λ row. row.leaf) o) 0
      through None = refl
      through (Some row) = refl

  -- a leaf has as many live applications as it may where its lane on DEFAULT has as many seats
  pub most-told : (set : LeafSettings) → option_map (λ row. row.leaf) (queue_row w.config (path_of w q)) ≡ Some set → (cell : IsCell w 0 q) (lane : Seats) → IsLaneIn w 0 q lane
      → (count : ℕ) → count ≡ length lane.seats → nat_le set.maximum_applications count ≡ has_most_apps w.config (state_in w) (path_of w q)
  most-told set found cell lane there count read = λ i. nat_le (sym (most-is set found) i) ((read ∙ sym (apps-counted cell lane there)) i)

module _ (w : ClusterView) (sound : IsSound w.rows) (is : IsFor w.config w.rows) (queue : Path) (label : Option Label) (master : Resource) (target : Target) (on : IsTarget w queue label master target) where
  -- where an application comes to is a leaf
  pub target-leaf : IsLeaf w.rows target.leaf
  target-leaf = record { there = on.queue_is.there; none_below = leaf-told w is (path_of w target.leaf) ∙ ap (is_leaf w.config) on.queue_is.own ∙ on.leaf_is }

  module _ (app : Name) (t : ℕ) (there : HasNumber w.rows.paths t) (path : path_at w.rows.paths t ≡ top_level (tenant_of (path_of w target.leaf)))
      (o : Option ℕ) (read : o ≡ turn_of app (submitted_to w.rows.tenants t)) where
    used-told : is_used (state_in w).leaves (tenant_of queue) app ≡ is_some o
    used-told = used-is w sound (tenant_of queue) app t there (path ∙ ap (λ (path : Path). top_level (tenant_of path)) on.queue_is.own) ∙ ap is_some (sym read)

    -- then its name and the leaf's live applications tell whether it comes
    pub first-there : (most : Bool) → most ≡ has_most_apps w.config (state_in w) (path_of w target.leaf) → (user : Name)
        → first_that_holds (reasons w.config (state_in w) (Submit queue app user label master)) ≡ first_that_holds ((NameUsed, is_some o) ∷ (TooManyApplications, most) ∷ [])
    first-there most told user =
        first-submit w.config (state_in w) queue app user label master true true true true true false (is_some o) most (queue-there w is queue target.leaf on.queue_is) on.leaf_is on.open_is on.known on.may
        (ap not on.fits) used-told (ap (has_most_apps w.config (state_in w)) (sym on.queue_is.own) ∙ sym told)

    -- and if it does, it may be submitted there
    pub may-come : o ≡ None → CanSubmitAs w queue app label (record { tenant = t; leaf = target.leaf; home = target.home })
    may-come none = record {
      unnamed = sym read ∙ none;
      there = on.queue_is.there;
      leaf = target-leaf.none_below;
      tenant = tenant-is w sound target.leaf target-leaf t there path;
      home = on.home_is.there;
      own = on.queue_is.own;
      label_is = on.home_is.own;
    }
