-- The parts of a cluster after an application was submitted.
use Rattle.std.proofs.Common.{◌≡◌, ℕ, Bool, true, false, cond, nat_eq, List, [], ◌∷◌, Some, is_some, refl, sym, ap, subst, ◌∙◌, inl, inr}
use mathlib.Core.Logic.{◌⊎◌}
use Rattle.std.specs.Prelude.{slice_index_or}
use Rattle.std.specs.Map.{lookup}
use Rattle.ynl_resource.specs.Amounts.{IsSize}
use Rattle.ynl_resource.specs.Names.{same_name, same_path}
use Rattle.ynl_resource.specs.Tables.{update}
use Rattle.ynl_resource.specs.declared.names.Name.{Name}
use Rattle.ynl_resource.specs.declared.paths.Path.{Path}
use Rattle.ynl_model.specs.declared.queues.StopRow.{StopRow}
use Rattle.ynl_model.specs.declared.queues.MaximumRow.{MaximumRow}
use Rattle.ynl_model.specs.Applications.{Application, LeafApps, in_leaf, new_app as new_model_app, submitted, with_app}
use Rattle.ynl_inventory.specs.layout.Paths.{path_at}
use Rattle.ynl_slots.specs.Slots.{IsLive, IsUnused}
use Rattle.ynl_slots.proofs.Entries.{itself}
use Rattle.ynl_slots.proofs.Lookups.{lookup-push}
use Rattle.ynl_tables.specs.declared.apps.app.Tickets.{Tickets}
use Rattle.ynl_lanes.specs.lane.Seats.{Seats}
use Rattle.ynl_lanes.specs.table.Lanes.{IsLaneAt}
use Rattle.ynl_inventory.specs.declared.submission.NewSubmission.{NewSubmission}
use Rattle.ynl_inventory.specs.Rows.{Rows, AppRow}
use Rattle.ynl_inventory.specs.Changes.{with_submitted, with_tickets}
use Rattle.ynl_inventory.specs.Meaning.{app_name, state_of}
use Rattle.ynl_inventory.specs.Sound.{CanSubmit, IsApp, IsFor, IsSound}
use Rattle.ynl_inventory.proofs.AppChange.{LeavesOwner, app-means, app-sound}
use Rattle.ynl_inventory.proofs.Lookups.{live-found, pushed-cases}
use Rattle.ynl_inventory.proofs.Submitting.{row, submitted-means, submitted-sound}
use Rattle.ynl_inventory.proofs.SubmitParts.{may-submit}
use Rattle.ynl_cluster.specs.ledger.Ledger.{totals_in, uses_in, IsBounded}
use Rattle.ynl_cluster.proofs.ledger.Bounded.{others}
use Rattle.ynl_cluster.proofs.ledger.Ledger.{submitting, ticketing}
use Rattle.ynl_cluster.specs.seating.Seating.{AreSeated}
use Rattle.ynl_cluster.specs.seating.Steps.{IsReserved, IsUnseated}
use Rattle.ynl_cluster.proofs.seating.Starting.{is-submitted_last}
use Rattle.ynl_cluster.specs.declared.cluster.Cluster.TheInside.{Inside}
use Rattle.ynl_cluster.specs.Cluster.{ClusterView, label_of, maxima_in, path_of, state_in, stops_in}
use Rattle.ynl_cluster.specs.Whole.{view_of, AreParts, AskSizes, AsksSizes, IsCluster}
use Rattle.ynl_cluster.proofs.Numbers.{as-numbered}
use Rattle.ynl_cluster.proofs.Sizes.{changed-sizes}

-- a change that leaves each row leaves all
update-all : {X : Type 0} (test : X → Bool) (change : X → X) → ((x : X) → change x ≡ x) → (xs : List X) → update test change xs ≡ xs
update-all test change leaves [] = refl
update-all {X} test change leaves (x ∷ xs) = λ i. one (test x) i ∷ update-all test change leaves xs i
  where
    one : (b : Bool) → cond b (change x) x ≡ x
    one true = leaves x
    one false = refl

-- leaves stay where an application is as it was
same-leaves : (path : Path) (name : Name) (leaves : List LeafApps) → in_leaf path (with_app name (λ app. app)) leaves ≡ leaves
same-leaves path name leaves =
    update-all (λ (leaf : LeafApps). same_path leaf.leaf path) (with_app name (λ app. app))
    (λ leaf. ap (λ (apps : List Application). record leaf { apps = apps }) (update-all (λ (app : Application). same_name app.name name) (λ app. app) (λ app. refl) leaf.apps)) leaves

abbrev set : Tickets → AppRow → AppRow
set tickets row = record row { tickets = tickets }

leaves : (tickets : Tickets) → LeavesOwner (set tickets)
leaves tickets = record { tenant = λ row. refl; turn = λ row. refl; leaf = λ row. refl; user = λ row. refl; home = λ row. refl }

-- tickets leave rows sound, and change no state
module _ (v : Rows) (sound : IsSound v) (app : ℕ) (live : IsLive app v.apps) (tickets : Tickets) where
  abbrev own : (row : AppRow) × (lookup (nat_eq app) v.apps ≡ Some row)
  own = live-found app v.apps live

  tickets-sound : IsSound (with_tickets app tickets v)
  tickets-sound = let its : IsApp v app own.0 = sound.apps app own.0 own.1 in app-sound v app (set tickets) (leaves tickets) sound own.0 own.1 its.asks its.asked

  tickets-mean : (stops : List StopRow) (maxima : List MaximumRow) → state_of (with_tickets app tickets v) stops maxima ≡ state_of v stops maxima
  tickets-mean stops maxima =
      app-means v app (set tickets) (leaves tickets) sound own.0 own.1 (λ application. application) refl stops maxima
      ∙ ap (λ (leaves : List LeafApps). record (state_of v stops maxima) { leaves = leaves }) (same-leaves (path_at v.paths own.0.leaf) (app_name v.tenants own.0.tenant own.0.turn) (state_of v stops maxima).leaves)

module _ (a : Inside) (is : IsCluster a) (w : ClusterView) (view : view_of a ≡ w) (name : Name) (new : NewSubmission) (can : CanSubmit w.rows name new) where
  abbrev v : Rows
  v = a.inventory.rows

  -- it may be submitted
  pub may : CanSubmit v name new
  may = subst (λ (w : ClusterView). CanSubmit w.rows name new) (sym view) can

  -- the lanes are there in which it will sit
  pub home-lane : IsLaneAt new.home new.leaf a.lanes
  home-lane = (is.parts.seated.seats new.home new.leaf may.home may.there).there

  pub default-lane : IsLaneAt 0 new.leaf a.lanes
  default-lane = (is.parts.seated.seats 0 new.leaf is.parts.seated.default may.there).there

  module _ (number : ℕ) (unused : IsUnused number v.apps) (mid : Rows) (rows : mid ≡ with_submitted number name new.tenant new.leaf new.user new.home new.master_size v) where
    abbrev entered : Rows
    entered = with_submitted number name new.tenant new.leaf new.user new.home new.master_size v

    abbrev new_row : AppRow
    new_row = row v number name new.tenant new.leaf new.user new.home new.master_size

    live-there : IsLive number entered.apps
    live-there =
        ap is_some
        (lookup-push number number new_row v.apps unused
        ∙ ap (λ b. cond b (Some new_row) (lookup (nat_eq number) v.apps)) (itself number))

    -- it is live
    pub live-after : IsLive number mid.apps
    live-after = subst (λ (v : Rows). IsLive number v.apps) (sym rows) live-there

    -- it comes last, and there is room for its seats
    pub lanes-but : (lanes : List (List Seats)) → AreSeated v lanes → IsReserved new.home new.leaf new.user lanes → IsUnseated number mid lanes
    lanes-but lanes seated reserved =
        subst (λ v. IsUnseated number v lanes) (sym rows)
        (is-submitted_last v number name new.tenant new.leaf new.user new.home new.master_size lanes seated unused may.home may.there reserved)

    sound-entered : IsSound entered
    sound-entered = submitted-sound v number name new.tenant new.leaf new.user new.home new.master_size is.parts.sound (may-submit v is.parts.sound name new may number unused)

    sizes-entered : IsSize new.master_size → AskSizes entered
    sizes-entered sized n row found = by (pushed-cases n number new_row v.apps unused row found)
      where
        by : ((n ≡ number) × (row ≡ new_row)) ⊎ (lookup (nat_eq n) v.apps ≡ Some row) → AsksSizes row
        by (inl own) = subst AsksSizes (sym own.1) (record { master = sized; asks = tt })
        by (inr before) = is.parts.sizes n row before

    module _ (tickets : Tickets) (after : Rows) (seated-rows : after ≡ with_tickets number tickets mid) where
      all-rows : after ≡ with_tickets number tickets entered
      all-rows = seated-rows ∙ ap (with_tickets number tickets) rows

      -- with lanes that follow, the parts go together
      pub parts-after : IsSize new.master_size → (lanes : List (List Seats)) → AreSeated after lanes → AreParts a.config after a.uses a.totals lanes
      parts-after sized lanes seated = record {
        configured = subst (IsFor a.config) (sym all-rows) (record {
          labels = is.parts.configured.labels;
          limits = is.parts.configured.limits;
          guests = is.parts.configured.guests;
          paths = is.parts.configured.paths;
        });
        sound = subst IsSound (sym all-rows) (tickets-sound entered sound-entered number live-there tickets);
        bounded = subst IsBounded (sym all-rows) (others v is.parts.bounded (with_tickets number tickets entered) refl refl);
        sizes = subst AskSizes (sym all-rows) (changed-sizes entered number (set tickets) (λ row is. record { master = is.master; asks = is.asks }) (sizes-entered sized));
        numbers = as-numbered v after (ap (λ (v : Rows). v.partitions) all-rows) (ap (λ (v : Rows). v.paths) all-rows) is.parts.numbers;
        uses_are =
            is.parts.uses_are
            ∙ sym (ap uses_in all-rows ∙ (ticketing entered number tickets).uses ∙ (submitting v is.parts.sound number name new.tenant new.leaf new.user new.home new.master_size).uses);
        totals_are =
            is.parts.totals_are
            ∙ sym (ap totals_in all-rows ∙ (ticketing entered number tickets).totals ∙ (submitting v is.parts.sound number name new.tenant new.leaf new.user new.home new.master_size).totals);
        seated = seated;
      }

      -- and the state is the model's
      pub state-after : state_of after (stops_in (view_of a)) (maxima_in (view_of a))
          ≡ record (state_in w) {
            leaves = in_leaf (path_of w new.leaf)
                (submitted (new_model_app (path_of w new.leaf) name (slice_index_or w.rows.users new.user []) (label_of w new.home) new.master_size)) (state_in w).leaves;
          }
      state-after =
          ap (λ (v : Rows). state_of v (stops_in (view_of a)) (maxima_in (view_of a))) all-rows
          ∙ tickets-mean entered sound-entered number live-there tickets (stops_in (view_of a)) (maxima_in (view_of a))
          ∙ submitted-means v number name new.tenant new.leaf new.user new.home new.master_size is.parts.sound (may-submit v is.parts.sound name new may number unused) (stops_in (view_of a)) (maxima_in (view_of a))
          ∙ ap
          (λ (w : ClusterView). record (state_in w) {
            leaves = in_leaf (path_of w new.leaf)
                (submitted (new_model_app (path_of w new.leaf) name (slice_index_or w.rows.users new.user []) (label_of w new.home) new.master_size)) (state_in w).leaves;
          })
          view
