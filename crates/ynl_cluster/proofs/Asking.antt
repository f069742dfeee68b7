-- The parts of a cluster after an application asked.
use Rattle.std.proofs.Common.{◌≡◌, ℕ, nat_eq, List, Some, refl, sym, ap, subst, ◌∙◌}
use Rattle.std.specs.Prelude.{IfSome}
use Rattle.std.specs.Map.{lookup}
use Rattle.ynl_resource.specs.Amounts.{IsSize}
use Rattle.ynl_model.specs.Applications.{in_leaf, set_ask, with_app}
use Rattle.ynl_slots.specs.Slots.{IsLive}
use Rattle.ynl_tables.specs.declared.apps.asks.Ask.{Ask}
use Rattle.ynl_tables.specs.apps.Asks.{with_ask}
use Rattle.ynl_lanes.specs.lane.Seats.{Seats}
use Rattle.ynl_inventory.specs.Rows.{Rows, AppRow}
use Rattle.ynl_inventory.specs.Changes.{with_asked}
use Rattle.ynl_inventory.specs.Meaning.{app_name, ask_of, state_of}
use Rattle.ynl_inventory.specs.Sound.{CanAsk, IsAskedOn, IsFor, IsSound}
use Rattle.ynl_inventory.proofs.AppAsks.{asked-means, asked-sound}
use Rattle.ynl_inventory.proofs.Lookups.{changed-live, live-found}
use Rattle.ynl_cluster.specs.ledger.Ledger.{totals_in, uses_in, IsBounded}
use Rattle.ynl_cluster.proofs.ledger.Bounded.{others}
use Rattle.ynl_cluster.proofs.ledger.Ledger.{asking}
use Rattle.ynl_cluster.specs.seating.Seating.{AreSeated}
use Rattle.ynl_cluster.specs.seating.Steps.{AreSeatedBut}
use Rattle.ynl_cluster.proofs.seating.RowChanges.{asked-but}
use Rattle.ynl_cluster.specs.declared.cluster.Cluster.TheInside.{Inside}
use Rattle.ynl_cluster.specs.Cluster.{ClusterView, maxima_in, path_of, state_in, stops_in}
use Rattle.ynl_cluster.specs.Whole.{view_of, AreParts, AskSizes, IsCluster}
use Rattle.ynl_cluster.proofs.Numbers.{as-numbered}
use Rattle.ynl_cluster.proofs.Sizes.{asked-sizes, changed-sizes}

module _ (a : Inside) (is : IsCluster a) (w : ClusterView) (view : view_of a ≡ w) (app : ℕ) (ask : Ask) (can : CanAsk w.rows app ask) where
  abbrev v : Rows
  v = a.inventory.rows

  -- it may ask
  pub may : CanAsk v app ask
  may = subst (λ (w : ClusterView). CanAsk w.rows app ask) (sym view) can

  module _ (new : Rows) (rows : new ≡ with_asked app ask v) where
    -- it goes on
    pub live-after : IsLive app new.apps
    live-after = subst (λ (v : Rows). IsLive app v.apps) (sym rows) (changed-live app app (λ (row : AppRow). record row { asks = with_ask ask row.asks }) v.apps may.0)

    -- the lanes are those of the rows but for what waits of it
    pub lanes-but : AreSeatedBut app new a.lanes
    lanes-but = subst (λ v. AreSeatedBut app v a.lanes) (sym rows) (asked-but v app ask a.lanes is.parts.seated)

    on : (row : AppRow) → lookup (nat_eq app) v.apps ≡ Some row → IsAskedOn row.home ask.partition
    on row found = subst (λ o. IfSome o (λ (row : AppRow). IsAskedOn row.home ask.partition)) found may.1

    configured : IsFor a.config (with_asked app ask v)
    configured = record {
      labels = is.parts.configured.labels;
      limits = is.parts.configured.limits;
      guests = is.parts.configured.guests;
      paths = is.parts.configured.paths;
    }

    -- with lanes that follow, the parts go together
    pub parts-after : IsSize ask.size → (lanes : List (List Seats)) → AreSeated new lanes → AreParts a.config new a.uses a.totals lanes
    parts-after sized lanes seated =
        let own = live-found app v.apps may.0 in
        record {
          configured = subst (IsFor a.config) (sym rows) configured;
          sound = subst IsSound (sym rows) (asked-sound v is.parts.sound app own.0 own.1 ask (on own.0 own.1));
          bounded = subst IsBounded (sym rows) (others v is.parts.bounded (with_asked app ask v) refl refl);
          sizes = subst AskSizes (sym rows) (changed-sizes v app (λ row. record row { asks = with_ask ask row.asks }) (asked-sizes ask sized) is.parts.sizes);
          numbers = as-numbered v new (ap (λ (v : Rows). v.partitions) rows) (ap (λ (v : Rows). v.paths) rows) is.parts.numbers;
          uses_are = is.parts.uses_are ∙ sym (ap uses_in rows ∙ (asking v app ask).uses);
          totals_are = is.parts.totals_are ∙ sym (ap totals_in rows ∙ (asking v app ask).totals);
          seated = seated;
        }

    -- and the state is the model's
    pub state-after : (row : AppRow) → lookup (nat_eq app) w.rows.apps ≡ Some row
        → state_of new (stops_in (view_of a)) (maxima_in (view_of a))
        ≡ record (state_in w) { leaves = in_leaf (path_of w row.leaf) (with_app (app_name w.rows.tenants row.tenant row.turn) (set_ask (ask_of w.rows.partitions ask))) (state_in w).leaves }
    state-after row =
        subst
        (λ (w : ClusterView). lookup (nat_eq app) w.rows.apps ≡ Some row → state_of new (stops_in (view_of a)) (maxima_in (view_of a))
        ≡ record (state_in w) { leaves = in_leaf (path_of w row.leaf) (with_app (app_name w.rows.tenants row.tenant row.turn) (set_ask (ask_of w.rows.partitions ask))) (state_in w).leaves })
        view
        (λ found.
        ap (λ (v : Rows). state_of v (stops_in (view_of a)) (maxima_in (view_of a))) rows
        ∙ asked-means v is.parts.sound app row found ask (on row found) (stops_in (view_of a)) (maxima_in (view_of a)))
