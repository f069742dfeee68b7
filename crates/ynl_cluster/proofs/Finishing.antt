-- The parts of a cluster after an application finished.
use Rattle.std.proofs.Common.{◌≡◌, ◌≢◌, ℕ, Bool, nat_eq, List, Some, refl, sym, ap, subst, ◌∙◌}
use Rattle.std.specs.Prelude.{IfSome}
use Rattle.std.specs.Map.{lookup}
use Rattle.ynl_model.specs.Applications.{finished, in_leaf}
use Rattle.ynl_slots.specs.Slots.{IsLive}
use Rattle.ynl_tables.specs.declared.containers.container.Container.{Container}
use Rattle.ynl_lanes.specs.lane.Seats.{Seats}
use Rattle.ynl_inventory.specs.Rows.{Rows, AppRow}
use Rattle.ynl_inventory.specs.Changes.{with_app_gone}
use Rattle.ynl_inventory.specs.Meaning.{app_name, state_of}
use Rattle.ynl_inventory.specs.Sound.{OwnsNoContainers}
use Rattle.ynl_inventory.proofs.Gone.{gone-means, gone-sound}
use Rattle.ynl_inventory.proofs.Lookups.{live-found}
use Rattle.ynl_inventory.proofs.Updates.{at-number}
use Rattle.ynl_inventory.proofs.NodeParts.{found-without}
use Rattle.ynl_cluster.proofs.ledger.Bounded.{others}
use Rattle.ynl_cluster.proofs.ledger.Ledger.{finishing}
use Rattle.ynl_cluster.specs.seating.Seating.{AreSeated}
use Rattle.ynl_cluster.specs.declared.cluster.Cluster.TheInside.{Inside}
use Rattle.ynl_cluster.specs.Cluster.{ClusterView, maxima_in, path_of, state_in, stops_in}
use Rattle.ynl_cluster.specs.Whole.{view_of, AreParts, IsCluster}

module _ (a : Inside) (is : IsCluster a) (w : ClusterView) (view : view_of a ≡ w) (app : ℕ) (live : IsLive app w.rows.apps) (empty : OwnsNoContainers w.rows app) where
  abbrev v : Rows
  v = a.inventory.rows

  -- it is live
  pub live-before : IsLive app v.apps
  live-before = subst (λ (w : ClusterView). IsLive app w.rows.apps) (sym view) live

  -- and has no containers
  pub empty-before : OwnsNoContainers v app
  empty-before = subst (λ (w : ClusterView). OwnsNoContainers w.rows app) (sym view) empty

  abbrev own : (row : AppRow) × (lookup (nat_eq app) v.apps ≡ Some row)
  own = live-found app v.apps live-before

  -- what is so of its row
  at-own : (P : AppRow → Type 0) → IfSome (lookup (nat_eq app) v.apps) P → (row : AppRow) → lookup (nat_eq app) v.apps ≡ Some row → P row
  at-own P some row found = subst (λ o. IfSome o P) found some

  -- with rows and lanes that follow, the parts go together
  pub parts-after : (new : Rows) → IfSome (lookup (nat_eq app) v.apps) (λ row. new ≡ with_app_gone app row.tenant row.turn v)
      → (lanes : List (List Seats)) → IfSome (lookup (nat_eq app) v.apps) (λ row. AreSeated (with_app_gone app row.tenant row.turn v) lanes) → AreParts a.config new a.uses a.totals lanes
  parts-after new rows lanes seated =
      subst (λ v. AreParts a.config v a.uses a.totals lanes) (sym (at-own (λ row. new ≡ with_app_gone app row.tenant row.turn v) rows own.0 own.1))
      (record {
        configured = record {
          labels = is.parts.configured.labels;
          limits = is.parts.configured.limits;
          guests = is.parts.configured.guests;
          paths = is.parts.configured.paths;
        };
        sound =
            gone-sound v app own.0 is.parts.sound own.1
            (λ p r at n c held. at-number (λ n (c : Container). c.app ≢ app) r.containers n c (empty-before p r at) held);
        bounded = others v is.parts.bounded (with_app_gone app own.0.tenant own.0.turn v) refl refl;
        sizes = λ n row found. is.parts.sizes n row (found-without n app row v.apps found);
        numbers = record { partitions = is.parts.numbers.partitions; queues = is.parts.numbers.queues };
        uses_are = is.parts.uses_are ∙ sym (finishing v app own.0.tenant own.0.turn empty-before).uses;
        totals_are = is.parts.totals_are ∙ sym (finishing v app own.0.tenant own.0.turn empty-before).totals;
        seated = at-own (λ row. AreSeated (with_app_gone app row.tenant row.turn v) lanes) seated own.0 own.1;
      })

  -- and the state is the model's
  pub state-after : (new : Rows) → IfSome (lookup (nat_eq app) v.apps) (λ row. new ≡ with_app_gone app row.tenant row.turn v) → (row : AppRow) → lookup (nat_eq app) w.rows.apps ≡ Some row
      → state_of new (stops_in (view_of a)) (maxima_in (view_of a))
      ≡ record (state_in w) { leaves = in_leaf (path_of w row.leaf) (finished (app_name w.rows.tenants row.tenant row.turn)) (state_in w).leaves }
  state-after new rows row =
      subst
      (λ (w : ClusterView). lookup (nat_eq app) w.rows.apps ≡ Some row → state_of new (stops_in (view_of a)) (maxima_in (view_of a))
      ≡ record (state_in w) { leaves = in_leaf (path_of w row.leaf) (finished (app_name w.rows.tenants row.tenant row.turn)) (state_in w).leaves })
      view
      (λ found.
      ap (λ (v : Rows). state_of v (stops_in (view_of a)) (maxima_in (view_of a))) (at-own (λ row. new ≡ with_app_gone app row.tenant row.turn v) rows row found)
      ∙ gone-means v app row is.parts.sound found (λ p r at n c held. at-number (λ n (c : Container). c.app ≢ app) r.containers n c (empty-before p r at) held) (stops_in (view_of a)) (maxima_in (view_of a)))

  -- the rows that a contract sees
  pub rows-after : (new : Rows) → IfSome (lookup (nat_eq app) v.apps) (λ row. new ≡ with_app_gone app row.tenant row.turn v) → (rooms : List ℕ) → rooms ≡ a.inventory.rooms → (ready : Bool) → ready ≡ a.inventory.ready
      → IfSome (lookup (nat_eq app) w.rows.apps) (λ row. record (view_of a) { rows = new; rooms = rooms; ready = ready } ≡ record w { rows = with_app_gone app row.tenant row.turn w.rows })
  rows-after new rows rooms same ready still =
      subst (λ (w : ClusterView). IfSome (lookup (nat_eq app) w.rows.apps) (λ row. record (view_of a) { rows = new; rooms = rooms; ready = ready } ≡ record w { rows = with_app_gone app row.tenant row.turn w.rows })) view
      (subst (λ o. IfSome o (λ row. record (view_of a) { rows = new; rooms = rooms; ready = ready } ≡ record (view_of a) { rows = with_app_gone app row.tenant row.turn v })) (sym own.1)
      (λ i. record (view_of a) { rows = at-own (λ row. new ≡ with_app_gone app row.tenant row.turn v) rows own.0 own.1 i; rooms = same i; ready = still i }))
