-- The parts of a cluster after a user got a number.
use Rattle.std.proofs.Common.{◌≡◌, Bool, true, false, cond, refl, sym, ap, subst, ◌∙◌}
use Rattle.std.specs.List.{list_any}
use Rattle.ynl_resource.specs.Names.{same_name}
use Rattle.ynl_resource.specs.declared.names.Name.{Name}
use Rattle.ynl_inventory.specs.Rows.{Rows}
use Rattle.ynl_inventory.specs.Changes.{with_user, with_user_known}
use Rattle.ynl_inventory.specs.Meaning.{state_of}
use Rattle.ynl_inventory.specs.Sound.{IsSound}
use Rattle.ynl_inventory.proofs.KnownUsers.{known-means}
use Rattle.ynl_cluster.proofs.ledger.Bounded.{others}
use Rattle.ynl_cluster.proofs.seating.RowChanges.{user-seated}
use Rattle.ynl_cluster.specs.declared.cluster.Cluster.TheInside.{Inside}
use Rattle.ynl_cluster.specs.Cluster.{ClusterView, maxima_in, state_in, stops_in}
use Rattle.ynl_cluster.specs.Whole.{view_of, AreParts, IsCluster}

module _ (a : Inside) (is : IsCluster a) (name : Name) (new : Rows) (rows : new ≡ with_user_known name a.inventory.rows) where
  abbrev v : Rows
  v = a.inventory.rows

  abbrev Parts : Rows → Type 0
  Parts rows = IsSound rows → AreParts a.config rows a.uses a.totals a.lanes

  -- the parts go together
  pub parts-after : IsSound new → AreParts a.config new a.uses a.totals a.lanes
  parts-after sound = subst Parts (sym rows) (go (list_any (λ other. same_name other name) v.users)) sound
    where
      go : (b : Bool) → Parts (cond b v (with_user name v))
      go true = λ sound. is.parts
      go false = λ sound. record {
        configured = record {
          labels = is.parts.configured.labels;
          limits = is.parts.configured.limits;
          guests = is.parts.configured.guests;
          paths = is.parts.configured.paths;
        };
        sound = sound;
        bounded = others v is.parts.bounded (with_user name v) refl refl;
        sizes = is.parts.sizes;
        numbers = record { partitions = is.parts.numbers.partitions; queues = is.parts.numbers.queues };
        uses_are = is.parts.uses_are;
        totals_are = is.parts.totals_are;
        seated = user-seated v name a.lanes is.parts.seated;
      }

  -- and the state is as it was
  pub state-after : (w : ClusterView) → view_of a ≡ w → state_of new (stops_in (view_of a)) (maxima_in (view_of a)) ≡ state_in w
  state-after w view =
      ap (λ (v : Rows). state_of v (stops_in (view_of a)) (maxima_in (view_of a))) rows
      ∙ known-means v is.parts.sound name (stops_in (view_of a)) (maxima_in (view_of a)) ∙ ap state_in view
