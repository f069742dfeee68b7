-- How the ledger changes with the rows: uses and totals together.
use Rattle.std.proofs.Common.{refl}
use Rattle.ynl_tables.specs.apps.Apps.{with_change}
use Rattle.ynl_tables.specs.apps.Asks.{with_ask}
use Rattle.ynl_slots.specs.Slots.{without}
use Rattle.ynl_inventory.specs.Changes.{new_app, next_clock_at, partition_of_node, ticked, with_taken, next_container}
use Rattle.std.specs.Prelude.{[], ◌∷◌, ◌++◌, length, slice_index_or}
use Rattle.ynl_cluster.specs.ledger.Changes.{PlacingRaises, StandingRaises, EndingLowers, DroppingLowers, JoiningAdds, LeavingTakes, SubmittingStays, AskingStays, TicketsStay, FinishingStays, ClocksStay, StampsStay, UsersStay}
use Rattle.ynl_cluster.proofs.ledger.Sums.{changed-totals, dropped-totals, stamp-totals, joined-totals, left-totals}
use Rattle.ynl_cluster.proofs.ledger.Uses.{changed-uses, clock-uses, dropped-uses, ended-uses, finished-uses, joined-uses, placed-uses, stood-uses, submitted-uses}

pub placing : PlacingRaises
placing v number node app role size line live way = record {
  uses = placed-uses v number node app role size line live way;
  totals =
      changed-totals v (partition_of_node v.nodes node) (ticked (λ es. es ++ (number, next_container v node app role size) ∷ [])) node
      (next_clock_at v.partitions (partition_of_node v.nodes node)) (with_change app (with_taken role) v.apps);
}

pub standing : StandingRaises
standing v p number c line live way = record {
  uses = stood-uses v p number c line live way;
  totals = dropped-totals v p (λ row. record row { containers = row.containers ++ (number, c) ∷ [] });
}

pub ending : EndingLowers
ending v sound p number c held node line way = record {
  uses = ended-uses v sound p number c held line way node;
  totals = changed-totals v p (ticked (without number)) node (next_clock_at v.partitions p) v.apps;
}

pub dropping : DroppingLowers
dropping v sound p number c held line way = record {
  uses = dropped-uses v sound p number c held line way;
  totals = dropped-totals v p (λ row. record row { containers = without number row.containers });
}

pub joining : JoiningAdds
joining v number name p size = record { uses = joined-uses v number name p size; totals = joined-totals v number name p size }

pub leaving : LeavingTakes
leaving v sound node row found = record { uses = refl; totals = left-totals v sound node row found }

pub submitting : SubmittingStays
submitting v sound number name tenant leaf user home master = record {
  uses = submitted-uses v sound number (new_app tenant (length (slice_index_or v.tenants tenant [])) leaf user home master);
  totals = refl;
}

pub asking : AskingStays
asking v app ask = record { uses = changed-uses v app (λ row. record row { asks = with_ask ask row.asks }) (λ row. refl); totals = refl }

pub ticketing : TicketsStay
ticketing v app tickets = record { uses = changed-uses v app (λ row. record row { tickets = tickets }) (λ row. refl); totals = refl }

pub finishing : FinishingStays
finishing v app tenant turn none = record { uses = finished-uses v app none; totals = refl }

pub clocks : ClocksStay
clocks v p clock = record { uses = clock-uses v p clock; totals = dropped-totals v p (λ row. record row { clock = clock }) }

pub stamps : StampsStay
stamps v node stamp = record { uses = refl; totals = stamp-totals v node stamp }

pub users : UsersStay
users v name = record { uses = refl; totals = refl }
