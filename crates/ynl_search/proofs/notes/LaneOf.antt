-- The lane of a leaf in a cluster.
use Rattle.std.proofs.Common.{◌≡◌, ℕ, true, List, sym, ap, subst, ◌∙◌, inl, inr, arith}
use Rattle.std.specs.List.{AllByRecursion}
use Rattle.std.specs.Prelude.{slice_index_or}
use Rattle.std.specs.List.{All}
use Rattle.std.proofs.lemmas.Bool.Decides.{nat_tests}
use Rattle.std.proofs.lemmas.List.Elements.{recursion_from_All}
use Rattle.ynl_lanes.specs.table.Lanes.{lane_at}
use Rattle.ynl_slots.specs.Slots.{HasDistinctNumbers}
use Rattle.ynl_tables.specs.declared.apps.asks.Ask.{Ask}
use Rattle.ynl_lanes.specs.lane.Seats.{Seats}
use Rattle.ynl_inventory.specs.Rows.{AppRow}
use Rattle.ynl_inventory.specs.Sound.{IsAskedOn, IsSound}
use Rattle.ynl_cluster.specs.seating.Seating.{IsSeated, figures_of, shares}
use Rattle.ynl_cluster.specs.Cluster.{AskSizes, ClusterView, IsCell, IsLaneIn}
use Rattle.ynl_search.specs.notes.Lanes.{IsLaneOf}

-- an application shares where it asks
asked-shares : (p : ℕ) (row : AppRow) (asked : ℕ) → IsAskedOn row.home asked → asked ≡ p → shares p row ≡ true
asked-shares p row asked (inl home) at = grind (arith, nat_tests, home, at)
asked-shares p row asked (inr default) at = grind (arith, nat_tests, default, at)

-- the seats of the lane are those of the rows
pub lane-is : (w : ClusterView) (p q : ℕ) → IsCell w p q → (lane : Seats) → IsLaneIn w p q lane → IsSound w.rows → AskSizes w.rows → IsLaneOf w.rows p q lane.seats
lane-is w p q cell lane there sound sizes = record {
  numbers = there.seated.numbers;
  seats_are = its ∙ seated.seats;
  distinct = subst HasDistinctNumbers (sym (its ∙ seated.seats)) seated.distinct;
  tickets = λ n row found. (there.seated.apps n row found).tickets p;
  sized = λ n row found. record { master = (sizes n row found).master; asks = (sizes n row found).asks };
  sharing = λ n row found. each row row.asks (sound.apps n row found).asked;
}
  where
    seated : IsSeated (figures_of w.rows) w.rows.apps p q there.lanes
    seated = there.seated.seats p q cell.partition cell.queue

    its : lane.seats ≡ (lane_at p q there.lanes).seats
    its = ap (λ (l : Seats). l.seats) there.own

    each : (row : AppRow) (asks : List Ask) → All (λ ask. IsAskedOn row.home ask.partition) asks → AllByRecursion (λ ask. ask.partition ≡ p → shares p row ≡ true) asks
    each row asks all = recursion_from_All (λ ask. ask.partition ≡ p → shares p row ≡ true) asks (λ k d inside at. asked-shares p row (slice_index_or asks k d).partition (all k d inside) at)
