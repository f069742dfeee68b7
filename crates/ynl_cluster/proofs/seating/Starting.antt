-- The lanes before any event, the seats under their tickets, and an application that is submitted.
use Rattle.std.proofs.Common.{◌≡◌, ◌<◌, ℕ, zero, suc, true, List, [], ◌∷◌, length, map, slice_get, Option, Some, refl, sym, ap, subst, ◌∙◌, arith}
use Rattle.std.specs.Prelude.{replicate, slice_index_or}
use Rattle.std.specs.List.{AllByRecursion}
use Rattle.std.specs.Option.{option_map_or}
use Rattle.std.proofs.lemmas.List.{get_or-replicate, length-replicate}
use Rattle.std.proofs.lemmas.Option.{none-some}
use Rattle.ynl_resource.specs.Names.{root}
use Rattle.ynl_resource.specs.declared.labels.Label.{Label}
use Rattle.ynl_resource.specs.declared.amounts.Resource.{Resource}
use Rattle.ynl_model.specs.Nodes.{Labels, partition_labels}
use Rattle.ynl_lanes.specs.declared.lane.kinds.Both.{Both}
use Rattle.ynl_lanes.specs.lane.Seats.{Seat, Seats, nothing_waits}
use Rattle.ynl_lanes.specs.table.Lanes.{no_seats}
use Rattle.ynl_inventory.specs.Rows.{PartitionRow}
use Rattle.ynl_inventory.specs.Changes.{new_app}
use Rattle.ynl_inventory.specs.Meaning.{submitted_to}
use Rattle.ynl_inventory.specs.Opening.{opening_partition, opening_rows}
use Rattle.ynl_cluster.specs.seating.Laws.{AreFound, IsSeatedFirst, IsSubmittedLast}
use Rattle.ynl_cluster.specs.seating.Seating.{figures_of, is_shared, user_use, waits_at}
use Rattle.ynl_cluster.proofs.seating.OneSeat.{own-found}

-- no partition has containers
no-containers : (labels : Labels) (all : List Label) (p : ℕ) → option_map_or (λ (row : PartitionRow). row.containers) (slice_get (map (opening_partition labels) all) p) [] ≡ []
no-containers labels [] p = refl
no-containers labels (label ∷ all) zero = refl
no-containers labels (label ∷ all) (suc p) = no-containers labels all p

pub is-seated_first : IsSeatedFirst
is-seated_first c = record {
  numbers = tt;
  default = omega arith;
  shared = λ p. subst (AllByRecursion (λ e. is_shared [] p e ≡ true)) (sym (no-containers c.labels (partition_labels c.labels) p)) tt;
  apps = λ n row found. absurd (none-some row found);
  seats = λ p q has number.
      let row-is = get_or-replicate (length (opening_rows c).partitions) p lane-row [] has in
      record {
        there = record {
          partition = subst (λ n. p < n) (sym (length-replicate (length (opening_rows c).partitions) lane-row)) has;
          queue = subst (λ row. q < length row) (sym row-is) (subst (λ n. q < n) (sym (length-replicate (length (root ∷ (opening_rows c).paths)) no_seats)) number);
        };
        seats =
            ap (λ (l : Seats). l.seats)
            (ap (λ row. slice_index_or row q no_seats) row-is ∙ get_or-replicate (length (root ∷ (opening_rows c).paths)) q no_seats no_seats number);
        distinct = tt;
      };
}
  where
    lane-row : List Seats
    lane-row = replicate (length (root ∷ (opening_rows c).paths)) no_seats

pub are-found : AreFound
are-found v lanes seated n row found p sat =
    own-found (figures_of v) v lanes seated n row found p sat ∙ ap seat (ap (λ o. option_map_or (waits_at v p n) o nothing_waits) found)
  where
    seat : Both Resource → Option Seat
    seat waits = Some (record { app = n; user = row.user; used = user_use v p row.leaf row.user; waits = waits })

pub is-submitted_last : IsSubmittedLast
is-submitted_last v number name tenant leaf user home master lanes seated unused home-there leaf-there room = record {
  before = v;
  row = new_app tenant (length (submitted_to v.tenants tenant)) leaf user home master;
  apps = refl;
  paths = refl;
  partitions = refl;
  unused = unused;
  home = home-there;
  leaf = leaf-there;
  seated = seated;
  room = room;
}
