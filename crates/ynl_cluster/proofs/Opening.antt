-- The parts of a cluster before any event.
use Rattle.std.proofs.Common.{◌≡◌, ℕ, ◌+◌, ◌<◌, ◌≤◌, ◌^◌, Bool, List, [], ◌∷◌, length, map, get_or, replicate, sym, ap, subst, ◌∙◌, arith}
use Rattle.std.proofs.lemmas.List.{get_or-map, length-map}
use Rattle.std.proofs.lemmas.Option.{none-some}
use Rattle.ynl_resource.specs.Names.{root}
use Rattle.ynl_resource.specs.declared.labels.Label.{Label}
use Rattle.ynl_resource.specs.declared.labels.Label.TheVariants.{Named, Unlabelled}
use Rattle.ynl_model.specs.declared.uses.Use.{Use}
use Rattle.ynl_model.specs.declared.labels.LabelRow.{LabelRow}
use Rattle.ynl_model.specs.Cluster.{opening}
use Rattle.ynl_model.specs.Nodes.{Labels, partition_labels}
use Rattle.ynl_model.specs.Queues.{Config, QueueRow}
use Rattle.ynl_inventory.specs.layout.Paths.{HasNumber, paths_of}
use Rattle.ynl_inventory.specs.declared.layout.settings.shares.Share.{Share}
use Rattle.ynl_inventory.specs.layout.settings.Shares.{configured_on, configured_share, configured_shares, HasCell}
use Rattle.ynl_inventory.proofs.layout.settings.SharesMean.{configured-are, maxima-opening}
use Rattle.ynl_inventory.proofs.layout.settings.StopsMean.{stops-opening}
use Rattle.ynl_cluster.specs.uses.Tallies.{no_use, IsTable}
use Rattle.ynl_lanes.specs.lane.Seats.{Seats}
use Rattle.ynl_lanes.specs.table.Lanes.{no_seats}
use Rattle.ynl_inventory.specs.Rows.{Rows}
use Rattle.ynl_inventory.specs.Opening.{opening_partition, opening_rows, IsOpening}
use Rattle.ynl_inventory.specs.Sound.{IsFor, IsSound}
use Rattle.ynl_cluster.specs.declared.ledger.totals.Total.{Total}
use Rattle.ynl_cluster.specs.ledger.Totals.{no_total}
use Rattle.ynl_cluster.proofs.ledger.Opened.{opened}
use Rattle.ynl_cluster.specs.seating.Seating.{AreSeated}
use Rattle.ynl_cluster.proofs.seating.Starting.{is-seated_first}
use Rattle.ynl_inventory.specs.layout.settings.Meaning.{maxima_of, stops_of}
use Rattle.ynl_cluster.specs.Cluster.{ClusterView, maxima_in, state_in, stops_in}
use Rattle.ynl_cluster.specs.Whole.{AreParts, AreSettings}
use Rattle.ynl_cluster.proofs.Numbers.{opening-numbers}

-- root is one of the queues
pub many-queues : (c : Config) (n : ℕ) → n ≡ length c.queues → n + 1 ≡ length (root ∷ paths_of c)
many-queues c n is = omega (arith, is, length-map c.queues (λ (row : QueueRow). row.path))

-- DEFAULT is one of the partitions
pub many-labels : (labels : Labels) (n : ℕ) → n ≡ length labels.rows → n + 1 ≡ length (partition_labels labels)
many-labels labels n is = omega (arith, is, length-map labels.rows (λ (row : LabelRow). Named row.name))

module _ (c : Config) where
  -- the configured shares have a cell for each partition and queue
  all-cells : (p q : ℕ) → p < length (partition_labels c.labels) → HasNumber (paths_of c) q → HasCell (configured_shares c) p q
  all-cells p q inside there = record {
    partition = subst (λ (n : ℕ). p < n) (sym (length-map (partition_labels c.labels) (configured_on c))) inside;
    queue = subst (λ (row : List Share). q < length row) (sym (get_or-map (configured_on c) (partition_labels c.labels) p Unlabelled [] inside)) (many (get_or (partition_labels c.labels) p Unlabelled));
  }
    where
      many : (label : Label) → q < length (configured_on c label)
      many label = omega (arith, there, length-map c.queues (λ (row : QueueRow). row.path), length-map c.queues (λ (row : QueueRow). configured_share c label row.path))

  -- the settings are the configured ones
  pub settings-opened : (shares : List (List Share)) (stops : List Bool) → shares ≡ configured_shares c → stops ≡ map (λ row. row.stopped) c.queues → AreSettings c shares stops
  settings-opened shares stops shares-are stops-are =
      subst (λ s. AreSettings c s stops) (sym shares-are)
      (record {
        cells = all-cells;
        capacities = λ p q inside below there. (configured-are c).capacity p q inside (below, there);
        marks = ap length stops-are ∙ length-map c.queues (λ (row : QueueRow). row.stopped) ∙ sym (length-map c.queues (λ (row : QueueRow). row.path));
      })

  -- the other parts are those of the rows without containers
  pub parts-opened : (v : Rows) (uses : List (List Use)) (totals : List Total) (lanes : List (List Seats)) → v ≡ opening_rows c → IsFor c v → IsSound v
      → IsTable (length (partition_labels c.labels)) (length (root ∷ paths_of c)) no_use uses → totals ≡ replicate (length (partition_labels c.labels)) no_total
      → lanes ≡ replicate (length (partition_labels c.labels)) (replicate (length (root ∷ paths_of c)) no_seats) → length (partition_labels c.labels) ≤ 2 ^ 8 → length (root ∷ paths_of c) ≤ 2 ^ 32 → AreParts c v uses totals lanes
  parts-opened v uses totals lanes rows configured sound table none empty partitions queues =
      subst (λ v. AreParts c v uses totals lanes) (sym rows)
      (record {
        configured = subst (IsFor c) rows configured;
        sound = subst IsSound rows sound;
        bounded = (opened c).bounded;
        sizes = λ n row found. absurd (none-some row found);
        numbers = opening-numbers c partitions queues;
        uses_are = (opened c).uses uses table;
        totals_are = none ∙ sym (opened c).totals;
        seated = subst (AreSeated (opening_rows c)) (sym (empty ∙ ap (λ n. replicate n (replicate (length (root ∷ paths_of c)) no_seats)) (sym (length-map (partition_labels c.labels) (opening_partition c.labels))))) (is-seated_first c);
      })

  -- they mean the model's opening state
  pub opened-means : (w : ClusterView) → w.config ≡ c → IsOpening c w.rows → w.shares ≡ configured_shares c → w.stops ≡ map (λ row. row.stopped) c.queues → state_in w ≡ opening c
  opened-means w config means shares stops =
      means (stops_in w) (maxima_in w)
      ∙ (λ i. record (opening c) {
        stops = ((λ j. stops_of (paths_of (config j)) (stops j)) ∙ stops-opening c.queues) i;
        maxima = ((λ j. maxima_of (paths_of (config j)) (partition_labels (config j).labels) (shares j)) ∙ maxima-opening c) i;
      })
