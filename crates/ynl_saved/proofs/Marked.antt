-- The lines of stops and of maxima keep what is known of a state, and it is known of the state before any line.
use Rattle.std.proofs.Common.{◌≡◌, ℕ, true, false, List, map, refl, arith, ◌∙◌}
use Rattle.std.specs.Prelude.{IsTrue, nat_le, nat_lt}
use Rattle.std.proofs.lemmas.Bool.Decides.{nat_tests}
use Rattle.ynl_resource.specs.declared.labels.Label.{Label}
use Rattle.ynl_resource.specs.declared.paths.Path.{Path}
use Rattle.ynl_model.specs.Accepted.{is_accepted}
use Rattle.ynl_model.specs.Cluster.{State, opening}
use Rattle.ynl_model.specs.Queues.{Config, capacity_on, may_use, set_maximum, set_stop}
use Rattle.ynl_model.specs.declared.queues.MaximumRow.{MaximumRow}
use Rattle.ynl_model.specs.declared.queues.StopRow.{StopRow}
use Rattle.ynl_saved.specs.Restoring.{nothing_restored}
use Rattle.ynl_laws.proofs.Lists.{map-map}
use Rattle.ynl_saved.proofs.Configured.{limits}
use Rattle.ynl_saved.proofs.Marks.{run}
use Rattle.ynl_saved.proofs.Shapes.{Shaped, shaped-goes, shaped-opening}
use Rattle.ynl_saved.proofs.Stamps.{stamped-same}
use Rattle.ynl_saved.proofs.Tellable.{IsTellable, tellable-opening}

module _ (c : Config) (accepted : IsTrue (is_accepted c)) where
  -- of stops and maxima all is known that is known of their rows
  tellable-marks : (s : State) (stops : List StopRow) (maxima : List MaximumRow) → Shaped c (record s { stops = stops; maxima = maxima }) → IsTellable c s →
      IsTellable c (record s { stops = stops; maxima = maxima })
  tellable-marks s stops maxima shaped h =
      let base = h.base in
      let kept = base.kept in
      let entitled = base.entitled in
      let suited = h.suited in
      let leaved = suited.leaved in
      record {
        base = record {
          kept = record { apps = kept.apps; uses = kept.uses };
          finds = base.finds;
          apart = base.apart;
          ordered = base.ordered;
          entitled = record { apps = entitled.apps; containers = entitled.containers };
        };
        stamped = stamped-same c (limits c accepted) s (record s { stops = stops; maxima = maxima }) refl refl h.stamped;
        suited = record { leaved = record { shaped = shaped; rows = leaved.rows; names = leaved.names }; suits = suited.suits; sole = suited.sole };
        housed = h.housed;
        distinct = h.distinct;
      }

  -- after the line of a stop
  pub tellable-stop : (s : State) (queue : Path) → IsTellable c s → IsTellable c (record s { stops = set_stop queue true s.stops })
  tellable-stop s queue h =
      let suited = h.suited in
      let leaved = suited.leaved in
      let shape = shaped-goes c in
      tellable-marks s (set_stop queue true s.stops) s.maxima (shape.stops s queue true leaved.shaped) h

  -- after the line of a maximum
  pub tellable-maximum : (s : State) (queue : Path) (label : Label) (share : ℕ) → may_use c queue label ≡ true → nat_le (capacity_on c queue label) share ≡ true → IsTellable c s →
      IsTellable c (record s { maxima = set_maximum queue label share s.maxima })
  tellable-maximum s queue label share may high h =
      let suited = h.suited in
      let leaved = suited.leaved in
      let shape = shaped-goes c in
      tellable-marks s s.stops (set_maximum queue label share s.maxima) (shape.maxima s queue label share leaved.shaped may (no-less (capacity_on c queue label) share high)) h
    where
      no-less : (m n : ℕ) → nat_le m n ≡ true → nat_lt n m ≡ false
      no-less m n e = grind (arith, nat_tests, e)

  -- it is known of the state before any line
  pub tellable-nothing : IsTellable c (nothing_restored c).state
  tellable-nothing =
      let first = shaped-opening c in
      tellable-marks (opening c) (map run (opening c).stops) (opening c).maxima
      (record {
        partitions = first.partitions;
        leaves = first.leaves;
        stops = map-map (λ (row : StopRow). row.queue) run (opening c).stops ∙ first.stops;
        maxima = first.maxima;
        shares = first.shares;
      }) (tellable-opening c accepted)
