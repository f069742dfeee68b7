use Rattle.std.proofs.Common.{◌≡◌, ℕ, take, fold, true}
use Rattle.ynl_resource.specs.Amounts.{scale_floor, fits_in}
use Rattle.ynl_resource.specs.Ranges.{whole}
use Rattle.ynl_resource.specs.declared.paths.Path.{Path}
use Rattle.ynl_resource.specs.Names.{way_to}
use Rattle.ynl_queues.specs.Shares.{IsShareOf}
use Rattle.ynl_queues.proofs.amounts.nested_floor.Given as goal

abbrev pub invariant-loop-depth : goal.invariant-loop-depth
invariant-loop-depth g l = record {
  callable : goal.F-IsAlwaysCallable g l.share;
  so_far : (f : Path → ℕ) → IsShareOf (goal.F-post g l.share) f
      → l.above ≡ fold (λ above step. scale_floor above (f step) whole) l.amount (take l.depth (way_to l.queue));
  within : fits_in l.above l.amount ≡ true;
}
