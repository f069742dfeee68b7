use Rattle.std.proofs.Common.{◌≡◌, take, true}
use Rattle.ynl_resource.specs.Amounts.{fits_in}
use Rattle.ynl_inventory.specs.layout.settings.Shares.{maximum_at, reached}
use Rattle.ynl_inventory.proofs.layout.settings.shares.Shares.most.Given as goal

abbrev pub invariant-loop-queue : goal.invariant-loop-queue
invariant-loop-queue l = record {
  so_far : l.above ≡ reached (maximum_at l.self l.partition) (take l.queue-index l.way) l.total;
  within : fits_in l.above l.total ≡ true;
}
