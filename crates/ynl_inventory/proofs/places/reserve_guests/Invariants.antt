use Rattle.std.proofs.Common.{◌≡◌, ◌<◌, ℕ, true, IfSome, slice_get, Some, nat_eq}
use Rattle.std.specs.Map.{lookup}
use Rattle.ynl_slots.specs.Slots.{IsLive}
use Rattle.ynl_inventory.specs.declared.partition.Partition.{Partition}
use Rattle.ynl_inventory.specs.Parts.{HasMorePlaces}
use Rattle.ynl_inventory.proofs.places.reserve_guests.Given as goal

-- places are made for the partitions so far
abbrev pub invariant-loop-p : goal.invariant-loop-p
invariant-loop-p l = record {
  more : HasMorePlaces l.app l.initial.apps l.apps;
  places : (q : ℕ) (part : Partition) → q < l.p → slice_get l.partitions q ≡ Some part → part.guests ≡ true → IfSome (lookup (nat_eq l.app) l.apps.entries) (λ row. IsLive q row.chains);
}
