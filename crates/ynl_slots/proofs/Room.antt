-- How many pushes take no memory, after each change.
use Rattle.std.proofs.Common.{ℕ, ◌-◌, ◌^◌, ◌<◌, arith}
use Rattle.ynl_slots.specs.Kept.{room_of}

-- what room for one says
pub room_bounds : (capacity len : ℕ) → 0 < room_of capacity len → (len < capacity) × (len < 2 ^ 32 - 1)
room_bounds capacity len room = (omega arith, omega arith)
