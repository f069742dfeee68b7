-- Why a call is not answered.
use Rattle.std.specs.Prelude.{◌≡◌, ℕ, ◌<◌}
use Rattle.ynl_live.specs.declared.calling.CallFault.{CallFault}
use Rattle.ynl_live.specs.declared.calling.CallFault.TheVariants.{Behind, NoMemory}

-- a journal is told to be behind only where it has fewer entries than the seat's front; of want of memory nothing is said
abbrev pub IsFaultAt : ℕ → CallFault → Type 0
IsFaultAt front (Behind entered) = entered < front
IsFaultAt front NoMemory = Unit {0}

-- the same, where the journal's length is known, which is then told
abbrev pub IsFaultBehind : ℕ → ℕ → CallFault → Type 0
IsFaultBehind len front (Behind entered) = (entered < front) × (entered ≡ len)
IsFaultBehind len front NoMemory = Unit {0}
