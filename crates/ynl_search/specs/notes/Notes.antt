-- What is noted of queues on partitions.
use Rattle.std.specs.Prelude.{◌≡◌, ℕ, Bool, false, ◌&&◌, nat_eq, nat_lt, List, [], length, slice_get, slice_index_or, None, if◌then◌else◌}
use Rattle.std.specs.Option.{option_map_or}
use Rattle.ynl_resource.specs.Amounts.{nothing, smaller_of}
use Rattle.ynl_resource.specs.declared.amounts.Resource.{Resource}
use Rattle.ynl_search.specs.declared.notes.noted.Noted.{Noted}
use Rattle.ynl_search.specs.declared.notes.row.Row.{Row as RowPart}

-- what is noted of the queues on a partition, by number; where nothing is known the list says nothing
pub record Row : Type 0 where
  pub known : Bool
  pub notes : List Noted

-- a row as it is kept
abbrev pub row_of : RowPart → Row
row_of part = record { known = part.known; notes = part.notes.items }

-- the rows by partition
abbrev pub Table : Type 0
Table = List Row

-- nothing is noted of a queue
abbrev pub nothing_noted : Noted
nothing_noted = record { room = None; least = nothing }

-- what is noted of queues by partition, and of their guests
pub record Notes : Type 0 where
  pub own : Table
  pub guests : Row

-- nothing, without a place for anything
abbrev pub no_notes : Notes
no_notes = record { own = []; guests = record { known = false; notes = [] } }

-- whether there is a place for a queue in a row
abbrev pub has_in : Row → ℕ → Bool
has_in row q = nat_lt q (length row.notes)

-- what is noted of a queue in a row
abbrev pub noted_in : Row → ℕ → Noted
noted_in row q = if row.known then slice_index_or row.notes q nothing_noted else nothing_noted

-- whether there is a place for a queue on a partition
abbrev pub has_at : Table → ℕ → ℕ → Bool
has_at table p q = option_map_or (λ row. has_in row q) (slice_get table p) false

-- what is noted of a queue on a partition
abbrev pub noted_at : Table → ℕ → ℕ → Noted
noted_at table p q = option_map_or (λ row. noted_in row q) (slice_get table p) nothing_noted

-- what is noted changes, by partition and queue
pub record Changes (change : ℕ → ℕ → Noted → Noted) (old new : Table) : Type 0 where
  pub has : (p q : ℕ) → has_at new p q ≡ has_at old p q
  pub noted : (p q : ℕ) → noted_at new p q ≡ change p q (noted_at old p q)

-- something is noted of a queue on a partition, if there is a place for it
abbrev pub noted : Table → ℕ → ℕ → Noted → ℕ → ℕ → Noted → Noted
noted old p q more r t before = if nat_eq r p && (has_at old r t && nat_eq t q) then more else before

-- what is left of what is noted of a queue where requests may have come below it that are for so much at least
abbrev pub with_more : Resource → Noted → Noted
with_more low before = record { room = None; least = smaller_of before.least low }

-- so it is of some queues
abbrev pub more_where : (ℕ → ℕ → Bool) → Resource → ℕ → ℕ → Noted → Noted
more_where come low r t before = if come r t then with_more low before else before

-- all is forgotten
abbrev pub forgotten : ℕ → ℕ → Noted → Noted
forgotten r t before = nothing_noted

-- what is noted on a partition is forgotten
abbrev pub forgotten_on : ℕ → ℕ → ℕ → Noted → Noted
forgotten_on p r t before = if nat_eq r p then nothing_noted else before

-- nothing is noted, and there are places for so many queues on so many partitions
pub record AreEmpty (partitions queues : ℕ) (table : Table) : Type 0 where
  pub has : (p q : ℕ) → has_at table p q ≡ (nat_lt p partitions && nat_lt q queues)
  pub noted : (p q : ℕ) → noted_at table p q ≡ nothing_noted

-- the same of guests too
pub record IsEmpty (partitions queues : ℕ) (notes : Notes) : Type 0 where
  pub own : AreEmpty partitions queues notes.own
  pub has : (q : ℕ) → has_in notes.guests q ≡ nat_lt q queues
  pub guests : (q : ℕ) → noted_in notes.guests q ≡ nothing_noted

-- what is noted of a queue, with that of some queue set, if there is a place for it
abbrev pub put_at : List Noted → ℕ → Noted → ℕ → Noted
put_at notes queue noted q = if nat_lt q (length notes) && nat_eq q queue then noted else slice_index_or notes q nothing_noted
