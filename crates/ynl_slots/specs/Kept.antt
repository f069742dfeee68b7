-- How rows stand in slots: a live slot names the rows pushed before and after its own, and a free one the next free one.
use Rattle.std.specs.Prelude.{◌≡◌, ℕ, zero, suc, ◌+◌, ◌-◌, ◌^◌, ◌<◌, List, [], ◌∷◌, ◌++◌, length, map, min, get_or, set, Option, Some, None, is_some, count_by, nat_eq, slice_get, vec_capacity, if◌then◌else◌}
use Rattle.std.specs.List.{AllByRecursion}
use Rattle.ynl_slots.specs.Chain.{IsChain}
use Rattle.ynl_slots.specs.Number.{number_of}
use Rattle.ynl_slots.specs.Slots.{Numbered}
use Rattle.ynl_slots.specs.declared.chain.Links.{Links}
use Rattle.ynl_slots.specs.declared.slots.Slot.{Slot}
use Rattle.ynl_slots.specs.declared.slots.Slot.TheVariants.{Free, Live}
use Rattle.ynl_slots.specs.declared.slots.Slots.TheInside.{Inside}

module _ {T : Type 0} where
  -- the slot of a number, and a free one where there is none
  abbrev pub slot_at : List (Slot T) → ℕ → Slot T
  slot_at slots n = get_or slots n (Free 0)

  -- the row of a live slot
  abbrev pub row_of : Slot T → Option T
  row_of (Free _) = None
  row_of (Live _ _ row) = Some row

  -- the number of the row before, and after
  abbrev pub before_of : Slot T → ℕ
  before_of (Free _) = 2 ^ 32 - 1
  before_of (Live before _ _) = before

  abbrev pub after_of : Slot T → ℕ
  after_of (Free _) = 2 ^ 32 - 1
  after_of (Live _ after _) = after

  -- both, of a live slot
  abbrev pub links_of : Slot T → Option Links
  links_of (Free _) = None
  links_of (Live before after _) = Some (record { prev = number_of before; next = number_of after })

  -- a live slot with another row
  abbrev pub slot_with : Slot T → T → Slot T
  slot_with (Free next) _ = Free next
  slot_with (Live before after _) row = Live before after row

  -- or with another row before it, or after it
  abbrev pub before_set : ℕ → Slot T → Slot T
  before_set to (Free next) = Free next
  before_set to (Live _ after row) = Live to after row

  abbrev pub after_set : ℕ → Slot T → Slot T
  after_set to (Free next) = Free next
  after_set to (Live before _ row) = Live before to row

  -- the slots where one is changed, if there is such a one
  abbrev pub changed : (Slot T → Slot T) → ℕ → List (Slot T) → List (Slot T)
  changed change n slots = set slots n (change (slot_at slots n))

  -- the slots where a free one is filled, or one more is
  abbrev pub filled : ℕ → Slot T → List (Slot T) → List (Slot T)
  filled n slot slots = if nat_eq n (length slots) then slots ++ slot ∷ [] else set slots n slot

  -- the row and the links under a number
  abbrev pub row_in : List (Slot T) → ℕ → Option T
  row_in slots n = row_of (slot_at slots n)

  abbrev pub links_in : List (Slot T) → ℕ → Option Links
  links_in slots n = links_of (slot_at slots n)

  -- the row with its number, if there is one
  abbrev pub entry : ℕ → Option T → List (ℕ × T)
  entry n None = []
  entry n (Some row) = (n, row) ∷ []

  -- so many rows, each the one pushed after that before it
  abbrev pub rows_from : ℕ → ℕ → List (Slot T) → List (ℕ × T)
  rows_from zero at slots = []
  rows_from (suc count) at slots = entry at (row_in slots at) ++ rows_from count (after_of (slot_at slots at)) slots

  -- from this number on, so many free slots each name the next, and the last names the end of the slots
  abbrev pub IsFreeList : List (Slot T) → ℕ → ℕ → Type 0
  IsFreeList slots zero number = number ≡ length slots
  IsFreeList slots (suc count) number = (next : ℕ) × (slice_get slots number ≡ Some (Free next)) × IsFreeList slots count next

  -- `len` counts the live slots, and the list from `free` on has every free one
  pub record IsSound (slots : List (Slot T)) (len free : ℕ) : Type 0 where
    pub counted : len ≡ count_by is_some (map row_of slots)
    pub spare : ℕ
    pub total : len + spare ≡ length slots
    pub linked : IsFreeList slots spare free

  -- the slot that is free first can be filled, and then this one is
  abbrev pub CanFill : List (Slot T) → ℕ → ℕ → Type 0
  CanFill slots free capacity = (len : ℕ) × IsSound slots len free × (len < min capacity (2 ^ 32 - 1))

  abbrev pub Fills : List (Slot T) → ℕ → List (Slot T) → ℕ → Type 0
  Fills slots free filled next = (len : ℕ) → IsSound slots len free → IsSound filled (len + 1) next

  -- the live slots name each other in the order of the pushes
  pub record IsOrdered (slots : List (Slot T)) (len first last : ℕ) : Type 0 where
    pub numbers : List ℕ
    pub chain : IsChain (links_in slots) (record { first = number_of first; last = number_of last }) numbers
    pub count : length numbers ≡ len
    pub others : (n : ℕ) → AllByRecursion (λ m. m ≡ n → ⊥) numbers → row_in slots n ≡ None

-- how many pushes take no memory, where so many slots fit and so many are live
abbrev pub room_of : ℕ → ℕ → ℕ
room_of capacity len = min capacity (2 ^ 32 - 1) - len

-- what the slots hold, as a contract sees it
abbrev pub numbered : {T : Type 0} → Inside T → Numbered T
numbered a = record { entries = rows_from a.len a.first a.slots.items; room = room_of (vec_capacity a.slots) a.len }

-- the slots are sound and in order, and each number fits
pub record IsSlots {T : Type 0} (a : Inside T) : Type 0 where
  pub sound : IsSound a.slots.items a.len a.free
  pub ordered : IsOrdered a.slots.items a.len a.first a.last
  pub fits : length a.slots.items < 2 ^ 32
