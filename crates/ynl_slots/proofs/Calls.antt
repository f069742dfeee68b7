-- What the calls read at a number.
use Rattle.std.proofs.Common.{◌≡◌, ℕ, List, get_or, Option, Bor, None, Some, IfSome, option_copied, sym, ap, ◌∙◌}
use Rattle.std.proofs.lemmas.Option.{get_or_from_slice_get, none-some}
use Rattle.ynl_slots.specs.declared.slots.Slot.{Slot}
use Rattle.ynl_slots.specs.declared.slots.Slot.TheVariants.{Free, Live}
use Rattle.ynl_slots.specs.Kept.{row_of, row_in, rows_from, IsOrdered}
use Rattle.ynl_slots.specs.Slots.{IsLive, IsOnly}
use Rattle.ynl_slots.proofs.Lookups.{only_from_distinct}
use Rattle.ynl_slots.proofs.Order.{IsHeld, held_at, lookup_is, distinct}

module _ {T : Type 0} where
  -- a slot that was read at a number with a row holds that
  pub held_slot : (k : ℕ) (slots : List (Slot T)) (slot : Slot T) (held : IsHeld slots k) → slot ≡ get_or slots k slot → slot ≡ Live held.before held.after held.row
  held_slot k slots slot held read = read ∙ get_or_from_slice_get slots k (Live held.before held.after held.row) slot held.found

  pub held_row : (slots : List (Slot T)) (k : ℕ) (held : IsHeld slots k) (slot : Slot T) → slot ≡ get_or slots k slot → row_of slot ≡ row_in slots k
  held_row slots k held slot read =
      ap row_of (held_slot k slots slot held read) ∙ sym (ap row_of (get_or_from_slice_get slots k _ (Free 0) held.found))

  -- so it is not free
  pub held_not_free : (slots : List (Slot T)) (k : ℕ) (held : IsHeld slots k) (next : ℕ) (slot : Slot T) → slot ≡ get_or slots k slot → slot ≡ Free next → ⊥
  held_not_free slots k held next slot read is = none-some held.row (ap row_of (sym is ∙ held_slot k slots slot held read))

  module _ (slots : List (Slot T)) (len first last : ℕ) (order : IsOrdered slots len first last) (k : ℕ) where
    -- what `get` returns
    pub only_found : (o : Option (Bor T)) → option_copied o ≡ row_in slots k → IfSome o (λ r. IsOnly k r.now (rows_from len first slots))
    only_found None read = tt
    only_found (Some r) read =
        only_from_distinct k r.now (rows_from len first slots) (distinct slots len first last order) (lookup_is slots len first last order k ∙ sym read)

    -- a slot that was read at a live number has its row
    pub live_row : (slot : Slot T) → IsLive k (rows_from len first slots) → slot ≡ get_or slots k slot → row_of slot ≡ row_in slots k
    live_row slot live read = held_row slots k (held_at slots len first last order k live) slot read

    pub not_free : (next : ℕ) (slot : Slot T) → IsLive k (rows_from len first slots) → slot ≡ get_or slots k slot → slot ≡ Free next → ⊥
    not_free next slot live read is = held_not_free slots k (held_at slots len first last order k live) next slot read is
