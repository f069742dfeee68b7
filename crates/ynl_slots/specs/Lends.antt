-- What the slots end as, where a `&mut` to a row is returned.
use Rattle.std.specs.Prelude.{ℕ}
use Rattle.std.specs.Borrow.{Lends, Fml, RattleType, MutBor}
use Rattle.ynl_slots.specs.Slots.{Numbered, with_row}
use Rattle.ynl_slots.specs.contracts.slots.Slots.{the_row}

-- once the borrow r ends, the row last written through r is under the number
abbrev pub lends_row : (T : RattleType) → MutBor (Numbered T.Denot) → ℕ → MutBor T.Denot → Fml
lends_row T s number r = Lends (the_row T) T s r (λ row. record s.now { entries = with_row number row s.now.entries })
