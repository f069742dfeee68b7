use Rattle.std.proofs.Common.{◌≡◌, ◌+◌, drop, nat_eq, ℕ}
use Rattle.std.specs.List.{position_or_len}
use Rattle.ynl_slots.specs.declared.chain.Chain.{Chain}
use Rattle.ynl_tables.proofs.apps.chains.place_of.Given as goal

abbrev pub invariant-loop-i : goal.invariant-loop-i
invariant-loop-i l = l.i + position_or_len (λ (row : ℕ × Chain). nat_eq l.partition row.0) (drop l.i l.rows) ≡ position_or_len (λ (row : ℕ × Chain). nat_eq l.partition row.0) l.rows
