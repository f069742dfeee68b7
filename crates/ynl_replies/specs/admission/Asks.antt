-- What is tested of an ask, by numbers.
use Rattle.std.specs.Prelude.{ℕ, Bool, not, ◌&&◌, nat_eq, nat_le, nat_lt, List, count_by, is_some}
use Rattle.ynl_resource.specs.Ranges.{most_asks}
use Rattle.ynl_tables.specs.declared.apps.asks.Ask.{Ask}
use Rattle.ynl_tables.specs.apps.Asks.{find_ask}

-- whether a partition is neither DEFAULT nor an application's home
abbrev pub is_foreign_at : ℕ → ℕ → Bool
is_foreign_at p home = not (nat_eq p 0) && not (nat_eq home p)

-- whether an ask would be one too many: its count is above 0, it is new, and there are as many of its partition as may be
abbrev pub is_one_too_many_at : ℕ → ℕ → ℕ → List Ask → Bool
is_one_too_many_at p priority count asks =
    nat_lt 0 count && not (is_some (find_ask p priority asks)) && nat_le most_asks (count_by (λ ask. nat_eq ask.partition p) asks)
