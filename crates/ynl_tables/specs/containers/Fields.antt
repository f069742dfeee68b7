-- What the rows of containers mean.
use Rattle.std.specs.Prelude.{◌≡◌, ℕ, List, map, min, nat_eq}
use Rattle.std.specs.HashMap.{get, spare}
use Rattle.ynl_slots.specs.Slots.{HasDistinctNumbers}
use Rattle.ynl_tables.specs.declared.containers.containers.Containers.TheInside.{Inside}
use Rattle.ynl_tables.specs.containers.Table.{Table, IsRising, number_at}

-- something of each row, under the row's number
abbrev pub of_rows : {X Y : Type 0} → (X → Y) → List (ℕ × X) → List (ℕ × Y)
of_rows f rows = map (λ e. (e.0, f e.1)) rows

-- what a contract sees
abbrev pub table_of : Inside → Table
table_of a = record {
  entries = of_rows (λ row. row.container) a.rows.entries;
  of_node = of_rows (λ row. row.of_node) a.rows.entries;
  of_app = of_rows (λ row. row.of_app) a.rows.entries;
  room = min a.rows.room (spare a.numbers);
}

-- the containers have numbers and clocks of their own, in the order of placement, and are found by their clocks
pub record IsKept (a : Inside) : Type 0 where
  pub distinct : HasDistinctNumbers a.rows.entries
  pub rising : IsRising (table_of a).entries
  pub found : (clock : ℕ) → get nat_eq a.numbers clock ≡ number_at clock (table_of a).entries
