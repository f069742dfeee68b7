-- What stands in the objects that are written.
use Rattle.std.specs.Prelude.{ℕ}
use Rattle.serde_json.specs.Data.{Data, number, unsigned}

-- a number
abbrev pub count : ℕ → Data
count n = number (unsigned n)
