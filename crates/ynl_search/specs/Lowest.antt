-- The ask of an application that comes first.
use Rattle.std.specs.Prelude.{Bool, true, nat_le, nat_lt, List, fold, Option, None, Some, if◌then◌else◌}
use Rattle.ynl_tables.specs.declared.apps.asks.Ask.{Ask}

-- of the best so far and one more that of the lower priority number, and the best so far where they have one
abbrev pub lower_of : Option Ask → Ask → Option Ask
lower_of None ask = Some ask
lower_of (Some best) ask = if nat_le best.priority ask.priority then Some best else Some ask

-- whether an ask has a lower priority number than the best so far, if there is one
abbrev pub is_lower : Option Ask → Ask → Bool
is_lower None ask = true
is_lower (Some best) ask = nat_lt ask.priority best.priority

-- the best so far, with one more ask, if that passes a test
abbrev pub with_one : (Ask → Bool) → Option Ask → Ask → Option Ask
with_one test best ask = if test ask then lower_of best ask else best

-- of the asks that pass a test that of the lowest priority number
abbrev pub lowest : (Ask → Bool) → List Ask → Option Ask
lowest test asks = fold (with_one test) None asks
