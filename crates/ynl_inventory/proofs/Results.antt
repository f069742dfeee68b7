-- Results that fail.
use Rattle.std.specs.Prelude.{OnErr}
use Rattle.std.proofs.Common.{Result, Ok, Err}

-- what is so in any case is so where a result is an error
pub on-err : {T E : Type 0} (P : Type 0) → P → (r : Result T E) → OnErr r P
on-err P p (Ok x) = tt
on-err P p (Err e) = p
