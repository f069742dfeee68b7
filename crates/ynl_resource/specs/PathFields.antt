-- A path in its place for seven names below root.
use Rattle.std.specs.Prelude.{◌≡◌, ℕ, List, take, length, codes}
use Rattle.ynl_resource.specs.declared.paths.Path.TheInside.{Inside}
use Rattle.ynl_resource.specs.Padded.{padded, IsPadded, padded-take, length-kept}

-- what stands in the place after the names
abbrev pub filler : List ℕ
filler = codes "root"

-- the names that stand in the place
abbrev pub names_of : Inside → List (List ℕ)
names_of p = take p.len p.names

-- the place with names in it
abbrev pub fields_of : List (List ℕ) → Inside
fields_of names = record { names = padded 7 filler names; len = length names }

-- names stand in the place, and the filler after them
abbrev pub IsKept : Inside → Type 0
IsKept p = IsPadded 7 filler p.names p.len

-- the names of a place give the place back
pub fields_back : (p : Inside) → IsKept p → fields_of (names_of p) ≡ p
fields_back p h = λ i. record { names = padded-take 7 filler p.names p.len h i; len = length-kept 7 filler p.names p.len h i }
