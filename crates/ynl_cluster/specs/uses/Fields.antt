-- What the rows of uses mean.
use Rattle.std.specs.Prelude.{List, map}
use Rattle.ynl_model.specs.declared.uses.Use.{Use}
use Rattle.ynl_cluster.specs.declared.uses.uses.Uses.TheInside.{Inside}

abbrev pub uses_of : Inside → List (List Use)
uses_of a = map (λ row. row.items) a.rows.items
