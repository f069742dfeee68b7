-- What the rows of shares mean.
use Rattle.std.specs.Prelude.{List, map}
use Rattle.ynl_inventory.specs.declared.layout.settings.shares.Share.{Share}
use Rattle.ynl_inventory.specs.declared.layout.settings.shares.Shares.TheInside.{Inside}

abbrev pub shares_of : Inside → List (List Share)
shares_of a = map (λ row. row.items) a.rows.items
