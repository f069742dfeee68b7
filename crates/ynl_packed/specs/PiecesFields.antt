-- What the fields of a list of pieces mean.
use Rattle.std.specs.Prelude.{ℕ, List, length}
use Rattle.ynl_packed.specs.declared.pieces.Pieces.TheInside.{Inside}
use Rattle.ynl_packed.specs.Pieces.{pieces_from, AreEnds}

abbrev pub pieces_of : Inside → List (List ℕ)
pieces_of p = pieces_from p.bytes.items 0 p.ends.items

abbrev pub HasEnds : Inside → Type 0
HasEnds p = AreEnds (length p.bytes.items) 0 p.ends.items
