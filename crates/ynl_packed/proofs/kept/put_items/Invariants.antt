use Rattle.std.proofs.Common.{◌≡◌, ◌++◌, length, take}
use Rattle.std.specs.Prelude.{All}
use Rattle.std.specs.List.{flat_map}
use Rattle.ynl_packed.specs.Spelling.{number_bytes}
use Rattle.ynl_packed.proofs.kept.put_items.Given as goal

abbrev pub invariant-loop-item : goal.invariant-loop-item
invariant-loop-item g l =
    (l.to.items ≡ (l.fn.to.items ++ number_bytes (length l.list)) ++ flat_map g.T.Kept.bytes (take l.item-index l.list)) × All g.T.Kept.fits (take l.item-index l.list)
