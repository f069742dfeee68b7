use Rattle.std.proofs.Common.{◌∷◌, take, codes}
use Rattle.std.specs.Fmt.{HasWritten, IsPlainFormatter}
use Rattle.std.specs.List.{join_with_byte}
use Rattle.ynl_resource.proofs.paths.PathDisplay.fmt.Given as goal

-- what is written so far
abbrev pub invariant-loop-name : goal.invariant-loop-name
invariant-loop-name g l =
    IsPlainFormatter l.fn.f → HasWritten g.W.Write.write_str_gives l.fn.f (join_with_byte 46 (codes "root" ∷ take l.name-index l.name-items)) l.f
