use Rattle.std.proofs.Common.{◌≡◌, take, map, IfOk}
use Rattle.ynl_config.specs.Access.{names_in, AreSeen}
use Rattle.ynl_config.specs.Earliest.{items_in}
use Rattle.ynl_config.proofs.listed.names_in.Given as goal

abbrev pub invariant-loop-part : goal.invariant-loop-part
invariant-loop-part l = (items_in l.names ≡ names_in (map (λ part. part.now) (take l.part-index l.parts))) × IfOk l.names (λ names. AreSeen l.seen names.items)
