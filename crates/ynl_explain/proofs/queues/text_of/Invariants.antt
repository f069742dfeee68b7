use Rattle.std.proofs.Common.{◌≡◌, ◌∷◌, take, codes, string_bytes}
use Rattle.std.specs.List.{join_with_byte}
use Rattle.ynl_explain.proofs.queues.text_of.Given as goal

abbrev pub invariant-loop-name : goal.invariant-loop-name
invariant-loop-name l = string_bytes l.text ≡ join_with_byte 46 (codes "root" ∷ take l.name-index l.name-items)
