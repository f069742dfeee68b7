use Rattle.std.proofs.Common.{◌≡◌, drop}
use Rattle.std.specs.List.{list_any}
use Rattle.std.specs.Str.{bytes_eq}
use Rattle.ynl_config.proofs.keys.is_among.Given as goal

abbrev pub invariant-loop-i : goal.invariant-loop-i
invariant-loop-i l = list_any (λ known. bytes_eq l.key known.now) l.keys ≡ list_any (λ known. bytes_eq l.key known.now) (drop l.i l.keys)
