use Rattle.std.proofs.Common.{◌≡◌, ◌+◌, drop}
use Rattle.std.specs.List.{position_or_len}
use Rattle.ynl_tables.specs.apps.Asks.{is_ask_of}
use Rattle.ynl_tables.proofs.apps.asks.place_of.Given as goal

abbrev pub invariant-loop-i : goal.invariant-loop-i
invariant-loop-i l = l.i + position_or_len (is_ask_of l.partition l.priority) (drop l.i l.asks) ≡ position_or_len (is_ask_of l.partition l.priority) l.asks
