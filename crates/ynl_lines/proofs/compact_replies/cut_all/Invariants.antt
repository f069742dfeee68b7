use Rattle.std.proofs.Common.{All}
use Rattle.ynl_lines.proofs.compact_replies.cut_all.Given as goal

-- the numbers of those that were cut are in range
abbrev pub invariant-loop : goal.invariant-loop
invariant-loop g l = All g.T.Cut.is_ranged l.list.items
