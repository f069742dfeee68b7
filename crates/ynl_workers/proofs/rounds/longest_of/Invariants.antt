use Rattle.std.proofs.Common.{◌≤◌, All, length, take}
use Rattle.ynl_workers.proofs.rounds.longest_of.Given as goal

abbrev pub invariant-loop-list : goal.invariant-loop-list
invariant-loop-list l = All (λ v. length v.items ≤ l.longest) (take l.list-index l.lists)
