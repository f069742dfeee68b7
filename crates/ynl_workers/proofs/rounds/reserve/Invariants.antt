use Rattle.std.proofs.Common.{◌≡◌, ◌*◌, ◌≤◌, All, [], vec_len, vec_capacity}
use Rattle.ynl_workers.proofs.rounds.reserve.Given as goal

abbrev pub invariant-loop : goal.invariant-loop
invariant-loop l =
    (vec_len l.lists ≡ l.counter) × (l.most ≡ 2 * l.longest) × All (λ v. (v.items ≡ []) × (2 * l.longest ≤ vec_capacity v)) l.lists.items
