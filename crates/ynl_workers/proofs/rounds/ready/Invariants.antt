use Rattle.std.proofs.Common.{◌≡◌, ◌+◌, ◌*◌, ◌≤◌, ◌++◌, All, [], length, vec_len, vec_capacity}
use Rattle.std.specs.Prelude.{map}
use Rattle.std.specs.Vec.Iter.{into_iter_items}
use Rattle.ynl_workers.specs.Rounds.{IsReady}
use Rattle.ynl_workers.proofs.rounds.ready.Given as goal

abbrev pub invariant-loop-seat : goal.invariant-loop-seat
invariant-loop-seat l = record {
  seats : map (λ w. w.seat) l.ends.items ++ into_iter_items l.seat-iterator ≡ l.fn.seats.items;
  reserved_left : vec_len l.reserved ≡ length (into_iter_items l.seat-iterator);
  receipts : All (λ v. (v.items ≡ []) × (2 * l.longest ≤ vec_capacity v)) l.reserved.items;
  ready : All (IsReady (2 * l.longest)) l.ends.items;
  capacity : vec_len l.ends + length (into_iter_items l.seat-iterator) ≤ vec_capacity l.ends;
}
