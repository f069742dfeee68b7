use Rattle.std.proofs.Common.{◌≡◌, ◌*◌, ◌≤◌, All, List, [], length, arith, subst, sym, ap, Vec, Global, vec_capacity, Some}
use Rattle.std.proofs.lemmas.List.Elements.{All-pop, All-push}
use Rattle.ynl_live.specs.declared.receipts.Receipt.{Receipt}
use Rattle.ynl_workers.specs.declared.working.End.TheVariants.{Whole}
use Rattle.ynl_workers.specs.declared.working.WorkerEnd.{WorkerEnd}
use Rattle.ynl_workers.specs.Rounds.{IsReady}
use Rattle.ynl_workers.proofs.Beginning.{seats_move}
use Rattle.ynl_workers.proofs.rounds.ready.Goals as goal

pub loop-seat-preserved : goal.loop-seat-preserved
loop-seat-preserved c =
    let was = c.loop-seat.invariant in
    let w : WorkerEnd = record { seat = c.in-Some.seat; receipts = c.in-Some-pop.receipts; end = Whole } in
    let next = c.in-Some.ensures.steps in
    let pop = c.in-Some-pop.ensures in
    let push = c.push_reserved.ensures in
    let lens = ap length next.0 in
    let R : Vec Receipt Global → Type 0 = λ v. (v.items ≡ []) × (2 * c.args.longest ≤ vec_capacity v) in
    let A : List WorkerEnd → Type 0 = λ es. All (IsReady (2 * c.args.longest)) es in
    let taken = All-pop R c.loop-seat.reserved.items c.pop.new.self.items (Some c.in-Some-pop.receipts) pop.items was.receipts in
    let full : R c.in-Some-pop.receipts = taken.1 in
    record {
      seats = seats_move c.loop-seat.ends.items _ w _ _ _ push.items next.0 was.seats;
      reserved_left = omega (arith, pop.len, lens, was.reserved_left);
      receipts = taken.0;
      ready = subst A (sym push.items) (All-push (IsReady (2 * c.args.longest)) c.loop-seat.ends.items w was.ready (record { empty = full.0; reserved = full.1 }));
      capacity = omega (arith, push.len, push.capacity, lens, was.capacity);
    }
