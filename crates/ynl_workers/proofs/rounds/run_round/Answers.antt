use Rattle.std.proofs.Common.{◌≡◌, List, length, map, subst, sym, ap, ◌∙◌, arith}
use Rattle.ynl_workers.specs.declared.working.WorkerEnd.{WorkerEnd}
use Rattle.ynl_workers.specs.Rounds.{IsRound}
use Rattle.ynl_workers.proofs.Beginning.{IsRound-from_each, whole_written}
use Rattle.ynl_workers.proofs.rounds.run_round.Goals as goal

pub returns-clause-round : goal.returns-clause-round
returns-clause-round g c =
    let free = g.G.Gate.is_free c.args.gate.now in
    let ends = c.ready-ends.result in
    let was = c.as_mut_slice.result.now in
    let now = c.run_all.new.ends in
    let N : List WorkerEnd → Type 0 = λ xs. IsRound free c.args.seats.items c.args.lists.now xs in
    let seats : map (λ (w : WorkerEnd). w.seat) was ≡ c.args.seats.items = ap (λ (es : List WorkerEnd). map (λ w. w.seat) es) c.as_mut_slice.ensures.value ∙ c.ready-ends.ensures.seats in
    let round = IsRound-from_each free c.args.seats.items c.args.lists.now was now seats c.run_all.ensures in
    let kept : length now ≡ length ends.items = omega (arith, c.run_all.auto.ends, c.as_mut_slice.ensures.len, ends.ok.0) in
    subst N (sym (whole_written ends.len now ends.items kept (omega (arith, ends.ok.0)))) round
