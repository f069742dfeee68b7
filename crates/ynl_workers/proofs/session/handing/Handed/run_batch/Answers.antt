use Rattle.std.proofs.Common.{◌≡◌, ◌≢◌, sym, subst, arith, List, Vec, All, ◌∙◌}
use Rattle.std.specs.declared.alloc.Global.{Global}
use Rattle.ynl_resource.specs.declared.names.Name.{Name}
use Rattle.ynl_workers.specs.declared.working.WorkerEnd.{WorkerEnd}
use Rattle.ynl_workers.specs.declared.working.End.TheVariants.{Halted}
use Rattle.ynl_workers.specs.session.Dealt.{AreDealt}
use Rattle.ynl_workers.specs.session.Handed.{AreNotHalted}
use Rattle.ynl_workers.proofs.session.Rounds.{AddsRounds-if, OnOk-not_halted}
use Rattle.ynl_workers.proofs.session.handing.Handed.run_batch.Goals as goal

-- where no worker was halted before, each has the nodes that it was dealt
pub returns-clause-adds : goal.returns-clause-adds
returns-clause-adds g c =
    let ran = c.in_ok-ends.ensures in
    let free = g.G.Gate.is_free c.args.gate.now in
    let D : List (Vec Name Global) → Type 0 = λ lists. AreDealt c.args.nodes.now lists in
    let same : free → c.deref-2.result.now ≡ c.in_ok-dealt.dealt.items =
    λ is. c.deref-2.ensures.value ∙ c.leave_out.ensures.none (subst AreNotHalted (sym c.deref.ensures.value) (c.requires.free is)) in
    AddsRounds-if c.take.result free c.in_ok-seats.seats.items c.args.nodes.now c.deref-2.result.now c.in_ok-ends.ends.items c.args.self.now.lists.items c.take.new.self.lists.items
    (omega (arith, ran.len, c.in_ok-seats.seats.ok.0, c.in_ok-ends.ends.ok.0)) (omega (arith, ran.len, c.in_ok-ends.ends.ok.0, c.in_ok-seats.ensures, c.len.ensures, c.deref-2.ensures.len))
    (λ is. subst D (sym (same is)) c.in_ok-dealt.ensures.dealt) ran.round c.take.ensures.ended c.take.ensures.lists

pub returns-clause-free : goal.returns-clause-free
returns-clause-free g c =
    let ran = c.in_ok-ends.ensures in
    let N : List WorkerEnd → Type 0 = λ ends. All (λ worker. worker.end ≢ Halted) ends in
    OnOk-not_halted c.take.result (g.G.Gate.is_free c.args.gate.now) c.in_ok-seats.seats.items c.deref-2.result.now c.in_ok-ends.ends.items c.args.halted.now.items c.note_halted.new.halted.items
    (omega (arith, ran.len, c.in_ok-seats.seats.ok.0, c.in_ok-ends.ends.ok.0)) (omega (arith, ran.len, c.in_ok-ends.ends.ok.0, c.in_ok-seats.ensures, c.len.ensures, c.deref-2.ensures.len))
    ran.round (λ none. c.note_halted.ensures.none (subst N (sym c.deref-3.ensures.value) none)) c.requires.free
