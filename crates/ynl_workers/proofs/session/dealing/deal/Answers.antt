use Rattle.std.proofs.Common.{◌≡◌, ◌%◌, length, ◌++◌, ◌∷◌, [], Vec, refl, ap, ◌∙◌, arith}
use Rattle.std.specs.declared.alloc.Global.{Global}
use Rattle.std.proofs.Math.Nat.{mod-lt}
use Rattle.std.proofs.lemmas.List.{take_all}
use Rattle.ynl_resource.specs.declared.names.Name.{Name}
use Rattle.ynl_workers.specs.session.Dealt.{times_in, every}
use Rattle.ynl_workers.proofs.session.Deals.{AreDealt-more, AreInTurn-more}
use Rattle.ynl_workers.proofs.session.dealing.deal.Goals as goal

pub loop-i-preserved : goal.loop-i-preserved
loop-i-preserved c =
    let node = c.index-nodes-i.result in
    let was = c.index_mut.result.now in
    let same : c.args.count ≡ length c.loop-i.lists.items = omega (arith, c.loop-i.invariant.0, c.loop-i.lists.ok.0) in
    let below = mod-lt c.loop-i.i c.requires in (
      omega (arith, c.loop-i.invariant.0),
      AreDealt-more c.args.nodes.now c.loop-i.i node c.loop-i.lists.items _ _ c.push.new.self was c.loop-i-test.true c.index-nodes-i.is (omega (arith, below, c.loop-i.invariant.0, c.loop-i.lists.ok.0)) refl (c.in_ok-push.ensures.items ∙ ap (λ (w : Vec Name Global). w.items ++ node ∷ []) c.index_mut.ensures.value) c.loop-i.invariant.1,
      AreInTurn-more c.args.nodes.now c.loop-i.i node c.loop-i.lists.items _ _ c.push.new.self was c.loop-i-test.true c.index-nodes-i.is (omega (arith, below, c.loop-i.invariant.0, c.loop-i.lists.ok.0)) (ap (λ n. c.loop-i.i % n) same) refl (c.in_ok-push.ensures.items ∙ ap (λ (w : Vec Name Global). w.items ++ node ∷ []) c.index_mut.ensures.value) c.loop-i.invariant.2,
    )

pub returns-clause-dealt : goal.returns-clause-dealt
returns-clause-dealt c = λ node. c.loop-i.invariant.1 node ∙ ap (times_in node) (take_all c.loop-i.i c.args.nodes.now (omega arith))

pub returns-clause-turns : goal.returns-clause-turns
returns-clause-turns c = λ k list low. c.loop-i.invariant.2 k list low ∙ ap (every (length c.loop-i.lists.items) k 0) (take_all c.loop-i.i c.args.nodes.now (omega arith))
