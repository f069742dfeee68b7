use Rattle.std.proofs.Common.{◌≡◌, arith, rules, sym, subst, ap, refl, ◌∙◌, Bool, false}
use Rattle.std.specs.Slice.Iter.{chunks_rest, chunks_size}
use Rattle.std.proofs.lemmas.List.Elements.{All-replicate}
use Rattle.ynl_workers.specs.session.Handed.{AreNotHalted}
use Rattle.ynl_workers.proofs.session.Rounds.{AddsSoFar, AddsSoFar-none, AddsSoFar-more, AddsSoFar-all}
use Rattle.ynl_workers.proofs.session.handing.Handed.run_round.Goals as goal

pub loop-batch-init : goal.loop-batch-init
loop-batch-init g c =
    let nodes = c.args.nodes.now in
    let old = c.args.self.now.lists.items in
    let free = g.G.Gate.is_free c.args.gate.now in
    let same = c.into_iter-batch-iterator.ensures.into_iter_gives in (
      search rules,
      tt,
      omega (arith, ap chunks_size same ∙ c.chunks-batch-items.ensures.size, c.saturating_mul.ensures, c.requires),
      subst (λ left. AddsSoFar free nodes left old old) (sym (ap chunks_rest same ∙ c.chunks-batch-items.ensures.rest)) (AddsSoFar-none free nodes old),
      c.in_ok-halted.ensures.len,
      λ is. subst AreNotHalted (sym (c.in_ok-halted.ensures.items_if_clones_equal (λ y same. same))) (All-replicate (λ (one : Bool). one ≡ false) c.args.crew.now.workers false refl),
    )

pub loop-batch-preserved : goal.loop-batch-preserved
loop-batch-preserved g c =
    let steps = c.in-Some.ensures.steps in (
      search rules,
      tt,
      omega (arith, steps.0, c.loop-batch.invariant.2),
      AddsSoFar-more (g.G.Gate.is_free c.args.gate.now) c.args.nodes.now _ c.in-Some.batch.now _ c.args.self.now.lists.items c.loop-batch.self.lists.items c.run_batch.new.self.lists.items (sym steps.1.0) c.in_ok-run_batch.ensures.adds
          c.loop-batch.invariant.3,
      omega (arith, c.in_ok-run_batch.ensures.count, c.loop-batch.invariant.4),
      c.in_ok-run_batch.ensures.free,
    )

pub returns : goal.returns
returns g c = AddsSoFar-all (g.G.Gate.is_free c.args.gate.now) c.args.nodes.now _ c.args.self.now.lists.items c.loop-batch.self.lists.items c.in-None.ensures.steps.1.0 c.loop-batch.invariant.3
