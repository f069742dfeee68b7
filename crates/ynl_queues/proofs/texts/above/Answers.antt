use Rattle.std.proofs.Common.{◌≡◌, ◌-◌, get_or, true, false, arith, sym, ◌∙◌}
use Rattle.std.proofs.lemmas.Bool.Decides.{nat_tests}
use Rattle.ynl_resource.specs.Texts.{is_dot}
use Rattle.ynl_queues.proofs.Dots.{above_at_dot, above_at_other}
use Rattle.ynl_queues.proofs.texts.above.Goals as goal

pub returns-then-text-end-eq46 : goal.returns-then-text-end-eq46
returns-then-text-end-eq46 c =
    let dot : is_dot (get_or c.args.text.now (c.loop-end.end - 1) 0) ≡ true = grind (arith, nat_tests) in
    sym (above_at_dot c.args.text.now (c.loop-end.end - 1) c.loop-end.end (omega arith) (omega arith) dot) ∙ c.loop-end.invariant.same

pub loop-end-preserved : goal.loop-end-preserved
loop-end-preserved c =
    let other : is_dot (get_or c.args.text.now (c.loop-end.end - 1) 0) ≡ false = grind (arith, nat_tests) in
    record {
      within = omega arith;
      same = sym (above_at_other c.args.text.now (c.loop-end.end - 1) c.loop-end.end (omega arith) (omega arith) other) ∙ c.loop-end.invariant.same;
    }
