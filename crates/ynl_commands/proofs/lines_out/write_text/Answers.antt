use Rattle.std.proofs.Common.{rules, ◌-◌, ◌++◌, length, take, drop, sym, ap, subst, ◌∙◌, arith, length-take}
use Rattle.std.proofs.Math.Seq.{take-add, take-take}
use Rattle.std.specs.Io.KnownBytes.{Appends}
use Rattle.std.proofs.KnownBytes.{Appends-trans}
use Rattle.ynl_commands.proofs.Fronts.{part_so_far}
use Rattle.ynl_commands.proofs.lines_out.write_text.Goals as goal

pub returns-in-Ok-eq0-clause-err : goal.returns-in-Ok-eq0-clause-err
returns-in-Ok-eq0-clause-err g c = let before = c.loop-written.invariant.appended in part_so_far _ _ c.args.text.now c.loop-written.written c.loop-written-test.true (record { bound = c.loop-written.invariant.bound; appended = search rules })

pub returns-in-Ok-eq0-2-clause-err : goal.returns-in-Ok-eq0-2-clause-err
returns-in-Ok-eq0-2-clause-err g c = let before = c.loop-written.invariant.appended in part_so_far _ _ c.args.text.now c.loop-written.written c.loop-written-test.true (record { bound = c.loop-written.invariant.bound; appended = search rules })

pub loop-written-preserved : goal.loop-written-preserved
loop-written-preserved g c =
    let done = c.loop-written.written in
    let n = c.in-Ok.n in
    let xs = c.args.text.now in
    let before = c.loop-written.invariant in
    let most = length-take (length xs - done) (drop done xs) in
    let fits = c.in-Ok.ensures.bound in
    let joined = ap (λ l. take done xs ++ l) (take-take n (length xs - done) (drop done xs) (let bound = before.bound in omega arith)) ∙ sym (take-add done n xs) in
    record { bound = let bound = before.bound in omega arith; appended = subst (Appends _ _) joined (Appends-trans _ _ _ _ _ before.appended c.in-Ok.ensures.bytes) }
