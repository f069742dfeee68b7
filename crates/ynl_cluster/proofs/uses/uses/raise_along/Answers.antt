use Rattle.std.proofs.Common.{◌≡◌, ℕ, ◌<◌, length, get_or, refl, sym, ap, subst, ◌∙◌, arith}
use Rattle.std.proofs.lemmas.List.{get_or_read}
use Rattle.ynl_model.specs.declared.uses.Use.{Use}
use Rattle.ynl_cluster.specs.uses.Tallies.{raised}
use Rattle.ynl_laws.proofs.Lists.{all-of}
use Rattle.ynl_laws.proofs.Totals.Along.{along_more, along_is, next_cell}
use Rattle.ynl_cluster.specs.uses.Tallies.{IsSmallUse}
use Rattle.ynl_cluster.proofs.uses.uses.raise_along.Goals as goal

pub raised-requires : goal.raised-requires
raised-requires c =
    let n : ℕ = get_or c.args.way.now c.loop-i.i 0 in
    let within : n < length c.args.uses.now.items = all-of (λ q. q < length c.args.uses.now.items) c.args.way.now c.requires.inside c.loop-i.i 0 c.loop-i-test.true in
    let x : Use = c.index.result.now in
    let same : x ≡ get_or c.args.uses.now.items n x = c.index.ensures ∙ next_cell (raised c.args.tally.now) c.args.uses.now.items c.loop-i.uses.items c.args.way.now c.loop-i.i c.loop-i.invariant c.requires.apart n c.loop-i-test.true refl within x in
    subst IsSmallUse (sym same) (all-of IsSmallUse c.args.uses.now.items c.requires.small n x within)

pub loop-i-preserved : goal.loop-i-preserved
loop-i-preserved c =
    let n : ℕ = get_or c.args.way.now c.loop-i.i 0 in
    let within : n < length c.args.uses.now.items = all-of (λ q. q < length c.args.uses.now.items) c.args.way.now c.requires.inside c.loop-i.i 0 c.loop-i-test.true in
    let long : n < length c.loop-i.uses.items = omega (arith, within, c.loop-i.invariant.len) in
    let x : Use = c.index.result.now in
    along_more (raised c.args.tally.now) c.args.uses.now.items c.loop-i.uses.items c.args.way.now c.loop-i.i c.loop-i.invariant c.requires.apart n c.loop-i-test.true refl within c.raised.result
    (λ d. c.raised.ensures ∙ ap (raised c.args.tally.now) (get_or_read c.loop-i.uses.items n x long c.index.ensures d))

pub returns : goal.returns
returns c = along_is (raised c.args.tally.now) c.args.uses.now.items c.loop-i.uses.items c.args.way.now c.loop-i.i c.loop-i.invariant c.loop-i-test.false
