use Rattle.std.proofs.Common.{◌<◌, ◌≤◌, ◌+◌, take, ◌++◌, List, length, arith, sym, ap, ◌∙◌, append_assoc}
use Rattle.std.specs.Prelude.{flat_map}
use Rattle.ynl_resource.specs.declared.paths.Path.{Path}
use Rattle.ynl_waits.specs.declared.waits.Reason.{Reason}
use Rattle.ynl_waits.specs.Waits.{maximum_of_told, maximum_told}
use Rattle.ynl_service.proofs.reading.reasons.Ways.{told-more, steps-end}
use Rattle.ynl_service.proofs.reading.reasons.limits.add_maxima.Goals as goal

pub loop-depth-preserved : goal.loop-depth-preserved
loop-depth-preserved g c =
    let f : Path → List Reason = maximum_of_told (g.F.Facts.state c.args.facts.now) c.args.app.now c.args.request.now in
    let leaf : Path = c.args.app.now.leaf in
    let k = c.loop-depth.depth in
    let inside : k < length leaf = omega (arith, c.loop-depth-test.true, ap length c.names-depth-end.ensures.names) in
    c.in_ok-add_maximum-2.ensures ∙ ap (λ (ts : List Reason). ts ++ f (take (k + 1) leaf)) c.loop-depth.invariant
    ∙ append_assoc c.args.told.now.items _ (f (take (k + 1) leaf)) ∙ ap (λ (ts : List Reason). c.args.told.now.items ++ ts) (sym (told-more f leaf k inside))

pub returns : goal.returns
unfolding maximum_told
returns g c =
    let f : Path → List Reason = maximum_of_told (g.F.Facts.state c.args.facts.now) c.args.app.now c.args.request.now in
    let leaf : Path = c.args.app.now.leaf in
    let past : length leaf ≤ c.loop-depth.depth = omega (arith, c.loop-depth-test.false, ap length c.names-depth-end.ensures.names) in
    c.loop-depth.invariant ∙ ap (λ (steps : List Path). c.args.told.now.items ++ flat_map f steps) (steps-end leaf c.loop-depth.depth past)
