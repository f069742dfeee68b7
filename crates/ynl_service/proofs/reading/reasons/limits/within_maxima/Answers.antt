use Rattle.std.proofs.Common.{◌<◌, ◌≤◌, ◌+◌, Bool, length, take, arith, sym, ap, ◌∙◌}
use Rattle.std.specs.List.{list_all}
use Rattle.ynl_resource.specs.declared.paths.Path.{Path}
use Rattle.ynl_model.specs.Service.{within_maximum}
use Rattle.ynl_waits.specs.Waits.{keeps_maximum}
use Rattle.ynl_service.proofs.reading.reasons.Ways.{kept-more, kept-then, kept-else, steps-end}
use Rattle.ynl_service.proofs.reading.reasons.limits.within_maxima.Goals.{then-within, else-within}
use Rattle.ynl_service.proofs.reading.reasons.limits.within_maxima.Goals as goal

pub loop-depth-preserved : goal.loop-depth-preserved
loop-depth-preserved g c =
    let f : Path → Bool = keeps_maximum (g.F.Facts.state c.args.facts.now) c.args.request.now in
    let leaf : Path = c.args.app.now.leaf in
    let k = c.loop-depth.depth in
    let inside : k < length leaf = omega (arith, c.loop-depth-test.true, ap length c.names-depth-end.ensures.names) in
    elim c.if-within.branch [
      | then-within w ↦
          kept-then _ (f (take (k + 1) leaf)) _ (sym c.loop-depth.invariant ∙ w.if-within.true) (w.within-is ∙ w.keeps_maximum-within-then-within.ensures) ∙ sym (kept-more f leaf k inside)
      | else-within w ↦ kept-else _ (f (take (k + 1) leaf)) _ (sym c.loop-depth.invariant ∙ w.if-within.false) (w.within-is ∙ w.if-within.false) ∙ sym (kept-more f leaf k inside)
    ]

pub returns : goal.returns
unfolding within_maximum
returns g c =
    let f : Path → Bool = keeps_maximum (g.F.Facts.state c.args.facts.now) c.args.request.now in
    let leaf : Path = c.args.app.now.leaf in
    let past : length leaf ≤ c.loop-depth.depth = omega (arith, c.loop-depth-test.false, ap length c.names-depth-end.ensures.names) in
    c.loop-depth.invariant ∙ ap (list_all f) (steps-end leaf c.loop-depth.depth past)
