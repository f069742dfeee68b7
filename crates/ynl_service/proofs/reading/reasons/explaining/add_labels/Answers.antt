use Rattle.std.proofs.Common.{◌++◌, append-nil, take_all, sym, ap, ◌∙◌}
use Rattle.std.specs.Prelude.{flat_map}
use Rattle.ynl_waits.proofs.Loops.{added}
use Rattle.ynl_service.specs.reading.reasons.Facts.{asks_waiting}
use Rattle.ynl_service.proofs.reading.reasons.explaining.add_labels.Goals as goal

pub loop-label-init : goal.loop-label-init
loop-label-init g c = record { so_far = λ live found. sym (append-nil c.args.waits.now.items); known = c.requires.known }

-- what is asked for under one more label is added
pub loop-label-preserved : goal.loop-label-preserved
loop-label-preserved g c = record {
  so_far = λ live found. added _ _ _ _ _ _ _ c.loop-label-test.true c.label-item.is (c.loop-label.invariant.so_far live found) (c.in_ok-add_label.ensures.waits live found);
  known = c.in_ok-add_label.ensures.known;
}

pub returns-clause-waits : goal.returns-clause-waits
returns-clause-waits g c = λ live found.
    c.loop-label.invariant.so_far live found
    ∙ ap (λ labels. c.args.waits.now.items ++ flat_map (asks_waiting (g.F.Facts.config c.args.facts.now) (g.F.Facts.state c.args.facts.now) c.args.query.now.app.now live) labels) (take_all _ _ c.loop-label-test.false)
