use Rattle.std.proofs.Common.{arith}
use Rattle.ynl_explain.specs.Sentences.{reason_line}
use Rattle.ynl_explain.proofs.Texts.{all-of, one-more}
use Rattle.ynl_explain.proofs.plain.put_reason_lines.Goals as goal

pub loop-reason-preserved : goal.loop-reason-preserved
loop-reason-preserved c =
    one-more (reason_line c.args.request.now) c.args.text.items _ _ c.args.reasons.now c.loop-reason.reason-index c.reason-item.result (omega (arith, c.loop-reason-test.true)) c.reason-item.is c.loop-reason.invariant c.in_ok-longer.ensures

pub returns : goal.returns
returns c = all-of (reason_line c.args.request.now) c.args.text.items _ c.args.reasons.now c.loop-reason.reason-index (omega (arith, c.loop-reason-test.false)) c.loop-reason.invariant
