use Rattle.std.proofs.Common.{◌∙◌, arith}
use Rattle.ynl_explain.specs.Objects.{tokens_of}
use Rattle.ynl_explain.specs.Told.{reason_data}
use Rattle.ynl_explain.proofs.Texts.{one-more}
use Rattle.ynl_explain.proofs.telling.put_all.Goals as goal

pub loop-reason-preserved : goal.loop-reason-preserved
loop-reason-preserved c = record {
  before = c.put_reason.ensures.before ∙ c.loop-reason.invariant.before;
  tokens =
      one-more (λ reason. tokens_of (reason_data reason)) c.args.line.now.tokens _ _ c.args.reasons.now c.loop-reason.reason-index c.reason-item.result (omega (arith, c.loop-reason-test.true)) c.reason-item.is
      c.loop-reason.invariant.tokens c.in_ok-put_reason.ensures.tokens;
}
