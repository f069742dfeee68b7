use Rattle.std.proofs.Common.{arith}
use Rattle.ynl_explain.specs.Sentences.{plain_lines}
use Rattle.ynl_explain.proofs.Texts.{all-of, one-more}
use Rattle.ynl_explain.proofs.plain.put_requests.Goals as goal

pub loop-wait-preserved : goal.loop-wait-preserved
loop-wait-preserved c =
    one-more (plain_lines c.args.tenant.now c.args.app.now) c.args.text.items _ _ c.args.waits.now c.loop-wait.wait-index c.wait-item.result (omega (arith, c.loop-wait-test.true)) c.wait-item.is c.loop-wait.invariant c.in_ok-longer.ensures

pub returns : goal.returns
returns c = all-of (plain_lines c.args.tenant.now c.args.app.now) c.args.text.items _ c.args.waits.now c.loop-wait.wait-index (omega (arith, c.loop-wait-test.false)) c.loop-wait.invariant
