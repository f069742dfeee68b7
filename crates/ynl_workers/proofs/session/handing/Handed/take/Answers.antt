use Rattle.std.proofs.Common.{◌≡◌, Err, sym, ap, ◌∙◌, ◌++◌}
use Rattle.ynl_workers.specs.declared.session.sessions.SessionFault.{SessionFault}
use Rattle.ynl_workers.specs.declared.session.sessions.SessionFault.TheVariants.{Unclosed}
use Rattle.ynl_workers.specs.session.Handed.{OneWasBehind}
use Rattle.ynl_live.proofs.Lists.{IfErr-told}
use Rattle.ynl_workers.proofs.session.Takes.{TakenSoFar-more, HasEnded-from_ended, OneWasBehind-here}
use Rattle.ynl_workers.proofs.session.handing.Handed.take.Goals as goal

pub loop-end-preserved : goal.loop-end-preserved
loop-end-preserved c =
    let ended = HasEnded-from_ended c.in-Some.end.end c.in_ok-has_ended.field-0 c.in_ok-has_ended.ensures in
    TakenSoFar-more c.args.self.now.lists.items c.loop-end.self.lists.items c.keep.new.self.lists.items c.args.ends.items _ _ c.in-Some.end c.in-Some.ensures.steps.0 ended c.in_ok-keep.ensures c.loop-end.invariant

pub returns-in_err-has_ended-clause-unclosed : goal.returns-in_err-has_ended-clause-unclosed
returns-in_err-has_ended-clause-unclosed c =
    let so = c.loop-end.invariant in
    let w = c.in-Some.end in
    let fault = c.in_err-has_ended.field-0.0 in
    let all = ap (λ ws. so.done ++ ws) (sym c.in-Some.ensures.steps.0) ∙ so.all_are in
    IfErr-told c.from_residual.result (λ (f : SessionFault). f ≡ Unclosed → OneWasBehind c.args.ends.items) fault
    (λ is. OneWasBehind-here so.done _ c.args.ends.items w all (ap (λ (f : SessionFault). Err f) (sym is) ∙ c.in_err-has_ended.ensures))
    c.from_residual.ensures.1
