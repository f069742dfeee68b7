use Rattle.std.proofs.Common.{◌<◌, ◌≤◌, Err, length, sym, ap, subst, ◌∙◌, arith}
use Rattle.std.proofs.lemmas.Result.{err_from_is_err_and}
use Rattle.ynl_commands.specs.Telling.{lines_from, SaysLines}
use Rattle.ynl_commands.proofs.Tellings.{none_told, event_told, event_refused, told_on, told_refused, told_failed, told_all}
use Rattle.ynl_commands.proofs.tenant.tell_events.Goals as goal

pub loop-i-init : goal.loop-i-init
loop-i-init g c = none_told (g.W.Write.contents c.args.writer.now) _ c.args.config.now c.args.tenant.now c.args.label.now c.args.stand.now c.args.events.now c.new-held.ensures.items

-- the event was held back, some of what is held back was written, and the rest is left
pub loop-i-preserved : goal.loop-i-preserved
loop-i-preserved g c =
    let inside : c.loop-i.i < length c.args.events.now = omega (arith, c.loop-i-test.true, c.len-i-end.ensures.value) in
    told_on _ _ _ _ _ _ _ _ _ _
    (event_told _ _ _ _ _ _ _ _ _ _ c.loop-i.invariant _ inside (c.read.ensures _) _ _ _ _ c.in-Ok.is c.hold_sight.ensures)
    _ _ c.in_ok-write_on-in-Ok.ensures.ok

-- a write failed in what is held back
pub returns-in_err-write_on-in-Ok : goal.returns-in_err-write_on-in-Ok
returns-in_err-write_on-in-Ok g c =
    let p = err_from_is_err_and c.from_residual.result c.from_residual.ensures.1 in
    let inside : c.loop-i.i < length c.args.events.now = omega (arith, c.loop-i-test.true, c.len-i-end.ensures.value) in
    subst (SaysLines _ _ (lines_from c.args.config.now c.args.tenant.now c.args.label.now c.args.stand.now.core 0 c.args.stand.now.track c.args.events.now)) (sym (p.1 ∙ ap Err p.2))
    (told_failed _ _ _ _ _ _ _ _ _ _
    (event_told _ _ _ _ _ _ _ _ _ _ c.loop-i.invariant _ inside (c.read.ensures _) _ _ _ _ c.in-Ok.is c.hold_sight.ensures)
    _ c.in_err-write_on-in-Ok.ensures.err)

-- there was no memory for the event, and what is held back was written
pub returns-in-Err : goal.returns-in-Err
returns-in-Err g c =
    told_refused _ _ _ _ _ _ _ _ _ _
    (event_refused _ _ _ _ _ _ _ _ _ _ c.loop-i.invariant _ _ _ _ _ c.in-Err.is c.hold_sight.ensures)
    _ c.in_ok-write_held-in-Err.ensures.ok

-- or a write failed in it
pub returns-in_err-write_held-in-Err : goal.returns-in_err-write_held-in-Err
returns-in_err-write_held-in-Err g c =
    let p = err_from_is_err_and c.from_residual-in_err-write_held-in-Err.result c.from_residual-in_err-write_held-in-Err.ensures.1 in
    subst (SaysLines _ _ (lines_from c.args.config.now c.args.tenant.now c.args.label.now c.args.stand.now.core 0 c.args.stand.now.track c.args.events.now)) (sym (p.1 ∙ ap Err p.2))
    (told_failed _ _ _ _ _ _ _ _ _ _
    (event_refused _ _ _ _ _ _ _ _ _ _ c.loop-i.invariant _ _ _ _ _ c.in-Err.is c.hold_sight.ensures)
    _ c.in_err-write_held-in-Err.ensures.err)

-- no event is left
pub returns : goal.returns
returns g c =
    let past : length c.args.events.now ≤ c.loop-i.i = omega (arith, c.loop-i-test.false, c.len-i-end.ensures.value) in
    told_all _ _ _ _ _ _ _ _ _ _ c.loop-i.invariant _ past c.in_ok-write_held.ensures.ok

-- a write failed in the last of what is held back
pub returns-in_err-write_held : goal.returns-in_err-write_held
returns-in_err-write_held g c =
    let p = err_from_is_err_and c.from_residual-in_err-write_held.result c.from_residual-in_err-write_held.ensures.1 in
    subst (SaysLines _ _ (lines_from c.args.config.now c.args.tenant.now c.args.label.now c.args.stand.now.core 0 c.args.stand.now.track c.args.events.now)) (sym (p.1 ∙ ap Err p.2))
    (told_failed _ _ _ _ _ _ _ _ _ _ c.loop-i.invariant _ c.in_err-write_held.ensures.err)
