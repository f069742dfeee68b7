use Rattle.std.proofs.Common.{arith}
use Rattle.ynl_journal.specs.Journal.{FitsReply}
use Rattle.ynl_journal.proofs.Longer.{more_replayed, more_agree, first_differs}
use Rattle.ynl_journal.proofs.auditing.audit.Goals as goal

pub returns-then-not-fits-clause-err : goal.returns-then-not-fits-clause-err
returns-then-not-fits-clause-err c =
    let differs : FitsReply c.index-entries-i.result c.in-Ok.reply → ⊥ = grind (arith, c.fits.ensures.fits) in
    first_differs c.args.core.now.config c.args.core.now.state c.args.entries.now c.loop-i.i c.index-entries-i.result c.loop-i.core c.answer.new.self c.in-Ok.reply (omega arith) c.index-entries-i.is c.loop-i.invariant.0 c.loop-i.invariant.1 c.in-Ok.ensures.ok differs

pub loop-i-preserved : goal.loop-i-preserved
loop-i-preserved c =
    let fits : FitsReply c.index-entries-i.result c.in-Ok.reply = grind (arith, c.fits.ensures.fits) in (
      more_replayed c.args.core.now.config c.args.core.now.state c.args.entries.now c.loop-i.i c.index-entries-i.result c.loop-i.core c.answer.new.self c.in-Ok.reply (omega arith) c.index-entries-i.is c.loop-i.invariant.0 c.in-Ok.ensures.ok,
      more_agree c.args.core.now.config c.args.core.now.state c.args.entries.now c.loop-i.i c.index-entries-i.result c.loop-i.core c.answer.new.self c.in-Ok.reply (omega arith) c.index-entries-i.is c.loop-i.invariant.0 c.loop-i.invariant.1 c.in-Ok.ensures.ok fits,
    )
