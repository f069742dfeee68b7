use Rattle.ynl_journal.proofs.Same.{told_by_test}
use Rattle.ynl_journal.proofs.auditing.fits.Goals as goal

pub returns-in-Some-clause-test : goal.returns-in-Some-clause-test
returns-in-Some-clause-test c = told_by_test c.is_same_reply.result c.args.entry.now c.in-Some.given c.args.reply.now c.in-Some.is c.is_same_reply.ensures
