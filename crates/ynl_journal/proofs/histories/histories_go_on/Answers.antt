use Rattle.ynl_journal.proofs.Joined.{histories_go_on}
use Rattle.ynl_journal.proofs.histories.histories_go_on.Goals as goal

pub returns : goal.returns
returns c = histories_go_on
