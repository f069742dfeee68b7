use Rattle.ynl_journal.proofs.Shown.{agreeing_are_histories}
use Rattle.ynl_journal.proofs.histories.agreeing_entries_are_histories.Goals as goal

pub returns : goal.returns
returns c = agreeing_are_histories
