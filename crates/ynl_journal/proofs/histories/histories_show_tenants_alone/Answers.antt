use Rattle.ynl_journal.proofs.Shown.{histories_show_alone}
use Rattle.ynl_journal.proofs.histories.histories_show_tenants_alone.Goals as goal

pub returns : goal.returns
returns c = histories_show_alone
