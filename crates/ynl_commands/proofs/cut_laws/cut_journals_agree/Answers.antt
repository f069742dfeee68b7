use Rattle.ynl_commands.proofs.Cuts.{cut_journals_agree}
use Rattle.ynl_commands.proofs.cut_laws.cut_journals_agree.Goals as goal

pub returns : goal.returns
returns c = cut_journals_agree
