use Rattle.ynl_commands.proofs.Cuts.{cut_runs_are_one}
use Rattle.ynl_commands.proofs.cut_laws.cut_runs_are_one.Goals as goal

pub returns : goal.returns
returns c = cut_runs_are_one
