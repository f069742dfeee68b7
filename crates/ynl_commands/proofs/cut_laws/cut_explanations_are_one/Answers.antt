use Rattle.ynl_commands.proofs.Cuts.{cut_explanations_are_one}
use Rattle.ynl_commands.proofs.cut_laws.cut_explanations_are_one.Goals as goal

pub returns : goal.returns
returns c = cut_explanations_are_one
