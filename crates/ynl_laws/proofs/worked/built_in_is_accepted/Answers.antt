use Rattle.std.proofs.Common.{refl}
use Rattle.ynl_laws.proofs.Computed.Opened.{opened}
use Rattle.ynl_laws.proofs.worked.built_in_is_accepted.Goals as goal

pub returns : goal.returns
unfolding opened
returns c = record { accepted = refl }
