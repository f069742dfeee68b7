use Rattle.std.proofs.Common.{sym}
use Rattle.ynl_config.proofs.Joined.{both_lost}
use Rattle.ynl_config.proofs.together.and_one.Goals as goal

pub returns-in-Err : goal.returns-in-Err
returns-in-Err g c = both_lost c.args.rows c.args.row _ c.in-Err.fault (sym c.in-Err.ensures)
