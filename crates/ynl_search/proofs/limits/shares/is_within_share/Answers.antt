use Rattle.std.proofs.Common.{arith}
use Rattle.std.proofs.lemmas.Bool.Decides.{nat_tests}
use Rattle.ynl_search.proofs.limits.Rounded.{within_share}
use Rattle.ynl_search.proofs.limits.shares.is_within_share.Goals as goal

pub returns-else-less-from : goal.returns-else-less-from
returns-else-less-from c =
    grind (arith, nat_tests, within_share c.args.used c.from-less.result c.args.base c.args.users c.args.percent c.requires (omega arith))
