use Rattle.std.proofs.Common.{arith}
use Rattle.std.proofs.lemmas.Bool.Decides.{nat_tests}
use Rattle.ynl_queues.proofs.Together.{together_in_bucket}
use Rattle.ynl_queues.proofs.texts.is_in_crowd.Goals as goal

pub returns-else-from-gt-MOST_CHILDREN : goal.returns-else-from-gt-MOST_CHILDREN
returns-else-from-gt-MOST_CHILDREN c =
    let most = together_in_bucket c.args.row.now.path c.args.rows.now in
    let counted = c.requires c.bucket_of_row.result (omega arith) in
    grind (arith, nat_tests)
