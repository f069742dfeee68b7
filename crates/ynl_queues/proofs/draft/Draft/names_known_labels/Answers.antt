use Rattle.std.proofs.Common.{rules}
use Rattle.ynl_queues.proofs.Known.{all_known}
use Rattle.ynl_queues.proofs.draft.Draft.names_known_labels.Goals as goal

pub returns-then-capacities_stay_within : goal.returns-then-capacities_stay_within
returns-then-capacities_stay_within c = rw (← all_known c.args.self.now c.args.row.now) (search rules)

pub returns-else-capacities_stay_within : goal.returns-else-capacities_stay_within
returns-else-capacities_stay_within c = rw (← all_known c.args.self.now c.args.row.now) (search rules)
