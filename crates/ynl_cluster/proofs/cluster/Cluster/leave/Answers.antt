-- What is known where a node leaves, and its containers go first.
use Rattle.ynl_cluster.proofs.Leaving.{all-left, left-state}
use Rattle.ynl_cluster.proofs.Moving.{row-there}
use Rattle.ynl_cluster.proofs.cluster.Cluster.leave.Goals as goal

pub leave_alone-requires-clause-live : goal.leave_alone-requires-clause-live
leave_alone-requires-clause-live c =
    let own = row-there c.args.self.now c.args.node c.requires in (c.clear.ensures.left own.0 own.1).live

pub returns-clause-rows : goal.returns-clause-rows
returns-clause-rows c =
    let own = row-there c.args.self.now c.args.node c.requires in
    all-left c.args.node own.0.partition c.args.self.now c.clear.new.self c.leave_alone.new.self (c.clear.ensures.left own.0 own.1) c.clear.ensures.empty c.leave_alone.ensures

pub returns-clause-state : goal.returns-clause-state
returns-clause-state c = λ row found.
    left-state c.args.node row.partition c.args.self.now c.clear.new.self c.leave_alone.new.self (c.clear.ensures.left row found) c.clear.ensures.empty c.leave_alone.ensures
    c.inventory.ensures.sound row found
