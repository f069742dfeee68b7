-- What is known where a node moves with nothing on it.
use Rattle.std.proofs.Common.{◌<◌, length, sym, subst}
use Rattle.ynl_cluster.specs.ledger.Ledger.{nodes_on}
use Rattle.ynl_resource.specs.Ranges.{most_nodes}
use Rattle.ynl_cluster.proofs.Moving.{cleared, few-nodes, moved-rows, moved-state, row-there, still-has, unused-before}
use Rattle.ynl_cluster.proofs.cluster.Cluster.relabel.Goals as goal

pub move_alone-requires-clause-there : goal.move_alone-requires-clause-there
move_alone-requires-clause-there c =
    let own = row-there c.args.self.now c.args.node c.requires.live in
    let leaving = cleared c.args.node c.args.self.now c.reserve_node.new.self c.clear.new.self c.in_ok-reserve_node.ensures.ok c.clear.ensures.left own.0 own.1 in
    (leaving.live, still-has c.args.node c.args.p own.0.partition c.args.self.now c.clear.new.self leaving c.requires.partition)

pub move_alone-requires-clause-few : goal.move_alone-requires-clause-few
move_alone-requires-clause-few c =
    let own = row-there c.args.self.now c.args.node c.requires.live in
    let leaving = cleared c.args.node c.args.self.now c.reserve_node.new.self c.clear.new.self c.in_ok-reserve_node.ensures.ok c.clear.ensures.left own.0 own.1 in
    subst (λ nodes. length (nodes_on c.args.p nodes) < most_nodes) (sym leaving.nodes) (few-nodes c.args.self.now c.inventory.ensures.sound c.args.p c.requires.partition c.requires.few)

pub returns-clause-rows : goal.returns-clause-rows
returns-clause-rows c = λ row found.
    moved-rows c.args.node c.args.p c.move_alone.result c.args.self.now c.clear.new.self c.move_alone.new.self row found
    (cleared c.args.node c.args.self.now c.reserve_node.new.self c.clear.new.self c.in_ok-reserve_node.ensures.ok c.clear.ensures.left row found) c.clear.ensures.empty c.move_alone.ensures.rows

pub returns-clause-unused : goal.returns-clause-unused
returns-clause-unused c =
    let own = row-there c.args.self.now c.args.node c.requires.live in
    unused-before c.args.node c.move_alone.result c.args.self.now c.clear.new.self own.0.partition
    (cleared c.args.node c.args.self.now c.reserve_node.new.self c.clear.new.self c.in_ok-reserve_node.ensures.ok c.clear.ensures.left own.0 own.1) c.move_alone.ensures.unused

pub returns-clause-state : goal.returns-clause-state
returns-clause-state c = λ row found.
    let leaving = cleared c.args.node c.args.self.now c.reserve_node.new.self c.clear.new.self c.in_ok-reserve_node.ensures.ok c.clear.ensures.left row found in
    moved-state c.args.node c.args.p c.move_alone.result c.args.self.now c.clear.new.self c.move_alone.new.self row found leaving c.clear.ensures.empty c.move_alone.ensures.rows
    c.inventory.ensures.sound c.inventory.ensures.configured
    (unused-before c.args.node c.move_alone.result c.args.self.now c.clear.new.self row.partition leaving c.move_alone.ensures.unused) c.requires.partition
