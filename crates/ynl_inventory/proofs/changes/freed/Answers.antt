-- Three changes of one node are one.
use Rattle.std.proofs.Common.{ℕ, List, ap, ◌∙◌}
use Rattle.ynl_resource.specs.Amounts.{plus, IsSmall}
use Rattle.ynl_tables.specs.declared.nodes.nodes.NodeRow.{NodeRow}
use Rattle.ynl_tables.specs.nodes.Nodes.{NodesView, with_change}
use Rattle.ynl_inventory.proofs.Lookups.{live-after, some-after, changed-twice}
use Rattle.ynl_inventory.proofs.changes.freed.Goals as goal

pub set_stamp-requires : goal.set_stamp-requires
set_stamp-requires c =
    live-after {X = NodeRow} c.args.ended.now.node c.args.ended.now.node (λ row. record row { containers = c.args.chain }) c.args.nodes.now.entries c.set_containers.new.self.entries (ap (λ (v : NodesView). v.entries) c.set_containers.ensures) c.requires.live

pub give-requires-clause-live : goal.give-requires-clause-live
give-requires-clause-live c =
    live-after {X = NodeRow} c.args.ended.now.node c.args.ended.now.node (λ row. record row { stamp = c.args.clock }) c.set_containers.new.self.entries c.set_stamp.new.self.entries (ap (λ (v : NodesView). v.entries) c.set_stamp.ensures)
    (live-after {X = NodeRow} c.args.ended.now.node c.args.ended.now.node (λ row. record row { containers = c.args.chain }) c.args.nodes.now.entries c.set_containers.new.self.entries (ap (λ (v : NodesView). v.entries) c.set_containers.ensures) c.requires.live)

pub give-requires-clause-small : goal.give-requires-clause-small
give-requires-clause-small c =
    some-after {X = NodeRow} (λ row. IsSmall (plus row.free c.args.ended.now.size)) c.args.ended.now.node c.args.ended.now.node (λ row. record row { stamp = c.args.clock }) c.set_containers.new.self.entries c.set_stamp.new.self.entries
    (ap (λ (v : NodesView). v.entries) c.set_stamp.ensures) (λ row h. h)
    (some-after {X = NodeRow} (λ row. IsSmall (plus row.free c.args.ended.now.size)) c.args.ended.now.node c.args.ended.now.node (λ row. record row { containers = c.args.chain }) c.args.nodes.now.entries c.set_containers.new.self.entries
    (ap (λ (v : NodesView). v.entries) c.set_containers.ensures) (λ row h. h) c.requires.small)

pub returns : goal.returns
returns c =
    c.give.ensures
    ∙ ap (λ (v : NodesView). record v { entries = with_change c.args.ended.now.node (λ row. record row { free = plus row.free c.args.ended.now.size }) v.entries })
    (c.set_stamp.ensures
    ∙ ap (λ (v : NodesView). record v { entries = with_change c.args.ended.now.node (λ row. record row { stamp = c.args.clock }) v.entries }) c.set_containers.ensures
    ∙ ap (λ (es : List (ℕ × NodeRow)). record c.args.nodes.now { entries = es })
    (changed-twice {X = NodeRow} c.args.ended.now.node (λ row. record row { stamp = c.args.clock }) (λ row. record row { containers = c.args.chain }) c.args.nodes.now.entries))
    ∙ ap (λ (es : List (ℕ × NodeRow)). record c.args.nodes.now { entries = es })
    (changed-twice {X = NodeRow} c.args.ended.now.node (λ row. record row { free = plus row.free c.args.ended.now.size }) (λ row. record row { stamp = c.args.clock; containers = c.args.chain }) c.args.nodes.now.entries)
