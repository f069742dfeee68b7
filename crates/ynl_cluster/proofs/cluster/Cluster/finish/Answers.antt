-- What is known where an application finishes, and its containers end first.
use Rattle.std.proofs.Common.{arith}
use Rattle.ynl_cluster.proofs.OwnEnding.{finished-rows, finished-same, finished-state, finishes-first, finishes-on, finishing-live, none-at-all}
use Rattle.ynl_cluster.proofs.cluster.Cluster.finish.Goals as goal

pub loop-p-init : goal.loop-p-init
loop-p-init c = record { so = finishes-first c.args.app c.args.self.now; none = λ q below. absurd (omega (arith, below)) }

pub end_own-requires-clause-live : goal.end_own-requires-clause-live
end_own-requires-clause-live c = finishing-live c.args.app c.args.self.now c.loop-p.self c.loop-p.invariant.so c.requires

pub loop-p-preserved : goal.loop-p-preserved
loop-p-preserved c = record {
  so = finishes-on c.args.app c.args.self.now c.loop-p.self c.end_own.new.self c.loop-p.invariant.so c.end_own.ensures.ended;
  none = c.end_own.ensures.none;
}

pub finish_alone-requires-clause-live : goal.finish_alone-requires-clause-live
finish_alone-requires-clause-live c = finishing-live c.args.app c.args.self.now c.loop-p.self c.loop-p.invariant.so c.requires

pub finish_alone-requires-clause-empty : goal.finish_alone-requires-clause-empty
finish_alone-requires-clause-empty c =
    none-at-all c.args.app c.loop-p.p c.partition_count-count.result c.args.self.now c.loop-p.self c.loop-p.invariant.so c.inventory.result.now c.inventory.ensures.value c.partition_count-count.ensures.count
    c.loop-p-test.false c.loop-p.invariant.none

pub returns-clause-rows : goal.returns-clause-rows
returns-clause-rows c =
    finished-rows c.args.app c.args.self.now c.loop-p.self c.finish_alone.new.self c.loop-p.invariant.so c.inventory-2.ensures.sound
    (none-at-all c.args.app c.loop-p.p c.partition_count-count.result c.args.self.now c.loop-p.self c.loop-p.invariant.so c.inventory.result.now c.inventory.ensures.value c.partition_count-count.ensures.count
    c.loop-p-test.false c.loop-p.invariant.none)
    c.finish_alone.ensures.rows

pub returns-clause-same : goal.returns-clause-same
returns-clause-same c =
    finished-same c.args.app c.args.self.now c.finish_alone.new.self c.requires
    (finished-rows c.args.app c.args.self.now c.loop-p.self c.finish_alone.new.self c.loop-p.invariant.so c.inventory-2.ensures.sound
    (none-at-all c.args.app c.loop-p.p c.partition_count-count.result c.args.self.now c.loop-p.self c.loop-p.invariant.so c.inventory.result.now c.inventory.ensures.value c.partition_count-count.ensures.count
    c.loop-p-test.false c.loop-p.invariant.none)
    c.finish_alone.ensures.rows)

pub returns-clause-state : goal.returns-clause-state
returns-clause-state c = λ row found.
    finished-state c.args.app c.args.self.now c.loop-p.self c.finish_alone.new.self c.loop-p.invariant.so c.inventory-2.ensures.sound
    (none-at-all c.args.app c.loop-p.p c.partition_count-count.result c.args.self.now c.loop-p.self c.loop-p.invariant.so c.inventory.result.now c.inventory.ensures.value c.partition_count-count.ensures.count
    c.loop-p-test.false c.loop-p.invariant.none)
    row found (c.finish_alone.ensures.state row)
