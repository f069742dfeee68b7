-- What is known where an application's containers of a partition end.
use Rattle.std.proofs.Common.{Some, None, sym, subst}
use Rattle.ynl_slots.specs.Slots.{IsLive}
use Rattle.ynl_tables.specs.containers.Chains.{IsFirst}
use Rattle.ynl_inventory.specs.Apps.{containers_of}
use Rattle.ynl_inventory.specs.Parts.{Held}
use Rattle.ynl_inventory.specs.Sound.{HasPartition}
use Rattle.ynl_cluster.proofs.OwnEnding.{ends-on, fewer, finishes-first, finishes-on, finishing-has, finishing-live, first-of, first-own, none-before, none-to, own-held}
use Rattle.ynl_cluster.proofs.cluster.Cluster.end_own.Goals as goal

pub loop-number-init : goal.loop-number-init
loop-number-init c = record { so = finishes-first c.args.app c.args.self.now; none = c.requires.first }

pub first_of_app-requires-clause-app : goal.first_of_app-requires-clause-app
first_of_app-requires-clause-app c =
    subst (λ (h : Held). IsLive c.args.app h.rows.apps) (sym c.inventory.ensures.value) (finishing-live c.args.app c.args.self.now c.loop-number.self c.loop-number.invariant.so c.requires.live)

pub first_of_app-requires-clause-partition : goal.first_of_app-requires-clause-partition
first_of_app-requires-clause-partition c =
    subst (λ (h : Held). HasPartition h.rows c.args.p) (sym c.inventory.ensures.value) (finishing-has c.args.app c.args.self.now c.loop-number.self c.loop-number.invariant.so c.args.p c.requires.partition)

pub end-ended-requires : goal.end-ended-requires
end-ended-requires c =
    own-held c.loop-number.self.rows c.args.app c.args.p c.in-Some.number
    (first-own c.loop-number.self.rows c.args.app c.args.p c.in-Some.number (first-of c.loop-number.self c.inventory.result.now c.inventory.ensures.value c.args.app c.args.p (Some c.in-Some.number) c.in-Some.ensures))

pub loop-number-smaller : goal.loop-number-smaller
loop-number-smaller c =
    fewer c.args.app c.args.p c.in-Some.number c.loop-number.self c.end-ended.new.self c.inventory.ensures.sound
    (first-of c.loop-number.self c.inventory.result.now c.inventory.ensures.value c.args.app c.args.p (Some c.in-Some.number) c.in-Some.ensures) c.loop-number.invariant.none c.end-ended.result
    c.end-ended.ensures.value c.end-ended.ensures.rows c.end-ended.ensures.state

pub loop-number-preserved : goal.loop-number-preserved
loop-number-preserved c = record {
  so =
      finishes-on c.args.app c.args.self.now c.loop-number.self c.end-ended.new.self c.loop-number.invariant.so
      (ends-on c.args.app c.args.p c.in-Some.number c.loop-number.self c.end-ended.new.self c.inventory.ensures.sound
      (first-of c.loop-number.self c.inventory.result.now c.inventory.ensures.value c.args.app c.args.p (Some c.in-Some.number) c.in-Some.ensures) c.loop-number.invariant.none c.end-ended.result
      c.end-ended.ensures.value c.end-ended.ensures.rows c.end-ended.ensures.state);
  none =
      none-before c.args.app c.args.p c.in-Some.number c.loop-number.self c.end-ended.new.self c.inventory.ensures.sound
      (first-of c.loop-number.self c.inventory.result.now c.inventory.ensures.value c.args.app c.args.p (Some c.in-Some.number) c.in-Some.ensures) c.loop-number.invariant.none c.end-ended.result
      c.end-ended.ensures.value c.end-ended.ensures.rows c.end-ended.ensures.state;
}

pub returns-clause-ended : goal.returns-clause-ended
returns-clause-ended c = c.loop-number.invariant.so

pub returns-clause-none : goal.returns-clause-none
returns-clause-none c =
    none-to c.loop-number.self.rows c.args.app c.args.p c.loop-number.invariant.none
    (first-of c.loop-number.self c.inventory.result.now c.inventory.ensures.value c.args.app c.args.p None
    (subst (λ first. IsFirst (λ c. c.app) c.args.app (containers_of c.inventory.result.now.rows c.args.p) first) c.in_default.is c.first_of_app.ensures))
