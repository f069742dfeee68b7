-- The lanes against the rows, once the container has ended.
use Rattle.std.proofs.Common.{◌≡◌, sym, ◌∙◌}
use Rattle.ynl_resource.specs.Amounts.{plus}
use Rattle.ynl_inventory.specs.Apps.{is_master_role}
use Rattle.ynl_cluster.proofs.seating.Anew.{may-be-used, may-differ, none-differs}
use Rattle.ynl_cluster.proofs.seating.Calls.{ended-guest, ended-home}
use Rattle.ynl_cluster.proofs.seating.containers.follow_end.Goals as goal

pub count_less-requires-clause-home : goal.count_less-requires-clause-home
count_less-requires-clause-home c = λ home.
    may-be-used (is_master_role c.args.ended.now.role) c.args.ended.now.app c.args.p (λ before after. before ≡ plus after c.args.ended.now.size) c.args.inventory.now.rows c.args.lanes.now
    (ended-home c.args.p c.args.ended.now c.args.inventory.now.rows c.args.lanes.now c.requires.live c.requires.start home)

pub enter-requires-clause-start : goal.enter-requires-clause-start
enter-requires-clause-start c =
    may-differ (is_master_role c.args.ended.now.role) c.args.ended.now.app c.args.inventory.now.rows c.count_less.new.lanes
    (c.count_less.ensures (is_master_role c.args.ended.now.role)
    (ended-guest c.args.p c.args.ended.now c.args.inventory.now.rows c.args.lanes.now c.requires.live c.requires.start)
    (ended-home c.args.p c.args.ended.now c.args.inventory.now.rows c.args.lanes.now c.requires.live c.requires.start))

pub returns-else-is_master : goal.returns-else-is_master
returns-else-is_master c =
    none-differs (is_master_role c.args.ended.now.role) c.args.ended.now.app c.args.inventory.now.rows c.count_less.new.lanes
    (sym c.is_master.ensures ∙ c.if-is_master.false)
    (c.count_less.ensures (is_master_role c.args.ended.now.role)
    (ended-guest c.args.p c.args.ended.now c.args.inventory.now.rows c.args.lanes.now c.requires.live c.requires.start)
    (ended-home c.args.p c.args.ended.now c.args.inventory.now.rows c.args.lanes.now c.requires.live c.requires.start))
