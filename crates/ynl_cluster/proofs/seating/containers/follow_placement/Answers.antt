-- The lanes against the rows, once the container is placed.
use Rattle.std.proofs.Common.{◌≡◌, sym, ◌∙◌}
use Rattle.ynl_resource.specs.Amounts.{plus}
use Rattle.ynl_cluster.specs.seating.Steps.{waits_anew}
use Rattle.ynl_cluster.proofs.seating.Anew.{may-be-used, may-differ, none-differs}
use Rattle.ynl_cluster.proofs.seating.Calls.{placed-guest, placed-home}
use Rattle.ynl_cluster.proofs.seating.containers.follow_placement.Goals as goal

pub count_more-requires-clause-home : goal.count_more-requires-clause-home
count_more-requires-clause-home c = λ home.
    may-be-used (waits_anew c.args.inventory.now.rows c.args.placed.now.app c.args.placed.now.role c.args.asked) c.args.placed.now.app c.args.p (λ before after. after ≡ plus before c.args.placed.now.size)
    c.args.inventory.now.rows c.args.lanes.now
    (placed-home c.args.placed.now.node c.args.placed.now.app c.args.placed.now.role c.args.placed.now.size c.args.asked c.args.inventory.now.rows c.args.lanes.now c.requires.start c.args.p c.requires.partition home)

pub enter-requires-clause-start : goal.enter-requires-clause-start
enter-requires-clause-start c =
    may-differ (waits_anew c.args.inventory.now.rows c.args.placed.now.app c.args.placed.now.role c.args.asked) c.args.placed.now.app c.args.inventory.now.rows c.count_more.new.lanes
    (c.count_more.ensures (waits_anew c.args.inventory.now.rows c.args.placed.now.app c.args.placed.now.role c.args.asked)
    (placed-guest c.args.placed.now.node c.args.placed.now.app c.args.placed.now.role c.args.placed.now.size c.args.asked c.args.inventory.now.rows c.args.lanes.now c.requires.start c.args.p c.requires.partition)
    (placed-home c.args.placed.now.node c.args.placed.now.app c.args.placed.now.role c.args.placed.now.size c.args.asked c.args.inventory.now.rows c.args.lanes.now c.requires.start c.args.p c.requires.partition))

pub returns-else-waits_anew : goal.returns-else-waits_anew
returns-else-waits_anew c =
    none-differs (waits_anew c.args.inventory.now.rows c.args.placed.now.app c.args.placed.now.role c.args.asked) c.args.placed.now.app c.args.inventory.now.rows c.count_more.new.lanes
    (sym c.waits_anew.ensures ∙ c.if-waits_anew.false)
    (c.count_more.ensures (waits_anew c.args.inventory.now.rows c.args.placed.now.app c.args.placed.now.role c.args.asked)
    (placed-guest c.args.placed.now.node c.args.placed.now.app c.args.placed.now.role c.args.placed.now.size c.args.asked c.args.inventory.now.rows c.args.lanes.now c.requires.start c.args.p c.requires.partition)
    (placed-home c.args.placed.now.node c.args.placed.now.app c.args.placed.now.role c.args.placed.now.size c.args.asked c.args.inventory.now.rows c.args.lanes.now c.requires.start c.args.p c.requires.partition))
