use Rattle.std.proofs.Common.{subst, sym, ap, ◌∙◌}
use Rattle.ynl_inventory.specs.Parts.{Held}
use Rattle.ynl_model.specs.Cluster.{free}
use Rattle.ynl_cluster.specs.Cluster.{state_in}
use Rattle.ynl_search.specs.InLeaf.{first_own}
use Rattle.ynl_search.specs.notes.Lanes.{IsLaneOf}
use Rattle.ynl_search.proofs.Reading.{none-read, own-read}
use Rattle.ynl_search.proofs.leaves.first_in_leaf.Goals as goal

pub first_own-requires : goal.first_own-requires
first_own-requires c = (
  c.args.place.now.queue,
  subst (λ (h : Held). IsLaneOf h.rows c.args.p c.args.place.now.queue c.lane_of-lane.result.now.seats) (sym c.inventory.ensures.value) c.lane_of-lane.ensures.lane,
)

pub returns-clause-first : goal.returns-clause-first
returns-clause-first c node there is =
    own-read c.args.cluster.now c.lane_of-lane.ensures.sound c.args.place.now.queue c.requires.leaf c.lane_of-lane.result.now.seats c.args.p c.requires.there c.lane_of-lane.ensures.lane node there
    c.tests_of-tests.result (c.tests_of-tests.ensures.tests (free (state_in c.args.cluster.now) node) is) c.first_own.result
    (c.first_own.ensures ∙ ap (λ (h : Held). first_own h.rows c.lane_of-lane.result.now.seats c.args.p c.tests_of-tests.result) c.inventory.ensures.value)

pub returns-clause-none : goal.returns-clause-none
returns-clause-none c amounts =
    none-read c.args.cluster.now c.lane_of-lane.ensures.sound c.args.place.now.queue c.requires.leaf c.lane_of-lane.result.now.seats c.args.p c.requires.there c.lane_of-lane.ensures.lane
    c.tests_of-tests.result (c.tests_of-tests.ensures.limits amounts) c.args.place.now.headroom c.tests_of-tests.ensures.headroom c.first_own.result
    (c.first_own.ensures ∙ ap (λ (h : Held). first_own h.rows c.lane_of-lane.result.now.seats c.args.p c.tests_of-tests.result) c.inventory.ensures.value)
