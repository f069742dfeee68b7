-- All lines are told, section by section.
use Rattle.std.proofs.Common.{◌∷◌, ◌++◌, [], List, map, Err, refl, subst}
use Rattle.std.specs.Prelude.{flat_map}
use Rattle.ynl_model.specs.Cluster.{Partition}
use Rattle.ynl_model.specs.Queues.{QueueRow}
use Rattle.ynl_saved.specs.declared.lines.StateLine.{StateLine}
use Rattle.ynl_saved.specs.declared.lines.StateLine.TheVariants.{Begin, Container, Node}
use Rattle.ynl_saved.specs.Handing.{FailsAmong, Hands, TakesAll}
use Rattle.ynl_saved.specs.Saving.{leaf_lines, lines_before_end, maxima_lines, partition_line, stop_lines}
use Rattle.ynl_saved.proofs.Handing.{fails-behind, fails-front, fails-on, hands-behind, hands-one, takes-append}
use Rattle.ynl_snapshots.specs.saving.Saved.{Saved, saved_of}
use Rattle.ynl_snapshots.proofs.saving.Saving.tell.Goals as goal

-- ---- the sections, and all lines up to each

abbrev partitions : Saved → List StateLine
partitions s = map partition_line s.state.partitions

abbrev nodes : Saved → List StateLine
nodes s = map Node s.state.nodes

abbrev leaves : Saved → List StateLine
leaves s = flat_map leaf_lines s.state.leaves

abbrev containers : Saved → List StateLine
containers s = flat_map (λ (row : Partition). map Container row.containers) s.state.partitions

abbrev stops : Saved → List StateLine
stops s = flat_map stop_lines s.state.stops

abbrev maxima : Saved → List StateLine
maxima s = flat_map (λ (row : QueueRow). maxima_lines s.config s.state.maxima row.path) s.config.queues

abbrev to_begin : List StateLine
to_begin = Begin ∷ []

abbrev to_partitions : Saved → List StateLine
to_partitions s = to_begin ++ partitions s

abbrev to_nodes : Saved → List StateLine
to_nodes s = to_partitions s ++ nodes s

abbrev to_leaves : Saved → List StateLine
to_leaves s = to_nodes s ++ leaves s

abbrev to_containers : Saved → List StateLine
to_containers s = to_leaves s ++ containers s

abbrev to_stops : Saved → List StateLine
to_stops s = to_containers s ++ stops s

abbrev to_maxima : Saved → List StateLine
to_maxima s = to_stops s ++ maxima s

-- ---- what comes of them

pub returns-in_err-take : goal.returns-in_err-take
unfolding lines_before_end
returns-in_err-take g c =
    let gives = g.S.LineSink.gives in
    let s : Saved = c.args.self.now in
    fails-on gives c.args.sink.now c.take.new.self (lines_before_end c.args.self.now.config c.args.self.now.state) c.in_err-take.field-0.0 c.from_residual.result
    (fails-front gives c.args.sink.now c.take.new.self (to_stops s) (maxima s) c.in_err-take.field-0.0
    (fails-front gives c.args.sink.now c.take.new.self (to_containers s) (stops s) c.in_err-take.field-0.0
    (fails-front gives c.args.sink.now c.take.new.self (to_leaves s) (containers s) c.in_err-take.field-0.0
    (fails-front gives c.args.sink.now c.take.new.self (to_nodes s) (leaves s) c.in_err-take.field-0.0
    (fails-front gives c.args.sink.now c.take.new.self (to_partitions s) (nodes s) c.in_err-take.field-0.0
    (fails-front gives c.args.sink.now c.take.new.self to_begin (partitions s) c.in_err-take.field-0.0
    (hands-one gives c.args.sink.now c.take.new.self Begin (Err c.in_err-take.field-0.0) c.in_err-take.ensures)))))))
    c.from_residual.ensures.1

pub returns-in_err-hand_partitions : goal.returns-in_err-hand_partitions
unfolding lines_before_end
returns-in_err-hand_partitions g c =
    let gives = g.S.LineSink.gives in
    let s : Saved = saved_of c.self.inside in
    let told0 : TakesAll gives c.args.sink.now to_begin c.take.new.self = (c.take.new.self, c.in_ok-take.ensures, refl) in
    fails-on gives c.args.sink.now c.hand_partitions.new.sink (lines_before_end c.args.self.now.config c.args.self.now.state) c.in_err-hand_partitions.field-0.0 c.from_residual-in_err-hand_partitions.result
    (subst (λ (s : Saved). FailsAmong gives c.args.sink.now (lines_before_end s.config s.state) c.hand_partitions.new.sink c.in_err-hand_partitions.field-0.0) c.self.view_is
    (fails-front gives c.args.sink.now c.hand_partitions.new.sink (to_stops s) (maxima s) c.in_err-hand_partitions.field-0.0
    (fails-front gives c.args.sink.now c.hand_partitions.new.sink (to_containers s) (stops s) c.in_err-hand_partitions.field-0.0
    (fails-front gives c.args.sink.now c.hand_partitions.new.sink (to_leaves s) (containers s) c.in_err-hand_partitions.field-0.0
    (fails-front gives c.args.sink.now c.hand_partitions.new.sink (to_nodes s) (leaves s) c.in_err-hand_partitions.field-0.0
    (fails-front gives c.args.sink.now c.hand_partitions.new.sink (to_partitions s) (nodes s) c.in_err-hand_partitions.field-0.0
    (fails-behind gives c.args.sink.now c.take.new.self c.hand_partitions.new.sink to_begin (partitions s) c.in_err-hand_partitions.field-0.0 told0 c.in_err-hand_partitions.ensures)))))))
    c.from_residual-in_err-hand_partitions.ensures.1

pub returns-in_err-hand_nodes : goal.returns-in_err-hand_nodes
unfolding lines_before_end
returns-in_err-hand_nodes g c =
    let gives = g.S.LineSink.gives in
    let s : Saved = saved_of c.self.inside in
    let told0 : TakesAll gives c.args.sink.now to_begin c.take.new.self = (c.take.new.self, c.in_ok-take.ensures, refl) in
    let told1 : TakesAll gives c.args.sink.now (to_partitions s) c.hand_partitions.new.sink = takes-append gives c.args.sink.now c.take.new.self c.hand_partitions.new.sink to_begin (partitions s) told0 c.in_ok-hand_partitions.ensures in
    fails-on gives c.args.sink.now c.hand_nodes.new.sink (lines_before_end c.args.self.now.config c.args.self.now.state) c.in_err-hand_nodes.field-0.0 c.from_residual-in_err-hand_nodes.result
    (subst (λ (s : Saved). FailsAmong gives c.args.sink.now (lines_before_end s.config s.state) c.hand_nodes.new.sink c.in_err-hand_nodes.field-0.0) c.self.view_is
    (fails-front gives c.args.sink.now c.hand_nodes.new.sink (to_stops s) (maxima s) c.in_err-hand_nodes.field-0.0
    (fails-front gives c.args.sink.now c.hand_nodes.new.sink (to_containers s) (stops s) c.in_err-hand_nodes.field-0.0
    (fails-front gives c.args.sink.now c.hand_nodes.new.sink (to_leaves s) (containers s) c.in_err-hand_nodes.field-0.0
    (fails-front gives c.args.sink.now c.hand_nodes.new.sink (to_nodes s) (leaves s) c.in_err-hand_nodes.field-0.0
    (fails-behind gives c.args.sink.now c.hand_partitions.new.sink c.hand_nodes.new.sink (to_partitions s) (nodes s) c.in_err-hand_nodes.field-0.0 told1 c.in_err-hand_nodes.ensures))))))
    c.from_residual-in_err-hand_nodes.ensures.1

pub returns-in_err-hand_leaves : goal.returns-in_err-hand_leaves
unfolding lines_before_end
returns-in_err-hand_leaves g c =
    let gives = g.S.LineSink.gives in
    let s : Saved = saved_of c.self.inside in
    let told0 : TakesAll gives c.args.sink.now to_begin c.take.new.self = (c.take.new.self, c.in_ok-take.ensures, refl) in
    let told1 : TakesAll gives c.args.sink.now (to_partitions s) c.hand_partitions.new.sink = takes-append gives c.args.sink.now c.take.new.self c.hand_partitions.new.sink to_begin (partitions s) told0 c.in_ok-hand_partitions.ensures in
    let told2 : TakesAll gives c.args.sink.now (to_nodes s) c.hand_nodes.new.sink = takes-append gives c.args.sink.now c.hand_partitions.new.sink c.hand_nodes.new.sink (to_partitions s) (nodes s) told1 c.in_ok-hand_nodes.ensures in
    fails-on gives c.args.sink.now c.hand_leaves.new.sink (lines_before_end c.args.self.now.config c.args.self.now.state) c.in_err-hand_leaves.field-0.0 c.from_residual-in_err-hand_leaves.result
    (subst (λ (s : Saved). FailsAmong gives c.args.sink.now (lines_before_end s.config s.state) c.hand_leaves.new.sink c.in_err-hand_leaves.field-0.0) c.self.view_is
    (fails-front gives c.args.sink.now c.hand_leaves.new.sink (to_stops s) (maxima s) c.in_err-hand_leaves.field-0.0
    (fails-front gives c.args.sink.now c.hand_leaves.new.sink (to_containers s) (stops s) c.in_err-hand_leaves.field-0.0
    (fails-front gives c.args.sink.now c.hand_leaves.new.sink (to_leaves s) (containers s) c.in_err-hand_leaves.field-0.0
    (fails-behind gives c.args.sink.now c.hand_nodes.new.sink c.hand_leaves.new.sink (to_nodes s) (leaves s) c.in_err-hand_leaves.field-0.0 told2 c.in_err-hand_leaves.ensures)))))
    c.from_residual-in_err-hand_leaves.ensures.1

pub returns-in_err-hand_containers : goal.returns-in_err-hand_containers
unfolding lines_before_end
returns-in_err-hand_containers g c =
    let gives = g.S.LineSink.gives in
    let s : Saved = saved_of c.self.inside in
    let told0 : TakesAll gives c.args.sink.now to_begin c.take.new.self = (c.take.new.self, c.in_ok-take.ensures, refl) in
    let told1 : TakesAll gives c.args.sink.now (to_partitions s) c.hand_partitions.new.sink = takes-append gives c.args.sink.now c.take.new.self c.hand_partitions.new.sink to_begin (partitions s) told0 c.in_ok-hand_partitions.ensures in
    let told2 : TakesAll gives c.args.sink.now (to_nodes s) c.hand_nodes.new.sink = takes-append gives c.args.sink.now c.hand_partitions.new.sink c.hand_nodes.new.sink (to_partitions s) (nodes s) told1 c.in_ok-hand_nodes.ensures in
    let told3 : TakesAll gives c.args.sink.now (to_leaves s) c.hand_leaves.new.sink = takes-append gives c.args.sink.now c.hand_nodes.new.sink c.hand_leaves.new.sink (to_nodes s) (leaves s) told2 c.in_ok-hand_leaves.ensures in
    fails-on gives c.args.sink.now c.hand_containers.new.sink (lines_before_end c.args.self.now.config c.args.self.now.state) c.in_err-hand_containers.field-0.0 c.from_residual-in_err-hand_containers.result
    (subst (λ (s : Saved). FailsAmong gives c.args.sink.now (lines_before_end s.config s.state) c.hand_containers.new.sink c.in_err-hand_containers.field-0.0) c.self.view_is
    (fails-front gives c.args.sink.now c.hand_containers.new.sink (to_stops s) (maxima s) c.in_err-hand_containers.field-0.0
    (fails-front gives c.args.sink.now c.hand_containers.new.sink (to_containers s) (stops s) c.in_err-hand_containers.field-0.0
    (fails-behind gives c.args.sink.now c.hand_leaves.new.sink c.hand_containers.new.sink (to_leaves s) (containers s) c.in_err-hand_containers.field-0.0 told3 c.in_err-hand_containers.ensures))))
    c.from_residual-in_err-hand_containers.ensures.1

pub returns-in_err-hand_stops : goal.returns-in_err-hand_stops
unfolding lines_before_end
returns-in_err-hand_stops g c =
    let gives = g.S.LineSink.gives in
    let s : Saved = saved_of c.self.inside in
    let told0 : TakesAll gives c.args.sink.now to_begin c.take.new.self = (c.take.new.self, c.in_ok-take.ensures, refl) in
    let told1 : TakesAll gives c.args.sink.now (to_partitions s) c.hand_partitions.new.sink = takes-append gives c.args.sink.now c.take.new.self c.hand_partitions.new.sink to_begin (partitions s) told0 c.in_ok-hand_partitions.ensures in
    let told2 : TakesAll gives c.args.sink.now (to_nodes s) c.hand_nodes.new.sink = takes-append gives c.args.sink.now c.hand_partitions.new.sink c.hand_nodes.new.sink (to_partitions s) (nodes s) told1 c.in_ok-hand_nodes.ensures in
    let told3 : TakesAll gives c.args.sink.now (to_leaves s) c.hand_leaves.new.sink = takes-append gives c.args.sink.now c.hand_nodes.new.sink c.hand_leaves.new.sink (to_nodes s) (leaves s) told2 c.in_ok-hand_leaves.ensures in
    let told4 : TakesAll gives c.args.sink.now (to_containers s) c.hand_containers.new.sink = takes-append gives c.args.sink.now c.hand_leaves.new.sink c.hand_containers.new.sink (to_leaves s) (containers s) told3 c.in_ok-hand_containers.ensures in
    fails-on gives c.args.sink.now c.hand_stops.new.sink (lines_before_end c.args.self.now.config c.args.self.now.state) c.in_err-hand_stops.field-0.0 c.from_residual-in_err-hand_stops.result
    (subst (λ (s : Saved). FailsAmong gives c.args.sink.now (lines_before_end s.config s.state) c.hand_stops.new.sink c.in_err-hand_stops.field-0.0) c.self.view_is
    (fails-front gives c.args.sink.now c.hand_stops.new.sink (to_stops s) (maxima s) c.in_err-hand_stops.field-0.0
    (fails-behind gives c.args.sink.now c.hand_containers.new.sink c.hand_stops.new.sink (to_containers s) (stops s) c.in_err-hand_stops.field-0.0 told4 c.in_err-hand_stops.ensures)))
    c.from_residual-in_err-hand_stops.ensures.1

pub returns : goal.returns
unfolding lines_before_end
returns g c =
    let gives = g.S.LineSink.gives in
    let s : Saved = saved_of c.self.inside in
    let told0 : TakesAll gives c.args.sink.now to_begin c.take.new.self = (c.take.new.self, c.in_ok-take.ensures, refl) in
    let told1 : TakesAll gives c.args.sink.now (to_partitions s) c.hand_partitions.new.sink = takes-append gives c.args.sink.now c.take.new.self c.hand_partitions.new.sink to_begin (partitions s) told0 c.in_ok-hand_partitions.ensures in
    let told2 : TakesAll gives c.args.sink.now (to_nodes s) c.hand_nodes.new.sink = takes-append gives c.args.sink.now c.hand_partitions.new.sink c.hand_nodes.new.sink (to_partitions s) (nodes s) told1 c.in_ok-hand_nodes.ensures in
    let told3 : TakesAll gives c.args.sink.now (to_leaves s) c.hand_leaves.new.sink = takes-append gives c.args.sink.now c.hand_nodes.new.sink c.hand_leaves.new.sink (to_nodes s) (leaves s) told2 c.in_ok-hand_leaves.ensures in
    let told4 : TakesAll gives c.args.sink.now (to_containers s) c.hand_containers.new.sink = takes-append gives c.args.sink.now c.hand_leaves.new.sink c.hand_containers.new.sink (to_leaves s) (containers s) told3 c.in_ok-hand_containers.ensures in
    let told5 : TakesAll gives c.args.sink.now (to_stops s) c.hand_stops.new.sink = takes-append gives c.args.sink.now c.hand_containers.new.sink c.hand_stops.new.sink (to_containers s) (stops s) told4 c.in_ok-hand_stops.ensures in
    subst (λ (s : Saved). Hands gives c.args.sink.now (lines_before_end s.config s.state) c.hand_maxima.new.sink c.hand_maxima.result) c.self.view_is
    (hands-behind gives c.args.sink.now c.hand_stops.new.sink c.hand_maxima.new.sink (to_stops s) (maxima s) c.hand_maxima.result told5 c.hand_maxima.ensures)
