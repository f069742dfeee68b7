-- The nodes are told one after another.
use Rattle.std.proofs.Common.{◌+◌, ℕ, map, sym, subst, ◌∙◌, arith}
use Rattle.std.proofs.lemmas.List.{length-map}
use Rattle.ynl_slots.specs.Slots.{IsAfter, IsLive}
use Rattle.ynl_slots.proofs.Walks.{here_live, left_less, past_all}
use Rattle.ynl_inventory.specs.Meaning.{node_of}
use Rattle.ynl_inventory.specs.Parts.{Held}
use Rattle.ynl_inventory.specs.Rows.{NodeRow}
use Rattle.ynl_cluster.specs.Cluster.{state_in}
use Rattle.ynl_saved.specs.declared.lines.StateLine.TheVariants.{Node as NodeLine}
use Rattle.ynl_saved.proofs.Handing.{fails-next, fails-on, takes-lines, takes-next}
use Rattle.ynl_snapshots.proofs.saving.Rows.{node-line-there}
use Rattle.ynl_snapshots.proofs.saving.partitions.hand_nodes.Goals as goal

pub node_at-requires : goal.node_at-requires
node_at-requires g c = here_live c.args.cluster.now.rows.nodes c.loop-next.invariant.0 c.in-Some.number (sym c.loop-next.invariant.1 ∙ c.in-Some.is)

pub returns-in_err-take : goal.returns-in_err-take
returns-in_err-take g c =
    let lines = map NodeLine (state_in c.args.cluster.now).nodes in
    fails-on g.S.LineSink.gives c.args.sink.now c.take.new.self lines c.in_err-take.field-0.0 c.from_residual.result
    (fails-next g.S.LineSink.gives lines c.loop-next.invariant.0 c.args.sink.now c.loop-next.sink c.take.new.self c.loop-next.invariant.2 (NodeLine c.node_at.result)
    (node-line-there c.args.cluster.now c.inventory-inventory.ensures.sound c.loop-next.invariant.0 c.in-Some.number (sym c.loop-next.invariant.1 ∙ c.in-Some.is) c.node_at.result c.node_at.ensures)
    c.in_err-take.field-0.0 c.in_err-take.ensures)
    c.from_residual.ensures.1

pub next_node-next-requires : goal.next_node-next-requires
next_node-next-requires g c =
    subst (λ (h : Held). IsLive c.in-Some.number h.rows.nodes) (sym c.inventory-inventory.ensures.value) (here_live c.args.cluster.now.rows.nodes c.loop-next.invariant.0 c.in-Some.number (sym c.loop-next.invariant.1 ∙ c.in-Some.is))

pub loop-next-smaller : goal.loop-next-smaller
loop-next-smaller g c =
    let after = subst (λ (h : Held). IsAfter c.in-Some.number (h.rows.nodes) c.next_node-next.result) c.inventory-inventory.ensures.value c.next_node-next.ensures in
    rw c.in-Some.is (left_less c.args.cluster.now.rows.nodes c.loop-next.invariant.0 c.in-Some.number c.next_node-next.result c.inventory-inventory.ensures.sound.node_numbers (sym c.loop-next.invariant.1 ∙ c.in-Some.is) after)

pub loop-next-preserved : goal.loop-next-preserved
loop-next-preserved g c =
    let lines = map NodeLine (state_in c.args.cluster.now).nodes in
    let after = subst (λ (h : Held). IsAfter c.in-Some.number (h.rows.nodes) c.next_node-next.result) c.inventory-inventory.ensures.value c.next_node-next.ensures in (
      c.loop-next.invariant.0 + 1,
      after c.loop-next.invariant.0 (sym c.loop-next.invariant.1 ∙ c.in-Some.is),
      takes-next g.S.LineSink.gives lines c.loop-next.invariant.0 c.args.sink.now c.loop-next.sink c.take.new.self c.loop-next.invariant.2 (NodeLine c.node_at.result)
          (node-line-there c.args.cluster.now c.inventory-inventory.ensures.sound c.loop-next.invariant.0 c.in-Some.number (sym c.loop-next.invariant.1 ∙ c.in-Some.is) c.node_at.result c.node_at.ensures)
          c.in_ok-take.ensures,
    )

pub returns : goal.returns
returns g c =
    let past = past_all c.args.cluster.now.rows.nodes c.loop-next.invariant.0 (sym c.in_default.is ∙ c.loop-next.invariant.1) in
    takes-lines g.S.LineSink.gives (map NodeLine (state_in c.args.cluster.now).nodes) c.loop-next.invariant.0 c.args.sink.now c.loop-next.sink c.loop-next.invariant.2 (omega (arith, past, length-map (state_in c.args.cluster.now).nodes NodeLine, length-map c.args.cluster.now.rows.nodes (λ (e : ℕ × NodeRow). node_of c.args.cluster.now.rows.partitions e.1)))
