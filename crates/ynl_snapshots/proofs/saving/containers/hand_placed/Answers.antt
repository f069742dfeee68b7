-- The containers of a partition are told one after another.
use Rattle.std.proofs.Common.{◌+◌, ℕ, map, sym, subst, ◌∙◌, arith}
use Rattle.std.proofs.lemmas.List.{length-map}
use Rattle.ynl_tables.specs.declared.containers.container.Container.{Container}
use Rattle.ynl_slots.specs.Slots.{IsAfter, IsLive}
use Rattle.ynl_slots.proofs.Walks.{here_live, left_less, past_all}
use Rattle.ynl_inventory.specs.Apps.{containers_of}
use Rattle.ynl_inventory.specs.Meaning.{placed_of}
use Rattle.ynl_inventory.specs.Parts.{Held}
use Rattle.ynl_cluster.specs.Cluster.{label_of}
use Rattle.ynl_saved.specs.declared.lines.StateLine.TheVariants.{Container as ContainerLine}
use Rattle.ynl_saved.proofs.Handing.{fails-next, fails-on, takes-lines, takes-next}
use Rattle.ynl_snapshots.proofs.saving.Rows.{container-held, container-line-there, containers-apart}
use Rattle.ynl_snapshots.proofs.saving.containers.hand_placed.Goals as goal

pub placed-requires : goal.placed-requires
placed-requires g c =
    container-held c.args.cluster.now c.inventory-inventory.ensures.sound c.args.p c.loop-next.invariant.0 c.in-Some.number (sym c.loop-next.invariant.1 ∙ c.in-Some.is) c.inventory-inventory.result.now c.inventory-inventory.ensures.value

pub returns-in_err-take : goal.returns-in_err-take
returns-in_err-take g c =
    let lines = map ContainerLine (map (λ e. placed_of c.args.cluster.now.rows (label_of c.args.cluster.now c.args.p) e.1) (containers_of c.args.cluster.now.rows c.args.p)) in
    fails-on g.S.LineSink.gives c.args.sink.now c.take.new.self lines c.in_err-take.field-0.0 c.from_residual.result
    (fails-next g.S.LineSink.gives lines c.loop-next.invariant.0 c.args.sink.now c.loop-next.sink c.take.new.self c.loop-next.invariant.2 (ContainerLine c.placed.result)
    (container-line-there c.args.cluster.now c.inventory-inventory.ensures.sound c.args.p c.loop-next.invariant.0 c.in-Some.number (sym c.loop-next.invariant.1 ∙ c.in-Some.is) c.inventory-inventory.result.now c.inventory-inventory.ensures.value c.placed.result c.placed.ensures)
    c.in_err-take.field-0.0 c.in_err-take.ensures)
    c.from_residual.ensures.1

pub next_container-next-requires-clause-live : goal.next_container-next-requires-clause-live
next_container-next-requires-clause-live g c =
    subst (λ (h : Held). IsLive c.in-Some.number (containers_of h.rows c.args.p)) (sym c.inventory-inventory.ensures.value) (here_live (containers_of c.args.cluster.now.rows c.args.p) c.loop-next.invariant.0 c.in-Some.number (sym c.loop-next.invariant.1 ∙ c.in-Some.is))

pub loop-next-smaller : goal.loop-next-smaller
loop-next-smaller g c =
    let after = subst (λ (h : Held). IsAfter c.in-Some.number (containers_of h.rows c.args.p) c.next_container-next.result) c.inventory-inventory.ensures.value c.next_container-next.ensures in
    rw c.in-Some.is (left_less (containers_of c.args.cluster.now.rows c.args.p) c.loop-next.invariant.0 c.in-Some.number c.next_container-next.result (containers-apart c.args.cluster.now.rows c.inventory-inventory.ensures.sound c.args.p) (sym c.loop-next.invariant.1 ∙ c.in-Some.is) after)

pub loop-next-preserved : goal.loop-next-preserved
loop-next-preserved g c =
    let lines = map ContainerLine (map (λ e. placed_of c.args.cluster.now.rows (label_of c.args.cluster.now c.args.p) e.1) (containers_of c.args.cluster.now.rows c.args.p)) in
    let after = subst (λ (h : Held). IsAfter c.in-Some.number (containers_of h.rows c.args.p) c.next_container-next.result) c.inventory-inventory.ensures.value c.next_container-next.ensures in (
      c.loop-next.invariant.0 + 1,
      after c.loop-next.invariant.0 (sym c.loop-next.invariant.1 ∙ c.in-Some.is),
      takes-next g.S.LineSink.gives lines c.loop-next.invariant.0 c.args.sink.now c.loop-next.sink c.take.new.self c.loop-next.invariant.2 (ContainerLine c.placed.result)
          (container-line-there c.args.cluster.now c.inventory-inventory.ensures.sound c.args.p c.loop-next.invariant.0 c.in-Some.number (sym c.loop-next.invariant.1 ∙ c.in-Some.is) c.inventory-inventory.result.now c.inventory-inventory.ensures.value c.placed.result c.placed.ensures)
          c.in_ok-take.ensures,
    )

pub returns : goal.returns
returns g c =
    let past = past_all (containers_of c.args.cluster.now.rows c.args.p) c.loop-next.invariant.0 (sym c.in_default.is ∙ c.loop-next.invariant.1) in
    takes-lines g.S.LineSink.gives (map ContainerLine (map (λ e. placed_of c.args.cluster.now.rows (label_of c.args.cluster.now c.args.p) e.1) (containers_of c.args.cluster.now.rows c.args.p))) c.loop-next.invariant.0 c.args.sink.now c.loop-next.sink c.loop-next.invariant.2 (omega (arith, past, length-map (map (λ (e : ℕ × Container). placed_of c.args.cluster.now.rows (label_of c.args.cluster.now c.args.p) e.1) (containers_of c.args.cluster.now.rows c.args.p)) ContainerLine, length-map (containers_of c.args.cluster.now.rows c.args.p) (λ (e : ℕ × Container). placed_of c.args.cluster.now.rows (label_of c.args.cluster.now c.args.p) e.1)))
