-- A queue is told by its mark.
use Rattle.std.proofs.Common.{◌≡◌, ◌∷◌, ◌∙◌, [], cond, sym, ap, subst}
use Rattle.std.proofs.lemmas.Option.{same_Some}
use Rattle.ynl_cluster.specs.Cluster.{path_of}
use Rattle.ynl_saved.specs.declared.lines.StateLine.TheVariants.{Stopped}
use Rattle.ynl_saved.specs.Handing.{Hands}
use Rattle.ynl_saved.specs.Saving.{stop_lines}
use Rattle.ynl_saved.proofs.Handing.{hands-one}
use Rattle.ynl_snapshots.proofs.saving.queues.hand_stop.Goals as goal

pub returns-clause-told : goal.returns-clause-told
returns-clause-told g c row at =
    let marked : row ≡ record { queue = path_of c.args.cluster.now c.args.queue; stopped = c.is_stopped.result } =
    same_Some row (record { queue = path_of c.args.cluster.now c.args.queue; stopped = c.is_stopped.result }) (sym at ∙ c.is_stopped.ensures)
    in
    let lines : stop_lines row ≡ Stopped c.path_of.result ∷ [] =
    ap stop_lines marked ∙ ap (λ b. cond b (Stopped (path_of c.args.cluster.now c.args.queue) ∷ []) []) c.if-not-is_stopped.false
    ∙ ap (λ path. Stopped path ∷ []) (sym c.path_of.ensures)
    in
    subst (λ ls. Hands g.S.LineSink.gives c.args.sink.now ls c.take.new.self c.take.result) (sym lines)
    (hands-one g.S.LineSink.gives c.args.sink.now c.take.new.self (Stopped c.path_of.result) c.take.result c.take.ensures)
