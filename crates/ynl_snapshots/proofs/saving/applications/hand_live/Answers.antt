-- A live application is told before what it asks for.
use Rattle.std.proofs.Common.{◌∷◌, [], map, subst}
use Rattle.ynl_resource.specs.Names.{tenant_of}
use Rattle.ynl_inventory.specs.Meaning.{app_of}
use Rattle.ynl_saved.specs.declared.lines.StateLine.{StateLine}
use Rattle.ynl_saved.specs.declared.lines.StateLine.TheVariants.{Ask as AskLine}
use Rattle.ynl_saved.specs.Handing.{FailsAmong, TakesAll}
use Rattle.ynl_saved.specs.Saving.{live_line, live_lines}
use Rattle.ynl_saved.proofs.Handing.{fails-front, fails-on, hands-behind, hands-one}
use Rattle.std.proofs.Common.{Err, refl}
use Rattle.ynl_snapshots.proofs.saving.applications.hand_live.Goals as goal

pub returns-in_err-take : goal.returns-in_err-take
returns-in_err-take g c row found =
    let app = app_of c.args.cluster.now.rows (c.args.app, row) in
    fails-on g.S.LineSink.gives c.args.sink.now c.take.new.self (live_lines app) c.in_err-take.field-0.0 c.from_residual.result
    (fails-front g.S.LineSink.gives c.args.sink.now c.take.new.self (live_line app ∷ []) (map (AskLine (tenant_of app.leaf) app.name) app.asks) c.in_err-take.field-0.0
    (subst (λ (line : StateLine). FailsAmong g.S.LineSink.gives c.args.sink.now (line ∷ []) c.take.new.self c.in_err-take.field-0.0) (c.live_line.ensures row found)
    (hands-one g.S.LineSink.gives c.args.sink.now c.take.new.self c.live_line.result (Err c.in_err-take.field-0.0) c.in_err-take.ensures)))
    c.from_residual.ensures.1

pub returns : goal.returns
returns g c row found =
    let app = app_of c.args.cluster.now.rows (c.args.app, row) in
    hands-behind g.S.LineSink.gives c.args.sink.now c.take.new.self c.hand_asks.new.sink (live_line app ∷ []) (map (AskLine (tenant_of app.leaf) app.name) app.asks) c.hand_asks.result
    (subst (λ (line : StateLine). TakesAll g.S.LineSink.gives c.args.sink.now (line ∷ []) c.take.new.self) (c.live_line.ensures row found) (c.take.new.self, c.in_ok-take.ensures, refl))
    (c.hand_asks.ensures row found)
