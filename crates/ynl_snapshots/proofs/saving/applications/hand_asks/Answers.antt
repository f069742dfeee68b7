-- What an application asks for is told, one ask after another.
use Rattle.std.proofs.Common.{◌≡◌, ◌≤◌, ℕ, length, map, List, subst, arith}
use Rattle.std.proofs.lemmas.List.{length-map}
use Rattle.ynl_resource.specs.Names.{tenant_of}
use Rattle.ynl_saved.specs.declared.lines.StateLine.{StateLine}
use Rattle.ynl_saved.specs.declared.lines.StateLine.TheVariants.{Ask as AskLine}
use Rattle.ynl_saved.proofs.Handing.{fails-next, fails-on, takes-lines, takes-next}
use Rattle.ynl_tables.specs.declared.apps.asks.Ask.{Ask}
use Rattle.ynl_inventory.specs.Rows.{AppRow, Rows}
use Rattle.ynl_inventory.specs.Meaning.{app_of, ask_of}
use Rattle.ynl_inventory.specs.Parts.{app_row}
use Rattle.ynl_snapshots.proofs.saving.Apps.{ask-counted, ask-line-counted, asks-row}
use Rattle.ynl_snapshots.proofs.saving.applications.hand_asks.Goals as goal

abbrev lines_of : Rows → ℕ → AppRow → List StateLine
lines_of v app row = map (AskLine (tenant_of (app_of v (app, row)).leaf) (app_of v (app, row)).name) (app_of v (app, row)).asks

pub ask_line-requires-clause-there : goal.ask_line-requires-clause-there
ask_line-requires-clause-there g c =
    ask-counted c.args.cluster.now c.inventory.result.now c.inventory.ensures.value c.args.app (app_row c.app.result.now) c.app.ensures c.as_slice-i-end.result.now c.as_slice-i-end.ensures.value c.loop-i.i c.loop-i-test.true

pub returns-in_err-take : goal.returns-in_err-take
returns-in_err-take g c row found =
    let lines = lines_of c.args.cluster.now.rows c.args.app row in
    fails-on g.S.LineSink.gives c.args.sink.now c.take.new.self lines c.in_err-take.field-0.0 c.from_residual.result
    (fails-next g.S.LineSink.gives lines c.loop-i.i c.args.sink.now c.loop-i.sink c.take.new.self (c.loop-i.invariant row found) c.ask_line.result
    (ask-line-counted c.args.cluster.now c.inventory.result.now c.inventory.ensures.value c.args.app (app_row c.app.result.now) c.app.ensures c.as_slice-i-end.result.now c.as_slice-i-end.ensures.value c.inventory.ensures.sound c.loop-i.i c.loop-i-test.true row found c.ask_line.result c.ask_line.ensures)
    c.in_err-take.field-0.0 c.in_err-take.ensures)
    c.from_residual.ensures.1

pub loop-i-preserved : goal.loop-i-preserved
loop-i-preserved g c row found =
    let lines = lines_of c.args.cluster.now.rows c.args.app row in
    takes-next g.S.LineSink.gives lines c.loop-i.i c.args.sink.now c.loop-i.sink c.take.new.self (c.loop-i.invariant row found) c.ask_line.result
    (ask-line-counted c.args.cluster.now c.inventory.result.now c.inventory.ensures.value c.args.app (app_row c.app.result.now) c.app.ensures c.as_slice-i-end.result.now c.as_slice-i-end.ensures.value c.inventory.ensures.sound c.loop-i.i c.loop-i-test.true row found c.ask_line.result c.ask_line.ensures)
    c.in_ok-take.ensures

pub returns : goal.returns
returns g c row found =
    let v = c.args.cluster.now.rows in
    let asks : c.as_slice-i-end.result.now ≡ row.asks = asks-row c.args.cluster.now c.inventory.result.now c.inventory.ensures.value c.args.app (app_row c.app.result.now) c.app.ensures c.as_slice-i-end.result.now c.as_slice-i-end.ensures.value row found in
    let past : length row.asks ≤ c.loop-i.i = subst (λ (asks : List Ask). length asks ≤ c.loop-i.i) asks c.loop-i-test.false in
    let one = length-map (map (ask_of v.partitions) row.asks) (AskLine (tenant_of (app_of v (c.args.app, row)).leaf) (app_of v (c.args.app, row)).name) in
    let two = length-map row.asks (ask_of v.partitions) in
    takes-lines g.S.LineSink.gives (lines_of v c.args.app row) c.loop-i.i c.args.sink.now c.loop-i.sink (c.loop-i.invariant row found) (omega (arith, past, one, two))
