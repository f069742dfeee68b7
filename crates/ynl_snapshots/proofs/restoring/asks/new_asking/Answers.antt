-- What is tested of the line of an ask.
use Rattle.std.proofs.Common.{◌≡◌, ◌<◌, ◌∙◌, is_some, sym, ap, arith}
use Rattle.std.proofs.lemmas.Option.{same_Some}
use Rattle.ynl_model.specs.Applications.{find_ask}
use Rattle.ynl_model.specs.declared.applications.AskRow.{AskRow}
use Rattle.ynl_laws.proofs.Logic.{none-is}
use Rattle.ynl_inventory.specs.Meaning.{app_of}
use Rattle.ynl_inventory.specs.Parts.{app_row}
use Rattle.ynl_inventory.specs.Rows.{AppRow}
use Rattle.ynl_cluster.specs.Cluster.{label_of, state_in}
use Rattle.ynl_snapshots.proofs.restoring.NewAsks.{ask-of_none, ask-read, ask-sound, asked-partition, home-known, may-free, may-not, no-count, there-already}
use Rattle.ynl_snapshots.proofs.restoring.asks.new_asking.Goals as goal

pub returns-in_default-clause-sound : goal.returns-in_default-clause-sound
returns-in_default-clause-sound c r is = ask-of_none c.args.cluster.now.config r (state_in c.args.cluster.now) is c.args.tenant.now c.args.name.now c.args.row.now c.in_default.ensures.none

pub returns-in_default-ask-clause-sound : goal.returns-in_default-ask-clause-sound
returns-in_default-ask-clause-sound c r is =
    let its = c.in-Some.ensures.some in
    ask-sound c.args.cluster.now.config r (state_in c.args.cluster.now) is c.args.tenant.now c.args.name.now c.args.row.now (app_of c.args.cluster.now.rows (c.in-Some._app, its.row)) its.named
    ∙ may-not c.args.cluster.now.config (state_in c.args.cluster.now) c.args.tenant.now c.args.name.now c.args.row.now (app_of c.args.cluster.now.rows (c.in-Some._app, its.row)) its.named
    (home-known c.args.cluster.now c.inventory-inventory.ensures.sound c.in-Some._app its.row its.found c.inventory-inventory.ensures.configured) c.in_default-ask.field-0 c.in_default-ask.ensures.refused

pub returns-then-row-eq0-clause-sound : goal.returns-then-row-eq0-clause-sound
returns-then-row-eq0-clause-sound c r is =
    ask-sound c.args.cluster.now.config r (state_in c.args.cluster.now) is c.args.tenant.now c.args.name.now c.args.row.now (app_of c.args.cluster.now.rows (c.in-Ok.asking.app, c.in-Ok.ensures.asks.app.row)) c.in-Ok.ensures.asks.app.named
    ∙ no-count c.args.cluster.now.config c.args.row.now (app_of c.args.cluster.now.rows (c.in-Ok.asking.app, c.in-Ok.ensures.asks.app.row)) c.if-row-eq0.true

pub returns-then-is_some-clause-sound : goal.returns-then-is_some-clause-sound
returns-then-is_some-clause-sound c r is =
    let there = asked-partition c.args.cluster.now c.inventory-inventory.ensures.sound c.in-Ok.asking.app c.in-Ok.ensures.asks.app.row c.in-Ok.ensures.asks.app.found c.in-Ok.asking.ask.partition c.in-Ok.ensures.asks.can.1 in
    let asks : c.app.result.now.asks ≡ c.in-Ok.ensures.asks.app.row.asks =
    ap (λ (row : AppRow). row.asks) (same_Some (app_row c.app.result.now) c.in-Ok.ensures.asks.app.row (sym (rw c.inventory-inventory.ensures.value at c.app.ensures) ∙ c.in-Ok.ensures.asks.app.found))
    in
    let label : label_of c.args.cluster.now c.in-Ok.asking.ask.partition ≡ c.args.row.now.label = ap (λ (ask : AskRow). ask.label) c.in-Ok.ensures.asks.means in
    let read : is_some (find_ask (app_of c.args.cluster.now.rows (c.in-Ok.asking.app, c.in-Ok.ensures.asks.app.row)) c.args.row.now.label c.args.row.now.priority) ≡ c.is_some.result =
    ap (λ label. is_some (find_ask (app_of c.args.cluster.now.rows (c.in-Ok.asking.app, c.in-Ok.ensures.asks.app.row)) label c.args.row.now.priority)) (sym label)
    ∙ ask-read c.args.cluster.now c.inventory-inventory.ensures.sound c.in-Ok.asking.app c.in-Ok.ensures.asks.app.row c.in-Ok.ensures.asks.app.found c.in-Ok.asking.ask.partition c.args.row.now.priority there c.find.result c.app.result.now.asks c.find.ensures asks
    ∙ sym c.is_some.ensures
    in
    ask-sound c.args.cluster.now.config r (state_in c.args.cluster.now) is c.args.tenant.now c.args.name.now c.args.row.now (app_of c.args.cluster.now.rows (c.in-Ok.asking.app, c.in-Ok.ensures.asks.app.row)) c.in-Ok.ensures.asks.app.named
    ∙ there-already c.args.cluster.now.config c.args.row.now (app_of c.args.cluster.now.rows (c.in-Ok.asking.app, c.in-Ok.ensures.asks.app.row)) (read ∙ c.if-is_some.true)

pub returns-clause-sound : goal.returns-clause-sound
returns-clause-sound c r is =
    let there = asked-partition c.args.cluster.now c.inventory-inventory.ensures.sound c.in-Ok.asking.app c.in-Ok.ensures.asks.app.row c.in-Ok.ensures.asks.app.found c.in-Ok.asking.ask.partition c.in-Ok.ensures.asks.can.1 in
    let asks : c.app.result.now.asks ≡ c.in-Ok.ensures.asks.app.row.asks =
    ap (λ (row : AppRow). row.asks) (same_Some (app_row c.app.result.now) c.in-Ok.ensures.asks.app.row (sym (rw c.inventory-inventory.ensures.value at c.app.ensures) ∙ c.in-Ok.ensures.asks.app.found))
    in
    let label : label_of c.args.cluster.now c.in-Ok.asking.ask.partition ≡ c.args.row.now.label = ap (λ (ask : AskRow). ask.label) c.in-Ok.ensures.asks.means in
    let read : is_some (find_ask (app_of c.args.cluster.now.rows (c.in-Ok.asking.app, c.in-Ok.ensures.asks.app.row)) c.args.row.now.label c.args.row.now.priority) ≡ c.is_some.result =
    ap (λ label. is_some (find_ask (app_of c.args.cluster.now.rows (c.in-Ok.asking.app, c.in-Ok.ensures.asks.app.row)) label c.args.row.now.priority)) (sym label)
    ∙ ask-read c.args.cluster.now c.inventory-inventory.ensures.sound c.in-Ok.asking.app c.in-Ok.ensures.asks.app.row c.in-Ok.ensures.asks.app.found c.in-Ok.asking.ask.partition c.args.row.now.priority there c.find.result c.app.result.now.asks c.find.ensures asks
    ∙ sym c.is_some.ensures
    in
    let above : 0 < c.args.row.now.count = omega (arith, c.if-row-eq0.false) in
    ask-sound c.args.cluster.now.config r (state_in c.args.cluster.now) is c.args.tenant.now c.args.name.now c.args.row.now (app_of c.args.cluster.now.rows (c.in-Ok.asking.app, c.in-Ok.ensures.asks.app.row)) c.in-Ok.ensures.asks.app.named
    ∙ may-free c.args.cluster.now.config (state_in c.args.cluster.now) c.args.tenant.now c.args.name.now c.args.row.now (app_of c.args.cluster.now.rows (c.in-Ok.asking.app, c.in-Ok.ensures.asks.app.row)) c.in-Ok.ensures.asks.app.named c.in-Ok.ensures.free above (read ∙ c.if-is_some.false)

pub returns-clause-asks : goal.returns-clause-asks
returns-clause-asks c =
    let there = asked-partition c.args.cluster.now c.inventory-inventory.ensures.sound c.in-Ok.asking.app c.in-Ok.ensures.asks.app.row c.in-Ok.ensures.asks.app.found c.in-Ok.asking.ask.partition c.in-Ok.ensures.asks.can.1 in
    let asks : c.app.result.now.asks ≡ c.in-Ok.ensures.asks.app.row.asks =
    ap (λ (row : AppRow). row.asks) (same_Some (app_row c.app.result.now) c.in-Ok.ensures.asks.app.row (sym (rw c.inventory-inventory.ensures.value at c.app.ensures) ∙ c.in-Ok.ensures.asks.app.found))
    in
    let label : label_of c.args.cluster.now c.in-Ok.asking.ask.partition ≡ c.args.row.now.label = ap (λ (ask : AskRow). ask.label) c.in-Ok.ensures.asks.means in
    let read : is_some (find_ask (app_of c.args.cluster.now.rows (c.in-Ok.asking.app, c.in-Ok.ensures.asks.app.row)) c.args.row.now.label c.args.row.now.priority) ≡ c.is_some.result =
    ap (λ label. is_some (find_ask (app_of c.args.cluster.now.rows (c.in-Ok.asking.app, c.in-Ok.ensures.asks.app.row)) label c.args.row.now.priority)) (sym label)
    ∙ ask-read c.args.cluster.now c.inventory-inventory.ensures.sound c.in-Ok.asking.app c.in-Ok.ensures.asks.app.row c.in-Ok.ensures.asks.app.found c.in-Ok.asking.ask.partition c.args.row.now.priority there c.find.result c.app.result.now.asks c.find.ensures asks
    ∙ sym c.is_some.ensures
    in
    let above : 0 < c.args.row.now.count = omega (arith, c.if-row-eq0.false) in
    record {
      can = c.in-Ok.ensures.asks;
      counted = above;
      new = none-is (find_ask (app_of c.args.cluster.now.rows (c.in-Ok.asking.app, c.in-Ok.ensures.asks.app.row)) c.args.row.now.label c.args.row.now.priority) (read ∙ c.if-is_some.false);
    }
