-- Two changes of one application are one, and leave its chain.
use Rattle.std.proofs.Common.{◌≡◌, sym, ap, ◌∙◌}
use Rattle.ynl_slots.specs.Slots.{Numbered, with_row}
use Rattle.ynl_tables.specs.declared.apps.app.AppRow.{AppRow}
use Rattle.ynl_tables.specs.apps.Apps.{with_app}
use Rattle.ynl_tables.specs.apps.Chains.{chain_of}
use Rattle.ynl_tables.specs.apps.Asks.{with_one_taken}
use Rattle.ynl_tables.specs.declared.containers.container.Role.{Role}
use Rattle.ynl_inventory.specs.Parts.{owned_part, taken_part}
use Rattle.ynl_inventory.proofs.Lookups.{app-twice, live-after, some-after}
use Rattle.ynl_inventory.proofs.changes.taken.Goals as goal

pub take_one-requires : goal.take_one-requires
take_one-requires c =
    live-after {X = AppRow} c.args.placed.now.app c.args.placed.now.app (λ row. owned_part c.args.placed.now.role c.args.number (record row { chains = with_row c.args.p c.args.chain row.chains })) c.args.apps.now.entries
    c.owned.new.apps.entries (ap (λ (apps : Numbered AppRow). apps.entries) c.owned.ensures.apps) c.requires.live

pub returns-in-Master-clause-apps : goal.returns-in-Master-clause-apps
returns-in-Master-clause-apps c =
    c.owned.ensures.apps
    ∙ ap (λ (r : Role). with_app c.args.placed.now.app (λ row. owned_part r c.args.number (record row { chains = with_row c.args.p c.args.chain row.chains })) c.args.apps.now) c.in-Master.is
    ∙ ap (λ (r : Role). with_app c.args.placed.now.app (λ row. taken_part r c.args.number (record row { chains = with_row c.args.p c.args.chain row.chains })) c.args.apps.now) (sym c.in-Master.is)

pub returns-in-Ask-clause-apps : goal.returns-in-Ask-clause-apps
returns-in-Ask-clause-apps c =
    app-twice c.args.placed.now.app (λ row. record row { asks = with_one_taken c.in-Ask.partition c.in-Ask.priority row.asks }) (λ row. record row { chains = with_row c.args.p c.args.chain row.chains })
    c.args.apps.now c.owned.new.apps c.take_one.new.self c.take_one.ensures
    (c.owned.ensures.apps
    ∙ ap (λ (r : Role). with_app c.args.placed.now.app (λ row. owned_part r c.args.number (record row { chains = with_row c.args.p c.args.chain row.chains })) c.args.apps.now) c.in-Ask.is)
    ∙ ap (λ (r : Role). with_app c.args.placed.now.app (λ row. taken_part r c.args.number (record row { chains = with_row c.args.p c.args.chain row.chains })) c.args.apps.now) (sym c.in-Ask.is)

pub returns-in-Ask-clause-chain : goal.returns-in-Ask-clause-chain
returns-in-Ask-clause-chain c =
    some-after {X = AppRow} (λ row. chain_of c.args.p row.chains ≡ c.args.chain) c.args.placed.now.app c.args.placed.now.app
    (λ row. record row { asks = with_one_taken c.in-Ask.partition c.in-Ask.priority row.asks }) c.owned.new.apps.entries c.take_one.new.self.entries
    (ap (λ (apps : Numbered AppRow). apps.entries) c.take_one.ensures) (λ row h. h) c.owned.ensures.chain
