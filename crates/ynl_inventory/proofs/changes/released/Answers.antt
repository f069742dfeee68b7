-- Two changes of one application are one.
use Rattle.std.proofs.Common.{sym, ap, ◌∙◌}
use Rattle.ynl_slots.specs.Slots.{Numbered, with_row}
use Rattle.ynl_tables.specs.declared.apps.app.AppRow.{AppRow}
use Rattle.ynl_tables.specs.apps.Apps.{with_app}
use Rattle.ynl_tables.specs.declared.containers.container.Role.{Role}
use Rattle.std.proofs.Common.{None}
use Rattle.ynl_inventory.specs.Parts.{released_part}
use Rattle.ynl_inventory.proofs.Lookups.{app-twice, live-after}
use Rattle.ynl_inventory.proofs.changes.released.Goals as goal

pub set_master-requires : goal.set_master-requires
set_master-requires c =
    live-after {X = AppRow} c.args.ended.now.app c.args.ended.now.app (λ row. record row { chains = with_row c.args.p c.args.chain row.chains }) c.args.apps.now.entries c.set_chain.new.self.entries
    (ap (λ (apps : Numbered AppRow). apps.entries) c.set_chain.ensures) c.requires.live

pub returns-in-Master : goal.returns-in-Master
returns-in-Master c =
    app-twice c.args.ended.now.app (λ row. record row { master = None }) (λ row. record row { chains = with_row c.args.p c.args.chain row.chains }) c.args.apps.now c.set_chain.new.self
    c.set_master.new.self c.set_master.ensures c.set_chain.ensures
    ∙ ap (λ (r : Role). with_app c.args.ended.now.app (λ row. released_part r (record row { chains = with_row c.args.p c.args.chain row.chains })) c.args.apps.now) (sym c.in-Master.is)
