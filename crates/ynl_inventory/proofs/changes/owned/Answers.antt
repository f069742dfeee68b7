-- Two changes of one application are one, and set its chain.
use Rattle.std.proofs.Common.{◌≡◌, ℕ, Some, IfSome, option_map, nat_eq, sym, ap, subst, ◌∙◌}
use Rattle.std.specs.Map.{lookup}
use Rattle.ynl_slots.specs.Slots.{Numbered, IsLive, with_row}
use Rattle.ynl_slots.specs.declared.chain.Chain.{Chain}
use Rattle.ynl_tables.specs.declared.apps.app.AppRow.{AppRow}
use Rattle.ynl_tables.specs.apps.Apps.{with_app}
use Rattle.ynl_tables.specs.apps.Chains.{chain_of}
use Rattle.ynl_tables.specs.declared.containers.container.Role.{Role}
use Rattle.ynl_inventory.specs.Parts.{owned_part}
use Rattle.ynl_tables.proofs.containers.Removing.{at_live}
use Rattle.ynl_inventory.proofs.Lookups.{app-twice, changed-same, live-after, live-found}
use Rattle.ynl_inventory.proofs.PartLists.{chain-same, owned-chains}
use Rattle.ynl_inventory.proofs.changes.owned.Goals as goal

pub set_master-requires : goal.set_master-requires
set_master-requires c =
    live-after {X = AppRow} c.args.placed.now.app c.args.placed.now.app (λ row. record row { chains = with_row c.args.p c.args.chain row.chains }) c.args.apps.now.entries c.set_chain.new.self.entries
    (ap (λ (apps : Numbered AppRow). apps.entries) c.set_chain.ensures) c.requires.live

pub returns-in-Master-clause-apps : goal.returns-in-Master-clause-apps
returns-in-Master-clause-apps c =
    app-twice c.args.placed.now.app (λ row. record row { master = Some c.args.number }) (λ row. record row { chains = with_row c.args.p c.args.chain row.chains }) c.args.apps.now c.set_chain.new.self
    c.set_master.new.self (rw c.some.ensures at c.set_master.ensures) c.set_chain.ensures
    ∙ ap (λ (r : Role). with_app c.args.placed.now.app (λ row. owned_part r c.args.number (record row { chains = with_row c.args.p c.args.chain row.chains })) c.args.apps.now) (sym c.in-Master.is)

pub returns-in-Ask-clause-apps : goal.returns-in-Ask-clause-apps
returns-in-Ask-clause-apps c =
    c.set_chain.ensures
    ∙ ap (λ (r : Role). with_app c.args.placed.now.app (λ row. owned_part r c.args.number (record row { chains = with_row c.args.p c.args.chain row.chains })) c.args.apps.now) (sym c.in-Ask.is)

-- its chain is the one that was set
chained : (role : Role) (app p number : ℕ) (chain : Chain) (old new : Numbered AppRow) → new ≡ with_app app (λ row. owned_part role number (record row { chains = with_row p chain row.chains })) old
    → IsLive app old.entries → IfSome (lookup (nat_eq app) old.entries) (λ row. IsLive p row.chains) → IfSome (lookup (nat_eq app) new.entries) (λ row. chain_of p row.chains ≡ chain)
chained role app p number chain old new is live place =
    let row = live-found app old.entries live in
    let found : lookup (nat_eq app) new.entries ≡ Some (owned_part role number (record row.0 { chains = with_row p chain row.0.chains })) =
    ap (λ (apps : Numbered AppRow). lookup (nat_eq app) apps.entries) is ∙ changed-same app (λ (row : AppRow). owned_part role number (record row { chains = with_row p chain row.chains })) old.entries
    ∙ ap (option_map (λ (row : AppRow). owned_part role number (record row { chains = with_row p chain row.chains }))) row.1
    in
    subst (λ o. IfSome o (λ (row : AppRow). chain_of p row.chains ≡ chain)) (sym found)
    (ap (chain_of p) (owned-chains role number (record row.0 { chains = with_row p chain row.0.chains }))
    ∙ chain-same p chain row.0.chains (at_live (λ (row : AppRow). IsLive p row.chains) (lookup (nat_eq app) old.entries) row.0 place row.1))

pub returns-in-Master-clause-chain : goal.returns-in-Master-clause-chain
returns-in-Master-clause-chain c =
    chained c.args.placed.now.role c.args.placed.now.app c.args.p c.args.number c.args.chain c.args.apps.now c.set_master.new.self (returns-in-Master-clause-apps c) c.requires.live c.requires.place

pub returns-in-Ask-clause-chain : goal.returns-in-Ask-clause-chain
returns-in-Ask-clause-chain c =
    chained c.args.placed.now.role c.args.placed.now.app c.args.p c.args.number c.args.chain c.args.apps.now c.set_chain.new.self (returns-in-Ask-clause-apps c) c.requires.live c.requires.place
