-- What is tested of the line of a container that was asked for.
use Rattle.std.proofs.Common.{◌≡◌, ◌∙◌, ◌&&◌, ◌||◌, nat_eq, sym, ap}
use Rattle.std.proofs.lemmas.Option.{same_Some}
use Rattle.ynl_laws.proofs.Logic.{and-false}
use Rattle.ynl_tables.proofs.containers.Removing.{at_live}
use Rattle.ynl_inventory.specs.Parts.{app_row}
use Rattle.ynl_inventory.specs.Rows.{AppRow, PartitionRow}
use Rattle.ynl_inventory.proofs.Lookups.{place-there}
use Rattle.ynl_snapshots.proofs.restoring.Roles.{asked-told, unknown-asked}
use Rattle.ynl_snapshots.proofs.restoring.placements.asked_on.Goals as goal

pub returns-in_default-clause-may : goal.returns-in_default-clause-may
returns-in_default-clause-may c placed priority row found own =
    unknown-asked c.args.cluster.now c.inventory-inventory.ensures.sound c.inventory-inventory.ensures.configured c.args.app row found c.args.p c.requires.partition placed own c.args.label.now (sym c.in_default.ensures.known) priority

pub returns-then-not-asks_at-clause-may : goal.returns-then-not-asks_at-clause-may
returns-then-not-asks_at-clause-may c placed priority row found own =
    let is = same_Some (app_row c.app.result.now) row (sym (rw c.inventory-inventory.ensures.value at c.app.ensures) ∙ found) in
    let at = place-there c.args.cluster.now.rows.partitions c.args.p c.requires.partition in
    asked-told c.args.cluster.now c.inventory-inventory.ensures.sound c.inventory-inventory.ensures.configured c.args.app row found c.args.p c.requires.partition placed own c.args.label.now c.in-Some.asked c.in-Some.ensures.some at.0 at.1 priority
    ∙ ap (λ b. b && (nat_eq c.in-Some.asked c.args.p || (nat_eq c.in-Some.asked 0 && at.0.guests))) (ap (λ (r : AppRow). nat_eq c.in-Some.asked 0 || nat_eq c.in-Some.asked r.home) (sym is) ∙ sym c.asks_at.ensures ∙ c.if-not-asks_at.true)

pub returns-then-not-may_stand_on-clause-may : goal.returns-then-not-may_stand_on-clause-may
returns-then-not-may_stand_on-clause-may c placed priority row found own =
    let is = same_Some (app_row c.app.result.now) row (sym (rw c.inventory-inventory.ensures.value at c.app.ensures) ∙ found) in
    let at = place-there c.args.cluster.now.rows.partitions c.args.p c.requires.partition in
    let guests = at_live (λ (part : PartitionRow). c.takes_guests.result ≡ part.guests) _ at.0 (rw c.inventory-inventory.ensures.value at c.takes_guests.ensures) at.1 in
    asked-told c.args.cluster.now c.inventory-inventory.ensures.sound c.inventory-inventory.ensures.configured c.args.app row found c.args.p c.requires.partition placed own c.args.label.now c.in-Some.asked c.in-Some.ensures.some at.0 at.1 priority
    ∙ ap (λ b. (nat_eq c.in-Some.asked 0 || nat_eq c.in-Some.asked row.home) && b) (ap (λ b. nat_eq c.in-Some.asked c.args.p || (nat_eq c.in-Some.asked 0 && b)) (sym guests) ∙ sym c.may_stand_on.ensures ∙ c.if-not-may_stand_on.true)
    ∙ and-false (nat_eq c.in-Some.asked 0 || nat_eq c.in-Some.asked row.home)

pub returns-clause-may : goal.returns-clause-may
returns-clause-may c placed priority row found own =
    let is = same_Some (app_row c.app.result.now) row (sym (rw c.inventory-inventory.ensures.value at c.app.ensures) ∙ found) in
    let at = place-there c.args.cluster.now.rows.partitions c.args.p c.requires.partition in
    let guests = at_live (λ (part : PartitionRow). c.takes_guests.result ≡ part.guests) _ at.0 (rw c.inventory-inventory.ensures.value at c.takes_guests.ensures) at.1 in
    asked-told c.args.cluster.now c.inventory-inventory.ensures.sound c.inventory-inventory.ensures.configured c.args.app row found c.args.p c.requires.partition placed own c.args.label.now c.in-Some.asked c.in-Some.ensures.some at.0 at.1 priority
    ∙ (λ i. (ap (λ (r : AppRow). nat_eq c.in-Some.asked 0 || nat_eq c.in-Some.asked r.home) (sym is) ∙ sym c.asks_at.ensures ∙ c.if-not-asks_at.false) i
    && (ap (λ b. nat_eq c.in-Some.asked c.args.p || (nat_eq c.in-Some.asked 0 && b)) (sym guests) ∙ sym c.may_stand_on.ensures ∙ c.if-not-may_stand_on.false) i)
