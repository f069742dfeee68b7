-- What was found first has the ticket of a seat, and what stands first of both kinds is found in the leaf.
use Rattle.std.proofs.Common.{◌≡◌, ℕ, Option, Some, IfSome, sym, subst, ap, ◌∙◌, option_map}
use Rattle.std.specs.Option.{option_or}
use Rattle.ynl_lanes.specs.declared.lane.kinds.Kind.TheVariants as kind
use Rattle.ynl_lanes.specs.lane.Seats.{IsSeat, given}
use Rattle.ynl_search.specs.declared.found.Found.{Found}
use Rattle.ynl_search.specs.InLeaf.{gives_master}
use Rattle.ynl_search.proofs.FirstOver.{seat-found}
use Rattle.ynl_search.proofs.MayHave.{asks-may, masters-may}
use Rattle.ynl_search.proofs.OwnFirst.{first-told, none-found}
use Rattle.ynl_search.proofs.own.first_own.Goals as goal

pub first-master-requires-clause-passes : goal.first-master-requires-clause-passes
first-master-requires-clause-passes c =
    masters-may c.args.inventory.now.rows c.args.partition c.requires.0 c.args.lane.now.seats c.requires.1 c.args.tests.now c.in_ok-users.users c.in_ok-users.ensures.some

pub first-requires-clause-before : goal.first-requires-clause-before
first-requires-clause-before c =
    subst (λ (o : Option ℕ). IfSome o (λ ticket. IsSeat ticket c.args.lane.now.seats)) (sym c.ticket-before.ensures)
    (seat-found (given kind.Master (gives_master c.args.inventory.now.rows c.args.lane.now.seats c.args.partition c.args.tests.now)) c.args.lane.now.seats c.first-master.result (sym c.first-master.ensures))

pub first-requires-clause-passes : goal.first-requires-clause-passes
first-requires-clause-passes c =
    asks-may c.args.inventory.now.rows c.args.partition c.requires.0 c.args.lane.now.seats c.requires.1 c.args.tests.now c.in_ok-users.users c.in_ok-users.ensures.some

pub returns-in_err-users : goal.returns-in_err-users
returns-in_err-users c =
    c.from_residual.ensures
    ∙ sym (none-found c.args.inventory.now.rows c.args.lane.now.seats c.args.partition c.args.tests.now c.in_err-users.ensures.none)

pub returns-in-Some : goal.returns-in-Some
returns-in-Some c =
    sym (ap (λ o. option_or (option_map (λ (e : ℕ × Found). e.1) o) (option_map (λ (e : ℕ × Found). e.1) c.first-master.result)) c.in-Some.is)
    ∙ first-told c.args.inventory.now.rows c.args.lane.now.seats c.args.partition c.args.tests.now c.ticket-before.result c.first-master.result c.first.result
    c.first-master.ensures c.ticket-before.ensures c.first.ensures

pub returns : goal.returns
returns c =
    let master : c.first-master.result ≡ Some (c.in_ok-found.field-0-0, c.in_ok-found.found) = c.in_ok-found.was in
    sym (λ i. option_or (option_map (λ (e : ℕ × Found). e.1) (c.in_default.is i)) (option_map (λ (e : ℕ × Found). e.1) (master i)))
    ∙ first-told c.args.inventory.now.rows c.args.lane.now.seats c.args.partition c.args.tests.now c.ticket-before.result c.first-master.result c.first.result
    c.first-master.ensures c.ticket-before.ensures c.first.ensures
