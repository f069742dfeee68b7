-- A user has a number: one of a new name comes last.
use Rattle.std.proofs.Common.{◌++◌, ◌∷◌, [], slice_get, sym, ap, ◌∙◌}
use Rattle.ynl_inventory.proofs.KnownUsers.{known-held, last-user, user-held, user-inventory}
use Rattle.ynl_inventory.proofs.inventory.Inventory.user.Goals as goal

pub returns-in-Some-clause-ok : goal.returns-in-Some-clause-ok
returns-in-Some-clause-ok c = sym c.self.view_is ∙ known-held c.self.inside c.args.self.now c.self.view_is c.args.name.now c.in-Some.user c.in-Some.ensures.own

pub invariant_of-self-2 : goal.invariant_of-self-2
invariant_of-self-2 c = user-inventory c.self.inside c.args.name.now c.in_default.ensures.none c.add.new.self c.in_ok-user.ensures.ok.names c.self.invariant

pub returns-clause-ok : goal.returns-clause-ok
returns-clause-ok c = user-held c.self.inside c.args.name.now c.in_default.ensures.none c.add.new.self c.in_ok-user.ensures.ok.names c.args.self.now c.self.view_is

pub returns-clause-own : goal.returns-clause-own
returns-clause-own c =
    ap (λ users. slice_get users c.in_ok-user.user) c.in_ok-user.ensures.ok.names
    ∙ ap (slice_get (c.self.inside.users ++ c.args.name.now ∷ [])) c.in_ok-user.ensures.ok.number_is
    ∙ last-user c.args.name.now c.self.inside.users
