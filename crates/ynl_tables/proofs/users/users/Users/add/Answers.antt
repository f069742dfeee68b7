use Rattle.std.proofs.Common.{◌∙◌, ◌++◌, ◌∷◌, [], ap, sym, subst, cond, Some, List, ℕ, refl, arith}
use Rattle.std.specs.BTreeMap.{get, is_at}
use Rattle.ynl_resource.specs.Names.{name_order}
use Rattle.ynl_resource.specs.declared.names.Name.{Name}
use Rattle.ynl_tables.specs.users.Users.{IsNew}
use Rattle.ynl_tables.proofs.users.Names.{added, grown}
use Rattle.ynl_tables.proofs.users.users.Users.add.Goals as goal

pub invariant_of-self : goal.invariant_of-self
invariant_of-self c = grown c.self.inside c.self.invariant c.reserve.new.self c.self.inside.numbers c.in_err-reserve.ensures.items (λ q. refl)

pub invariant_of-self-in-Ok : goal.invariant_of-self-in-Ok
invariant_of-self-in-Ok c =
    added c.self.inside c.self.invariant c.args.name.now (subst (IsNew c.args.name.now) (sym c.self.view_is) c.requires) c.push_reserved.new.self c.insert.new.self
    (c.push_reserved.ensures.items ∙ ap (λ (xs : List Name). xs ++ c.args.name.now ∷ []) c.in_ok-reserve.ensures.items)
    (omega (arith, c.push_reserved.ensures.len, c.if-count.false, c.len-count.ensures, c.in_ok-reserve.ensures.len))
    (λ q. c.in-Ok.ensures.updates.0 q ∙ ap (λ (n : ℕ). cond (is_at (name_order c.args.name.now) q) (Some n) (get name_order c.self.inside.numbers q)) (c.len-count.ensures ∙ c.self.inside.names.ok.0))
