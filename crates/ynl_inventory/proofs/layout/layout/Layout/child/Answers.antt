use Rattle.std.proofs.Common.{◌∙◌, ap, subst, map}
use Rattle.ynl_model.specs.Service.{last_name}
use Rattle.ynl_inventory.specs.layout.Paths.{IsTree}
use Rattle.ynl_inventory.proofs.layout.Finding.{child-some, child-none}
use Rattle.ynl_inventory.proofs.layout.layout.Layout.child.Goals as goal

pub returns-clause-some : goal.returns-clause-some
returns-clause-some c =
    child-some c.args.self.now c.deref.result.now (c.deref.ensures.value ∙ c.self.invariant.names ∙ ap (map last_name) c.self.view_is) (subst IsTree c.self.view_is c.self.invariant.lines.tree) c.args.queue c.requires
    c.children.result.now c.children.ensures.children c.args.name.now c.child_of.result c.child_of.ensures

pub returns-clause-none : goal.returns-clause-none
returns-clause-none c =
    child-none c.args.self.now c.deref.result.now (c.deref.ensures.value ∙ c.self.invariant.names ∙ ap (map last_name) c.self.view_is) (subst IsTree c.self.view_is c.self.invariant.lines.tree) c.args.queue c.requires
    c.children.result.now c.children.ensures.children c.args.name.now c.child_of.result c.child_of.ensures
