use Rattle.std.proofs.Common.{◌∷◌, sym, subst, ◌∙◌, ap}
use Rattle.ynl_resource.specs.Names.{root}
use Rattle.ynl_laws.specs.Ways.{IsWay}
use Rattle.ynl_inventory.specs.layout.Paths.{HasNumber, is_above}
use Rattle.ynl_inventory.specs.layout.Building.{paths_by}
use Rattle.ynl_inventory.proofs.layout.Ways.{line-way}
use Rattle.ynl_inventory.proofs.layout.layout.Layout.line.Goals as goal

pub returns-clause-way : goal.returns-clause-way
returns-clause-way c =
    let paths = paths_by c.self.inside.lines.items c.self.inside.names.items in
    let lines = c.self.invariant.lines in
    let has : HasNumber paths c.args.queue = subst (λ all. HasNumber all c.args.queue) (sym c.self.view_is) c.requires in
    subst (λ all. IsWay (root ∷ all) (is_above all c.args.queue) c.deref.result.now) c.self.view_is
    (subst (IsWay (root ∷ paths) (is_above paths c.args.queue)) (sym (c.deref.ensures.value ∙ ap (λ v. v.items) c.index.ensures))
    (line-way paths lines.tree c.args.queue has _ (lines.each c.args.queue c.index.result.now has)))
