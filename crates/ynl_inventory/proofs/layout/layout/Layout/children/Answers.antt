use Rattle.std.proofs.Common.{sym, subst, ◌∙◌, ap}
use Rattle.ynl_inventory.specs.layout.Paths.{CoverBelow, HasNumber}
use Rattle.ynl_inventory.specs.layout.Building.{paths_by}
use Rattle.ynl_inventory.proofs.layout.Ways.{cover-below}
use Rattle.ynl_inventory.proofs.layout.layout.Layout.children.Goals as goal

pub returns-clause-below : goal.returns-clause-below
returns-clause-below c =
    let paths = paths_by c.self.inside.lines.items c.self.inside.names.items in
    let lines = c.self.invariant.lines in
    let queue = c.args.queue in
    let has : HasNumber paths queue = subst (λ all. HasNumber all queue) (sym c.self.view_is) c.requires in
    subst (λ all. CoverBelow all queue c.deref.result.now) c.self.view_is
    (subst (CoverBelow paths queue) (sym (c.deref.ensures.value ∙ ap (λ v. v.items) c.index.ensures))
    (cover-below paths _ lines queue has _ (c.self.invariant.children.each queue c.index.result.now has) c.index.result.now))
