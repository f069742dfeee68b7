use Rattle.std.proofs.Common.{◌≡◌, map, sym, subst, ap, ◌∙◌}
use Rattle.ynl_model.specs.Service.{last_name}
use Rattle.ynl_inventory.specs.layout.Building.{paths_by}
use Rattle.ynl_inventory.specs.layout.Paths.{AreLines, HaveChildren, paths_of}
use Rattle.ynl_inventory.proofs.layout.LastNames.{same-paths}
use Rattle.ynl_inventory.proofs.layout.layout.Layout.new.Goals as goal

pub all_children-requires-clause-lines : goal.all_children-requires-clause-lines
all_children-requires-clause-lines c =
    let paths = paths_of c.args.config.now in
    let are : AreLines paths c.deref-2.result.now = subst (AreLines paths) (sym c.deref-2.ensures.value) c.in_ok-lines.ensures in
    subst (λ all. AreLines all c.deref-2.result.now) (same-paths paths c.deref-2.result.now c.deref.result.now are (c.deref.ensures.value ∙ c.in_ok-names.ensures)) are

pub all_children-requires-clause-names : goal.all_children-requires-clause-names
all_children-requires-clause-names c =
    let paths = paths_of c.args.config.now in
    let own : c.deref.result.now ≡ map last_name paths = c.deref.ensures.value ∙ c.in_ok-names.ensures in
    own ∙ ap (map last_name) (same-paths paths c.deref-2.result.now c.deref.result.now (subst (AreLines paths) (sym c.deref-2.ensures.value) c.in_ok-lines.ensures) own)

pub invariant_of-result : goal.invariant_of-result
invariant_of-result c =
    let paths = paths_of c.args.config.now in
    let names = c.in_ok-names.names.items in
    let lines = c.in_ok-lines.lines.items in
    let children = c.in_ok-children.children.items in
    let same : paths ≡ paths_by lines names = same-paths paths lines names c.in_ok-lines.ensures c.in_ok-names.ensures in
    record {
      lines = subst (λ all. AreLines all lines) same c.in_ok-lines.ensures;
      names = c.in_ok-names.ensures ∙ ap (map last_name) same;
      children = subst (λ all. HaveChildren (paths_by all names) children) c.deref-2.ensures.value (subst (λ all. HaveChildren (paths_by c.deref-2.result.now all) children) c.deref.ensures.value c.in_ok-children.ensures);
    }

pub returns : goal.returns
returns c = sym (same-paths (paths_of c.args.config.now) c.in_ok-lines.lines.items c.in_ok-names.names.items c.in_ok-lines.ensures c.in_ok-names.ensures)
