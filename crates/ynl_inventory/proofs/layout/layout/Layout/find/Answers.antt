use Rattle.std.proofs.Common.{◌≡◌, ◌∙◌, ap, sym, subst, map, take, suc, ◌+◌, Option, Some, None, ℕ, arith}
use Rattle.std.specs.Prelude.{IfNone}
use Rattle.ynl_resource.specs.declared.paths.Path.{Path}
use Rattle.ynl_model.specs.Service.{last_name}
use Rattle.ynl_laws.specs.Decided.{below}
use Rattle.ynl_inventory.specs.layout.Paths.{HasNoNumber, IsChildOf, IsTree}
use Rattle.ynl_inventory.proofs.layout.Finding.{child-some, child-none, no-number, take-next}
use Rattle.ynl_inventory.proofs.layout.layout.Layout.find.Goals as goal

pub returns-in_err-at-clause-none : goal.returns-in_err-at-clause-none
returns-in_err-at-clause-none c =
    let paths = c.args.self.now in
    let own : c.deref.result.now ≡ map last_name paths = c.deref.ensures.value ∙ c.self.invariant.names ∙ ap (map last_name) c.self.view_is in
    let tree = subst IsTree c.self.view_is c.self.invariant.lines.tree in
    let at = c.loop-name.at in
    let none = c.in_err-at.ensures in
    let missing =
    child-none paths c.deref.result.now own tree at c.loop-name.invariant.there c.children.result.now c.children.ensures.children c.name-item.result None none
    in
    subst (λ (o : Option ℕ). IfNone o (HasNoNumber paths c.args.queue.now)) (sym c.from_residual.ensures)
    (no-number paths tree c.args.queue.now c.loop-name.name-index at c.name-item.result c.loop-name.invariant.path c.loop-name-test.true (sym c.name-item.is) missing)

pub loop-name-preserved : goal.loop-name-preserved
loop-name-preserved c =
    let paths = c.args.self.now in
    let own : c.deref.result.now ≡ map last_name paths = c.deref.ensures.value ∙ c.self.invariant.names ∙ ap (map last_name) c.self.view_is in
    let tree = subst IsTree c.self.view_is c.self.invariant.lines.tree in
    let k = c.loop-name.name-index in
    let some = c.in_ok-at.ensures in
    let next : suc k ≡ k + 1 = omega arith in
    let found : IsChildOf paths c.loop-name.at c.name-item.result c.in_ok-at.at =
    child-some paths c.deref.result.now own tree c.loop-name.at c.loop-name.invariant.there c.children.result.now c.children.ensures.children c.name-item.result (Some c.in_ok-at.at) some
    in
    record {
      there = found.there;
      path =
          found.path ∙ ap (λ (p : Path). below p c.name-item.result) c.loop-name.invariant.path ∙ sym (take-next c.args.queue.now k c.name-item.result c.loop-name-test.true (sym c.name-item.is))
          ∙ ap (λ (n : ℕ). take n c.args.queue.now) next;
    }
