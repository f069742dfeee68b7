use Rattle.std.proofs.Common.{◌+◌, sym, subst, ap, ◌∙◌, arith, rules}
use mathlib.Core.Bool.{true≢false}
use Rattle.std.proofs.lemmas.Fn.{always_returns_same}
use Rattle.ynl_inventory.specs.layout.Paths.{HasNumber, IsLine}
use Rattle.ynl_inventory.specs.layout.Building.{AreChildrenUpTo, name_in, paths_by}
use Rattle.ynl_inventory.proofs.layout.Children.{children-more, children-pass, sorted-children}
use Rattle.ynl_inventory.proofs.layout.building.children_of.Goals as goal
use Rattle.ynl_inventory.proofs.layout.building.children_of.Goals.{then-is_just_below+in_ok-push, else-is_just_below}

pub loop-child-preserved : goal.loop-child-preserved
loop-child-preserved c =
    let paths = paths_by c.args.lines.now c.args.names.now in
    let tree = c.requires.lines.tree in
    let queue = c.args.queue in
    let child = c.loop-child.child in
    let there : HasNumber paths child = omega (arith, c.loop-child-test.true, c.requires.lines.many) in
    let line = c.deref.result.now in
    let is : IsLine paths child line = subst (IsLine paths child) (sym (c.deref.ensures.value ∙ ap (λ v. v.items) c.index-lines-child.is)) (c.requires.lines.each child c.index-lines-child.result there) in
    let below = c.is_just_below.ensures paths child tree c.requires.queue there is in
    elim c.if-is_just_below.branch [
      | then-is_just_below+in_ok-push w ↦ subst (AreChildrenUpTo paths queue (child + 1)) (sym (ap (λ v. v.items) w.children-is ∙ w.in_ok-push.ensures.items)) (children-more paths tree queue c.requires.queue child c.loop-child.children.items c.loop-child.invariant (below.0 w.if-is_just_below.true))
      | else-is_just_below w ↦ subst (AreChildrenUpTo paths queue (child + 1)) (sym (ap (λ v. v.items) w.children-is)) (children-pass paths tree queue c.requires.queue child c.loop-child.children.items c.loop-child.invariant (λ h. true≢false (sym (below.1 h) ∙ w.if-is_just_below.false)))
    ]

pub returns : goal.returns
returns c =
    let names = c.args.names.now in
    let paths = paths_by c.args.lines.now names in
    sorted-children paths c.requires.lines.tree c.args.queue c.requires.queue names c.requires.names c.loop-child.children.items c.sort_by_key.new.self.items
    (subst (λ n. AreChildrenUpTo paths c.args.queue n c.loop-child.children.items) (omega (arith, c.loop-child-test.false, c.loop-child.auto.child-end, c.requires.lines.many)) c.loop-child.invariant) c.in_ok-sort_by_key.ensures.permutation
    (c.in_ok-sort_by_key.ensures.sorted (name_in names) (always_returns_same _ _ _ (λ a r f' called. search rules)))
