use Rattle.std.proofs.Common.{◌≡◌, ◌∙◌, List, ap, subst, arith}
use Rattle.std.proofs.lemmas.Bool.Decides.{nat_tests}
use Rattle.ynl_resource.specs.declared.paths.Path.{Path}
use Rattle.ynl_inventory.specs.layout.Paths.{AreChildren, CoverBelow}
use Rattle.ynl_inventory.specs.Parts.{Held}
use Rattle.ynl_search.proofs.Below.{is-leaf}
use Rattle.ynl_search.proofs.queues.is_leaf.Goals as goal

pub returns : goal.returns
returns c = λ empty.
    let w = c.args.cluster.now in
    let q = c.args.queue in
    let sound = c.inventory.ensures.sound in
    let children = c.children.result.now in
    let paths : c.layout.result.now ≡ w.rows.paths = c.layout.ensures ∙ ap (λ (h : Held). h.rows.paths) c.inventory.ensures.value in
    is-leaf w.rows sound.tree q c.requires.there children (subst (λ (ps : List Path). AreChildren ps q children) paths c.children.ensures.children) (subst (λ (ps : List Path). CoverBelow ps q children) paths c.children.ensures.below)
    (let e = empty in grind (arith, nat_tests, e)) (λ e. omega (arith, e, c.requires.below_root))
