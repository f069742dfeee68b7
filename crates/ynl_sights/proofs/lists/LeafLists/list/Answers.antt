use Rattle.std.proofs.Common.{sym, ap, subst, ◌∙◌}
use Rattle.std.specs.Prelude.{option_map}
use Rattle.ynl_sights.specs.Lists.{IsListOf}
use Rattle.ynl_sights.proofs.lists.LeafLists.list.Goals as goal

pub returns-in-Some-clause-list : goal.returns-in-Some-clause-list
returns-in-Some-clause-list c =
    let kept = c.requires.lists.kept c.args.p c.args.leaf c.in-Some.list.now.value (sym c.find.ensures ∙ ap (option_map (λ list. list.now.value)) c.in-Some.is) in
    subst (IsListOf c.args.cluster.now.rows c.args.p c.args.leaf) (sym c.in_ok-try_clone.ensures) kept
