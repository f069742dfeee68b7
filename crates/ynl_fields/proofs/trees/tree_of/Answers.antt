use Rattle.std.proofs.Common.{◌≡◌, Ok, Some, subst, sym, ap, ◌∙◌}
use Rattle.std.specs.Prelude.{IfOk}
use Rattle.json.specs.Json.{value}
use Rattle.json.specs.Value.{value_view}
use Rattle.ynl_fields.proofs.Treed.{no_text, one_value, none_left, read_tree}
use Rattle.ynl_fields.proofs.trees.tree_of.Goals as goal

pub returns-in_default-clause-tree : goal.returns-in_default-clause-tree
returns-in_default-clause-tree c = no_text c.args.bytes.now c.in_default.ensures.cases.0

pub returns-clause-tree : goal.returns-clause-tree
returns-clause-tree c =
    let read : c.read.result ≡ Ok c.in-Some.tree = read_tree c.told.result c.in-Some.tree (c.in_ok-tree.was ∙ ap Ok c.in-Some.is) c.read.result c.told.ensures.tree c.told.ensures.none c.told.ensures.memory in
    let found = subst (λ r. IfOk r (λ v. value 127 c.in_ok-reader.reader ≡ Some (value_view v, c.read.new.reader))) read c.read.ensures.ok in
    one_value c.args.bytes.now c.in-Ok.text.now c.in_ok-reader.reader c.read.new.reader (value_view c.in-Some.tree) c.in-Ok.ensures.cases.0 c.in-Ok.ensures.cases.1 c.in_ok-reader.ensures.ok found
    (none_left _ _ _ c.next.result c.next.ensures.value (sym c.is_some.ensures ∙ c.if-is_some.false))
