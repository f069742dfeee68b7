use Rattle.std.proofs.Common.{◌≡◌, true, rules, Some, sym, ap, subst, ◌∙◌}
use Rattle.std.specs.Option.{option_and_then}
use Rattle.json.specs.Value.{value_view}
use Rattle.serde_json.specs.Read.{of_json}
use Rattle.ynl_fields.specs.Reading.{reading, or_fault, Gives, ◌>>=◌}
use Rattle.ynl_fields.specs.Trees.{is_plain, data_of}
use Rattle.ynl_fields.proofs.Plain.{read_plain}
use Rattle.ynl_saved_text.specs.declared.faults.StateFault.TheVariants as fault
use Rattle.ynl_saved_text.specs.StateLines.{line_at}
use Rattle.ynl_saved_text.proofs.read.read_into.Goals as goal

pub returns-then-is_plain-clause-line : goal.returns-then-is_plain-clause-line
returns-then-is_plain-clause-line c =
    let plain : is_plain (value_view c.in-Some.tree) ≡ true = search rules in
    let is : reading c.args.line.now ≡ Some (data_of (value_view c.in-Some.tree)) =
    c.in_ok-tree.ensures.tree ∙ ap (option_and_then (λ tree. of_json (value_view tree))) c.in-Some.is ∙ read_plain (value_view c.in-Some.tree) plain in
    let line = ap (line_at c.args.before) c.tree.ensures ∙ ap (λ o. or_fault fault.Syntax o >>= line_at c.args.before) (sym is) in
    subst (Gives (λ _. c.line_at.new.into) c.line_at.result) line c.line_at.ensures.line
