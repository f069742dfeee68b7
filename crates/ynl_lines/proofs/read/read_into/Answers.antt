use Rattle.std.proofs.Common.{◌≡◌, true, rules, Some, sym, ap, subst, ◌∙◌}
use Rattle.std.specs.Option.{option_and_then}
use Rattle.json.specs.Value.{value_view}
use Rattle.serde_json.specs.Read.{of_json}
use Rattle.ynl_lines.specs.declared.faults.LineFault.TheVariants as fault
use Rattle.ynl_lines.specs.Reading.{reading, or_fault, event_at, Gives, ◌>>=◌}
use Rattle.ynl_fields.specs.Trees.{is_plain, data_of}
use Rattle.ynl_fields.proofs.Plain.{read_plain}
use Rattle.ynl_lines.proofs.read.read_into.Goals as goal

pub returns-then-is_plain-clause-event : goal.returns-then-is_plain-clause-event
returns-then-is_plain-clause-event c =
    let plain : is_plain (value_view c.in-Some-2.tree) ≡ true = search rules in
    let is : reading c.args.line.now ≡ Some (data_of (value_view c.in-Some-2.tree)) =
    c.in_ok-tree.ensures.tree ∙ ap (option_and_then (λ tree. of_json (value_view tree))) c.in-Some-2.is ∙ read_plain (value_view c.in-Some-2.tree) plain in
    let event = ap event_at c.tree.ensures ∙ ap (λ o. or_fault fault.Syntax o >>= event_at) (sym is) in
    subst (Gives (λ _. c.event_at.new.into) c.event_at.result) event c.event_at.ensures.event
