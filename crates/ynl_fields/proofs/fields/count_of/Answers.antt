use Rattle.std.proofs.Common.{◌≡◌, true, rules, length, Some, option_map, sym, ap, subst, ◌∙◌}
use Rattle.json.specs.Json as json
use Rattle.json.specs.Value.{value_view, members_view}
use Rattle.json.proofs.Trees.{view-Object}
use Rattle.serde_json.specs.Events.{members_len}
use Rattle.serde_json.specs.Find.{as_object}
use Rattle.ynl_fields.specs.Trees.{is_plain, data_of}
use Rattle.ynl_fields.proofs.Plain.{count_plain, count_view}
use Rattle.ynl_fields.proofs.fields.count_of.Goals as goal

pub returns-in-Object : goal.returns-in-Object
returns-in-Object c =
    let items = c.in-Object.members.items in
    let seen : value_view c.args.tree.now ≡ json.object (members_view items) = ap value_view c.in-Object.is ∙ view-Object c.in-Object.members in
    let len : c.len.result ≡ length items = search rules in
    sym (ap (λ j. option_map members_len (as_object (data_of j))) seen
    ∙ count_plain (members_view items) (subst (λ j. is_plain j ≡ true) seen c.requires)
    ∙ ap Some (count_view items ∙ sym len))
