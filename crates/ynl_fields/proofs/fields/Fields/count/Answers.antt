use Rattle.std.proofs.Common.{◌≡◌, rules, length, Some, option_map, sym, ap, ◌∙◌}
use Rattle.serde_json.specs.Events.{members_len}
use Rattle.serde_json.specs.Find.{as_object}
use Rattle.serde_json.proofs.Views.{members_len-members_view}
use Rattle.ynl_fields.specs.Trees.{data_at}
use Rattle.ynl_fields.specs.declared.fields.Stands.{Stands}
use Rattle.ynl_fields.proofs.fields.Fields.count.Goals as goal

pub returns-in-Some : goal.returns-in-Some
returns-in-Some c =
    let len : c.len.result ≡ length c.in-Some.members.now.entries = search rules in
    sym (ap (λ (s : Stands). option_map members_len (as_object (data_at s))) c.in-Value.is ∙ ap (option_map members_len) (sym c.in-Some.ensures) ∙ ap Some (members_len-members_view c.in-Some.members.now.entries ∙ sym len))
