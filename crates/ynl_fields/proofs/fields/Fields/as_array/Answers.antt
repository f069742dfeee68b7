use Rattle.std.proofs.Common.{◌≡◌, true, sym, subst, ap, ◌∙◌}
use Rattle.json.specs.Value.{value_view}
use Rattle.serde_json.specs.Find.{as_array}
use Rattle.ynl_fields.specs.Trees.{is_plain_at, data_at}
use Rattle.ynl_fields.specs.declared.fields.Stands.{Stands}
use Rattle.ynl_fields.proofs.Plain.{no_array}
use Rattle.ynl_fields.proofs.fields.Fields.as_array.Goals as goal

pub returns-in-Tree : goal.returns-in-Tree
returns-in-Tree c =
    sym (ap (λ (s : Stands). as_array (data_at s)) c.in-Tree.is ∙ no_array (value_view c.in-Tree.field-0.now) (subst (λ (s : Stands). is_plain_at s ≡ true) c.in-Tree.is c.args.self.now.plain))
