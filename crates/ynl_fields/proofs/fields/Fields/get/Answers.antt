use Rattle.std.proofs.Common.{◌≡◌, true, Some, option_map, sym, ap, subst, ◌∙◌}
use Rattle.json.specs.Value.{value_view}
use Rattle.serde_json.specs.Find.{get}
use Rattle.ynl_fields.specs.Trees.{is_plain, is_plain_at, data_at, data_of}
use Rattle.ynl_fields.specs.declared.fields.Stands.{Stands}
use Rattle.ynl_fields.proofs.Plain.{get_plain, plain_under}
use Rattle.ynl_fields.proofs.fields.Fields.get.Goals as goal

pub tree-requires : goal.tree-requires
tree-requires c =
    plain_under c.args.key.now (value_view c.in-Tree.tree.now) (value_view c.in-Some.found.now) (subst (λ (s : Stands). is_plain_at s ≡ true) c.in-Tree.is c.args.self.now.plain) (sym c.in-Some.ensures)

pub returns-in-Some : goal.returns-in-Some
returns-in-Some c =
    let plain : is_plain (value_view c.in-Tree.tree.now) ≡ true = subst (λ (s : Stands). is_plain_at s ≡ true) c.in-Tree.is c.args.self.now.plain in
    sym (ap (λ (s : Stands). get c.args.key.now (data_at s)) c.in-Tree.is ∙ get_plain c.args.key.now (value_view c.in-Tree.tree.now) plain ∙ ap (option_map data_of) (sym c.in-Some.ensures) ∙ ap Some (sym c.tree.ensures))

pub returns-in-None : goal.returns-in-None
returns-in-None c =
    let plain : is_plain (value_view c.in-Tree.tree.now) ≡ true = subst (λ (s : Stands). is_plain_at s ≡ true) c.in-Tree.is c.args.self.now.plain in
    sym (ap (λ (s : Stands). get c.args.key.now (data_at s)) c.in-Tree.is ∙ get_plain c.args.key.now (value_view c.in-Tree.tree.now) plain ∙ ap (option_map data_of) (sym c.in-None.ensures))
