use Rattle.std.proofs.Common.{sym, ap, map, ◌∙◌}
use Rattle.std.proofs.lemmas.Option.{none-some, same_Some}
use Rattle.ynl_model.specs.Service.{last_name}
use Rattle.ynl_inventory.specs.layout.Paths.{path_at}
use Rattle.ynl_inventory.proofs.layout.LastNames.{named}
use Rattle.ynl_inventory.proofs.layout.layout.Layout.name.Goals as goal

pub unreachable-requires : goal.unreachable-requires
unreachable-requires c =
    none-some (last_name (path_at c.args.self.now c.args.queue))
    (sym c.in-None.is ∙ c.name_of.ensures ∙ named c.args.self.now c.deref.result.now (c.deref.ensures.value ∙ c.self.invariant.names ∙ ap (map last_name) c.self.view_is) c.args.queue c.requires.below_root c.requires.there)

pub returns : goal.returns
returns c =
    same_Some c.in-Some.name (last_name (path_at c.args.self.now c.args.queue))
    (sym c.in-Some.is ∙ c.name_of.ensures ∙ named c.args.self.now c.deref.result.now (c.deref.ensures.value ∙ c.self.invariant.names ∙ ap (map last_name) c.self.view_is) c.args.queue c.requires.below_root c.requires.there)
