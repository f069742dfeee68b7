use Rattle.std.proofs.Common.{◌≡◌, Vec, Global, [], ◌∷◌, ◌++◌, sym, ap, subst, ◌∙◌, rules}
use Rattle.std.specs.Bool.{OnFalse}
use Rattle.std.specs.BTreeMap.{is_at}
use Rattle.std.specs.BTreeSet.{IsUnchanged}
use Rattle.std.specs.List.{list_any}
use Rattle.ynl_resource.specs.declared.names.Name.{Name}
use Rattle.ynl_resource.specs.Names.{name_order, same_name}
use Rattle.ynl_config.specs.Access.{AreSeen}
use Rattle.ynl_config.proofs.Listing.{more_seen}
use Rattle.ynl_config.proofs.listed.with_name.Goals as goal
use Rattle.ynl_config.proofs.listed.with_name.Goals.{then-branch+in_ok-push, else-branch}

pub returns-clause-seen : goal.returns-clause-seen
returns-clause-seen c =
    elim c.if-branch.branch [
      | then-branch+in_ok-push w ↦
          let items : c.if-branch.names.items ≡ c.args.names.items ++ c.args.name ∷ [] = search rules in
          subst (AreSeen c.insert.new.self) (sym items) (more_seen c.args.seen.now c.insert.new.self c.args.names.items c.args.name c.requires c.in_ok-insert.ensures.updates.0)
      | else-branch w ↦
          let kept = subst (λ b. OnFalse b (IsUnchanged c.args.seen.now c.insert.new.self)) w.if-branch.false c.in_ok-insert.ensures.unchanged in
          λ name.
          ap (list_any (is_at (name_order name))) kept ∙ c.requires name
          ∙ ap (λ names. list_any (same_name name) names) (sym (ap (λ (names : Vec Name Global). names.items) w.names-is))
    ]
