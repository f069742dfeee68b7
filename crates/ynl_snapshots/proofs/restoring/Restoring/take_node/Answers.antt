-- A node's line is taken.
use Rattle.std.proofs.Common.{◌∙◌, ap, refl, sym, subst}
use Rattle.std.specs.List.{list_any}
use Rattle.std.proofs.lemmas.Result.{IfOk-weaker}
use Rattle.ynl_resource.specs.Names.{same_label}
use Rattle.ynl_saved.specs.declared.lines.StateLine.TheVariants.{Node}
use Rattle.ynl_saved.specs.Restoring.{with_line}
use Rattle.ynl_snapshots.specs.restoring.Telling.{Telling, Tells, TakesKind, telling_of}
use Rattle.ynl_snapshots.proofs.restoring.Tells.{kind-refused, node-untold, plain-kind, told-known}
use Rattle.ynl_snapshots.proofs.restoring.Restoring.take_node.Goals as goal

pub returns-then-not-has_label : goal.returns-then-not-has_label
returns-then-not-has_label c r h =
    let none = ap (list_any (same_label c.args.node.now.label)) (sym c.deref.ensures.value) ∙ sym c.has_label.ensures ∙ c.if-not-has_label.true in
    kind-refused c.args.self.now r h (Node c.args.node.now)
    (node-untold c.args.self.now r h c.args.node.now (ap (λ (t : Telling). list_any (same_label c.args.node.now.label) t.partitions) (sym c.self.view_is) ∙ none))

pub returns : goal.returns
unfolding with_line
returns c =
    let any = ap (list_any (same_label c.args.node.now.label)) (sym c.deref.ensures.value) ∙ sym c.has_label.ensures ∙ c.if-not-has_label.false in
    IfOk-weaker c.take_node.result _ _
    (λ taken takes r h.
    let told = subst (λ (t : Telling). Tells t r) (sym c.self.view_is) h in
    subst (λ (t : Telling). TakesKind t r (Node c.args.node.now) (record (telling_of c.self.inside) { cluster = c.take_node.new.cluster }) taken) c.self.view_is
    (plain-kind (telling_of c.self.inside) r told (Node c.args.node.now) c.amount.ensures.range refl refl refl c.take_node.new.cluster taken
    (takes r told.state (sym (told.partitions c.args.node.now.label) ∙ any) (told-known (telling_of c.self.inside) r told c.args.node.now.label any))))
    c.take_node.ensures
