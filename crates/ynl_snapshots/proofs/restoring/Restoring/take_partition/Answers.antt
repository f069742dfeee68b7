-- A partition's line is taken.
use Rattle.std.proofs.Common.{◌∙◌, Bool, true, false, ap, sym, subst}
use Rattle.std.specs.List.{list_any}
use Rattle.ynl_resource.specs.Names.{same_label}
use Rattle.ynl_saved.specs.declared.lines.StateLine.TheVariants.{Partition}
use Rattle.ynl_snapshots.specs.restoring.Taking.{Takes}
use Rattle.ynl_snapshots.specs.restoring.Telling.{Telling, Tells, TakesKind, telling_of}
use Rattle.ynl_snapshots.proofs.restoring.Tells.{kind-off, kind-refused, none-there, partition-again, partition-taken}
use Rattle.ynl_snapshots.proofs.restoring.Restoring.take_partition.Goals as goal

pub returns-then-has_label : goal.returns-then-has_label
returns-then-has_label c r h =
    let any = ap (list_any (same_label c.args.label.now)) (sym c.deref.ensures.value) ∙ sym c.has_label.ensures ∙ c.if-has_label.true in
    kind-refused c.args.self.now r h (Partition c.args.label.now c.args.clock)
    (partition-again c.args.self.now r h c.args.label.now c.args.clock (ap (λ (t : Telling). list_any (same_label c.args.label.now) t.partitions) (sym c.self.view_is) ∙ any))

pub take_partition-requires : goal.take_partition-requires
take_partition-requires c =
    let none = ap (list_any (same_label c.args.label.now)) (sym c.deref.ensures.value) ∙ sym c.has_label.ensures ∙ c.if-has_label.false in
    none-there (telling_of c.self.inside) c.requires.0 (subst (λ (t : Telling). Tells t c.requires.0) (sym c.self.view_is) c.requires.1) c.args.label.now none

pub returns-then-not-take_partition : goal.returns-then-not-take_partition
returns-then-not-take_partition c r h =
    let told = subst (λ (t : Telling). Tells t r) (sym c.self.view_is) h in
    let none = ap (list_any (same_label c.args.label.now)) (sym c.deref.ensures.value) ∙ sym c.has_label.ensures ∙ c.if-has_label.false in
    subst (λ (t : Telling). TakesKind t r (Partition c.args.label.now c.args.clock) (record (telling_of c.self.inside) { cluster = c.take_partition.new.cluster }) false) c.self.view_is
    (kind-off (telling_of c.self.inside) r told (Partition c.args.label.now c.args.clock) c.take_partition.new.cluster
    (subst (λ (b : Bool). Takes c.self.inside.cluster r (Partition c.args.label.now c.args.clock) c.take_partition.new.cluster b) c.if-not-take_partition.true
    (c.take_partition.ensures r told.state (sym (told.partitions c.args.label.now) ∙ none))))

pub returns : goal.returns
returns c r h =
    let told = subst (λ (t : Telling). Tells t r) (sym c.self.view_is) h in
    let none = ap (list_any (same_label c.args.label.now)) (sym c.deref.ensures.value) ∙ sym c.has_label.ensures ∙ c.if-has_label.false in
    subst (λ (t : Telling). TakesKind t r (Partition c.args.label.now c.args.clock) (record (telling_of c.self.inside) { cluster = c.take_partition.new.cluster; partitions = c.push.new.self.items }) true) c.self.view_is
    (partition-taken (telling_of c.self.inside) r told c.args.label.now c.args.clock c.take_partition.new.cluster
    (subst (λ (b : Bool). Takes c.self.inside.cluster r (Partition c.args.label.now c.args.clock) c.take_partition.new.cluster b) c.if-not-take_partition.false
    (c.take_partition.ensures r told.state (sym (told.partitions c.args.label.now) ∙ none)))
    c.push.new.self.items c.in_ok-push.ensures.items)
