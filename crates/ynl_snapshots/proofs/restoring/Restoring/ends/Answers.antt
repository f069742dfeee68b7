-- What is tested of the last line.
use Rattle.std.proofs.Common.{◌∙◌, ◌&&◌, ◌==◌, sym, ap}
use Rattle.std.specs.List.{list_all, list_any}
use Rattle.ynl_resource.specs.Names.{same_label}
use Rattle.ynl_model.specs.Nodes.{partition_labels}
use Rattle.ynl_inventory.proofs.Finding.{not-true}
use Rattle.ynl_saved.proofs.Served.{same-number, same-number_self}
use Rattle.ynl_snapshots.specs.restoring.Telling.{Telling}
use Rattle.ynl_snapshots.proofs.restoring.Tells.{end-told}
use Rattle.ynl_snapshots.proofs.restoring.Restoring.ends.Goals as goal

pub returns-then-lines-self : goal.returns-then-lines-self
returns-then-lines-self c r h =
    end-told c.args.self.now r h c.args.lines
    ∙ ap (λ b. b && list_all (λ label. list_any (same_label label) c.args.self.now.partitions) (partition_labels c.args.self.now.cluster.config.labels))
    (not-true (c.args.lines == c.args.self.now.lines) (λ same. c.if-lines-self.true (same-number c.args.lines c.args.self.now.lines same ∙ ap (λ (t : Telling). t.lines) (sym c.self.view_is))))

pub returns : goal.returns
returns c r h =
    end-told c.args.self.now r h c.args.lines
    ∙ ap (λ n. (n == c.args.self.now.lines) && list_all (λ label. list_any (same_label label) c.args.self.now.partitions) (partition_labels c.args.self.now.cluster.config.labels)) (c.if-lines-self.false ∙ ap (λ (t : Telling). t.lines) c.self.view_is)
    ∙ ap (λ b. b && list_all (λ label. list_any (same_label label) c.args.self.now.partitions) (partition_labels c.args.self.now.cluster.config.labels)) (same-number_self c.args.self.now.lines)
    ∙ sym c.has_all.ensures
