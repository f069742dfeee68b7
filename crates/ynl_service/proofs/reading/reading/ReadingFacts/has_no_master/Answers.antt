use Rattle.std.proofs.Common.{nat_eq, ap, ◌∙◌}
use Rattle.ynl_model.specs.Cluster.{counted, is_master}
use Rattle.ynl_model.specs.Service.{no_master_in}
use Rattle.ynl_model.specs.declared.uses.Use.{Use}
use Rattle.ynl_cluster.specs.Cluster.{state_in}
use Rattle.ynl_service.specs.reading.Seen.{Seen}
use Rattle.ynl_service.proofs.reading.Nodes.{none-counted}
use Rattle.ynl_service.proofs.reading.reading.ReadingFacts.has_no_master.Goals as goal

pub returns : goal.returns
returns c =
    ap (λ (u : Use). nat_eq u.master_count 0) c.leaf_used.ensures ∙ none-counted is_master (counted (state_in c.self.inside.cluster.now) c.args.app.now.leaf c.args.label.now)
    ∙ ap (λ (seen : Seen). no_master_in seen.state c.args.app.now.leaf c.args.label.now) c.self.view_is
