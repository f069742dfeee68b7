use Rattle.std.proofs.Common.{◌≡◌, sym, ap, ◌∙◌}
use Rattle.std.proofs.lemmas.Option.{same_Some}
use Rattle.ynl_model.specs.declared.events.Event.TheVariants.{Exited}
use Rattle.ynl_model.specs.declared.replies.Reply.TheVariants.{Done}
use Rattle.ynl_cluster.specs.Cluster.{ClusterView}
use Rattle.ynl_core.proofs.Accepted as does
use Rattle.ynl_core.proofs.Listing.{lists-end}
use Rattle.ynl_core.proofs.Stepping.{works}
use Rattle.ynl_tables.specs.declared.containers.container.Container.{Container}
use Rattle.ynl_model.specs.Changes.{end}
use Rattle.ynl_inventory.specs.Meaning.{placed_of}
use Rattle.ynl_cluster.specs.Cluster.{label_of, state_in}
use Rattle.ynl_core.proofs.cluster.Core.exited.Goals as goal

pub invariant_of-self : goal.invariant_of-self
invariant_of-self c =
    let same : c.end.result ≡ c.in-Ok.ensures.ends.container = same_Some c.end.result c.in-Ok.ensures.ends.container (sym c.end.ensures.value ∙ c.in-Ok.ensures.ends.found.found) in
    record {
      working =
          works c.self.inside.cluster c.end.new.cluster (Exited c.args.name.now c.args.id.now) Done c.in-Ok.ensures.free (ap (λ (w : ClusterView). w.config) c.end.ensures.rows)
          (does.exited c.self.inside.cluster c.end.new.cluster c.args.name.now c.args.id.now c.in-Ok.held c.in-Ok.ensures.ends
          (c.end.ensures.state ∙ ap (λ (x : Container). end c.self.inside.cluster.config (state_in c.self.inside.cluster) (placed_of c.self.inside.cluster.rows (label_of c.self.inside.cluster c.in-Ok.held.partition) x)) same)) tt c.self.invariant.working;
      shut = c.end.ensures.shut c.self.invariant.shut;
      lists =
          lists-end c.self.inside.cluster.rows c.end.new.cluster.rows c.leaf_of-leaf.ensures.sound c.in-Ok.held.partition c.in-Ok.held.number c.end.result.node c.leaf_of-leaf.result c.leaf_of-leaf.ensures.leaf
          (ap (λ (w : ClusterView). w.rows) c.end.ensures.rows) c.self.inside.lists c.forget.new.self c.forget.ensures.gone c.forget.ensures.others c.self.invariant.lists;
    }
