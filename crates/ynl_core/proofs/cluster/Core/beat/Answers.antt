use Rattle.std.proofs.Common.{◌≡◌, refl, sym, ap, subst, ◌∙◌}
use Rattle.ynl_model.specs.declared.events.Event.TheVariants.{Heartbeat}
use Rattle.ynl_model.specs.declared.replies.Reply.TheVariants.{Placed}
use Rattle.ynl_model.specs.Queues.{Config}
use Rattle.ynl_model.specs.Changes.{beat}
use Rattle.ynl_inventory.specs.Meaning.{node_of}
use Rattle.ynl_cluster.specs.Cluster.{ClusterView, state_in}
use Rattle.ynl_service.specs.Serving.{IsNode}
use Rattle.ynl_core.proofs.Accepted as does
use Rattle.ynl_core.proofs.Stepping.{works}
use Rattle.ynl_core.proofs.cluster.Core.beat.Goals as goal

pub invariant_of-self-2 : goal.invariant_of-self-2
invariant_of-self-2 c =
    let w = c.self.inside.cluster in
    let roomy = c.reserve_for.new.self in
    let u = c.serve.new.cluster in
    let named = c.in-Ok.ensures.node.node in
    let of = node_of w.rows.partitions named.row in
    let is-node = subst (λ (v : ClusterView). IsNode v c.in-Ok.node of) (sym c.reserve_for.ensures.rows) (record { row = named.row; found = named.found; is = refl }) in
    let state =
    subst (λ (v : ClusterView). state_in u ≡ (beat v.config of c.containers_per_heartbeat-count.result (state_in v)).state) c.reserve_for.ensures.rows
    (c.serve.ensures.served of is-node).state in
    let count : c.containers_per_heartbeat-count.result ≡ w.config.containers_per_heartbeat =
    c.containers_per_heartbeat-count.ensures ∙ ap (λ (config : Config). config.containers_per_heartbeat) (c.deref.ensures ∙ c.config.ensures) in
    record {
      working =
          works w u (Heartbeat c.args.name.now) (Placed (beat w.config of w.config.containers_per_heartbeat (state_in w)).placed) c.in-Ok.ensures.free
          (c.serve.ensures.config ∙ ap (λ (v : ClusterView). v.config) c.reserve_for.ensures.rows)
          (does.beats w u c.args.name.now c.in-Ok.node named (state ∙ ap (λ times. (beat w.config of times (state_in w)).state) count)) tt c.self.invariant.working;
      shut = c.serve.ensures.shut;
      lists = c.forget_all.ensures u.rows;
    }
