use Rattle.std.proofs.Common.{List, [], map, ap, subst, ◌≡◌, ◌∙◌}
use Rattle.std.specs.List.Sorted.{IsPermutation}
use Rattle.ynl_resource.specs.declared.names.Name.{Name}
use Rattle.ynl_model.specs.declared.nodes.Node.{Node}
use Rattle.ynl_workers.specs.session.Sessions.{nodes_after}
use Rattle.ynl_workers.proofs.session.Named.{names-unstamped}
use Rattle.ynl_workers.proofs.session.sessions.nodes_in_order.Goals as goal

pub returns-clause-all : goal.returns-clause-all
returns-clause-all c =
    let start = c.args.start.now in
    let names : List Node → List Name = λ nodes. map (λ node. node.name) nodes in
    let told : c.in_ok-names.names.items ≡ nodes_after start [] =
    c.in_ok-names.ensures ∙ ap names (c.deref.ensures.value ∙ c.in_ok-nodes.ensures.nodes) ∙ names-unstamped start.state.nodes in
    subst (λ all. IsPermutation all c.sort.new.self.items) told c.in_ok-sort.ensures.permutation
