use Rattle.std.proofs.Common.{sym, subst, ap, ◌∙◌, ◌≡◌, nat_eq, Some}
use Rattle.std.specs.Map.{lookup}
use Rattle.ynl_slots.specs.Slots.{without}
use Rattle.ynl_tables.specs.declared.containers.container.Container.{Container}
use Rattle.ynl_tables.specs.containers.Table.{Table}
use Rattle.ynl_tables.specs.containers.Chains.{IsNodeChain, IsAppChain}
use Rattle.ynl_tables.proofs.containers.Removing.{going_of, live_container, node_in, app_in, read_last, removed, removed_distinct, removed_node, removed_app, nodes_kept, apps_kept, removed_kept}
use Rattle.ynl_tables.proofs.containers.containers.Containers.remove.Goals as goal

pub remove-requires : goal.remove-requires
remove-requires c =
    let there = live_container c.args.self.now c.args.number c.requires.live in
    node_in c.self.inside.rows.entries c.args.number there.0 c.args.of_node.now c.args.of_app.now (going_of c.self.inside c.args.self.now c.args.number there.0 c.args.of_node.now c.args.of_app.now c.self.view_is c.self.invariant.distinct there.1 c.requires.of_node c.requires.of_app)

pub remove-requires-2 : goal.remove-requires-2
remove-requires-2 c =
    let there = live_container c.args.self.now c.args.number c.requires.live in
    app_in c.self.inside.rows.entries c.args.number there.0 c.args.of_node.now c.args.of_app.now (going_of c.self.inside c.args.self.now c.args.number there.0 c.args.of_node.now c.args.of_app.now c.self.view_is c.self.invariant.distinct there.1 c.requires.of_node c.requires.of_app) c.remove.new.rows.entries c.remove.new.self c.remove.ensures.rows

pub invariant_of-self : goal.invariant_of-self
invariant_of-self c =
    let there = live_container c.args.self.now c.args.number c.requires.live in
    let read = read_last c.self.inside.rows.entries c.args.number there.0 c.args.of_node.now c.args.of_app.now (going_of c.self.inside c.args.self.now c.args.number there.0 c.args.of_node.now c.args.of_app.now c.self.view_is c.self.invariant.distinct there.1 c.requires.of_node c.requires.of_app) c.remove.new.rows.entries c.remove.new.self c.remove.ensures.rows c.remove-2.new.rows.entries c.remove-2.ensures.rows c.remove-row.result c.remove-row.ensures.value in
    let found : lookup (nat_eq c.args.number) c.args.self.now.entries ≡ Some c.remove-row.result.container = there.1 ∙ ap (λ (x : Container). Some x) (sym read) in
    let seen = ap (λ (t : Table). lookup (nat_eq c.args.number) t.entries) c.self.view_is ∙ found in
    let kept = removed_kept c.self.inside.numbers c.remove-number.new.self c.self.inside.rows.entries c.remove-row.new.self.entries c.args.number c.remove-row.result.container c.self.invariant.found c.self.invariant.distinct (removed c.self.inside.rows.entries c.args.number c.remove-row.result.container c.args.of_node.now c.args.of_app.now (going_of c.self.inside c.args.self.now c.args.number c.remove-row.result.container c.args.of_node.now c.args.of_app.now c.self.view_is c.self.invariant.distinct found c.requires.of_node c.requires.of_app) c.remove.new.rows.entries c.remove.new.self c.remove.ensures.rows c.remove-2.new.rows.entries c.remove-2.ensures.rows c.remove-row.new.self.entries c.remove-row.ensures.entries) seen c.remove-number.ensures.updates.0 c.self.invariant.rising in
    record {
      distinct = removed_distinct c.self.inside.rows.entries c.args.number c.remove-row.result.container c.args.of_node.now c.args.of_app.now (going_of c.self.inside c.args.self.now c.args.number c.remove-row.result.container c.args.of_node.now c.args.of_app.now c.self.view_is c.self.invariant.distinct found c.requires.of_node c.requires.of_app) c.remove.new.rows.entries c.remove.new.self c.remove.ensures.rows c.remove-2.new.rows.entries c.remove-2.ensures.rows c.remove-row.new.self.entries c.remove-row.ensures.entries;
      rising = kept.0;
      found = kept.1;
    }

pub returns-clause-value : goal.returns-clause-value
returns-clause-value c =
    let there = live_container c.args.self.now c.args.number c.requires.live in
    let read = read_last c.self.inside.rows.entries c.args.number there.0 c.args.of_node.now c.args.of_app.now (going_of c.self.inside c.args.self.now c.args.number there.0 c.args.of_node.now c.args.of_app.now c.self.view_is c.self.invariant.distinct there.1 c.requires.of_node c.requires.of_app) c.remove.new.rows.entries c.remove.new.self c.remove.ensures.rows c.remove-2.new.rows.entries c.remove-2.ensures.rows c.remove-row.result c.remove-row.ensures.value in
    let found : lookup (nat_eq c.args.number) c.args.self.now.entries ≡ Some c.remove-row.result.container = there.1 ∙ ap (λ (x : Container). Some x) (sym read) in
    found

pub returns-clause-entries : goal.returns-clause-entries
returns-clause-entries c =
    let there = live_container c.args.self.now c.args.number c.requires.live in
    let read = read_last c.self.inside.rows.entries c.args.number there.0 c.args.of_node.now c.args.of_app.now (going_of c.self.inside c.args.self.now c.args.number there.0 c.args.of_node.now c.args.of_app.now c.self.view_is c.self.invariant.distinct there.1 c.requires.of_node c.requires.of_app) c.remove.new.rows.entries c.remove.new.self c.remove.ensures.rows c.remove-2.new.rows.entries c.remove-2.ensures.rows c.remove-row.result c.remove-row.ensures.value in
    let found : lookup (nat_eq c.args.number) c.args.self.now.entries ≡ Some c.remove-row.result.container = there.1 ∙ ap (λ (x : Container). Some x) (sym read) in
    removed c.self.inside.rows.entries c.args.number c.remove-row.result.container c.args.of_node.now c.args.of_app.now (going_of c.self.inside c.args.self.now c.args.number c.remove-row.result.container c.args.of_node.now c.args.of_app.now c.self.view_is c.self.invariant.distinct found c.requires.of_node c.requires.of_app) c.remove.new.rows.entries c.remove.new.self c.remove.ensures.rows c.remove-2.new.rows.entries c.remove-2.ensures.rows c.remove-row.new.self.entries c.remove-row.ensures.entries ∙ ap (λ (t : Table). without c.args.number t.entries) c.self.view_is

pub returns-clause-of_node : goal.returns-clause-of_node
returns-clause-of_node c =
    let there = live_container c.args.self.now c.args.number c.requires.live in
    let read = read_last c.self.inside.rows.entries c.args.number there.0 c.args.of_node.now c.args.of_app.now (going_of c.self.inside c.args.self.now c.args.number there.0 c.args.of_node.now c.args.of_app.now c.self.view_is c.self.invariant.distinct there.1 c.requires.of_node c.requires.of_app) c.remove.new.rows.entries c.remove.new.self c.remove.ensures.rows c.remove-2.new.rows.entries c.remove-2.ensures.rows c.remove-row.result c.remove-row.ensures.value in
    let found : lookup (nat_eq c.args.number) c.args.self.now.entries ≡ Some c.remove-row.result.container = there.1 ∙ ap (λ (x : Container). Some x) (sym read) in
    removed_node c.self.inside.rows.entries c.args.number c.remove-row.result.container c.args.of_node.now c.args.of_app.now (going_of c.self.inside c.args.self.now c.args.number c.remove-row.result.container c.args.of_node.now c.args.of_app.now c.self.view_is c.self.invariant.distinct found c.requires.of_node c.requires.of_app) c.remove.new.rows.entries c.remove.new.self c.remove.ensures.rows c.remove-2.new.rows.entries c.remove-2.ensures.rows c.remove-row.new.self.entries c.remove-row.ensures.entries c.remove.ensures.chain

pub returns-clause-of_app : goal.returns-clause-of_app
returns-clause-of_app c =
    let there = live_container c.args.self.now c.args.number c.requires.live in
    let read = read_last c.self.inside.rows.entries c.args.number there.0 c.args.of_node.now c.args.of_app.now (going_of c.self.inside c.args.self.now c.args.number there.0 c.args.of_node.now c.args.of_app.now c.self.view_is c.self.invariant.distinct there.1 c.requires.of_node c.requires.of_app) c.remove.new.rows.entries c.remove.new.self c.remove.ensures.rows c.remove-2.new.rows.entries c.remove-2.ensures.rows c.remove-row.result c.remove-row.ensures.value in
    let found : lookup (nat_eq c.args.number) c.args.self.now.entries ≡ Some c.remove-row.result.container = there.1 ∙ ap (λ (x : Container). Some x) (sym read) in
    removed_app c.self.inside.rows.entries c.args.number c.remove-row.result.container c.args.of_node.now c.args.of_app.now (going_of c.self.inside c.args.self.now c.args.number c.remove-row.result.container c.args.of_node.now c.args.of_app.now c.self.view_is c.self.invariant.distinct found c.requires.of_node c.requires.of_app) c.remove.new.rows.entries c.remove.new.self c.remove.ensures.rows c.remove-2.new.rows.entries c.remove-2.ensures.rows c.remove-row.new.self.entries c.remove-row.ensures.entries c.remove-2.new.self c.remove-2.ensures.chain

pub returns-clause-nodes : goal.returns-clause-nodes
returns-clause-nodes c other chain apart o =
    let there = live_container c.args.self.now c.args.number c.requires.live in
    let read = read_last c.self.inside.rows.entries c.args.number there.0 c.args.of_node.now c.args.of_app.now (going_of c.self.inside c.args.self.now c.args.number there.0 c.args.of_node.now c.args.of_app.now c.self.view_is c.self.invariant.distinct there.1 c.requires.of_node c.requires.of_app) c.remove.new.rows.entries c.remove.new.self c.remove.ensures.rows c.remove-2.new.rows.entries c.remove-2.ensures.rows c.remove-row.result c.remove-row.ensures.value in
    let found : lookup (nat_eq c.args.number) c.args.self.now.entries ≡ Some c.remove-row.result.container = there.1 ∙ ap (λ (x : Container). Some x) (sym read) in
    nodes_kept c.self.inside.rows.entries c.args.number c.remove-row.result.container c.args.of_node.now c.args.of_app.now (going_of c.self.inside c.args.self.now c.args.number c.remove-row.result.container c.args.of_node.now c.args.of_app.now c.self.view_is c.self.invariant.distinct found c.requires.of_node c.requires.of_app) c.remove.new.rows.entries c.remove.new.self c.remove.ensures.rows c.remove-2.new.rows.entries c.remove-2.ensures.rows c.remove-row.new.self.entries c.remove-row.ensures.entries other chain apart (subst (λ (t : Table). IsNodeChain t chain other) (sym c.self.view_is) o)

pub returns-clause-apps : goal.returns-clause-apps
returns-clause-apps c other chain apart o =
    let there = live_container c.args.self.now c.args.number c.requires.live in
    let read = read_last c.self.inside.rows.entries c.args.number there.0 c.args.of_node.now c.args.of_app.now (going_of c.self.inside c.args.self.now c.args.number there.0 c.args.of_node.now c.args.of_app.now c.self.view_is c.self.invariant.distinct there.1 c.requires.of_node c.requires.of_app) c.remove.new.rows.entries c.remove.new.self c.remove.ensures.rows c.remove-2.new.rows.entries c.remove-2.ensures.rows c.remove-row.result c.remove-row.ensures.value in
    let found : lookup (nat_eq c.args.number) c.args.self.now.entries ≡ Some c.remove-row.result.container = there.1 ∙ ap (λ (x : Container). Some x) (sym read) in
    apps_kept c.self.inside.rows.entries c.args.number c.remove-row.result.container c.args.of_node.now c.args.of_app.now (going_of c.self.inside c.args.self.now c.args.number c.remove-row.result.container c.args.of_node.now c.args.of_app.now c.self.view_is c.self.invariant.distinct found c.requires.of_node c.requires.of_app) c.remove.new.rows.entries c.remove.new.self c.remove.ensures.rows c.remove-2.new.rows.entries c.remove-2.ensures.rows c.remove-row.new.self.entries c.remove-row.ensures.entries other chain apart (subst (λ (t : Table). IsAppChain t chain other) (sym c.self.view_is) o)
