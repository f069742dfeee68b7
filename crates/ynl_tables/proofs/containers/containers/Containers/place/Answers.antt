use Rattle.std.proofs.Common.{sym, subst, ap, ◌∙◌, ◌∷◌, ◌++◌, []}
use Rattle.ynl_slots.specs.Slots.{IsUnused}
use Rattle.ynl_tables.specs.containers.Table.{Table, IsAbove}
use Rattle.ynl_tables.specs.containers.Chains.{IsNodeChain, IsAppChain}
use Rattle.ynl_tables.proofs.containers.Rows.{unused_of_rows}
use Rattle.ynl_tables.proofs.containers.Placing.{pushed_of, pushed_live, linked_live, node_linked, app_linked, placed, placed_distinct, placed_node, placed_app, other_nodes, other_apps, placed_kept}
use Rattle.ynl_tables.proofs.containers.containers.Containers.place.Goals as goal

pub append-requires-clause-live : goal.append-requires-clause-live
append-requires-clause-live c = pushed_live c.self.inside.rows.entries c.push-number.result c.args.container c.args.of_node.now c.args.of_app.now c.push-number.new.self.entries (pushed_of c.self.inside c.args.self.now c.push-number.result c.args.container c.args.of_node.now c.args.of_app.now c.push-number.new.self.entries c.self.view_is c.self.invariant.distinct c.push-number.ensures.entries c.push-number.ensures.unused c.requires.of_node c.requires.of_app)

pub append-requires-clause-linked : goal.append-requires-clause-linked
append-requires-clause-linked c = node_linked c.self.inside.rows.entries c.push-number.result c.args.container c.args.of_node.now c.args.of_app.now c.push-number.new.self.entries (pushed_of c.self.inside c.args.self.now c.push-number.result c.args.container c.args.of_node.now c.args.of_app.now c.push-number.new.self.entries c.self.view_is c.self.invariant.distinct c.push-number.ensures.entries c.push-number.ensures.unused c.requires.of_node c.requires.of_app)

pub append-requires-2-clause-live : goal.append-requires-2-clause-live
append-requires-2-clause-live c = linked_live c.self.inside.rows.entries c.push-number.result c.args.container c.args.of_node.now c.args.of_app.now c.push-number.new.self.entries (pushed_of c.self.inside c.args.self.now c.push-number.result c.args.container c.args.of_node.now c.args.of_app.now c.push-number.new.self.entries c.self.view_is c.self.invariant.distinct c.push-number.ensures.entries c.push-number.ensures.unused c.requires.of_node c.requires.of_app) c.append.new.rows.entries c.append.new.self c.append.ensures.rows

pub append-requires-2-clause-linked : goal.append-requires-2-clause-linked
append-requires-2-clause-linked c = app_linked c.self.inside.rows.entries c.push-number.result c.args.container c.args.of_node.now c.args.of_app.now c.push-number.new.self.entries (pushed_of c.self.inside c.args.self.now c.push-number.result c.args.container c.args.of_node.now c.args.of_app.now c.push-number.new.self.entries c.self.view_is c.self.invariant.distinct c.push-number.ensures.entries c.push-number.ensures.unused c.requires.of_node c.requires.of_app) c.append.new.rows.entries c.append.new.self c.append.ensures.rows

pub invariant_of-self : goal.invariant_of-self
invariant_of-self c =
    let is = placed c.self.inside.rows.entries c.push-number.result c.args.container c.args.of_node.now c.args.of_app.now c.push-number.new.self.entries (pushed_of c.self.inside c.args.self.now c.push-number.result c.args.container c.args.of_node.now c.args.of_app.now c.push-number.new.self.entries c.self.view_is c.self.invariant.distinct c.push-number.ensures.entries c.push-number.ensures.unused c.requires.of_node c.requires.of_app) c.append.new.rows.entries c.append.new.self c.append.ensures.rows c.append-2.new.rows.entries c.append-2.ensures.rows in
    let above = subst (λ (t : Table). IsAbove c.args.container.clock t.entries) (sym c.self.view_is) c.requires.rises in
    let kept = placed_kept c.self.inside.numbers c.insert.new.self c.self.inside.rows.entries c.append-2.new.rows.entries c.push-number.result c.args.container c.self.invariant.found is above c.in-Ok.ensures.updates.0 c.self.invariant.rising in
    record {
      distinct = placed_distinct c.self.inside.rows.entries c.push-number.result c.args.container c.args.of_node.now c.args.of_app.now c.push-number.new.self.entries (pushed_of c.self.inside c.args.self.now c.push-number.result c.args.container c.args.of_node.now c.args.of_app.now c.push-number.new.self.entries c.self.view_is c.self.invariant.distinct c.push-number.ensures.entries c.push-number.ensures.unused c.requires.of_node c.requires.of_app) c.append.new.rows.entries c.append.new.self c.append.ensures.rows c.append-2.new.rows.entries c.append-2.ensures.rows;
      rising = kept.0;
      found = kept.1;
    }

pub returns-clause-entries : goal.returns-clause-entries
returns-clause-entries c =
    placed c.self.inside.rows.entries c.push-number.result c.args.container c.args.of_node.now c.args.of_app.now c.push-number.new.self.entries (pushed_of c.self.inside c.args.self.now c.push-number.result c.args.container c.args.of_node.now c.args.of_app.now c.push-number.new.self.entries c.self.view_is c.self.invariant.distinct c.push-number.ensures.entries c.push-number.ensures.unused c.requires.of_node c.requires.of_app) c.append.new.rows.entries c.append.new.self c.append.ensures.rows c.append-2.new.rows.entries c.append-2.ensures.rows
    ∙ ap (λ (t : Table). t.entries ++ (c.push-number.result, c.args.container) ∷ []) c.self.view_is

pub returns-clause-unused : goal.returns-clause-unused
returns-clause-unused c =
    subst (λ (t : Table). IsUnused c.push-number.result t.entries) c.self.view_is (unused_of_rows (λ row. row.container) c.push-number.result c.self.inside.rows.entries c.push-number.ensures.unused)

pub returns-clause-of_node : goal.returns-clause-of_node
returns-clause-of_node c = placed_node c.self.inside.rows.entries c.push-number.result c.args.container c.args.of_node.now c.args.of_app.now c.push-number.new.self.entries (pushed_of c.self.inside c.args.self.now c.push-number.result c.args.container c.args.of_node.now c.args.of_app.now c.push-number.new.self.entries c.self.view_is c.self.invariant.distinct c.push-number.ensures.entries c.push-number.ensures.unused c.requires.of_node c.requires.of_app) c.append.new.rows.entries c.append.new.self c.append.ensures.rows c.append-2.new.rows.entries c.append-2.ensures.rows c.append.ensures.chain

pub returns-clause-of_app : goal.returns-clause-of_app
returns-clause-of_app c = placed_app c.self.inside.rows.entries c.push-number.result c.args.container c.args.of_node.now c.args.of_app.now c.push-number.new.self.entries (pushed_of c.self.inside c.args.self.now c.push-number.result c.args.container c.args.of_node.now c.args.of_app.now c.push-number.new.self.entries c.self.view_is c.self.invariant.distinct c.push-number.ensures.entries c.push-number.ensures.unused c.requires.of_node c.requires.of_app) c.append.new.rows.entries c.append.new.self c.append.ensures.rows c.append-2.new.rows.entries c.append-2.ensures.rows c.append-2.new.self c.append-2.ensures.chain

pub returns-clause-nodes : goal.returns-clause-nodes
returns-clause-nodes c other chain apart o =
    other_nodes c.self.inside.rows.entries c.push-number.result c.args.container c.args.of_node.now c.args.of_app.now c.push-number.new.self.entries (pushed_of c.self.inside c.args.self.now c.push-number.result c.args.container c.args.of_node.now c.args.of_app.now c.push-number.new.self.entries c.self.view_is c.self.invariant.distinct c.push-number.ensures.entries c.push-number.ensures.unused c.requires.of_node c.requires.of_app) c.append.new.rows.entries c.append.new.self c.append.ensures.rows c.append-2.new.rows.entries c.append-2.ensures.rows other chain apart (subst (λ (t : Table). IsNodeChain t chain other) (sym c.self.view_is) o)

pub returns-clause-apps : goal.returns-clause-apps
returns-clause-apps c other chain apart o =
    other_apps c.self.inside.rows.entries c.push-number.result c.args.container c.args.of_node.now c.args.of_app.now c.push-number.new.self.entries (pushed_of c.self.inside c.args.self.now c.push-number.result c.args.container c.args.of_node.now c.args.of_app.now c.push-number.new.self.entries c.self.view_is c.self.invariant.distinct c.push-number.ensures.entries c.push-number.ensures.unused c.requires.of_node c.requires.of_app) c.append.new.rows.entries c.append.new.self c.append.ensures.rows c.append-2.new.rows.entries c.append-2.ensures.rows other chain apart (subst (λ (t : Table). IsAppChain t chain other) (sym c.self.view_is) o)
