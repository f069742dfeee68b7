use Rattle.std.proofs.Common.{◌≡◌, true, ◌<◌, ◌++◌, ◌∷◌, [], Some, ap, sym, subst, ◌∙◌, arith, length}
use Rattle.std.specs.BTreeMap.{get}
use Rattle.std.specs.Map.{lookup, remove_entry, values_of}
use Rattle.std.proofs.lemmas.Bool.Decides.{nat_tests}
use Rattle.ynl_resource.specs.Names.{name_order}
use Rattle.ynl_model.specs.declared.nodes.Node.{Node}
use Rattle.ynl_model.specs.Nodes.{nodes_of, joined}
use Rattle.ynl_view.specs.nodes.Nodes.{Leads}
use Rattle.ynl_view.proofs.nodes.Counted.{counted_joined, counted_left, has_place, label_self, one_moved}
use Rattle.ynl_view.proofs.nodes.Entries.{at, removed_before, values_last}
use Rattle.ynl_view.proofs.nodes.Leads.{found_at, leads_moved, kept_same, one_leaves, under}
use Rattle.ynl_view.proofs.nodes.nodes.Nodes.rejoin.Goals.{After-lower}
use Rattle.ynl_view.proofs.nodes.nodes.Nodes.rejoin.Goals as goal

pub put-requires : goal.put-requires
put-requires c = under c.self.inside c.self.invariant c.in-Some-checked_add.number (grind (arith, nat_tests, c.in-Some-checked_add.ensures))

pub raise-requires-clause-few : goal.raise-requires-clause-few
raise-requires-clause-few c =
    let label = c.args.label.now in
    has_place c.args.self.now label c.requires.room _ (c.open_row.ensures.counts label ∙ c.self.invariant.counts label ∙ ap (λ nodes. length (nodes_of nodes label)) c.self.view_is)

pub invariant_of-self-in_err-put : goal.invariant_of-self-in_err-put
invariant_of-self-in_err-put c =
    kept_same c.self.inside c.self.invariant c.put.new.things c.put.new.numbers c.open_row.new.counts c.put.ensures.ordered c.in_err-put.ensures.things_err c.in_err-put.ensures.numbers_err c.open_row.ensures.counts

-- the node is under the number that its name leads to
here : (c : After-lower) → lookup (at c.in-Some.before.now) c.self.inside.nodes.entries ≡ Some c.args.node.now
here c = found_at c.self.inside c.self.invariant c.args.self.now c.self.view_is c.args.node.now.name c.in-Some.before.now (sym c.in-Some.ensures.value) ∙ c.requires.here

-- the node on its other partition
abbrev moved : After-lower → Node
moved c = record { name = c.args.node.now.name; label = c.args.label.now; size = c.args.node.now.size; stamp = c.args.stamp }

-- the others stay, and it comes last
entries_after : (c : After-lower) → c.remove-node.new.self.entries ≡ remove_entry (at c.in-Some.before.now) c.self.inside.nodes.entries ++ (c.in-Some-checked_add.number, moved c) ∷ []
entries_after c =
    let n = c.in-Some.before.now in
    c.remove-node.ensures.entries ∙ ap (λ es. remove_entry (at n) es) c.in_ok-put.ensures.things ∙ removed_before n c.args.node.now c.self.inside.nodes.entries (c.in-Some-checked_add.number, moved c) (here c)

-- so do the nodes
nodes_after : (c : After-lower) → values_of c.remove-node.new.self.entries ≡ values_of (remove_entry (at c.in-Some.before.now) c.self.inside.nodes.entries) ++ moved c ∷ []
nodes_after c =
    ap (λ es. values_of es) (entries_after c) ∙ values_last (remove_entry (at c.in-Some.before.now) c.self.inside.nodes.entries) (c.in-Some-checked_add.number, moved c)

pub returns-clause-ok : goal.returns-clause-ok
unfolding joined
returns-clause-ok c =
    let node = c.args.node.now in
    nodes_after c
    ∙ ap (λ nodes. nodes ++ moved c ∷ []) (one_leaves c.self.inside c.self.invariant c.args.self.now c.self.view_is node c.in-Some.before.now (sym c.in-Some.ensures.value) node (here c) true (label_self node.label))

pub invariant_of-self-2 : goal.invariant_of-self-2
invariant_of-self-2 c =
    let n = c.in-Some.before.now in
    let m = c.in-Some-checked_add.number in
    let entries = c.self.inside.nodes.entries in
    let numbers = get name_order c.put.new.numbers in
    let high : c.self.inside.top < m = grind (arith, nat_tests, c.in-Some-checked_add.ensures) in
    record {
      rises = c.remove-node.ensures.ordered;
      leads = subst (λ es. Leads numbers es m) (sym (entries_after c)) (leads_moved c.self.inside c.self.invariant n m (moved c) (sym c.in-Some.ensures.value) numbers c.in_ok-put.ensures.numbers.0 high);
      counts = λ p.
          one_moved _ _ _ _ _ _ _ (c.lower.ensures p) (c.raise.ensures p) (c.open_row.ensures.counts p ∙ c.self.invariant.counts p) (counted_left p (at n) c.args.node.now entries (here c))
          ∙ sym (counted_joined p (values_of (remove_entry (at n) entries)) (moved c)) ∙ ap (λ nodes. length (nodes_of nodes p)) (sym (nodes_after c));
    }
