use Rattle.std.proofs.Common.{◌≡◌, true, false, rules, ap, sym, subst, ◌∙◌, length}
use Rattle.std.specs.BTreeMap.{get}
use Rattle.std.specs.Map.{values_of}
use Rattle.ynl_resource.specs.Names.{name_order, same_label}
use Rattle.ynl_model.specs.Nodes.{nodes_of}
use Rattle.ynl_view.specs.nodes.Nodes.{Leads}
use Rattle.ynl_view.proofs.nodes.Counted.{counted_left, less_one}
use Rattle.ynl_view.proofs.nodes.Entries.{at}
use Rattle.ynl_view.proofs.nodes.Leads.{leads_astray, leads_left, leads_nowhere, none_leaves, one_leaves}
use Rattle.ynl_view.proofs.nodes.nodes.Nodes.leave.Goals as goal

pub returns-in_default : goal.returns-in_default
returns-in_default c =
    let node = c.args.node.now in
    none_leaves c.self.inside c.self.invariant c.args.self.now c.self.view_is node (leads_nowhere c.self.inside c.self.invariant node.name (sym c.in_default.ensures.value))

pub returns-in_default-get : goal.returns-in_default-get
returns-in_default-get c =
    let node = c.args.node.now in
    none_leaves c.self.inside c.self.invariant c.args.self.now c.self.view_is node (leads_astray c.self.inside c.self.invariant node.name c.in-Some.number.now (sym c.in-Some.ensures.value) (sym c.in_default-get.ensures.value))

pub returns-else-eq : goal.returns-else-eq
returns-else-eq c =
    let away : same_label c.in-Some-get.found.now.label c.args.node.now.label ≡ false = search rules in
    sym c.self.view_is
    ∙ one_leaves c.self.inside c.self.invariant c.args.self.now c.self.view_is c.args.node.now c.in-Some.number.now (sym c.in-Some.ensures.value) c.in-Some-get.found.now (sym c.in-Some-get.ensures.value) false away

pub returns-then-eq : goal.returns-then-eq
returns-then-eq c =
    let here : same_label c.in-Some-get.found.now.label c.args.node.now.label ≡ true = search rules in
    ap (λ es. values_of es) c.remove-node.ensures.entries
    ∙ one_leaves c.self.inside c.self.invariant c.args.self.now c.self.view_is c.args.node.now c.in-Some.number.now (sym c.in-Some.ensures.value) c.in-Some-get.found.now (sym c.in-Some-get.ensures.value) true here

pub invariant_of-self : goal.invariant_of-self
invariant_of-self c =
    let n = c.in-Some.number.now in
    let numbers = get name_order c.remove-number.new.self in
    record {
      rises = c.remove-node.ensures.ordered;
      leads = subst (λ es. Leads numbers es c.self.inside.top) (sym c.remove-node.ensures.entries)
          (leads_left c.self.inside c.self.invariant c.args.node.now.name n (sym c.in-Some.ensures.value) numbers c.remove-number.ensures.updates.0);
      counts = λ p.
          less_one _ _ _ _ _ (c.lower.ensures p) (c.self.invariant.counts p) (counted_left p (at n) c.in-Some-get.found.now c.self.inside.nodes.entries (sym c.in-Some-get.ensures.value))
          ∙ ap (λ es. length (nodes_of (values_of es) p)) (sym c.remove-node.ensures.entries);
    }
