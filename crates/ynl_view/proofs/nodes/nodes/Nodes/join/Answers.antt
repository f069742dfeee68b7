use Rattle.std.proofs.Common.{◌+◌, ◌<◌, ap, sym, subst, ◌∙◌, arith, length}
use Rattle.std.specs.BTreeMap.{get}
use Rattle.std.specs.Map.{values_of}
use Rattle.std.proofs.lemmas.Bool.Decides.{nat_tests}
use Rattle.ynl_resource.specs.Names.{name_order}
use Rattle.ynl_model.specs.Nodes.{find_node, nodes_of}
use Rattle.ynl_view.specs.nodes.Nodes.{Leads}
use Rattle.ynl_view.proofs.nodes.Counted.{one, counted_joined, has_place}
use Rattle.ynl_view.proofs.nodes.Entries.{values_last}
use Rattle.ynl_view.proofs.nodes.Leads.{under, leads_joined, kept_same}
use Rattle.ynl_view.proofs.nodes.nodes.Nodes.join.Goals as goal

pub put-requires : goal.put-requires
put-requires c = under c.self.inside c.self.invariant c.in-Some.number (grind (arith, nat_tests, c.in-Some.ensures))

pub raise-requires-clause-few : goal.raise-requires-clause-few
raise-requires-clause-few c =
    let label = c.args.node.label in
    has_place c.args.self.now label c.requires.room _ (c.open_row.ensures.counts label ∙ c.self.invariant.counts label ∙ ap (λ nodes. length (nodes_of nodes label)) c.self.view_is)

pub invariant_of-self-in_err-put : goal.invariant_of-self-in_err-put
invariant_of-self-in_err-put c =
    kept_same c.self.inside c.self.invariant c.put.new.things c.put.new.numbers c.open_row.new.counts c.put.ensures.ordered c.in_err-put.ensures.things_err c.in_err-put.ensures.numbers_err c.open_row.ensures.counts

pub invariant_of-self-2 : goal.invariant_of-self-2
invariant_of-self-2 c =
    let node = c.args.node in
    let n = c.in-Some.number in
    let entries = c.self.inside.nodes.entries in
    let last = c.in_ok-put.ensures.things in
    let numbers = get name_order c.put.new.numbers in
    let high : c.self.inside.top < n = grind (arith, nat_tests, c.in-Some.ensures) in
    record {
      rises = c.put.ensures.ordered;
      leads = subst (λ es. Leads numbers es n) (sym last) (leads_joined c.self.inside c.self.invariant n node numbers c.in_ok-put.ensures.numbers.0 high (ap (λ nodes. find_node nodes node.name) c.self.view_is ∙ c.requires.new));
      counts = λ p.
          c.raise.ensures p ∙ ap (λ count. count + one node.label p) (c.open_row.ensures.counts p ∙ c.self.invariant.counts p) ∙ sym (counted_joined p (values_of entries) node)
          ∙ ap (λ nodes. length (nodes_of nodes p)) (sym (ap (λ es. values_of es) last ∙ values_last entries (n, node)));
    }
