use Rattle.std.proofs.Common.{◌∙◌, ap, refl, sym, subst, false, arith, true≢false}
use Rattle.std.proofs.lemmas.Option.{none-some}
use Rattle.ynl_slots.specs.Slots.{IsUnused, without}
use Rattle.ynl_tables.specs.nodes.Nodes.{NodesView, Rejoins, no_chain}
use Rattle.ynl_tables.proofs.nodes.Changes.{joined, moved_kept, name_there}
use Rattle.ynl_tables.proofs.nodes.nodes.Nodes.rejoin.Goals as goal

pub push-last-requires : goal.push-last-requires
push-last-requires c =
    let before = c.self.invariant.room (ap (λ (v : NodesView). v.ready) c.self.view_is ∙ c.requires.ready) in
    omega (arith, before, c.remove-was.ensures.room)

pub unreachable-requires : goal.unreachable-requires
unreachable-requires c = none-some c.args.number (sym c.in-Err.ensures.absent ∙ name_there c.self.inside c.self.invariant c.args.number c.remove-was.result c.remove-was.ensures.value c.insert.ensures.name)

pub invariant_of-self : goal.invariant_of-self
invariant_of-self c =
    moved_kept c.self.inside c.self.invariant c.args.number c.push-last.result c.remove-was.result (record { name = c.remove-was.result.name; partition = c.args.partition; size = c.remove-was.result.size; free = c.remove-was.result.size; stamp = c.args.stamp; containers = no_chain }) c.push-last.new.self c.insert.new.self false (λ is. absurd (true≢false (sym is)))
    (joined c.push-last.new.self.entries c.remove-was.new.self.entries (without c.args.number c.self.inside.rows.entries) c.push-last.result c.remove-was.result.name c.args.partition c.remove-was.result.size c.args.stamp c.amount.result c.new.result c.push-last.ensures.entries c.remove-was.ensures.entries c.amount.ensures.value c.new.ensures)
    c.remove-was.ensures.value
    refl
    (subst (IsUnused c.push-last.result) c.remove-was.ensures.entries c.push-last.ensures.unused)
    c.in-Ok.ensures.ok

pub returns-clause-entries : goal.returns-clause-entries
returns-clause-entries c =
    subst (λ (t : NodesView). Rejoins c.args.number c.push-last.result c.args.partition c.args.stamp t.entries c.push-last.new.self.entries) c.self.view_is
    (record {
      row = c.remove-was.result;
      found = c.remove-was.ensures.value;
      joins = record {
        unused = subst (IsUnused c.push-last.result) c.remove-was.ensures.entries c.push-last.ensures.unused;
        nodes = joined c.push-last.new.self.entries c.remove-was.new.self.entries (without c.args.number c.self.inside.rows.entries) c.push-last.result c.remove-was.result.name c.args.partition c.remove-was.result.size c.args.stamp c.amount.result c.new.result c.push-last.ensures.entries c.remove-was.ensures.entries c.amount.ensures.value c.new.ensures;
      };
    })
