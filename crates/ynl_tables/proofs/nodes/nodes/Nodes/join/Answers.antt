use Rattle.std.proofs.Common.{◌≡◌, ◌∙◌, ap, sym, subst, ℕ, List, None, arith}
use Rattle.ynl_slots.specs.Slots.{IsLive, IsUnused, without}
use Rattle.ynl_slots.proofs.Entries.{live-pushed, without-pushed}
use Rattle.ynl_tables.specs.declared.nodes.nodes.NodeRow.{NodeRow}
use Rattle.ynl_tables.specs.nodes.Fields.{nodes_of}
use Rattle.ynl_tables.specs.nodes.Nodes.{Joins, NodesView, number_of, no_chain}
use Rattle.ynl_tables.proofs.nodes.Changes.{joined, push_kept, same_kept}
use Rattle.ynl_tables.proofs.nodes.nodes.Nodes.join.Goals as goal

pub invariant_of-self-in-Ok : goal.invariant_of-self-in-Ok
invariant_of-self-in-Ok c =
    push_kept c.self.inside c.self.invariant c.push-number.result (record { name = c.args.name.now; partition = c.args.partition; size = c.args.size; free = c.args.size; stamp = c.args.stamp; containers = no_chain }) c.push-number.new.self c.insert.new.self c.self.inside.ready
    (λ ready. omega (arith, c.in_ok-reserve.ensures.ok, c.push-number.ensures.room))
    (joined c.push-number.new.self.entries c.reserve.new.self.entries c.self.inside.rows.entries c.push-number.result c.args.name.now c.args.partition c.args.size c.args.stamp c.amount.result c.new.result c.push-number.ensures.entries c.in_ok-reserve.ensures.entries c.amount.ensures.value c.new.ensures)
    (subst (IsUnused c.push-number.result) c.in_ok-reserve.ensures.entries c.push-number.ensures.unused)
    (subst (λ (t : NodesView). number_of c.args.name.now t.entries ≡ None) (sym c.self.view_is) c.requires)
    c.in-Ok.ensures.ok

pub remove-row-requires : goal.remove-row-requires
remove-row-requires c = subst (IsLive c.push-number.result) (sym c.push-number.ensures.entries) (live-pushed c.push-number.result _ c.reserve.new.self.entries c.push-number.ensures.unused)

pub invariant_of-self-in-Err : goal.invariant_of-self-in-Err
invariant_of-self-in-Err c =
    same_kept c.self.inside c.self.invariant c.remove-row.new.self c.insert.new.self c.self.inside.ready
    (λ ready. omega (arith, c.in_ok-reserve.ensures.ok, c.push-number.ensures.room, c.remove-row.ensures.room))
    (c.remove-row.ensures.entries ∙ ap (without c.push-number.result) (joined c.push-number.new.self.entries c.reserve.new.self.entries c.self.inside.rows.entries c.push-number.result c.args.name.now c.args.partition c.args.size c.args.stamp c.amount.result c.new.result c.push-number.ensures.entries c.in_ok-reserve.ensures.entries c.amount.ensures.value c.new.ensures) ∙ without-pushed c.push-number.result (record { name = c.args.name.now; partition = c.args.partition; size = c.args.size; free = c.args.size; stamp = c.args.stamp; containers = no_chain }) c.self.inside.rows.entries (subst (IsUnused c.push-number.result) c.in_ok-reserve.ensures.entries c.push-number.ensures.unused))
    c.in-Err.ensures.err

pub returns-in-Ok-clause-ok : goal.returns-in-Ok-clause-ok
returns-in-Ok-clause-ok c =
    subst (λ (t : NodesView). Joins c.push-number.result c.args.name.now c.args.partition c.args.size c.args.stamp t.entries c.push-number.new.self.entries) c.self.view_is
    (record { unused = (subst (IsUnused c.push-number.result) c.in_ok-reserve.ensures.entries c.push-number.ensures.unused); nodes = (joined c.push-number.new.self.entries c.reserve.new.self.entries c.self.inside.rows.entries c.push-number.result c.args.name.now c.args.partition c.args.size c.args.stamp c.amount.result c.new.result c.push-number.ensures.entries c.in_ok-reserve.ensures.entries c.amount.ensures.value c.new.ensures) })

pub returns-in-Err-clause-err : goal.returns-in-Err-clause-err
returns-in-Err-clause-err c =
    ap (λ (es : List (ℕ × NodeRow)). record (nodes_of c.self.inside) { entries = es })
    (c.remove-row.ensures.entries ∙ ap (without c.push-number.result) (joined c.push-number.new.self.entries c.reserve.new.self.entries c.self.inside.rows.entries c.push-number.result c.args.name.now c.args.partition c.args.size c.args.stamp c.amount.result c.new.result c.push-number.ensures.entries c.in_ok-reserve.ensures.entries c.amount.ensures.value c.new.ensures) ∙ without-pushed c.push-number.result (record { name = c.args.name.now; partition = c.args.partition; size = c.args.size; free = c.args.size; stamp = c.args.stamp; containers = no_chain }) c.self.inside.rows.entries (subst (IsUnused c.push-number.result) c.in_ok-reserve.ensures.entries c.push-number.ensures.unused))
    ∙ c.self.view_is
