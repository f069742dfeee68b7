use Rattle.std.proofs.Common.{List, [], length, All, subst}
use Rattle.ynl_resource.specs.declared.names.Name.{Name}
use Rattle.ynl_core.specs.World.{World}
use Rattle.ynl_journal.specs.Journal.{IsHistoryFrom}
use Rattle.ynl_live.specs.Alone.{ShowTenantsAloneFrom}
use Rattle.ynl_live.specs.declared.receipts.Receipt.{Receipt}
use Rattle.ynl_live.specs.Receipts.{all_receipts, EachOnce, ListFits}
use Rattle.ynl_workers.specs.session.Handed.{AddsRounds}
use Rattle.ynl_workers.proofs.session.Hands.{rounds_alone}
use Rattle.ynl_workers.proofs.session.sessions.run_rounds.Goals as goal

pub returns-in-Ok : goal.returns-in-Ok
returns-in-Ok g c =
    let free = g.G.Gate.is_free c.args.gate.now in
    let entries = c.in-Ok.closed.entries in
    let nodes = c.in_ok-nodes.nodes.items in
    let lists = c.run_rounds.new.self.lists.items in
    let D : List Name → Type 0 = λ ns. AddsRounds free ns c.args.rounds [] lists in
    let O : List (List Receipt) → Type 0 = λ old. AddsRounds free c.deref.result.now c.args.rounds old lists in
    let H : World → Type 0 = λ w. IsHistoryFrom w.config w.state entries in
    let A : World → Type 0 = λ w. ShowTenantsAloneFrom w entries in
    let F : List (List Receipt) → Type 0 = λ ls. All (λ list. ListFits entries list) ls in
    let E : List (List Receipt) → Type 0 = λ ls. EachOnce (length entries) (all_receipts ls) in
    let same = c.in_ok-live.ensures.0 in
    rounds_alone free c.args.start c.args.rounds entries nodes lists
    (subst D c.deref.ensures.value (subst O c.new-handed.ensures c.in_ok-run_rounds.ensures))
    c.in_ok-nodes.ensures.apart c.in_ok-nodes.ensures.all (subst H same c.in-Ok.ensures.history) (subst A same c.in-Ok.ensures.alone)
    (subst F c.deref-3.ensures.value c.in-Ok.ensures.receipts) (subst E c.deref-3.ensures.value c.in-Ok.ensures.once)
