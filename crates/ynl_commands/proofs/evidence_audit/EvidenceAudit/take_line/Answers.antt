use Rattle.std.proofs.Common.{◌≡◌, ◌+◌, true, Some, Ok, refl, rules, ap, sym, subst, ◌∙◌}
use Rattle.ynl_view.specs.evidence.Evidence.{Placed}
use Rattle.ynl_lines.specs.Reading.{Gives}
use Rattle.ynl_commands.specs.declared.evidence_audit.EvidenceAudit.{EvidenceAudit}
use Rattle.ynl_commands.specs.Evidence.{placed_if, placed_said}
use Rattle.ynl_commands.proofs.Evidences.{audit-steps}
use Rattle.ynl_commands.proofs.evidence_audit.EvidenceAudit.take_line.Goals as goal

-- an entry passes
pub returns-clause-steps : goal.returns-clause-steps
returns-clause-steps c =
    let read : Placed = c.says_placed.new.lines in
    let x : Placed = (c.place.result, c.entry.result.now) in
    let at : read.0 ≡ c.place.result = sym c.place.ensures in
    let lent : read.1 ≡ c.entry.result.now = sym c.entry.ensures in
    let same : read ≡ x = λ i. (at i, lent i) in
    let new : EvidenceAudit = record { trial = c.take.new.self; entries = c.args.self.now.entries + 1 } in
    let found : c.in_ok-says_placed.field-0 ≡ Ok true = search rules in
    let said : placed_said c.args.line.now ≡ Ok (Some read) = subst (λ r. Gives (placed_if read) r (placed_said c.args.line.now)) found c.in_ok-says_placed.ensures in
    let says : placed_said c.args.line.now ≡ Ok (Some x) = said ∙ ap (λ (y : Placed). Ok (Some y)) same in
    audit-steps c.args.whose.now c.args.self.now new c.args.line.now x c.take.result says c.take.ensures (c.in_ok-flaw.was ∙ ap Ok c.in_default.is) refl
