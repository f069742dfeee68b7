use Rattle.std.proofs.Common.{◌≡◌, true, Ok, Some, rules, sym, subst, ap, ◌∙◌}
use Rattle.ynl_lines.specs.Reading.{Gives}
use Rattle.ynl_commands.specs.Audit.{entry_if, entry_said}
use Rattle.ynl_commands.specs.Auditing.{TakesEntry}
use Rattle.ynl_commands.proofs.Audits.{passes}
use Rattle.ynl_commands.proofs.audit.Audit.take_line.Goals as goal

-- an entry that fits
pub returns-then-branch-2-clause-passes : goal.returns-then-branch-2-clause-passes
returns-then-branch-2-clause-passes c =
    let entry = c.entry.result.now in
    let found : c.in_ok-says_entry.field-0 ≡ Ok true = search rules in
    let lent : entry ≡ c.says_entry.new.lines.1 = search rules in
    let said = subst (λ r. Gives (entry_if c.says_entry.new.lines) r (entry_said c.args.self.now.entries c.args.line.now)) found c.in_ok-says_entry.ensures.said in
    let says : Ok (Some entry) ≡ entry_said c.args.self.now.entries c.args.line.now = ap (λ e. Ok (Some e)) lent ∙ sym said in
    let takes : TakesEntry c.args.self.now entry c.take.new.self true = subst (TakesEntry c.args.self.now entry c.take.new.self) c.if-branch-2.true c.in_ok-take-in-Ok-true.ensures.taken in
    λ k s entries is. passes k s entries c.args.self.now c.args.line.now is c.take.new.self entry says takes
