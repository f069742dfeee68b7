use Rattle.std.proofs.Common.{◌≡◌, true, Some, rules, refl, sym, subst}
use Rattle.ynl_model.specs.View.{kept_if}
use Rattle.ynl_commands.specs.declared.evidence.Gathering.{Gathering}
use Rattle.ynl_commands.specs.Evidence.{seen_by}
use Rattle.ynl_commands.proofs.Evidences.{seen-told, sees-seen}
use Rattle.ynl_commands.proofs.evidence.Gathering.see_entry.Goals as goal

pub hold_seen-requires : goal.hold_seen-requires
hold_seen-requires c =
    let found : c.in-Ok-true.field-0 ≡ true = search rules in
    let is = sym (subst (λ b. kept_if b c.see_into.new.seen ≡ seen_by c.args.whose.now c.args.self.now c.args.entry.now) found c.in-Ok-true.ensures.seen) in
    seen-told c.args.whose.now.tenant c.args.whose.now.label c.args.whose.now.config c.args.self.now.track c.args.entry.now.event c.see_into.new.seen c.args.entry.now.reply is c.requires

pub returns-in-Ok-true : goal.returns-in-Ok-true
returns-in-Ok-true c =
    let new : Gathering = record { track = c.see_into.new.track; entries = c.args.self.now.entries; text = c.hold_seen.new.text; line = c.hold_seen.new.line } in
    let found : c.in-Ok-true.field-0 ≡ true = search rules in
    let is : seen_by c.args.whose.now c.args.self.now c.args.entry.now ≡ Some c.see_into.new.seen =
    sym (subst (λ b. kept_if b c.see_into.new.seen ≡ seen_by c.args.whose.now c.args.self.now c.args.entry.now) found c.in-Ok-true.ensures.seen) in
    sees-seen c.args.whose.now c.args.entry.now c.see_into.new.seen c.args.self.now new c.hold_seen.result is c.in-Ok-true.ensures.track refl c.hold_seen.ensures
