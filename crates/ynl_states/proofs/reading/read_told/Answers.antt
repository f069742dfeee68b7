-- What a text told.
use Rattle.std.proofs.Common.{◌∙◌, cond, false, Result, Ok, Err, sym, ap}
use Rattle.std.specs.Option.{option_map_or}
use Rattle.ynl_fields.specs.Reading.{◌>>=◌}
use Rattle.ynl_saved_text.specs.StateLines.{is_end}
use Rattle.ynl_saved_text.specs.Texts.{Progress, no_progress, whole_read}
use Rattle.ynl_saved_text.specs.declared.faults.BadState.{BadState}
use Rattle.ynl_saved_text.specs.declared.faults.StateFault.TheVariants.{Cut}
use Rattle.ynl_states.proofs.Steps.{at-first, short-read, same-config}
use Rattle.ynl_states.proofs.reading.read_told.Goals as goal

pub read_lines-requires-clause-at : goal.read_lines-requires-clause-at
read_lines-requires-clause-at c =
    let at = at-first c.args.config c.in_ok-new.field-0 c.new-2.result c.in_ok-new.ensures.config c.in_ok-new.ensures.told c.new-2.ensures in
    (no_progress c.args.config, same-config c.args.config c.in_ok-new.field-0 c.new-2.result 0 (no_progress c.args.config) at)

pub returns-in-Err : goal.returns-in-Err
returns-in-Err c =
    let at = at-first c.args.config c.in_ok-new.field-0 c.new-2.result c.in_ok-new.ensures.config c.in_ok-new.ensures.told c.new-2.ensures in
    short-read c.args.config c.args.text.now c.if-text-gt-MOST.false
    ∙ ap (λ (read : Result Progress BadState). read >>= whole_read) (rw c.in-Err.is at c.in_ok-bad.ensures c.args.config (no_progress c.args.config) at)

pub returns-then-not-has_ended : goal.returns-then-not-has_ended
returns-then-not-has_ended c =
    let at = at-first c.args.config c.in_ok-new.field-0 c.new-2.result c.in_ok-new.ensures.config c.in_ok-new.ensures.told c.new-2.ensures in
    let read = rw c.in_default.is at c.in_ok-bad.ensures c.args.config (no_progress c.args.config) at in
    short-read c.args.config c.args.text.now c.if-text-gt-MOST.false
    ∙ ap (λ (read : Result Progress BadState). read >>= whole_read) read.1
    ∙ ap (λ b. cond b (Ok read.0.restored) (Err (record { fault = Cut; line = 0 })))
    (ap (λ o. option_map_or is_end o false) (sym (let now = read.2 in now.before)) ∙ sym c.has_ended.ensures ∙ c.if-not-has_ended.true)

pub returns : goal.returns
returns c =
    let at = at-first c.args.config c.in_ok-new.field-0 c.new-2.result c.in_ok-new.ensures.config c.in_ok-new.ensures.told c.new-2.ensures in
    let read = rw c.in_default.is at c.in_ok-bad.ensures c.args.config (no_progress c.args.config) at in
    let now = read.2 in (
      read.0.restored,
      short-read c.args.config c.args.text.now c.if-text-gt-MOST.false
          ∙ ap (λ (read : Result Progress BadState). read >>= whole_read) read.1
          ∙ ap (λ b. cond b (Ok read.0.restored) (Err (record { fault = Cut; line = 0 }))) (ap (λ o. option_map_or is_end o false) (sym now.before) ∙ sym c.has_ended.ensures ∙ c.if-not-has_ended.false),
      now.config,
      now.tells,
      now.within,
    )
