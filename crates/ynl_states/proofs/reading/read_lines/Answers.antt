-- The lines are read, one after another.
use Rattle.std.proofs.Common.{◌∙◌, ◌≤◌, ◌+◌, ◌==◌, ℕ, Bor, List, [], length, Result, ap, subst, arith}
use Rattle.std.specs.List.{slice_split}
use Rattle.std.specs.Option.{option_map_or}
use Rattle.ynl_fields.specs.Reading.{◌>>=◌}
use Rattle.ynl_saved_text.specs.Texts.{Progress, limit, lines_read}
use Rattle.ynl_saved_text.specs.declared.faults.BadState.{BadState}
use Rattle.ynl_states.proofs.Steps.{left-more, same-config}
use Rattle.ynl_states.proofs.reading.read_lines.Goals as goal

pub take-requires-clause-at : goal.take-requires-clause-at
take-requires-clause-at c =
    let now = c.loop-left.invariant.0 c.args.reading.now.told.cluster.config c.requires.at.0 c.requires.at.1 in
    (now.0, same-config _ c.loop-left.reading.told c.loop-left.reading.lines c.loop-left.reading.count now.0 now.1)

pub take-requires-clause-few : goal.take-requires-clause-few
take-requires-clause-few c =
    let bound = subst (λ left. c.loop-left.reading.count + option_map_or (λ (text : Bor (List ℕ)). length text.now + 1) left 0 ≤ limit + 1) c.in-Some.is c.loop-left.invariant.1 in
    omega (arith, bound)

pub returns-in-Err : goal.returns-in-Err
returns-in-Err c configured p at =
    let now = c.loop-left.invariant.0 configured p at in
    now.2 ∙ ap (λ left. lines_read configured now.0 (option_map_or (λ (text : Bor (List ℕ)). slice_split (λ (b : ℕ). b == 10) text.now) left [])) c.in-Some.is
    ∙ ap (lines_read configured now.0) c.first_line-first.ensures.lines
    ∙ ap (λ (read : Result Progress BadState). read >>= λ r. lines_read configured r (option_map_or (λ (text : Bor (List ℕ)). slice_split (λ (b : ℕ). b == 10) text.now) c.first_line-first.result.rest []))
    (rw c.in-Err.is at c.in_ok-bad.ensures.step configured now.0 now.1)

pub loop-left-preserved : goal.loop-left-preserved
loop-left-preserved c = (
  λ configured p at.
      let now = c.loop-left.invariant.0 configured p at in
      let next = rw c.in_default-2.is at c.in_ok-bad.ensures.step configured now.0 now.1 in (
        next.0,
        next.2,
        now.2 ∙ ap (λ left. lines_read configured now.0 (option_map_or (λ (text : Bor (List ℕ)). slice_split (λ (b : ℕ). b == 10) text.now) left [])) c.in-Some.is
            ∙ ap (lines_read configured now.0) c.first_line-first.ensures.lines
            ∙ ap (λ (read : Result Progress BadState). read >>= λ r. lines_read configured r (option_map_or (λ (text : Bor (List ℕ)). slice_split (λ (b : ℕ). b == 10) text.now) c.first_line-first.result.rest [])) next.1,
      ),
  left-more c.loop-left.reading.count (length c.in-Some.text.now) c.take.new.self.count c.first_line-first.result.rest c.in_ok-bad.ensures.counted
      (subst (λ left. c.loop-left.reading.count + option_map_or (λ (text : Bor (List ℕ)). length text.now + 1) left 0 ≤ limit + 1) c.in-Some.is c.loop-left.invariant.1) c.first_line-first.ensures.shorter,
)

pub returns : goal.returns
returns c configured p at =
    let now = c.loop-left.invariant.0 configured p at in
    (now.0, now.2 ∙ ap (λ left. lines_read configured now.0 (option_map_or (λ (text : Bor (List ℕ)). slice_split (λ (b : ℕ). b == 10) text.now) left [])) c.in_default.is, now.1)
