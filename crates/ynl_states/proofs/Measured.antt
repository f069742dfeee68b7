-- Lines that are measured, one after another.
use Rattle.std.proofs.Common.{◌≡◌, ◌<◌, ◌≤◌, ◌+◌, ℕ, max, List, [], ◌∷◌, ◌++◌, length, Result, Ok, Err, sym, ap, subst, ◌∙◌, length-append, arith}
use Rattle.std.specs.Result.{IsErrAnd}
use Rattle.ynl_model.specs.Queues.{Config}
use Rattle.ynl_model.specs.Cluster.{State}
use Rattle.ynl_saved.specs.declared.lines.StateLine.{StateLine}
use Rattle.ynl_saved.specs.declared.lines.StateLine.TheVariants.{End}
use Rattle.ynl_saved.specs.Handing.{FailsAmong, TakesAll}
use Rattle.ynl_saved.specs.Saving.{lines_before_end, state_lines}
use Rattle.ynl_saved.proofs.Handing.{fails-behind, fails-front, flat-append, hands-one, takes-last}
use Rattle.ynl_saved_text.specs.Texts.{line_text, lines_text, limit}
use Rattle.ynl_states.specs.Measure.{AreWithin, Measured, Measures, MeasuresState}
use Rattle.ynl_states.specs.declared.text.TextFault.{TextFault}
use Rattle.ynl_states.specs.declared.text.TextFault.TheVariants.{Size, NoMemory}

-- so long are some lines together, so many they are, none is longer than the longest, and that is no longer than all
record Are (old new : Measured) (lines : List StateLine) : Type 0 where
  long : new.length ≡ old.length + length (lines_text lines)
  many : new.lines ≡ old.lines + length lines
  within : AreWithin lines new.longest
  more : old.longest ≤ new.longest
  bound : new.longest ≤ max old.longest new.length

all-measured : (lines : List StateLine) (old new : Measured) → TakesAll Measures old lines new → Are old new lines
all-measured [] old new same =
    let long = ap (λ (m : Measured). m.length) same in
    let many = ap (λ (m : Measured). m.lines) same in
    let longest = ap (λ (m : Measured). m.longest) same in
    record { long = omega (arith, long); many = omega (arith, many); within = tt; more = omega (arith, longest); bound = omega (arith, longest) }
all-measured (line ∷ lines) old new (mid, one, rest) =
    let are = all-measured lines mid new rest in
    let parts = length-append (line_text line) (lines_text lines) in
    let length-is = one.0 in
    let lines-is = one.1 in
    let longest-is = one.3 in
    let long = are.long in
    let many = are.many in
    let more = are.more in
    let bound = are.bound in
    record {
      long = omega (arith, parts, length-is, long);
      many = omega (arith, lines-is, many);
      within = (omega (arith, longest-is, more), are.within);
      more = omega (arith, longest-is, more);
      bound = omega (arith, longest-is, length-is, long, bound);
    }

-- where it gets too long with one of some lines, it is too long with all
too-long : (lines : List StateLine) (old new : Measured) → FailsAmong Measures old lines new Size → limit < old.length + length (lines_text lines)
too-long lines old new is =
    let before = (all-measured is.before old is.mid is.took).long in
    let text = ap length (ap lines_text is.are ∙ flat-append line_text is.before (is.line ∷ is.rest)) in
    let one = length-append (lines_text is.before) (line_text is.line ++ lines_text is.rest) in
    let two = length-append (line_text is.line) (lines_text is.rest) in
    let failed : limit < is.mid.length + length (line_text is.line) = is.failed in
    omega (arith, before, text, one, two, failed)

-- and the fault is handed on
failed : (c : Config) (s : State) (old new : Measured) (e : TextFault) (r : Result ℕ TextFault) → FailsAmong Measures old (state_lines c s) new e → IsErrAnd r (λ x. x ≡ e) → MeasuresState old c s new r
failed c s old new e (Ok lines) is same = absurd same
failed c s old new e (Err x) is same = subst (λ x. MeasuresState old c s new (Err x)) (sym same) (go e is)
  where
    go : (e : TextFault) → FailsAmong Measures old (state_lines c s) new e → MeasuresState old c s new (Err e)
    go Size is = too-long (state_lines c s) old new is
    go NoMemory is = tt

-- it fails before the last line
pub state-breaks-off : (c : Config) (s : State) (old new : Measured) (e : TextFault) (r : Result ℕ TextFault) → FailsAmong Measures old (lines_before_end c s) new e → IsErrAnd r (λ x. x ≡ e) → MeasuresState old c s new r
state-breaks-off c s old new e r is same = failed c s old new e r (fails-front Measures old new (lines_before_end c s) (End (length (lines_before_end c s)) ∷ []) e is) same

module _ (c : Config) (s : State) (old mid new : Measured) (lines : ℕ) (none : old.lines ≡ 0) (took : TakesAll Measures old (lines_before_end c s) mid) (counts : lines ≡ mid.lines) where
  counted : lines ≡ length (lines_before_end c s)
  counted = let many = (all-measured (lines_before_end c s) old mid took).many in omega (arith, many, none, counts)

  -- it fails at that
  pub state-fails-at-end : (e : TextFault) (r : Result ℕ TextFault) → Measures mid (End lines) new (Err e) → IsErrAnd r (λ x. x ≡ e) → MeasuresState old c s new r
  state-fails-at-end e r last same =
      failed c s old new e r
      (fails-behind Measures old mid new (lines_before_end c s) (End (length (lines_before_end c s)) ∷ []) e took
      (hands-one Measures mid new (End (length (lines_before_end c s))) (Err e) (subst (λ n. Measures mid (End n) new (Err e)) counted last)))
      same

  -- all lines are measured
  pub state-measured : Measures mid (End lines) new (Ok tt) → MeasuresState old c s new (Ok lines)
  state-measured last =
      let are = all-measured (state_lines c s) old new
      (takes-last Measures old mid new (lines_before_end c s) (End (length (lines_before_end c s))) took (subst (λ n. Measures mid (End n) new (Ok tt)) counted last)) in
      (counted, are.long, last.2, are.within, are.bound)
