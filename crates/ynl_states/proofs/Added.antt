-- Lines that are added to a text, one after another.
use Rattle.std.proofs.Common.{◌≡◌, ◌<◌, ◌≤◌, ◌+◌, ℕ, suc, List, [], ◌∷◌, ◌++◌, length, Result, Ok, Err, sym, ap, subst, ◌∙◌, arith}
use Rattle.std.specs.List.{AllByRecursion}
use Rattle.std.specs.Result.{IsErrAnd}
use Rattle.std.proofs.lemmas.List.{append_assoc, append-nil, length-append}
use Rattle.ynl_model.specs.Queues.{Config}
use Rattle.ynl_model.specs.Cluster.{State}
use Rattle.ynl_saved.specs.declared.lines.StateLine.{StateLine}
use Rattle.ynl_saved.specs.declared.lines.StateLine.TheVariants.{End}
use Rattle.ynl_saved.specs.Handing.{FailsAmong, Hands, TakesAll}
use Rattle.ynl_saved.specs.Saving.{lines_before_end, state_lines}
use Rattle.ynl_saved.proofs.Handing.{fails-front, flat-append, hands-behind, hands-one}
use Rattle.ynl_saved_text.specs.StateLines.{IsClocked}
use Rattle.ynl_saved_text.specs.Texts.{Reads, line_text, lines_text, limit, state_text}
use Rattle.ynl_saved.proofs.Ranging.{lines-counted}
use Rattle.ynl_saved_text.proofs.Clocked.{told-clocked}
use Rattle.ynl_saved_text.proofs.TextReads.{text-reads}
use Rattle.ynl_states.specs.Text.{Adds, AddsState, Told}
use Rattle.ynl_states.specs.declared.text.TextFault.{TextFault}
use Rattle.ynl_states.specs.declared.text.TextFault.TheVariants.{Size, NoMemory}

-- all were added, and are counted
pub all-added : (lines : List StateLine) (old new : Told) → TakesAll Adds old lines new → (new.text ≡ old.text ++ lines_text lines) × (new.lines ≡ old.lines + length lines)
all-added [] old new same =
    let lines : new.lines ≡ old.lines + 0 = let is = ap (λ (t : Told). t.lines) same in omega (arith, is) in
    (ap (λ (t : Told). t.text) (sym same) ∙ sym (append-nil old.text), lines)
all-added (line ∷ lines) old new (mid, one, rest) =
    let more = all-added lines mid new rest in
    let counted : new.lines ≡ old.lines + suc (length lines) = let a = more.1 in let b = one.1 in omega (arith, a, b) in
    (more.0 ∙ ap (λ t. t ++ lines_text lines) one.0 ∙ append_assoc old.text (line_text line) (lines_text lines), counted)

-- each that was added reads as itself, where its clocks and counts are in range
pub all-read : (lines : List StateLine) (old new : Told) → TakesAll Adds old lines new → AllByRecursion IsClocked lines → AllByRecursion Reads lines
all-read [] old new same ranged = tt
all-read (line ∷ lines) old new (mid, one, rest) ranged = (one.3 ranged.0, all-read lines mid new rest ranged.1)

-- with more behind it a text is no shorter
longer : (a b c : List ℕ) (n : ℕ) → n < length (a ++ b) → n < length (a ++ (b ++ c))
longer a b c n h =
    let one = length-append a b in
    let two = length-append a (b ++ c) in
    let three = length-append b c in
    omega (arith, h, one, two, three)

-- where the text gets too long with one of some lines, it is too long with all
pub too-long : (lines : List StateLine) (old new : Told) → FailsAmong Adds old lines new Size → limit < length (old.text ++ lines_text lines)
too-long lines old new is =
    let before = all-added is.before old is.mid is.took in
    let own : limit < length ((old.text ++ lines_text is.before) ++ line_text is.line) = subst (λ t. limit < length (t ++ line_text is.line)) before.0 is.failed in
    subst (λ t. limit < length t)
    (append_assoc old.text (lines_text is.before) (line_text is.line ++ lines_text is.rest)
    ∙ ap (λ t. old.text ++ t) (sym (ap lines_text is.are ∙ flat-append line_text is.before (is.line ∷ is.rest))))
    (longer (old.text ++ lines_text is.before) (line_text is.line) (lines_text is.rest) limit own)

-- what comes of the lines of a state, the last among them
pub state-added : (c : Config) (s : State) (old mid new : Told) (lines : ℕ) (r : Result (Unit {0}) TextFault) → old.lines ≡ 0 → TakesAll Adds old (lines_before_end c s) mid → lines ≡ mid.lines
    → Adds mid (End lines) new r → AddsState old c s new r
state-added c s old mid new lines r none took counts last =
    let before = all-added (lines_before_end c s) old mid took in
    let many : lines ≡ length (lines_before_end c s) = let a = before.1 in omega (arith, a, none, counts) in
    let all : Hands Adds old (state_lines c s) new r =
    hands-behind Adds old mid new (lines_before_end c s) (End (length (lines_before_end c s)) ∷ []) r took (one (subst (λ n. Adds mid (End n) new r) many last))
    in
    go r all (within r (subst (λ n. Adds mid (End n) new r) many last))
  where
    one : Adds mid (End (length (lines_before_end c s))) new r → Hands Adds mid (End (length (lines_before_end c s)) ∷ []) new r
    one h = hands-one Adds mid new (End (length (lines_before_end c s))) r h

    IsWithin : Result (Unit {0}) TextFault → Type 0
    IsWithin (Ok done) = length new.text ≤ limit
    IsWithin (Err e) = Unit {0}

    within : (r : Result (Unit {0}) TextFault) → Adds mid (End (length (lines_before_end c s))) new r → IsWithin r
    within (Ok done) h = h.2
    within (Err e) h = tt

    go : (r : Result (Unit {0}) TextFault) → Hands Adds old (state_lines c s) new r → IsWithin r → AddsState old c s new r
    go (Ok done) h inside =
        let text = (all-added (state_lines c s) old new h).0 in
        let parts = length-append old.text (state_text c s) in
        let long = ap length text in
        let short : length (state_text c s) ≤ limit = omega (arith, inside, parts, long) in (
          text,
          inside,
          λ accepted within r told.
              text-reads c s r told (all-read (state_lines c s) old new h (told-clocked c accepted (state_lines c s) r (lines-counted c s within) told)) short,
        )
    go (Err Size) h inside = too-long (state_lines c s) old new h
    go (Err NoMemory) h inside = tt

-- the text gets too long before the last line
pub state-too-long : (c : Config) (s : State) (old new : Told) (e : TextFault) → FailsAmong Adds old (lines_before_end c s) new e → AddsState old c s new (Err e)
state-too-long c s old new Size fails = too-long (state_lines c s) old new (fails-front Adds old new (lines_before_end c s) (End (length (lines_before_end c s)) ∷ []) Size fails)
state-too-long c s old new NoMemory fails = tt

-- what it failed with is handed on
pub state-on : (c : Config) (s : State) (old new : Told) (e : TextFault) (r : Result (Unit {0}) TextFault) → AddsState old c s new (Err e) → IsErrAnd r (λ x. x ≡ e) → AddsState old c s new r
state-on c s old new e (Ok done) h same = absurd same
state-on c s old new e (Err x) h same = subst (λ x. AddsState old c s new (Err x)) (sym same) h
