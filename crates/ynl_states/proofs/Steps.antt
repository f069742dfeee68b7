-- What reading a line more comes to.
use Rattle.std.proofs.Common.{◌≡◌, ◌≤◌, ◌<◌, ◌+◌, ◌==◌, nat_lt, ℕ, Bor, true, false, cond, List, length, Option, None, Some, Ok, Err, refl, sym, ap, subst, ◌∙◌, arith}
use Rattle.std.specs.Prelude.{IfSome}
use Rattle.std.specs.List.{slice_split}
use Rattle.std.specs.Option.{option_map_or}
use Rattle.std.proofs.lemmas.Bool.Decides.{nat_tests}
use Rattle.ynl_fields.specs.Reading.{◌>>=◌, is_blank}
use Rattle.ynl_model.specs.Queues.{Config}
use Rattle.ynl_saved.specs.declared.lines.StateLine.{StateLine}
use Rattle.ynl_saved.specs.declared.lines.StateLine.TheVariants.{Begin, Partition, Node, Live, Ask, Finished, Container, Stopped, Maximum, End}
use Rattle.ynl_saved.specs.Restoring.{is_sound_line, nothing_restored, restored_with}
use Rattle.ynl_saved.specs.Lines.{IsCountedLine}
use Rattle.ynl_saved.proofs.Within.{within-first, within-more}
use Rattle.ynl_saved_text.specs.StateLines.{IsRanged, kind_of_line, line_behind}
use Rattle.ynl_saved_text.specs.Texts.{Progress, bad_line, limit, line_or_fault, line_read, lines_read, no_progress, state_read, whole_read}
use Rattle.ynl_saved_text.specs.declared.faults.StateFault.{StateFault}
use Rattle.ynl_saved_text.specs.declared.faults.StateFault.TheVariants.{Size, Unsound}
use Rattle.ynl_saved_text.specs.declared.read.LastLine.{LastLine}
use Rattle.ynl_snapshots.specs.restoring.Telling.{Telling, Tells, TakesLine}
use Rattle.ynl_states.specs.Reading.{ComesTo, IsAt}

-- an ask that is read counts no more than an ask may
pub line-counted : (line : StateLine) → IsRanged line → IsCountedLine line
line-counted Begin h = tt
line-counted (Partition label clock) h = tt
line-counted (Node node) h = tt
line-counted (Live queue app user label master) h = tt
line-counted (Ask tenant app ask) h = h.1.1
line-counted (Finished queue app) h = tt
line-counted (Container placed) h = tt
line-counted (Stopped queue) h = tt
line-counted (Maximum queue label share) h = tt
line-counted (End lines) h = tt

module _ (c : Config) (told : Telling) (held : LastLine) (count : ℕ) (p : Progress) (at : IsAt c told held count p) (text : List ℕ) where
  -- a blank line is passed over
  pub blank-step : is_blank text ≡ true → ComesTo c told held (count + 1) (Ok tt) (line_read c p text)
  unfolding line_read
  blank-step blank = (
    record p { count = p.count + 1 },
    ap (λ b. cond b (Ok (record p { count = p.count + 1 })) (line_or_fault c p (line_behind p.before text))) blank,
    record { config = at.config; tells = at.tells; before = at.before; counted = ap (λ n. n + 1) at.counted; fewer = let fewer = at.fewer in omega (arith, fewer); within = at.within },
  )

  module _ (written : is_blank text ≡ false) where
    -- another is read behind the last one
    line-is : line_read c p text ≡ line_or_fault c p (line_behind held.before text)
    unfolding line_read
    line-is = ap (λ b. cond b (Ok (record p { count = p.count + 1 })) (line_or_fault c p (line_behind p.before text))) written ∙ ap (λ before. line_or_fault c p (line_behind before text)) (sym at.before)

    counted : (fault : StateFault) → bad_line p fault ≡ record { fault = fault; line = count + 1 }
    counted fault = λ i. record { fault = fault; line = sym at.counted i + 1 }

    -- it has a fault of its own
    pub fault-step : (fault : StateFault) → line_behind held.before text ≡ Err fault → line_read c p text ≡ Err (record { fault = fault; line = count + 1 })
    fault-step fault is = line-is ∙ ap (line_or_fault c p) is ∙ ap Err (counted fault)

    abbrev after : StateLine → Progress
    after line = record { restored = restored_with line p.restored; before = Some (kind_of_line line); count = p.count + 1 }

    -- or does not go with those before it
    pub unsound-step : (line : StateLine) → line_behind held.before text ≡ Ok line → is_sound_line c p.restored line ≡ false → line_read c p text ≡ Err (record { fault = Unsound; line = count + 1 })
    unsound-step line is unsound = line-is ∙ ap (line_or_fault c p) is ∙ ap (λ b. cond b (Ok (after line)) (Err (bad_line p Unsound))) unsound ∙ ap Err (counted Unsound)

    -- or is taken
    pub sound-step : (new : Telling) (last : LastLine) → line_behind held.before text ≡ Ok last.line → last.before ≡ Some (kind_of_line last.line) → TakesLine told p.restored last.line new true → IsCountedLine last.line
        → ComesTo c new last (count + 1) (Ok tt) (line_read c p text)
    sound-step new last is kind takes in-range = (
      after last.line,
      line-is ∙ ap (line_or_fault c p) is ∙ ap (λ b. cond b (Ok (after last.line)) (Err (bad_line p Unsound))) (ap (λ c. is_sound_line c p.restored last.line) (sym at.config) ∙ takes.sound),
      record {
        config = takes.config ∙ at.config;
        tells = takes.told refl;
        before = kind;
        counted = ap (λ n. n + 1) at.counted;
        fewer = let old = at.tells in let now = takes.told refl in let a = old.lines in let b = now.lines in let fewer = at.fewer in omega (arith, a, b, fewer);
        within = let old = at.tells in within-more told.cluster.config old.accepted p.restored last.line old.known in-range takes.sound at.within;
      },
    )

-- the configuration is the cluster's own
pub same-config : (c : Config) (told : Telling) (held : LastLine) (count : ℕ) (p : Progress) → IsAt c told held count p → IsAt told.cluster.config told held count p
same-config c told held count p at = subst (λ c. IsAt c told held count p) (sym at.config) at

-- what is left behind a line is short enough, where the line and it were
pub left-more : (count n next : ℕ) (rest : Option (Bor (List ℕ))) → next ≡ count + 1 → count + (n + 1) ≤ limit + 1 → IfSome rest (λ text. length text.now < n) → next + option_map_or (λ (text : Bor (List ℕ)). length text.now + 1) rest 0 ≤ limit + 1
left-more count n next None is bound shorter = omega (arith, is, bound)
left-more count n next (Some text) is bound shorter = omega (arith, is, bound, shorter)

-- before the first line
pub at-first : (c : Config) (told : Telling) (held : LastLine) → told.cluster.config ≡ c → Tells told (nothing_restored c) → held.before ≡ None → IsAt c told held 0 (no_progress c)
at-first c told held config tells none = record { config = config; tells = tells; before = none; counted = refl; fewer = let lines = tells.lines in omega (arith, lines); within = within-first c }

-- a text that is not too long is read line by line
pub short-read : (c : Config) (text : List ℕ) → length text ≤ limit → state_read c text ≡ (lines_read c (no_progress c) (slice_split (λ (b : ℕ). b == 10) text) >>= whole_read)
short-read c text within = ap (λ b. cond b (Err (record { fault = Size; line = 0 })) (lines_read c (no_progress c) (slice_split (λ (b : ℕ). b == 10) text) >>= whole_read)) short
  where
    short : nat_lt limit (length text) ≡ false
    short = grind (arith, nat_tests, within)
