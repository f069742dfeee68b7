-- The text of a state reads as what the lines of the state tell.
use Rattle.std.proofs.Common.{◌≡◌, ◌≤◌, ◌+◌, ◌==◌, true, false, cond, List, [], ◌∷◌, ◌++◌, map, length, Option, Some, Result, Ok, Err, refl, ap, ◌∙◌}
use Rattle.std.specs.List.{AllByRecursion, slice_split}
use Rattle.std.specs.Option.{option_map_or}
use Rattle.std.specs.Prelude.{if◌then◌else◌}
use Rattle.std.proofs.lemmas.Bool.{le-ltb}
use Rattle.std.proofs.lemmas.List.{append_assoc}
use Rattle.std.proofs.lemmas.Option.{same_Some}
use Rattle.ynl_resource.proofs.Bytes.{slice_split-at}
use Rattle.ynl_model.specs.Queues.{Config}
use Rattle.ynl_model.specs.Cluster.{State}
use Rattle.ynl_fields.specs.Reading.{◌>>=◌}
use Rattle.ynl_saved.specs.declared.lines.StateLine.{StateLine}
use Rattle.ynl_saved.specs.Restoring.{Restored, is_sound_line, nothing_restored, restored_by, restored_with}
use Rattle.ynl_saved.specs.Saving.{state_lines}
use Rattle.ynl_saved.proofs.Restored.{first-sound}
use Rattle.ynl_saved_text.specs.declared.faults.BadState.{BadState}
use Rattle.ynl_saved_text.specs.declared.faults.StateFault.TheVariants as fault
use Rattle.ynl_saved_text.specs.declared.kinds.StateKind.{StateKind}
use Rattle.ynl_saved_text.specs.StateLines.{is_end, kind_of_line, line_behind, may_follow, state_line}
use Rattle.ynl_saved_text.specs.Texts.{Progress, Reads, bad_line, limit, line_or_fault, line_read, lines_read, lines_text, no_progress, state_read, state_text, whole_read}
use Rattle.ynl_saved_text.proofs.InOrder.{AreInOrder, last_kind, state-ends, state-in-order}
use Rattle.ynl_saved_text.proofs.OneLine.{line-lacks, line-not-blank}

-- the texts of lines, cut at the newlines, are the texts of the lines, and nothing behind the last newline
pub parts : (lines : List StateLine) → slice_split (λ b. b == 10) (lines_text lines) ≡ map state_line lines ++ [] ∷ []
parts [] = refl
parts (line ∷ lines) =
    ap (slice_split (λ b. b == 10)) (append_assoc (state_line line) (10 ∷ []) (lines_text lines)) ∙ slice_split-at 10 (state_line line) (lines_text lines) (line-lacks line)
    ∙ ap (λ texts. state_line line ∷ texts) (parts lines)

-- what was read with a line more
abbrev with_line : Progress → StateLine → Progress
with_line p line = record { restored = restored_with line p.restored; before = Some (kind_of_line line); count = p.count + 1 }

-- the text of a line that is sound and may follow is read
line-is-read : (c : Config) (p : Progress) (line : StateLine) → may_follow p.before (kind_of_line line) ≡ true → Reads line → is_sound_line c p.restored line ≡ true
    → line_read c p (state_line line) ≡ Ok (with_line p line)
unfolding line_read
line-is-read c p line may reads sound =
    ap (λ blank. cond blank (Ok (record p { count = p.count + 1 })) (line_or_fault c p (line_behind p.before (state_line line)))) (line-not-blank line)
    ∙ ap (line_or_fault c p) (reads p.before may)
    ∙ ap (λ sound. cond sound (Ok (with_line p line)) (Err (bad_line p fault.Unsound))) sound

-- what was told, where the last line is of this kind
abbrev told_by : Restored → Option StateKind → Result Restored BadState
told_by r last = if option_map_or is_end last false then Ok r else Err (record { fault = fault.Cut; line = 0 })

-- the texts of lines that come in order and are sound are read, and nothing behind the last newline
lines-are-read : (c : Config) (p : Progress) (lines : List StateLine) (r : Restored) → AreInOrder p.before lines → AllByRecursion Reads lines → restored_by c p.restored lines ≡ Some r
    → (lines_read c p (map state_line lines ++ [] ∷ []) >>= whole_read) ≡ told_by r (last_kind p.before lines)
unfolding line_read
lines-are-read c p [] r order reads told = ap (λ r. told_by r p.before) (same_Some p.restored r told)
lines-are-read c p (line ∷ lines) r order reads told =
    let is = first-sound c p.restored line lines r told in
    ap (λ read. (read >>= λ p. lines_read c p (map state_line lines ++ [] ∷ [])) >>= whole_read) (line-is-read c p line order.0 reads.0 is.0)
    ∙ lines-are-read c (with_line p line) lines r order.1 reads.1 is.1

-- the text of a state reads as what the lines of the state tell, where each line reads as itself and the text is not too long
pub text-reads : (c : Config) (s : State) (r : Restored) → restored_by c (nothing_restored c) (state_lines c s) ≡ Some r → AllByRecursion Reads (state_lines c s)
    → length (state_text c s) ≤ limit → state_read c (state_text c s) ≡ Ok r
text-reads c s r told reads short =
    ap (λ long. cond long (Err (record { fault = fault.Size; line = 0 })) (lines_read c (no_progress c) (slice_split (λ b. b == 10) (state_text c s)) >>= whole_read))
    (le-ltb limit (length (state_text c s)) short)
    ∙ ap (λ texts. lines_read c (no_progress c) texts >>= whole_read) (parts (state_lines c s))
    ∙ lines-are-read c (no_progress c) (state_lines c s) r (state-in-order c s) reads told
    ∙ ap (told_by r) (state-ends c s)
