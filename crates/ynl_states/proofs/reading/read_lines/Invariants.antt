use Rattle.std.proofs.Common.{◌≡◌, ◌≤◌, ◌+◌, ◌==◌, ℕ, Bor, List, [], length}
use Rattle.std.specs.List.{slice_split}
use Rattle.std.specs.Option.{option_map_or}
use Rattle.ynl_model.specs.Queues.{Config}
use Rattle.ynl_saved_text.specs.Texts.{Progress, limit, lines_read}
use Rattle.ynl_states.specs.Reading.{IsAt}
use Rattle.ynl_states.proofs.reading.read_lines.Given as goal

-- what is left comes to what the whole comes to, and is no longer than it may be
abbrev pub invariant-loop-left : goal.invariant-loop-left
invariant-loop-left l =
    ((c : Config) (p : Progress) → IsAt c l.fn.reading.told l.fn.reading.lines l.fn.reading.count p
    → (q : Progress) × IsAt c l.reading.told l.reading.lines l.reading.count q
    × (lines_read c p (slice_split (λ (b : ℕ). b == 10) l.text) ≡ lines_read c q (option_map_or (λ (text : Bor (List ℕ)). slice_split (λ (b : ℕ). b == 10) text.now) l.left [])))
    × (l.reading.count + option_map_or (λ (text : Bor (List ℕ)). length text.now + 1) l.left 0 ≤ limit + 1)

abbrev pub decreases-loop-left : goal.decreases-loop-left
decreases-loop-left l = option_map_or (λ (text : Bor (List ℕ)). length text.now + 1) l.left 0
