-- Texts that are cut behind a line.
use Rattle.std.proofs.Common.{◌≡◌, ◌≢◌, inl, inr, ℕ, suc, ◌+◌, ◌-◌, ◌<◌, ◌≤◌, List, [], ◌∷◌, ◌++◌, length, Bool, true, false, cond, Option, Some, None, Result, Ok, Err, refl, sym, ap, ◌∙◌, arith, length-append, eqb, ne_eqb}
use Rattle.ynl_model.specs.Queues.{Config}
use Rattle.ynl_model.specs.Cluster.{State}
use Rattle.ynl_model.specs.Events.{after}
use Rattle.ynl_model.specs.declared.events.Event.{Event}
use Rattle.ynl_lines.specs.declared.faults.LineFault.{LineFault}
use Rattle.ynl_words.specs.declared.words.Question.{Question}
use Rattle.ynl_saved_text.specs.Texts.{state_text}
use Rattle.ynl_commands.specs.Cutting.{IsCut, counted_on, second_script, state_left, CutExplanationsAreOne, CutJournalsAgree, CutRunsAreOne, CutSavesAreOne}
use Rattle.ynl_commands.specs.Explaining.{answer, explanation_by}
use Rattle.ynl_commands.specs.Input.{Line, whole, too_long, onto, lines_within, limit, EndsLine}
use Rattle.ynl_commands.specs.Readings.{Way, Reading, come_to, unless_faulty, read_on}
use Rattle.ynl_commands.specs.Run.{answers_to, replies_text, run_of}
use Rattle.ynl_commands.specs.Saving.{saved, saved_by}
use Rattle.ynl_commands.specs.Script.{Script, script_way, script_of}
use Rattle.ynl_waits.specs.Waits.{explained_of}
use Rattle.ynl_commands.proofs.Agreeings.{agrees_both, agrees_first, agrees_second}
use Rattle.ynl_commands.proofs.Inputs.{no_bytes}
use Rattle.ynl_commands.proofs.Runs.{after_more, answers_after, text_of_good}
use Rattle.ynl_commands.proofs.Scripts.{after_events, as_after}

-- ---- the lines of a text that is cut

-- a byte that may be read ends a line, or is the first of one
next_byte : (b : ℕ) (bs : List ℕ) (budget : ℕ) → 0 < budget → lines_within (b ∷ bs) budget ≡ cond (eqb b 10) (whole [] ∷ lines_within bs (budget - 1)) (onto b (lines_within bs (budget - 1)))
unfolding lines_within
next_byte b bs budget some =
    ap (λ t. cond t (too_long ∷ []) (cond (eqb b 10) (whole [] ∷ lines_within bs (budget - 1)) (onto b (lines_within bs (budget - 1))))) (ne_eqb budget 0 (λ e. absurd (omega arith)))

-- before a byte comes a line
onto_some : (b : ℕ) (ls : List Line) → onto b ls ≢ []
onto_some b [] = λ e. cc
onto_some b (whole l ∷ ls) = λ e. cc
onto_some b (too_long ∷ ls) = λ e. cc

-- there is a line where there is a byte
some_line : (b : ℕ) (bs : List ℕ) (budget : ℕ) → lines_within (b ∷ bs) budget ≢ []
unfolding lines_within
some_line b bs budget = by (eqb budget 0) (eqb b 10)
  where
    by : (x y : Bool) → cond x (too_long ∷ []) (cond y (whole [] ∷ lines_within bs (budget - 1)) (onto b (lines_within bs (budget - 1)))) ≢ []
    by true y = λ e. cc
    by false true = λ e. cc
    by false false = onto_some b (lines_within bs (budget - 1))

-- there is a line where there is a newline
some_before : (front : List ℕ) (budget : ℕ) → lines_within (front ++ 10 ∷ []) budget ≢ []
some_before [] budget = some_line 10 [] budget
some_before (x ∷ xs) budget = some_line x (xs ++ 10 ∷ []) budget

-- a byte before lines, and then more lines
onto_more : (b : ℕ) (ls ms : List Line) → ls ≢ [] → onto b (ls ++ ms) ≡ onto b ls ++ ms
onto_more b [] ms some = absurd (some refl)
onto_more b (whole l ∷ ls) ms some = refl
onto_more b (too_long ∷ ls) ms some = refl

-- the same where the byte may be the newline
byte_more : (b : ℕ) (ls ms : List Line) (newline : Bool) → ls ≢ [] → cond newline (whole [] ∷ (ls ++ ms)) (onto b (ls ++ ms)) ≡ cond newline (whole [] ∷ ls) (onto b ls) ++ ms
byte_more b ls ms true some = refl
byte_more b ls ms false some = onto_more b ls ms some

-- the lines up to a newline, and then those of the rest
after_newline : (front rest : List ℕ) (budget : ℕ) → length front < budget
    → lines_within ((front ++ 10 ∷ []) ++ rest) budget ≡ lines_within (front ++ 10 ∷ []) budget ++ lines_within rest (budget - (length front + 1))
after_newline [] rest budget fits =
    next_byte 10 rest budget fits ∙ ap (λ ls. ls ++ lines_within rest (budget - 1)) (sym (next_byte 10 [] budget fits ∙ ap (λ ls. whole [] ∷ ls) (no_bytes (budget - 1))))
after_newline (x ∷ xs) rest budget fits =
    let ls = lines_within (xs ++ 10 ∷ []) (budget - 1) in
    let ms = lines_within rest ((budget - 1) - (length xs + 1)) in
    let left : (budget - 1) - (length xs + 1) ≡ budget - (suc (length xs) + 1) = omega arith in
    next_byte x ((xs ++ 10 ∷ []) ++ rest) budget (omega arith)
    ∙ ap (λ more. cond (eqb x 10) (whole [] ∷ more) (onto x more)) (after_newline xs rest (budget - 1) (omega arith))
    ∙ byte_more x ls ms (eqb x 10) (some_before xs (budget - 1))
    ∙ ap (λ more. more ++ ms) (sym (next_byte x (xs ++ 10 ∷ []) budget (omega arith)))
    ∙ ap (λ n. lines_within (x ∷ (xs ++ 10 ∷ [])) budget ++ lines_within rest n) left

-- the lines of whole lines, and then those of the rest
whole_first : (first second : List ℕ) (budget : ℕ) → EndsLine first → length first ≤ budget
    → lines_within (first ++ second) budget ≡ lines_within first budget ++ lines_within second (budget - length first)
whole_first first second budget (inl none) fits =
    let all : budget ≡ budget - 0 = omega arith in
    ap (λ k. lines_within (k ++ second) budget) none
    ∙ ap (lines_within second) all
    ∙ ap (λ ls. ls ++ lines_within second (budget - 0)) (sym (no_bytes budget))
    ∙ ap (λ k. lines_within k budget ++ lines_within second (budget - length k)) (sym none)
whole_first first second budget (inr h) fits =
    let long : length first ≡ length h.0 + 1 = ap length h.1 ∙ length-append h.0 (10 ∷ []) in
    ap (λ k. lines_within (k ++ second) budget) h.1
    ∙ after_newline h.0 second budget (omega (arith, fits, long))
    ∙ ap (λ n. lines_within (h.0 ++ 10 ∷ []) budget ++ lines_within second (budget - n)) (sym long)
    ∙ ap (λ k. lines_within k budget ++ lines_within second (budget - length first)) (sym h.1)

-- the lines of bytes that may all be read, by whatever limit
any_limit : (bytes : List ℕ) (m n : ℕ) → length bytes ≤ m → length bytes ≤ n → lines_within bytes m ≡ lines_within bytes n
any_limit [] m n fits there = no_bytes m ∙ sym (no_bytes n)
any_limit (x ∷ xs) m n fits there =
    next_byte x xs m (omega arith)
    ∙ ap (λ ls. cond (eqb x 10) (whole [] ∷ ls) (onto x ls)) (any_limit xs (m - 1) (n - 1) (omega arith) (omega arith))
    ∙ sym (next_byte x xs n (omega arith))

-- the lines of a text that is cut
cut_lines : (first second : List ℕ) → EndsLine first → length (first ++ second) ≤ limit → lines_within (first ++ second) limit ≡ lines_within first limit ++ lines_within second limit
cut_lines first second ends fits =
    let all = length-append first second in
    whole_first first second limit ends (omega (arith, fits, all))
    ∙ ap (λ ls. lines_within first limit ++ ls) (any_limit second (limit - length first) limit (omega (arith, fits, all)) (omega (arith, fits, all)))

-- ---- what is read of it

module _ {S F : Type 0} (w : Way S F) where
  -- a line and then the rest, where the rest can be read in two parts
  both_by : (rest all : S → Reading S F) (more : S → ℕ → Reading S F) (made : S) (n : ℕ) → ((next : S) → (rest next).fault ≡ None → all next ≡ more (rest next).made (rest next).lines)
      → (r : Result S F) → (unless_faulty rest made n r).fault ≡ None → unless_faulty all made n r ≡ more (unless_faulty rest made n r).made (unless_faulty rest made n r).lines
  both_by rest all more made n same (Ok next) good = same next good
  both_by rest all more made n same (Err f) good = absurd (cc)

  -- lines without a fault, and then more from what they made
  read_both : (ls ms : List Line) (made : S) (n : ℕ) → (read_on w made n ls).fault ≡ None → read_on w made n (ls ++ ms) ≡ read_on w (read_on w made n ls).made (read_on w made n ls).lines ms
  unfolding read_on
  read_both [] ms made n good = refl
  read_both (too_long ∷ ls) ms made n good = absurd (cc)
  read_both (whole l ∷ ls) ms made n good =
      both_by (λ next. read_on w next (n + 1) ls) (λ next. read_on w next (n + 1) (ls ++ ms)) (λ next k. read_on w next k ms) made (n + 1)
      (λ next fine. read_both ls ms next (n + 1) fine) (w.add made l) good

  -- the lines that are left after a line count on, and so does the line itself where it has a fault
  counted_by : (k n : ℕ) (rest later : S → Reading S F) (made : S) → ((next : S) → later next ≡ come_to (rest next).made (k + (rest next).lines) (rest next).fault)
      → (r : Result S F) → unless_faulty later made (k + n) r ≡ come_to (unless_faulty rest made n r).made (k + (unless_faulty rest made n r).lines) (unless_faulty rest made n r).fault
  counted_by k n rest later made same (Ok next) = same next
  counted_by k n rest later made same (Err f) = refl

  -- lines after so many more are counted on
  counts : (ls : List Line) (made : S) (k n : ℕ) → read_on w made (k + n) ls ≡ come_to (read_on w made n ls).made (k + (read_on w made n ls).lines) (read_on w made n ls).fault
  unfolding read_on
  counts [] made k n = refl
  counts (too_long ∷ ls) made k n = let same : (k + n) + 1 ≡ k + (n + 1) = omega arith in ap (λ m. come_to made m (Some w.size)) same
  counts (whole l ∷ ls) made k n =
      let same : (k + n) + 1 ≡ k + (n + 1) = omega arith in
      ap (λ m. unless_faulty (λ next. read_on w next m ls) made m (w.add made l)) same
      ∙ counted_by k (n + 1) (λ next. read_on w next (n + 1) ls) (λ next. read_on w next (k + (n + 1)) ls) made (λ next. counts ls next k (n + 1)) (w.add made l)

-- the script of a text that is cut
pub cut_script : (first second : List ℕ) → IsCut first second → script_of (first ++ second) ≡ after_events (script_of first).made (second_script first second)
cut_script first second cut =
    let a = script_of first in
    let ls = lines_within second limit in
    let none : a.lines ≡ a.lines + 0 = omega arith in
    ap (read_on script_way [] 0) (cut_lines first second cut.whole cut.fits)
    ∙ read_both script_way (lines_within first limit) ls [] 0 cut.good
    ∙ as_after ls a.made a.lines
    ∙ ap (after_events a.made) (ap (λ n. read_on script_way [] n ls) none ∙ counts script_way ls [] a.lines 0)

-- ---- the laws

-- the text of a script without a fault, however its lines are counted
good_anyhow : (c : Config) (s : State) (n : ℕ) (script : Script) → script.fault ≡ None → (answers_to c s (counted_on n script)).text ≡ (answers_to c s script).text
good_anyhow c s n script good =
    ap (λ f. (answers_to c s (come_to script.made (n + script.lines) f)).text) good
    ∙ text_of_good c s script.made (n + script.lines)
    ∙ sym (ap (λ f. (answers_to c s (come_to script.made script.lines f)).text) good ∙ text_of_good c s script.made script.lines)

module _ (c : Config) (s : State) (first second : List ℕ) (cut : IsCut first second) where
  -- the state that both parts leave
  left_in_one : state_left c s (first ++ second) ≡ state_left c (state_left c s first) second
  left_in_one = ap (λ (k : Script). after c s k.made) (cut_script first second cut) ∙ after_more c s (script_of first).made (script_of second).made

  -- the text of the first
  first_text : (run_of c s first).text ≡ replies_text c s (script_of first).made
  first_text = ap (λ f. (answers_to c s (come_to (script_of first).made (script_of first).lines f)).text) cut.good ∙ text_of_good c s (script_of first).made (script_of first).lines

  -- the text of both
  text_in_one : (run_of c s (first ++ second)).text ≡ (run_of c s first).text ++ (answers_to c (state_left c s first) (second_script first second)).text
  text_in_one =
      ap (λ k. (answers_to c s k).text) (cut_script first second cut)
      ∙ answers_after c s (script_of first).made (second_script first second)
      ∙ ap (λ text. text ++ (answers_to c (state_left c s first) (second_script first second)).text) (sym first_text)

-- a run that is cut and gone on with is one
pub cut_runs_are_one : CutRunsAreOne
cut_runs_are_one c s first second cut = record {
  left = left_in_one c s first second cut;
  text = text_in_one c s first second cut;
  good = λ good. text_in_one c s first second cut ∙ ap (λ text. (run_of c s first).text ++ text) (good_anyhow c (state_left c s first) (script_of first).lines (script_of second) good);
  lines = ap (λ (k : Script). (answers_to c s k).lines) (cut_script first second cut);
  fault = ap (λ (k : Script). (answers_to c s k).fault) (cut_script first second cut);
}

-- what is saved after events, and then more
saved_more : (c : Config) (s : State) (es fs : List Event) (n : ℕ) (f : Option LineFault) → saved_by c s (es ++ fs) n f ≡ saved_by c (after c s es) fs n f
saved_more c s es fs n None = ap (λ left. record { text = state_text c left; lines = n; fault = None }) (after_more c s es fs)
saved_more c s es fs n (Some f) = refl

-- and of a script without a fault, however its lines are counted
saved_anyhow : (c : Config) (s : State) (n : ℕ) (script : Script) → script.fault ≡ None → (saved c s (counted_on n script)).text ≡ (saved c s script).text
saved_anyhow c s n script good =
    ap (λ f. (saved_by c s script.made (n + script.lines) f).text) good ∙ sym (ap (λ f. (saved_by c s script.made script.lines f).text) good)

-- what is saved after both parts in one is what is saved after the second
saved_in_one : (c : Config) (s : State) (first second : List ℕ) → IsCut first second → saved c s (script_of (first ++ second)) ≡ saved c (state_left c s first) (second_script first second)
saved_in_one c s first second cut =
    ap (saved c s) (cut_script first second cut) ∙ saved_more c s (script_of first).made (script_of second).made ((script_of first).lines + (script_of second).lines) (script_of second).fault

-- and so is its text
pub cut_saves_are_one : CutSavesAreOne
cut_saves_are_one c s first second cut =
    let all = saved_in_one c s first second cut in
    record {
      state = ap (state_text c) (left_in_one c s first second cut);
      outcome = all;
      good = λ good. ap (λ o. o.text) all ∙ saved_anyhow c (state_left c s first) (script_of first).lines (script_of second) good;
    }

-- what is explained after events, and then more
explained_more : (c : Config) (s : State) (q : Question) (es fs : List Event) (n : ℕ) (f : Option LineFault) → explanation_by c s q (es ++ fs) n f ≡ explanation_by c (after c s es) q fs n f
explained_more c s q es fs n None = ap (λ left. record { text = answer q (explained_of c left q.tenant q.app); lines = n; fault = None }) (after_more c s es fs)
explained_more c s q es fs n (Some f) = refl

-- what is explained after both parts in one is what is explained after the second
pub cut_explanations_are_one : CutExplanationsAreOne
cut_explanations_are_one c s q first second cut =
    ap (λ (k : Script). explanation_by c s q k.made k.lines k.fault) (cut_script first second cut)
    ∙ explained_more c s q (script_of first).made (script_of second).made ((script_of first).lines + (script_of second).lines) (script_of second).fault

-- a journal agrees exactly where both of its parts do
pub cut_journals_agree : CutJournalsAgree
cut_journals_agree c s first second = (λ all. (agrees_first c s first second all, agrees_second c s first second all), λ both. agrees_both c s first second both.0 both.1)
