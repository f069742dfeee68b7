-- What an audit finds of a journal.
use Rattle.std.proofs.Common.{◌≡◌, ◌≢◌, ◌⊎◌, inl, inr, ℕ, ◌+◌, ◌-◌, ◌==◌, List, [], ◌∷◌, ◌++◌, length, take, Bool, true, false, cond, Option, Some, None, Result, Ok, Err, refl, sym, ap, subst, ◌∙◌, arith, append_assoc, append-nil, length-append}
use Rattle.std.proofs.lemmas.List.{take_at}
use Rattle.ynl_model.specs.declared.entries.Entry.{Entry}
use Rattle.ynl_model.specs.Queues.{Config}
use Rattle.ynl_model.specs.Cluster.{State, opening}
use Rattle.ynl_journal.specs.Journal.{AgreesFrom, FirstDiffersFrom}
use Rattle.ynl_journal.specs.Same.{fits_reply}
use Rattle.ynl_journal.proofs.Longer.{agrees_front}
use Rattle.ynl_journal.proofs.Same.{fits_decides}
use Rattle.ynl_journal.proofs.Shown.{agreeing_are_histories, histories_show_alone}
use Rattle.ynl_lines.specs.declared.faults.JournalFault.{JournalFault}
use Rattle.ynl_lines.specs.declared.faults.JournalFault.TheVariants.{Line as NotNext, Differs}
use Rattle.ynl_lines.specs.declared.faults.InputFault.TheVariants.{Journal as InJournal}
use Rattle.ynl_lines.specs.declared.faults.BadLine.{BadLine}
use Rattle.ynl_lines.specs.ReadingReplies.{line_of_text}
use Rattle.ynl_fields.specs.Reading.{is_blank}
use Rattle.ynl_commands.specs.Input.{Line, whole, too_long, lines_within, limit}
use Rattle.ynl_commands.specs.Readings.{Reading, come_to, unless_faulty, read_on}
use Rattle.ynl_commands.specs.Audit.{if_read, entry_said, kept_with, journal_way, journal_of, reply_after, audited_with, audit_way, audited, answer_of, audit_answer}
use Rattle.ynl_commands.specs.Audited.{AgreeingPass, PassingAgree, FirstIsTold, PassingShowAlone}
use Rattle.ynl_commands.proofs.Agreeings.{agrees_both, agrees_second}

-- what is read of a journal
abbrev Journal : Type 0
Journal = Reading (List Entry) JournalFault

-- ---- a journal only grows

-- these entries come first in what is made
abbrev BeginsWith : List Entry → Journal → Type 0
BeginsWith made r = (more : List Entry) × (r.made ≡ made ++ more)

grown_by : (made : List Entry) (n : ℕ) (rest : List Entry → Journal) → ((next : List Entry) → BeginsWith next (rest next)) → (said : Result (Option Entry) JournalFault) → BeginsWith made (unless_faulty rest made n (kept_with made said))
grown_by made n rest grown (Ok None) = grown made
grown_by made n rest grown (Ok (Some e)) = let more = grown (made ++ e ∷ []) in (e ∷ more.0, more.1 ∙ append_assoc made (e ∷ []) more.0)
grown_by made n rest grown (Err f) = ([], sym (append-nil made))

begins_with : (ls : List Line) (made : List Entry) (n : ℕ) → BeginsWith made (read_on journal_way made n ls)
unfolding read_on
begins_with [] made n = ([], sym (append-nil made))
begins_with (too_long ∷ ls) made n = ([], sym (append-nil made))
begins_with (whole l ∷ ls) made n = grown_by made (n + 1) (λ next. read_on journal_way next (n + 1) ls) (λ next. begins_with ls next (n + 1)) (entry_said (length made) l)

-- ---- the first reply that differs

differs_first : (c : Config) (s : State) (made : List Entry) (e : Entry) (es : List Entry) → BeginsWith (made ++ e ∷ []) (come_to es 0 None) → AgreesFrom c s made
    → fits_reply e (reply_after c s made e.event) ≡ false → FirstDiffersFrom c s es (length made + 1)
differs_first c s made e es begins agrees bad =
    let A : List Entry → Type 0 = λ xs. AgreesFrom c s xs in
    let long : length (made ++ e ∷ []) ≡ length made + 1 = length-append made (e ∷ []) in
    let all : length es ≡ length (made ++ e ∷ []) + length begins.0 = ap length begins.1 ∙ length-append (made ++ e ∷ []) begins.0 in
    let back : (length made + 1) - 1 ≡ length made = omega arith in
    let front : take ((length made + 1) - 1) es ≡ made = ap (λ k. take k es) back ∙ ap (take (length made)) (begins.1 ∙ append_assoc made (e ∷ []) begins.0) ∙ take_at made (e ∷ begins.0) (length made) refl in
    let next : take (length made + 1) es ≡ made ++ e ∷ [] = ap (take (length made + 1)) begins.1 ∙ take_at (made ++ e ∷ []) begins.0 (length made + 1) long in
    record {
      counted = omega arith;
      inside = omega (arith, all, long);
      before = subst A (sym front) agrees;
      there = λ h. let fits : true ≡ false = sym ((fits_decides e (reply_after c s made e.event)).1 (agrees_second c s made (e ∷ []) (subst A next h)).0) ∙ bad in absurd (cc);
    }

-- ---- reading a journal compares nothing

next_never : (n : ℕ) (placed : ℕ × Entry) (b : Bool) → cond b (Ok (Some placed.1)) (Err NotNext) ≢ Err Differs
next_never n placed true e = cc
next_never n placed false e = cc

read_never : (n : ℕ) (r : Result (ℕ × Entry) BadLine) → if_read n r ≢ Err Differs
read_never n (Ok placed) = next_never n placed (placed.0 == n)
read_never n (Err bad) = λ e. cc

said_by : (n : ℕ) (line : List ℕ) (b : Bool) → cond b (Ok None) (if_read n (line_of_text line)) ≢ Err Differs
said_by n line true = λ e. cc
said_by n line false = read_never n (line_of_text line)

line_never : (made : List Entry) (n : ℕ) (rest : List Entry → Journal) → ((next : List Entry) → (rest next).fault ≢ Some Differs) → (said : Result (Option Entry) JournalFault) → said ≢ Err Differs
    → (unless_faulty rest made n (kept_with made said)).fault ≢ Some Differs
line_never made n rest never (Ok None) other = never made
line_never made n rest never (Ok (Some e)) other = never (made ++ e ∷ [])
line_never made n rest never (Err f) other = λ e. other (cc)

never_differs : (ls : List Line) (made : List Entry) (n : ℕ) → (read_on journal_way made n ls).fault ≢ Some Differs
unfolding read_on
never_differs [] made n = λ e. cc
never_differs (too_long ∷ ls) made n = λ e. cc
never_differs (whole l ∷ ls) made n =
    line_never made (n + 1) (λ next. read_on journal_way next (n + 1) ls) (λ next. never_differs ls next (n + 1)) (entry_said (length made) l) (said_by (length made) l (is_blank l))

-- ---- an audit beside the reading of the journal

-- An audit finds what reading finds, and all that was read agrees; or it tells of the first entry that does not.
abbrev Finds : Config → State → Journal → Journal → Type 0
Finds c s audit journal = ((audit ≡ journal) × AgreesFrom c s journal.made) ⊎ ((audit.fault ≡ Some Differs) × FirstDiffersFrom c s journal.made (length audit.made + 1))

-- an audit and a reading of what is left go on together, from entries that agree
abbrev GoOnTogether : Config → State → (List Entry → Journal) → (List Entry → Journal) → Type 0
GoOnTogether c s audits reads = (next : List Entry) → AgreesFrom c s next → Finds c s (audits next) (reads next)

module _ (c : Config) (s : State) (n : ℕ) (audits reads : List Entry → Journal) (same : GoOnTogether c s audits reads) (grown : (next : List Entry) → BeginsWith next (reads next)) where
  found_entry : (made : List Entry) (e : Entry) (b : Bool) → fits_reply e (reply_after c s made e.event) ≡ b → AgreesFrom c s made
      → Finds c s (unless_faulty audits made n (cond b (Ok (made ++ e ∷ [])) (Err Differs))) (reads (made ++ e ∷ []))
  found_entry made e true fits agrees = same (made ++ e ∷ []) (agrees_both c s made (e ∷ []) agrees ((fits_decides e (reply_after c s made e.event)).0 fits, tt))
  found_entry made e false bad agrees = inr (refl, differs_first c s made e (reads (made ++ e ∷ [])).made (grown (made ++ e ∷ [])) agrees bad)

  found_line : (made : List Entry) (said : Result (Option Entry) JournalFault) → AgreesFrom c s made
      → Finds c s (unless_faulty audits made n (audited_with c s made said)) (unless_faulty reads made n (kept_with made said))
  found_line made (Ok None) agrees = same made agrees
  found_line made (Ok (Some e)) agrees = found_entry made e (fits_reply e (reply_after c s made e.event)) refl agrees
  found_line made (Err f) agrees = inl (refl, agrees)

finds_on : (c : Config) (s : State) (ls : List Line) (made : List Entry) (n : ℕ) → AgreesFrom c s made → Finds c s (read_on (audit_way c s) made n ls) (read_on journal_way made n ls)
unfolding read_on
finds_on c s [] made n agrees = inl (refl, agrees)
finds_on c s (too_long ∷ ls) made n agrees = inl (refl, agrees)
finds_on c s (whole l ∷ ls) made n agrees =
    found_line c s (n + 1) (λ next. read_on (audit_way c s) next (n + 1) ls) (λ next. read_on journal_way next (n + 1) ls) (λ next. finds_on c s ls next (n + 1))
    (λ next. begins_with ls next (n + 1)) made (entry_said (length made) l) agrees

finds : (c : Config) (s : State) (input : List ℕ) → Finds c s (audited c s input) (journal_of input)
finds c s input = finds_on c s (lines_within input limit) [] 0 tt

-- ---- the laws

-- entries that agree have no first that differs
no_first : (c : Config) (s : State) (es : List Entry) (n : ℕ) → AgreesFrom c s es → FirstDiffersFrom c s es n → ⊥
no_first c s es n agrees first = first.there (agrees_front c s es n agrees)

pass_by : (c : Config) (s : State) (audit journal : Journal) → AgreesFrom c s journal.made → Finds c s audit journal → audit ≡ journal
pass_by c s audit journal agrees (inl h) = h.0
pass_by c s audit journal agrees (inr h) = absurd (no_first c s journal.made (length audit.made + 1) agrees h.1)

agree_by : (c : Config) (s : State) (audit journal : Journal) → audit.fault ≢ Some Differs → Finds c s audit journal → AgreesFrom c s journal.made
agree_by c s audit journal other (inl h) = h.1
agree_by c s audit journal other (inr h) = absurd (other h.0)

first_by : (c : Config) (s : State) (audit journal : Journal) → audit.fault ≡ Some Differs → journal.fault ≢ Some Differs → Finds c s audit journal
    → FirstDiffersFrom c s journal.made (length audit.made + 1)
first_by c s audit journal tells never (inl h) = absurd (never (ap (λ (r : Journal). r.fault) (sym h.0) ∙ tells))
first_by c s audit journal tells never (inr h) = h.1

-- the fault that is told is the fault that was found
told_some : (n lines : ℕ) (f : Option JournalFault) (g : JournalFault) → (answer_of n lines f).fault ≡ Some (InJournal g) → f ≡ Some g
told_some n lines None g e = cc
told_some n lines (Some f) g e = cc

pub agreeing_pass : AgreeingPass
agreeing_pass c s input agrees = ap audit_answer (pass_by c s (audited c s input) (journal_of input) agrees (finds c s input))

pub passing_agree : PassingAgree
passing_agree c s input other =
    agree_by c s (audited c s input) (journal_of input)
    (λ tells. other (ap (λ f. (answer_of (length (audited c s input).made) (audited c s input).lines f).fault) tells)) (finds c s input)

pub first_is_told : FirstIsTold
first_is_told c s input tells =
    let r = audited c s input in
    first_by c s r (journal_of input) (told_some (length r.made) r.lines r.fault Differs tells) (never_differs (lines_within input limit) [] 0) (finds c s input)

pub passing_show_alone : PassingShowAlone
passing_show_alone c input t p none answered accepted sole =
    let agrees = passing_agree c (opening c) input (λ tells. let e : None ≡ Some (InJournal Differs) = sym none ∙ tells in cc) in
    histories_show_alone c (journal_of input).made t p (agreeing_are_histories c (journal_of input).made agrees answered) accepted sole
