-- The lines of an input, one after another.
use Rattle.std.proofs.Common.{◌≡◌, ◌≢◌, ◌⊎◌, inl, inr, ℕ, suc, ◌+◌, ◌-◌, ◌<◌, ◌≤◌, List, [], ◌∷◌, ◌++◌, length, Bool, true, false, cond, subst, Option, Some, None, IfSome, OnSome, Ok, refl, sym, ap, ◌∙◌, arith, append_assoc, append-nil, length-append, eqb, eq-eqb, ne_eqb}
use Rattle.std.proofs.lemmas.List.{take_at}
use Rattle.std.proofs.lemmas.List.Elements.{All-nil, All-head, All-tail, All-take}
use Rattle.std.specs.Io.KnownBytes.{Consumes, IsAtEnd}
use Rattle.std.proofs.KnownBytes.{Consumes-trans}
use Rattle.ynl_commands.specs.declared.lines_in.LineEnd.TheVariants as end
use Rattle.ynl_commands.specs.declared.lines_in.Lines.{Lines}
use Rattle.ynl_commands.specs.Lines.{IsPlain, GivesLine}
use Rattle.ynl_commands.specs.Input.{Line, whole, too_long, onto, lines_within, limit, Stream, between, MetEnd, EndsLine, IsOneLine, ReadsLines, lines_left, MayFollow, TakesLine, TakesTooLong, TakesNone, EndsBy}

-- ---- the lines of bytes

abbrev IsNoNewline : ℕ → Type 0
IsNoNewline x = x ≢ 10

-- one byte more before the newline
byte_before : (b : ℕ) (bs : List ℕ) (budget : ℕ) → b ≢ 10 → 0 < budget → lines_within (b ∷ bs) budget ≡ onto b (lines_within bs (budget - 1))
unfolding lines_within
byte_before b bs budget other some =
    ap (λ t. cond t (too_long ∷ []) (cond (eqb b 10) (whole [] ∷ lines_within bs (budget - 1)) (onto b (lines_within bs (budget - 1))))) (ne_eqb budget 0 (λ e. absurd (omega arith)))
    ∙ ap (λ t. cond t (whole [] ∷ lines_within bs (budget - 1)) (onto b (lines_within bs (budget - 1)))) (ne_eqb b 10 other)

-- the newline at once
newline_next : (bs : List ℕ) (budget : ℕ) → 0 < budget → lines_within (10 ∷ bs) budget ≡ whole [] ∷ lines_within bs (budget - 1)
unfolding lines_within
newline_next bs budget some =
    ap (λ t. cond t (too_long ∷ []) (whole [] ∷ lines_within bs (budget - 1))) (ne_eqb budget 0 (λ e. absurd (omega arith)))

-- a byte where none may be read
none_left : (b : ℕ) (bs : List ℕ) (budget : ℕ) → budget ≡ 0 → lines_within (b ∷ bs) budget ≡ too_long ∷ []
unfolding lines_within
none_left b bs budget e = ap (λ t. cond t (too_long ∷ []) (cond (eqb b 10) (whole [] ∷ lines_within bs (budget - 1)) (onto b (lines_within bs (budget - 1))))) (eq-eqb budget 0 e)

-- no bytes
pub no_bytes : (budget : ℕ) → lines_within [] budget ≡ []
unfolding lines_within
no_bytes budget = refl

-- a line with its newline, and what follows
with_newline : (line rest : List ℕ) (budget : ℕ) → IsPlain line → length line < budget → lines_within (line ++ 10 ∷ rest) budget ≡ whole line ∷ lines_within rest (budget - (length line + 1))
with_newline [] rest budget plain fits = newline_next rest budget fits
with_newline (x ∷ xs) rest budget plain fits =
    let left : (budget - 1) - (length xs + 1) ≡ budget - (suc (length xs) + 1) = omega arith in
    byte_before x (xs ++ 10 ∷ rest) budget (All-head IsNoNewline x xs plain) (omega arith)
    ∙ ap (onto x) (with_newline xs rest (budget - 1) (All-tail IsNoNewline x xs plain) (omega arith))
    ∙ ap (λ n. whole (x ∷ xs) ∷ lines_within rest n) left

-- a last line, which lacks its newline
last_line : (line : List ℕ) (budget : ℕ) → IsPlain line → length line ≤ budget → 0 < length line → lines_within line budget ≡ whole line ∷ []
last_line [] budget plain fits some = absurd (omega arith)
last_line (x ∷ []) budget plain fits some = byte_before x [] budget (All-head IsNoNewline x [] plain) (omega arith) ∙ ap (onto x) (no_bytes (budget - 1))
last_line (x ∷ y ∷ ys) budget plain fits some =
    byte_before x (y ∷ ys) budget (All-head IsNoNewline x (y ∷ ys) plain) (omega arith)
    ∙ ap (onto x) (last_line (y ∷ ys) (budget - 1) (All-tail IsNoNewline x (y ∷ ys) plain) (omega arith) (omega arith))

-- the byte past the limit, whatever follows
long_line : (line : List ℕ) (b : ℕ) (rest : List ℕ) (budget : ℕ) → IsPlain line → length line ≡ budget → lines_within ((line ++ b ∷ []) ++ rest) budget ≡ too_long ∷ []
long_line [] b rest budget plain e = none_left b rest budget (sym e)
long_line (x ∷ xs) b rest budget plain e =
    byte_before x ((xs ++ b ∷ []) ++ rest) budget (All-head IsNoNewline x xs plain) (omega arith)
    ∙ ap (onto x) (long_line xs b rest (budget - 1) (All-tail IsNoNewline x xs plain) (omega arith))

-- a line with its newline, whatever follows
line_first : (line rest : List ℕ) (budget : ℕ) → IsPlain line → length line < budget → lines_within ((line ++ 10 ∷ []) ++ rest) budget ≡ whole line ∷ lines_within rest (budget - (length line + 1))
line_first line rest budget plain fits = ap (λ l. lines_within l budget) (append_assoc line (10 ∷ []) rest) ∙ with_newline line rest budget plain fits

-- ---- one line at most

-- a part of a line
pub one_part : (line : List ℕ) → IsPlain line → IsOneLine line
one_part line plain = All-take (λ x. x ≢ 10) (length line - 1) line plain

-- a line and a byte
one_whole : (line : List ℕ) (byte : ℕ) → IsPlain line → IsOneLine (line ++ byte ∷ [])
one_whole line byte plain =
    let n : length line ≡ length (line ++ byte ∷ []) - 1 = omega (arith, length-append line (byte ∷ [])) in
    subst IsPlain (sym (take_at line (byte ∷ []) (length (line ++ byte ∷ []) - 1) n)) plain

-- ---- what comes next

-- where the end was not met, they are those of the bytes that may be read
pub left_open : (l : Lines) (bytes : List ℕ) → l.at_end ≡ false → lines_left l bytes ≡ lines_within bytes l.budget
left_open l bytes e = ap (λ b. cond b [] (lines_within bytes l.budget)) e

left_closed : (l : Lines) (bytes : List ℕ) → l.at_end ≡ true → lines_left l bytes ≡ []
left_closed l bytes e = ap (λ b. cond b [] (lines_within bytes l.budget)) e

left_by : (b : Bool) (budget : ℕ) → cond b [] (lines_within [] budget) ≡ []
left_by true budget = refl
left_by false budget = no_bytes budget

-- no line is left of nothing
pub left_none : (l : Lines) → lines_left l [] ≡ []
left_none l = left_by l.at_end l.budget

module _ (a b : Option (List ℕ)) (old new : Lines) (ongoing : old.at_end ≡ false) where
  -- a line with its newline
  pub takes_newline : GivesLine a b new.line.items old.budget (Ok end.Newline) → (length new.line.items + 1) + new.budget ≡ old.budget → new.count ≡ old.count + 1 → new.at_end ≡ false → TakesLine (between a b) old new
  takes_newline gave used count still =
      let line = new.line.items in
      let longer = length-append line (10 ∷ []) in
      let left : old.budget - (length line + 1) ≡ new.budget = omega (arith, used) in
      record {
        bytes = line ++ 10 ∷ [];
        ongoing = ongoing;
        one_line = one_whole line 10 gave.plain;
        read = gave.ended.1;
        some = omega (arith, longer);
        plain = gave.plain;
        used = omega (arith, longer, used);
        count = count;
        ended = inl (inr (line, refl), still);
        first = λ rest follows.
            left_open old ((line ++ 10 ∷ []) ++ rest) ongoing
            ∙ line_first line rest old.budget gave.plain gave.ended.0
            ∙ ap (λ n. whole line ∷ lines_within rest n) left
            ∙ ap (λ ls. whole line ∷ ls) (sym (left_open new rest still));
      }

  -- a last line, which lacks its newline
  pub takes_last : GivesLine a b new.line.items old.budget (Ok end.Input) → 0 < length new.line.items → length new.line.items + new.budget ≡ old.budget → new.count ≡ old.count + 1 → new.at_end ≡ true → TakesLine (between a b) old new
  takes_last gave some used count closed =
      let line = new.line.items in
      record {
        bytes = line;
        ongoing = ongoing;
        one_line = one_part line gave.plain;
        read = gave.ended.1;
        some = some;
        plain = gave.plain;
        used = used;
        count = count;
        ended = inr (gave.ended.0, closed);
        first = λ rest follows.
            ap (λ l. lines_left old (line ++ l)) (follows closed)
            ∙ ap (lines_left old) (append-nil line)
            ∙ left_open old line ongoing
            ∙ last_line line old.budget gave.plain gave.within some
            ∙ ap (λ ls. whole line ∷ ls) (sym (left_closed new rest closed));
      }

  -- a line with the byte past the limit
  pub takes_too_long : GivesLine a b new.line.items old.budget (Ok end.Budget) → new.count ≡ old.count + 1 → TakesTooLong (between a b) old new
  takes_too_long gave count =
      let line = new.line.items in
      let byte = gave.ended.1.0 in
      record {
        bytes = line ++ byte ∷ [];
        ongoing = ongoing;
        one_line = one_whole line byte gave.plain;
        read = gave.ended.1.1;
        full = length-append line (byte ∷ []) ∙ ap (λ n. n + 1) gave.ended.0;
        count = count;
        first = λ rest. left_open old ((line ++ byte ∷ []) ++ rest) ongoing ∙ long_line line byte rest old.budget gave.plain gave.ended.0;
      }

-- ---- what was read so far

-- no flag is both
pub both : {P : Type 0} (b : Bool) → b ≡ true → b ≡ false → P
both b is other = absurd (let e : true ≡ false = sym is ∙ other in cc)

-- These lines were read of an input, and nothing else. Where the end was not met the last of them had its newline.
pub record SoFar (reader : Stream) (l : Lines) (done : List Line) : Type 0 where
  pub bytes : List ℕ
  pub last : List ℕ
  pub whole : EndsLine bytes
  pub one_line : IsOneLine last
  pub read : Consumes reader.before reader.after (bytes ++ last)
  pub used : length (bytes ++ last) + l.budget ≡ limit
  pub within : l.count + l.budget ≤ limit
  pub fresh : l.at_end ≡ false → last ≡ []
  pub ended : l.at_end ≡ true → MetEnd reader
  pub goes_on : (rest : List ℕ) → MayFollow l rest → lines_within ((bytes ++ last) ++ rest) limit ≡ done ++ lines_left l rest

-- before the first line
abbrev pub at_start : (a : Option (List ℕ)) (l : Lines) → l.count ≡ 0 → l.budget ≡ limit → l.at_end ≡ false → Consumes a a [] → SoFar (between a a) l []
at_start a l count budget ongoing nothing = record {
  bytes = [];
  last = [];
  whole = inl refl;
  one_line = one_part [] (All-nil (λ x. x ≢ 10));
  read = nothing;
  used = omega (arith, budget);
  within = omega (arith, count, budget);
  fresh = λ _. refl;
  ended = λ closed. both l.at_end closed ongoing;
  goes_on = λ rest follows. ap (lines_within rest) (sym budget) ∙ sym (left_open l rest ongoing);
}

-- the end of what is left is the end of all
pub end_of_all : (a b c : Option (List ℕ)) (bytes : List ℕ) → Consumes a b bytes → OnSome b (IsAtEnd c) → OnSome a (IsAtEnd c)
end_of_all None b c bytes read end = tt
end_of_all (Some x) None c bytes read end = absurd read
end_of_all (Some x) (Some y) c bytes read end = end

-- what was at its end stays there
pub still_at_end : (a b c : Option (List ℕ)) (bytes : List ℕ) → Consumes a b bytes → OnSome a (IsAtEnd b) → Consumes b c [] → OnSome a (IsAtEnd c)
still_at_end None b c bytes read end none = tt
still_at_end (Some x) None c bytes read end none = absurd read
still_at_end (Some x) (Some y) None bytes read end none = absurd none
still_at_end (Some x) (Some y) (Some z) bytes read end none = sym none ∙ end

-- what holds of the bytes that were read, whatever may follow them, holds of the input
pub of_input : (a b : Option (List ℕ)) (xs : List ℕ) (closed : Bool) (P : List ℕ → Type 0) → Consumes a b xs → (closed ≡ true → OnSome a (IsAtEnd b)) → ((rest : List ℕ) → (closed ≡ true → rest ≡ []) → P (xs ++ rest)) → IfSome a P
of_input None b xs closed P read end h = tt
of_input (Some x) None xs closed P read end h = absurd read
of_input (Some x) (Some y) xs closed P read end h = subst P (sym read) (h y end)

-- whole lines, and then more
pub ends_after : (xs ys : List ℕ) → EndsLine xs → EndsLine ys → EndsLine (xs ++ ys)
ends_after xs ys first (inl none) = subst EndsLine (sym (ap (λ l. xs ++ l) none ∙ append-nil xs)) first
ends_after xs ys first (inr h) = inr (xs ++ h.0, ap (λ l. xs ++ l) h.1 ∙ sym (append_assoc xs h.0 (10 ∷ [])))

module _ (a b d : Option (List ℕ)) (l l' : Lines) (done : List Line) (far : SoFar (between a b) l done) where
  -- all that was read were whole lines
  pub all_whole : l.at_end ≡ false → far.bytes ++ far.last ≡ far.bytes
  all_whole ongoing = ap (λ m. far.bytes ++ m) (far.fresh ongoing) ∙ append-nil far.bytes

  pub read_whole : l.at_end ≡ false → Consumes a b far.bytes
  read_whole ongoing = subst (Consumes a b) (all_whole ongoing) far.read

  -- and then these bytes
  abbrev pub reads : (more : List ℕ) → l.at_end ≡ false → Consumes b d more → IsOneLine more → length more ≤ l.budget + 1 → ReadsLines (between a d)
  reads more ongoing taken once fits = record {
    bytes = far.bytes;
    last = more;
    whole = far.whole;
    one_line = once;
    read = Consumes-trans a b d far.bytes more (read_whole ongoing) taken;
    bound = let had = ap length (all_whole ongoing) in let used = far.used in omega (arith, fits, used, had, length-append far.bytes more);
  }

  -- the bytes before them, counted
  pub used_before : l.at_end ≡ false → length far.bytes + l.budget ≡ limit
  used_before ongoing = let had = ap length (all_whole ongoing) in let used = far.used in omega (arith, used, had)

  pub follows : (more rest : List ℕ) → l.at_end ≡ false → lines_within ((far.bytes ++ more) ++ rest) limit ≡ done ++ lines_left l (more ++ rest)
  follows more rest ongoing =
      ap (λ k. lines_within k limit) (append_assoc far.bytes more rest ∙ ap (λ k. k ++ (more ++ rest)) (sym (all_whole ongoing)))
      ∙ far.goes_on (more ++ rest) (λ closed. both l.at_end closed ongoing)

  module _ (t : TakesLine (between b d) l l') where
    pub then_line : (rest : List ℕ) → MayFollow l' rest → lines_within ((far.bytes ++ t.bytes) ++ rest) limit ≡ (done ++ whole l'.line.items ∷ []) ++ lines_left l' rest
    then_line rest may = follows t.bytes rest t.ongoing ∙ ap (λ ls. done ++ ls) (t.first rest may) ∙ sym (append_assoc done (whole l'.line.items ∷ []) (lines_left l' rest))

    pub all_read : Consumes a d (far.bytes ++ t.bytes)
    all_read = Consumes-trans a b d far.bytes t.bytes (read_whole t.ongoing) t.read

    pub all_used : length (far.bytes ++ t.bytes) + l'.budget ≡ limit
    all_used = let used = t.used in let before = used_before t.ongoing in omega (arith, used, before, length-append far.bytes t.bytes)

    pub all_within : l'.count + l'.budget ≤ limit
    all_within = let used = t.used in let some = t.some in let count = t.count in let within = far.within in omega (arith, used, some, count, within)

    -- the line had its newline
    abbrev pub took_whole : EndsLine t.bytes → l'.at_end ≡ false → SoFar (between a d) l' (done ++ whole l'.line.items ∷ [])
    took_whole ends still = record {
      bytes = far.bytes ++ t.bytes;
      last = [];
      whole = ends_after far.bytes t.bytes far.whole ends;
      one_line = one_part [] (All-nil (λ x. x ≢ 10));
      read = subst (Consumes a d) (sym (append-nil (far.bytes ++ t.bytes))) all_read;
      used = ap (λ k. length k + l'.budget) (append-nil (far.bytes ++ t.bytes)) ∙ all_used;
      within = all_within;
      fresh = λ _. refl;
      ended = λ closed. both l'.at_end closed still;
      goes_on = λ rest may. ap (λ k. lines_within (k ++ rest) limit) (append-nil (far.bytes ++ t.bytes)) ∙ then_line rest may;
    }

    -- the input ended with the line
    abbrev pub took_last : MetEnd (between b d) → l'.at_end ≡ true → SoFar (between a d) l' (done ++ whole l'.line.items ∷ [])
    took_last met closed = record {
      bytes = far.bytes;
      last = t.bytes;
      whole = far.whole;
      one_line = t.one_line;
      read = all_read;
      used = all_used;
      within = all_within;
      fresh = λ still. both l'.at_end closed still;
      ended = λ _. end_of_all a b d far.bytes (read_whole t.ongoing) met;
      goes_on = then_line;
    }

    -- where the end is met, it is that of all
    pub line_met_end : l'.at_end ≡ true → MetEnd (between a d)
    line_met_end closed = by t.ended
      where
        by : EndsBy (between b d) t.bytes l' → MetEnd (between a d)
        by (inl h) = both l'.at_end closed h.1
        by (inr h) = end_of_all a b d far.bytes (read_whole t.ongoing) h.0

    -- the line was read to its end or to that of the input
    pub line_complete : (length (far.bytes ++ t.bytes) ≡ limit + 1) ⊎ (EndsLine t.bytes ⊎ MetEnd (between a d))
    line_complete = by t.ended
      where
        by : EndsBy (between b d) t.bytes l' → (length (far.bytes ++ t.bytes) ≡ limit + 1) ⊎ (EndsLine t.bytes ⊎ MetEnd (between a d))
        by (inl h) = inr (inl h.0)
        by (inr h) = inr (inr (end_of_all a b d far.bytes (read_whole t.ongoing) h.0))

  -- no line is left
  pub none_met_end : TakesNone (between b d) l l' → MetEnd (between a d)
  none_met_end t = by l.at_end refl
    where
      by : (closed : Bool) → l.at_end ≡ closed → MetEnd (between a d)
      by true closed = still_at_end a b d (far.bytes ++ far.last) far.read (far.ended closed) t.read
      by false ongoing = end_of_all a b d far.bytes (read_whole ongoing) (t.ended ongoing)
