-- Lines of a state on their way to a writer.
use Rattle.std.proofs.Common.{◌≡◌, ◌<◌, ◌≤◌, ◌+◌, ℕ, List, [], ◌∷◌, ◌++◌, length, vec_len, vec_capacity, Option, Result, Ok, Err, sym, ap, subst, ◌∙◌, arith, append_assoc, append-nil}
use Rattle.std.specs.declared.vec.Vec.{Vec}
use Rattle.std.specs.Result.{IsErrAnd}
use Rattle.std.specs.Io.KnownBytes.{Appends}
use Rattle.std.proofs.KnownBytes.{Appends-nil, Appends-trans}
use Rattle.ynl_saved.specs.declared.lines.StateLine.{StateLine}
use Rattle.ynl_saved.specs.Handing.{FailsAmong, TakesAll}
use Rattle.ynl_saved.proofs.Handing.{flat-append}
use Rattle.ynl_saved_text.specs.Texts.{line_text, lines_text}
use Rattle.ynl_states.specs.Measure.{AreWithin}
use Rattle.ynl_commands.specs.declared.run.ToolFault.{ToolFault}
use Rattle.ynl_commands.specs.declared.run.ToolFault.TheVariants.{Read, Write, NoMemory, Unclosed}
use Rattle.ynl_commands.specs.Lines.{AppendsPart, HoldsBack}
use Rattle.ynl_commands.specs.Running.{held_limit}
use Rattle.ynl_commands.specs.Sending.{SendsLine, WritesState}
use Rattle.ynl_commands.proofs.Fronts.{part_after, part_of_more}

-- one text after another
held_on : (a b c : Option (List ℕ)) (first mid last x y : List ℕ) → HoldsBack a b mid (first ++ x) → HoldsBack b c last (mid ++ y) → HoldsBack a c last (first ++ (x ++ y))
held_on a b c first mid last x y one two = record {
  sent = one.sent ++ two.sent;
  written = Appends-trans a b c one.sent two.sent one.written two.written;
  all =
      append_assoc one.sent two.sent last
      ∙ ap (λ t. one.sent ++ t) two.all
      ∙ sym (append_assoc one.sent mid y)
      ∙ ap (λ t. t ++ y) one.all
      ∙ append_assoc first x y;
}

-- and a front of the next
part_on : (a b c : Option (List ℕ)) (first mid x y : List ℕ) → HoldsBack a b mid (first ++ x) → AppendsPart b c (mid ++ y) → AppendsPart a c (first ++ (x ++ y))
part_on a b c first mid x y one part =
    subst (AppendsPart a c) (sym (append_assoc one.sent mid y) ∙ ap (λ t. t ++ y) one.all ∙ append_assoc first x y)
    (part_after a b c one.sent (mid ++ y) one.written part)

-- what is held back is written: that is all
pub all_written : (a b c : Option (List ℕ)) (held first text : List ℕ) → first ≡ [] → HoldsBack a b held (first ++ text) → Appends b c held → Appends a c text
all_written a b c held first text none out wrote = subst (Appends a c) (out.all ∙ ap (λ t. t ++ text) none) (Appends-trans a b c out.sent held out.written wrote)

-- or a write failed in it
pub part_written : (a b c : Option (List ℕ)) (held first text : List ℕ) (r : Result (Unit {0}) ToolFault) → first ≡ [] → HoldsBack a b held (first ++ text) → AppendsPart b c held → IsErrAnd r (λ x. x ≡ Write) → WritesState a c text r
part_written a b c held first text (Ok done) none out part same = absurd same
part_written a b c held first text (Err e) none out part same =
    subst (λ e. WritesState a c text (Err e)) (sym same) (subst (AppendsPart a c) (out.all ∙ ap (λ t. t ++ text) none) (part_after a b c out.sent held out.written part))

-- one of some lines is as long as they may be
one_within : (before : List StateLine) (line : StateLine) (rest : List StateLine) (longest : ℕ) → AreWithin (before ++ line ∷ rest) longest → length (line_text line) ≤ longest
one_within [] line rest longest within = within.0
one_within (x ∷ before) line rest longest within = one_within before line rest longest within.1

module _ {S N Z : Type 0} (name : S → N) (contents : S → Option (List ℕ)) (held : S → Vec ℕ Z) where
  -- what comes of a line; the writer is the same
  abbrev pub Sends : S → StateLine → S → Result (Unit {0}) ToolFault → Type 0
  Sends s line t r = (name t ≡ name s) × SendsLine (contents s) (contents t) (held s) (held t) line r

  -- a text was sent
  pub record Sent (old new : S) (text : List ℕ) : Type 0 where
    pub same : name new ≡ name old
    pub out : HoldsBack (contents old) (contents new) (held new).items ((held old).items ++ text)
    pub short : vec_len (held new) < held_limit
    pub room : vec_capacity (held old) ≤ vec_capacity (held new)

  pub all_sent : (lines : List StateLine) (old new : S) → vec_len (held old) < held_limit → TakesAll Sends old lines new → Sent old new (lines_text lines)
  all_sent [] old new short is = subst (λ t. Sent old t []) is nothing
    where
      nothing : Sent old old []
      nothing = record {
        same = ap name is ∙ sym (ap name is);
        out = record { sent = []; written = Appends-nil (contents old); all = sym (append-nil (held old).items) };
        short = short;
        room = omega arith;
      }
  all_sent (line ∷ lines) old new short (mid, (same, (out, again, room)), rest) =
      let more = all_sent lines mid new again rest in
      let grown = more.room in
      record {
        same = more.same ∙ same;
        out = held_on (contents old) (contents mid) (contents new) (held old).items (held mid).items (held new).items (line_text line) (lines_text lines) out more.out;
        short = more.short;
        room = omega (arith, room, grown);
      }

  module _ (lines : List StateLine) (old new : S) (short : vec_len (held old) < held_limit) where
    -- a write failed in one of the lines
    pub write_failed : FailsAmong Sends old lines new Write → (name new ≡ name old) × AppendsPart (contents old) (contents new) ((held old).items ++ lines_text lines)
    write_failed is =
        let before = all_sent is.before old is.mid short is.took in
        let failed = is.failed in
        let part = part_on (contents old) (contents is.mid) (contents new) (held old).items (held is.mid).items (lines_text is.before) (line_text is.line) before.out failed.1 in
        let text : ((held old).items ++ (lines_text is.before ++ line_text is.line)) ++ lines_text is.rest ≡ (held old).items ++ lines_text lines =
        append_assoc (held old).items (lines_text is.before ++ line_text is.line) (lines_text is.rest)
        ∙ ap (λ t. (held old).items ++ t)
        (append_assoc (lines_text is.before) (line_text is.line) (lines_text is.rest) ∙ sym (ap lines_text is.are ∙ flat-append line_text is.before (is.line ∷ is.rest))) in
        (failed.0 ∙ before.same, subst (AppendsPart (contents old) (contents new)) text (part_of_more (contents old) (contents new) _ (lines_text is.rest) part))

    -- memory is not refused where there is room for what is held back and the longest line
    pub not_refused : (longest : ℕ) → AreWithin lines longest → held_limit + longest ≤ vec_capacity (held old) → FailsAmong Sends old lines new NoMemory → ⊥
    not_refused longest within room is =
        let before = all_sent is.before old is.mid short is.took in
        let again = before.short in
        let grown = before.room in
        let failed : vec_capacity (held is.mid) < vec_len (held is.mid) + length (line_text is.line) = is.failed.1 in
        let fits = one_within is.before is.line is.rest longest (subst (λ ls. AreWithin ls longest) is.are within) in
        let no : 1 ≤ 0 = omega (arith, again, grown, failed, fits, room) in
        absurd (omega (arith, no))

    -- so only a write fails
    pub sending_failed : (longest : ℕ) → AreWithin lines longest → held_limit + longest ≤ vec_capacity (held old) → (held old).items ≡ [] → (e : ToolFault) (r : Result (Unit {0}) ToolFault) → FailsAmong Sends old lines new e → IsErrAnd r (λ x. x ≡ e)
        → (name new ≡ name old) × WritesState (contents old) (contents new) (lines_text lines) r
    sending_failed longest within room none e (Ok done) is same = absurd same
    sending_failed longest within room none e (Err x) is same =
        let this = go e is in
        (this.0, subst (λ x. WritesState (contents old) (contents new) (lines_text lines) (Err x)) (sym same) this.1)
      where
        go : (e : ToolFault) → FailsAmong Sends old lines new e → (name new ≡ name old) × WritesState (contents old) (contents new) (lines_text lines) (Err e)
        go Write is = let this = write_failed is in (this.0, subst (λ t. AppendsPart (contents old) (contents new) (t ++ lines_text lines)) none this.1)
        go NoMemory is = absurd (not_refused longest within room is)
        go Read is = absurd is.failed.1
        go Unclosed is = absurd is.failed.1
