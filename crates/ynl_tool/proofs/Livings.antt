-- Sessions that are told.
use Rattle.std.proofs.Common.{◌≡◌, ℕ, suc, ◌+◌, ◌<◌, ◌≤◌, List, [], ◌∷◌, ◌++◌, length, drop, get_or, Option, Result, Ok, Err, OnOk, OnErr, refl, sym, ap, subst, ◌∙◌, arith, append_assoc, append-nil}
use Rattle.std.specs.List.{concat}
use Rattle.std.specs.Io.KnownBytes.{Appends}
use Rattle.std.proofs.KnownBytes.{Appends-nil}
use Rattle.std.proofs.lemmas.List.{drop_all}
use Rattle.std.proofs.Math.Seq.{drop-cons}
use Rattle.ynl_model.specs.declared.entries.Entry.{Entry}
use Rattle.ynl_commands.specs.declared.run.ToolFault.TheVariants.{Write, NoMemory}
use Rattle.ynl_commands.specs.Lines.{AppendsPart, HoldsBack}
use Rattle.ynl_commands.specs.Telling.{LeavesLines}
use Rattle.ynl_tool.specs.Living.{journal_line, journal_lines}
use Rattle.ynl_commands.proofs.Tellings.{held_more, held_on, held_written, held_refused, held_failed}

-- what holds of a success, and of an error
pub of_success : {T E P : Type 0} (r : Result T E) (x : T) → r ≡ Ok x → OnOk r P → P
of_success {P = P} r x is h = subst (λ r. OnOk r P) is h

pub of_error : {T E P : Type 0} (r : Result T E) (e : E) → r ≡ Err e → OnErr r P → P
of_error {P = P} r e is h = subst (λ r. OnErr r P) is h

-- ---- entries, one after another

-- The lines of the entries so far were written, up to what is held back of them.
pub record EntriesSoFar (old new : Option (List ℕ)) (held : List ℕ) (entries : List Entry) (i : ℕ) : Type 0 where
  pub done : List (List ℕ)
  pub goes_on : journal_lines 0 entries ≡ done ++ journal_lines i (drop i entries)
  pub holds : HoldsBack old new held (concat done)

pub none_yet : (a : Option (List ℕ)) (held : List ℕ) (entries : List Entry) → held ≡ [] → EntriesSoFar a a held entries 0
none_yet a held entries none = record { done = []; goes_on = refl; holds = record { sent = []; written = Appends-nil a; all = none } }

-- what is left begins with the next
next_entry : (xs : List Entry) (i : ℕ) (x : Entry) → i < length xs → x ≡ get_or xs i x → drop i xs ≡ x ∷ drop (i + 1) xs
next_entry xs i x h is = let e : suc i ≡ i + 1 = omega arith in drop-cons xs i x h ∙ ap (λ k. get_or xs i x ∷ drop k xs) e ∙ ap (λ y. y ∷ drop (i + 1) xs) (sym is)

module _ (a b : Option (List ℕ)) (held : List ℕ) (entries : List Entry) (i : ℕ) (so : EntriesSoFar a b held entries i) where
  -- the line of the next is held back
  pub entry_held : (x : Entry) (kept : List ℕ) → i < length entries → x ≡ get_or entries i x → kept ≡ held ++ journal_line i x → EntriesSoFar a b kept entries (i + 1)
  entry_held x kept left is told = record {
    done = so.done ++ journal_line i x ∷ [];
    goes_on =
        so.goes_on
        ∙ ap (λ es. so.done ++ journal_lines i es) (next_entry entries i x left is)
        ∙ sym (append_assoc so.done (journal_line i x ∷ []) (journal_lines (i + 1) (drop (i + 1) entries)));
    holds = held_more a b so.done (journal_line i x ∷ []) held kept so.holds (told ∙ ap (λ l. held ++ l) (sym (append-nil (journal_line i x))));
  }

  -- what is held back is as it was
  pub entries_same : (kept : List ℕ) → kept ≡ held → EntriesSoFar a b kept entries i
  entries_same kept is = subst (λ k. EntriesSoFar a b k entries i) (sym is) so

  module _ (c : Option (List ℕ)) where
    -- some of what is held back is written
    pub entries_on : (kept : List ℕ) → HoldsBack b c kept held → EntriesSoFar a c kept entries i
    entries_on kept h = record { done = so.done; goes_on = so.goes_on; holds = held_on a b c so.done held so.holds kept h }

    -- there was no memory for the next line
    pub entries_refused : Appends b c held → LeavesLines a c (journal_lines 0 entries) NoMemory
    entries_refused wrote = subst (λ ls. LeavesLines a c ls NoMemory) (sym so.goes_on) (held_refused a b c so.done held so.holds (journal_lines i (drop i entries)) wrote)

    -- a write failed
    pub entries_failed : AppendsPart b c held → LeavesLines a c (journal_lines 0 entries) Write
    entries_failed part = subst (λ ls. LeavesLines a c ls Write) (sym so.goes_on) (held_failed a b c so.done held so.holds (journal_lines i (drop i entries)) part)

    -- all of them are told
    pub entries_told : length entries ≤ i → Appends b c held → Appends a c (concat (journal_lines 0 entries))
    entries_told all wrote =
        subst (λ ls. Appends a c (concat ls)) (sym (so.goes_on ∙ ap (λ es. so.done ++ journal_lines i es) (drop_all i entries all) ∙ append-nil so.done))
        (held_written a b c so.done held so.holds wrote)
