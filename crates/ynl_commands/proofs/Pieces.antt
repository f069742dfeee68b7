-- What one look at a reader gives, and several of them.
use Rattle.std.proofs.Common.{◌≡◌, ◌≢◌, ℕ, ◌+◌, ◌-◌, ◌<◌, ◌≤◌, min, List, [], ◌∷◌, ◌++◌, length, take, Option, Some, None, Result, Ok, Err, Bor, IfOk, IfErr, IfSome, OnSome, sym, ap, subst, ◌∙◌, arith, get_or, append_assoc, length-append, length-take}
use Rattle.std.proofs.Math.Seq.{take-take}
use Rattle.std.proofs.lemmas.List.{take_more}
use Rattle.std.proofs.lemmas.List.Elements.{All-append}
use Rattle.std.proofs.BufReadLemmas.{Consumes_shown}
use Rattle.std.specs.Io.BufRead.{FillKeeps, DropsConsumable}
use Rattle.std.specs.Io.{StartsWith}
use Rattle.std.specs.declared.io.ErrorKind.{ErrorKind}
use Rattle.std.specs.Io.KnownBytes.{IsAtEnd, Consumes}
use Rattle.std.proofs.KnownBytes.{Consumes-trans}
use Rattle.ynl_commands.specs.declared.lines_in.LineEnd.{LineEnd}
use Rattle.ynl_commands.specs.declared.lines_in.LineEnd.TheVariants.{Newline, Input, Budget}
use Rattle.ynl_commands.specs.declared.lines_in.Taken.{Taken}
use Rattle.ynl_commands.specs.Lines.{IsPlain, IsTaken, AddsShown, FailsAs, Ends, GivesPiece, GivesLine, LineEnds}

pub first_shown : (shown : List ℕ) → 0 < length shown → take 1 shown ≡ get_or shown 0 0 ∷ []
first_shown shown h = take_more shown 0 0 h

-- what is before the newline, or within the room
pub record Cut (before shown after : List ℕ) (end within budget : ℕ) : Type 0 where
  pub bound : end ≤ length shown
  pub plain : IsPlain (take end shown)
  pub fits : length after ≤ budget
  pub room : end < within → length after < budget
  pub some : within ≤ end → 0 < within → 0 < length (take end shown)

pub cut : (before shown after : List ℕ) (end within budget : ℕ) → end ≤ length (take within shown) → within ≡ min (budget - length before) (length shown) → length before ≤ budget
    → IsPlain (take end (take within shown)) → after ≡ before ++ take end shown → Cut before shown after end within budget
cut before shown after end within budget bound is had plain grown =
    let len = length-take within shown in
    let short : end ≤ within = omega arith in
    let fits : end ≤ length shown = omega arith in
    let taken = length-take end shown in
    let all : length after ≡ length before + length (take end shown) = ap length grown ∙ length-append before (take end shown) in
    record {
      bound = fits;
      plain = subst IsPlain (take-take end within shown short) plain;
      fits = omega arith;
      room = λ h. omega arith;
      some = λ h k. omega arith;
    }

-- what holds of the value that a result is
pub of_ok : {T E : Type 0} (r : Result T E) (x : T) (P : T → Type 0) → r ≡ Ok x → P x → IfOk r P
of_ok r x P is p = subst (λ r. IfOk r P) (sym is) p

-- the bytes that are taken of what a reader showed are those that it gave
module _ (a c : Option (List ℕ)) (shown bytes : List ℕ) (n budget count : ℕ) (moved : Consumes a c (take count shown) × (length shown ≡ 0 → OnSome a (IsAtEnd c))) where
  taken_ends : (end : Option LineEnd) → IsTaken shown bytes n budget count end → Ends a c bytes n budget end
  taken_ends None t = (t.0, subst (Consumes a c) t.1 moved.0)
  taken_ends (Some Newline) t = (t.0, subst (Consumes a c) t.1 moved.0)
  taken_ends (Some Input) t = (moved.1 t.0, subst (Consumes a c) t.1 moved.0)
  taken_ends (Some Budget) t = (t.0, (t.1.0, subst (Consumes a c) t.1.1 moved.0))

-- what one look at a reader gives
pub piece_given : {E : Type 0} (kind : E → ErrorKind) (a b c : Option (List ℕ)) (room : Option ℕ) (shown : Result (Bor (List ℕ)) E) (before after : List ℕ) (budget : ℕ) (taken : Taken)
    → IfSome a (λ xs. IfOk shown (λ s. StartsWith xs s.now)) → IfSome a (λ xs. IfOk shown (λ s. length s.now ≡ 0 → xs ≡ [])) → FillKeeps a b room shown → DropsConsumable b c room taken.count
    → IfOk shown (λ s. AddsShown s.now before after budget (Ok taken)) → IfErr shown (λ e. FailsAs (kind e) before after (Ok taken)) → GivesPiece a c before after budget (Ok taken.end)
piece_given kind a b c room (Err e) before after budget taken front end kept drops adds fails = absurd (cc)
piece_given kind a b c room (Ok s) before after budget taken front end kept drops adds fails =
    let moved = Consumes_shown a b c room s.now taken.count adds.ended.0 front end kept.0 kept.1 drops in
    record {
      bytes = adds.bytes;
      plain = adds.plain;
      grown = adds.grown;
      within = adds.within;
      ended = taken_ends a c s.now adds.bytes (length after) budget taken.count moved taken.end adds.ended.1;
    }

-- The line so far is what the reader gave.
pub record LineSoFar (old new : Option (List ℕ)) (line : List ℕ) (budget : ℕ) : Type 0 where
  pub plain : IsPlain line
  pub within : length line ≤ budget
  pub read : Consumes old new line

module _ (a b c : Option (List ℕ)) (line after : List ℕ) (budget : ℕ) (so : LineSoFar a b line budget) where
  pub line_more : GivesPiece b c line after budget (Ok None) → LineSoFar a c after budget
  line_more p = record {
    plain = subst IsPlain (sym p.grown) (All-append (λ x. x ≢ 10) line p.bytes so.plain p.plain);
    within = p.within;
    read = subst (Consumes a c) (sym p.grown) (Consumes-trans a b c line p.bytes so.read p.ended.1);
  }

  still_end : (x : Option (List ℕ)) → Consumes x b line → OnSome b (IsAtEnd c) → OnSome x (IsAtEnd c)
  still_end None h e = tt
  still_end (Some x) h e = at b h e
    where
      at : (y : Option (List ℕ)) → Consumes (Some x) y line → OnSome y (IsAtEnd c) → IsAtEnd c
      at None h e = absurd h
      at (Some y) h e = e

  ends : (end : LineEnd) → GivesPiece b c line after budget (Ok (Some end)) → LineEnds a c after budget (Ok end)
  ends Newline p = (p.ended.0, subst (Consumes a c) (sym (append_assoc line p.bytes (10 ∷ [])) ∙ ap (λ l. l ++ 10 ∷ []) (sym p.grown)) (Consumes-trans a b c line (p.bytes ++ 10 ∷ []) so.read p.ended.1))
  ends Input p = (still_end a so.read p.ended.0, subst (Consumes a c) (sym p.grown) (Consumes-trans a b c line p.bytes so.read p.ended.1))
  ends Budget p = (p.ended.0, (p.ended.1.0, subst (Consumes a c) (sym (append_assoc line p.bytes (p.ended.1.0 ∷ [])) ∙ ap (λ l. l ++ p.ended.1.0 ∷ []) (sym p.grown)) (Consumes-trans a b c line (p.bytes ++ p.ended.1.0 ∷ []) so.read p.ended.1.1)))

  pub line_ended : (end : LineEnd) → GivesPiece b c line after budget (Ok (Some end)) → GivesLine a c after budget (Ok end)
  line_ended end p = record {
    plain = subst IsPlain (sym p.grown) (All-append (λ x. x ≢ 10) line p.bytes so.plain p.plain);
    within = p.within;
    ended = ends end p;
  }
