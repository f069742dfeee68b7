-- Fronts of texts that are written one after another.
use Rattle.std.proofs.Common.{◌≡◌, ℕ, ◌+◌, ◌<◌, ◌≤◌, List, ◌++◌, length, take, Option, Some, None, Result, Ok, Err, refl, sym, ap, subst, ◌∙◌, arith, length-append}
use Rattle.std.specs.Prelude.{OnOk, OnErr, IfSome, option_map}
use Rattle.std.proofs.Math.Seq.{take-append-add, take-length}
use Rattle.std.proofs.lemmas.List.{take-append-le}
use Rattle.std.specs.Io.KnownBytes.{Appends}
use Rattle.std.proofs.KnownBytes.{Appends-trans}
use Rattle.ynl_commands.specs.Lines.{AppendsFront, AppendsPart}

-- a front of a text is a front of a longer one
pub front_of_more : (a b : Option (List ℕ)) (xs ys : List ℕ) → AppendsFront a b xs → AppendsFront a b (xs ++ ys)
front_of_more a b xs ys h = record {
  count = h.count;
  bound = omega (arith, h.bound, length-append xs ys);
  appended = subst (Appends a b) (sym (take-append-le h.count xs ys h.bound)) h.appended;
}

-- a text, and a front of the next
pub front_after : (a b c : Option (List ℕ)) (xs ys : List ℕ) → Appends a b xs → AppendsFront b c ys → AppendsFront a c (xs ++ ys)
front_after a b c xs ys first h = record {
  count = length xs + h.count;
  bound = omega (arith, h.bound, length-append xs ys);
  appended = subst (Appends a c) (sym (take-append-add xs ys h.count)) (Appends-trans a b c xs (take h.count ys) first h.appended);
}

-- the same, where not all of it was written
pub part_of_more : (a b : Option (List ℕ)) (xs ys : List ℕ) → AppendsPart a b xs → AppendsPart a b (xs ++ ys)
unfolding front_of_more
part_of_more a b xs ys h =
    let front = front_of_more a b xs ys h.front in
    let same : front.count ≡ h.front.count = refl in
    record { front = front; missing = omega (arith, same, h.missing, length-append xs ys) }

pub part_after : (a b c : Option (List ℕ)) (xs ys : List ℕ) → Appends a b xs → AppendsPart b c ys → AppendsPart a c (xs ++ ys)
unfolding front_after
part_after a b c xs ys first h =
    let front = front_after a b c xs ys first h.front in
    let same : front.count ≡ length xs + h.front.count = refl in
    record { front = front; missing = omega (arith, same, h.missing, length-append xs ys) }

-- So many bytes of a text were written.
pub record WrittenSoFar (old new : Option (List ℕ)) (text : List ℕ) (n : ℕ) : Type 0 where
  pub bound : n ≤ length text
  pub appended : Appends old new (take n text)

-- so many bytes of a text, where it has more
pub part_so_far : (a b : Option (List ℕ)) (text : List ℕ) (n : ℕ) → n < length text → WrittenSoFar a b text n → AppendsPart a b text
part_so_far a b text n more so = record { front = record { count = n; bound = so.bound; appended = so.appended }; missing = more }

-- what holds anyhow holds after an error
pub on_err : {T E P : Type 0} (r : Result T E) → P → OnErr r P
on_err (Ok x) p = tt
on_err (Err e) p = p

-- the whole text, or what a fault left of it
pub front_either_way : {T E : Type 0} (r : Result T E) (a b : Option (List ℕ)) (xs : List ℕ) → OnOk r (Appends a b xs) → OnErr r (AppendsPart a b xs) → AppendsFront a b xs
front_either_way (Ok x) a b xs whole front = record { count = length xs; bound = omega arith; appended = subst (Appends a b) (sym (take-length xs)) whole }
front_either_way (Err e) a b xs whole part = part.front

-- what was read of a front of what a reader had
pub read_front : (r : Option (List ℕ)) (n most : ℕ) (old new : List ℕ) → n ≡ most → IfSome (option_map (take n) r) (λ xs. new ≡ old ++ xs) → IfSome r (λ bytes. new ≡ old ++ take most bytes)
read_front None n most old new e h = tt
read_front (Some bytes) n most old new e h = h ∙ ap (λ m. old ++ take m bytes) e
