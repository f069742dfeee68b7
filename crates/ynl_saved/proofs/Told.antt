-- What lines make of a state, read one after another.
use Rattle.std.proofs.Common.{◌≡◌, ℕ, ◌+◌, true, false, Bool, cond, List, [], ◌∷◌, ◌++◌, length, Some, None, refl, sym, ap, subst, ◌∙◌, arith, append-nil, append_assoc, length-append}
use Rattle.std.specs.Prelude.{flat_map, map}
use Rattle.ynl_resource.specs.declared.labels.Label.{Label}
use Rattle.ynl_resource.specs.declared.paths.Path.{Path}
use Rattle.ynl_model.specs.Queues.{Config}
use Rattle.ynl_model.specs.Cluster.{State}
use Rattle.ynl_saved.specs.declared.lines.StateLine.{StateLine}
use Rattle.ynl_saved.specs.Restoring.{Restored, is_sound_line, with_line, partitions_of, maxima_of, restored_with, restored_by}

-- what is told beside the state: the partitions and the maxima that had a line
pub record Side : Type 0 where
  pub partitions : List Label
  pub maxima : List (Path × Label)

-- all that is told, with the number of lines
abbrev pub told : State → Side → ℕ → Restored
told s side n = record { state = s; partitions = side.partitions; maxima = side.maxima; lines = n }

-- lines are sound one after another, and make the second state of the first
abbrev pub Reads : Config → State → Side → List StateLine → State → Side → Type 0
Reads c s side lines new after = (n : ℕ) → restored_by c (told s side n) lines ≡ Some (told new after (n + length lines))

-- no lines make nothing of a state
pub reads-none : (c : Config) (s : State) (side : Side) → Reads c s side [] s side
reads-none c s side n = ap (λ m. Some (told s side m)) (zero n)
  where
    zero : (n : ℕ) → n ≡ n + 0
    zero n = omega arith

-- one line that is sound, however many lines there were
pub reads-one : (c : Config) (s : State) (side : Side) (line : StateLine) → ((n : ℕ) → is_sound_line c (told s side n) line ≡ true) →
    Reads c s side (line ∷ []) (with_line line s) (record { partitions = partitions_of line ++ side.partitions; maxima = maxima_of line ++ side.maxima })
reads-one c s side line sound n = λ i. cond (sound n i) (Some (restored_with line (told s side n))) None

-- what is read of lines and of those behind them
pub by-append : (c : Config) (r new : Restored) (xs ys : List StateLine) → restored_by c r xs ≡ Some new → restored_by c r (xs ++ ys) ≡ restored_by c new ys
by-append c r new [] ys h = let same : r ≡ new = cc in ap (λ r. restored_by c r ys) same
by-append c r new (x ∷ xs) ys h = go (is_sound_line c r x) h (by-append c (restored_with x r) new xs ys)
  where
    go : (b : Bool) → cond b (restored_by c (restored_with x r) xs) None ≡ Some new → (restored_by c (restored_with x r) xs ≡ Some new → restored_by c (restored_with x r) (xs ++ ys) ≡ restored_by c new ys) →
        cond b (restored_by c (restored_with x r) (xs ++ ys)) None ≡ restored_by c new ys
    go true h rest = rest h
    go false h rest = cc

-- lines behind others are read over what those made
pub reads-append : (c : Config) (s mid new : State) (a b d : Side) (xs ys : List StateLine) → Reads c s a xs mid b → Reads c mid b ys new d → Reads c s a (xs ++ ys) new d
reads-append c s mid new a b d xs ys h k n = by-append c (told s a n) (told mid b (n + length xs)) xs ys (h n) ∙ k (n + length xs) ∙ ap (λ m. Some (told new d m)) (sums n)
  where
    sums : (n : ℕ) → (n + length xs) + length ys ≡ n + length (xs ++ ys)
    sums n = omega (arith, length-append xs ys)

-- rows are read in turn, each over what the rows before it made, and over what is told beside it
pub section : {X : Type 0} (c : Config) (lines_of : X → List StateLine) (at : List X → List X → State) (Q : List X → List X → Side → Type 0) (rows : List X) →
    ((done : List X) (x : X) (todo : List X) (side : Side) → done ++ x ∷ todo ≡ rows → Q done (x ∷ todo) side →
    (new : Side) × Q (done ++ x ∷ []) todo new × Reads c (at done (x ∷ todo)) side (lines_of x) (at (done ++ x ∷ []) todo) new) →
    (done todo : List X) (side : Side) → done ++ todo ≡ rows → Q done todo side → (new : Side) × Q rows [] new × Reads c (at done todo) side (flat_map lines_of todo) (at rows []) new
section c lines_of at Q rows step done [] side e q =
    let same : done ≡ rows = sym (append-nil done) ∙ e in
    (side, subst (λ d. Q d [] side) same q, subst (λ d. Reads c (at done []) side [] (at d []) side) same (reads-none c (at done []) side))
section c lines_of at Q rows step done (x ∷ todo) side e q =
    let one = step done x todo side e q in
    let rest = section c lines_of at Q rows step (done ++ x ∷ []) todo one.0 (append_assoc done (x ∷ []) todo ∙ e) one.1 in
    (rest.0, rest.1, reads-append c (at done (x ∷ todo)) (at (done ++ x ∷ []) todo) (at rows []) side one.0 rest.0 (lines_of x) (flat_map lines_of todo) one.2 rest.2)

-- the same where nothing more is told beside the state
pub plain-section : {X : Type 0} (c : Config) (lines_of : X → List StateLine) (at : List X → List X → State) (side : Side) (rows : List X) →
    ((done : List X) (x : X) (todo : List X) → done ++ x ∷ todo ≡ rows → Reads c (at done (x ∷ todo)) side (lines_of x) (at (done ++ x ∷ []) todo) side) →
    (done todo : List X) → done ++ todo ≡ rows → Reads c (at done todo) side (flat_map lines_of todo) (at rows []) side
plain-section c lines_of at side rows step done [] e =
    subst (λ d. Reads c (at done []) side [] (at d []) side) (sym (append-nil done) ∙ e) (reads-none c (at done []) side)
plain-section c lines_of at side rows step done (x ∷ todo) e =
    reads-append c (at done (x ∷ todo)) (at (done ++ x ∷ []) todo) (at rows []) side side side (lines_of x) (flat_map lines_of todo)
    (step done x todo e) (plain-section c lines_of at side rows step (done ++ x ∷ []) todo (append_assoc done (x ∷ []) todo ∙ e))

-- a line for each row
pub flat-ones : {X Y : Type 0} (f : X → Y) (xs : List X) → map f xs ≡ flat_map (λ x. f x ∷ []) xs
flat-ones f [] = refl
flat-ones f (x ∷ xs) = ap (λ ys. f x ∷ ys) (flat-ones f xs)
