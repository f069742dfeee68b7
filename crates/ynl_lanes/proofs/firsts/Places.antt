-- The values in all places: those of the tree, and none behind them.
use Rattle.std.proofs.Common.{◌≡◌, ℕ, ◌+◌, ◌-◌, ◌*◌, ◌/◌, ◌<◌, ◌≤◌, List, ◌++◌, length, replicate, refl, get_or, set, sym, ap, subst, ◌∙◌, ⊎_elim, append_assoc, arith, length-append, length-drop, length-set, get_or-drop, get_or-set_same, get_or-set_other, ext_get_or}
use Rattle.std.specs.List.{CopiedTo, SameFrom}
use Rattle.std.proofs.lemmas.Bool.{cases_lt, cases_eq}
use Rattle.std.proofs.lemmas.List.{length-replicate, replicate-append-replicate, get_or-replicate, get_or_append_left, get_or-append_right, set-append_left, with_items_is}
use Rattle.std.specs.Global.{Vec}
use Rattle.std.specs.Vec.{with_items}
use Rattle.ynl_lanes.specs.firsts.Firsts.{IsFilledUp}
use Rattle.ynl_lanes.specs.firsts.Tree.{filled_up, values_of}

module _ {T : Type 0} (none : T) where
  pub length-filled_up : (room : ℕ) (values : List T) → length (filled_up none room values) ≡ length values + (room - length values)
  length-filled_up room values = length-append values (replicate (room - length values) none) ∙ ap (λ (n : ℕ). length values + n) (length-replicate (room - length values) none)

  -- more places, with none in the new ones
  pub filled_up-more : (values : List T) (old new : ℕ) → old ≤ new → IsFilledUp none (filled_up none old values) (filled_up none new values)
  filled_up-more values old new more =
      let count : ℕ = length (filled_up none new values) - length (filled_up none old values) in
      let split : new - length values ≡ (old - length values) + count = omega (arith, length-filled_up old values, length-filled_up new values) in
      ap (λ (n : ℕ). values ++ replicate n none) split
      ∙ ap (λ (rest : List T). values ++ rest) (sym (replicate-append-replicate (old - length values) count none))
      ∙ sym (append_assoc values (replicate (old - length values) none) (replicate count none))

  -- the leaves go to the front of the second half of a longer list, and the rest of it has none
  pub values-moved : (tree wide moved : List T) (leaves count : ℕ) → 2 * (length tree / 2) ≡ length tree → leaves ≡ length tree / 2 → leaves ≤ count → wide ≡ tree ++ replicate (2 * count - length tree) none → length moved ≡ 2 * count → CopiedTo wide moved leaves count (2 * leaves - leaves) → SameFrom wide moved (count + (2 * leaves - leaves)) → values_of moved ≡ values_of tree ++ replicate (length (values_of moved) - length (values_of tree)) none
  values-moved tree wide moved leaves count even half more is size copied rest =
      let front : length (values_of tree) ≡ leaves = length-drop (length tree / 2) tree ∙ omega (arith, even, half) in
      let middle : length moved / 2 ≡ count = omega (arith, size) in
      let whole : length (values_of moved) ≡ count = length-drop (length moved / 2) moved ∙ omega (arith, size) in
      let behind : ℕ = length (values_of moved) - length (values_of tree) in
      let total : length (values_of tree ++ replicate behind none) ≡ count = length-append (values_of tree) (replicate behind none) ∙ omega (arith, front, whole, more, length-replicate behind none) in
      let at : (k : ℕ) → get_or (values_of moved) k none ≡ get_or moved (count + k) none = λ k. get_or-drop (length moved / 2) moved k none ∙ ap (λ (n : ℕ). get_or moved (n + k) none) middle in
      ext_get_or none (values_of moved) (values_of tree ++ replicate behind none) (whole ∙ sym total) (λ k inside.
      ⊎_elim
      (λ (early : k < leaves).
      let from : get_or moved (count + k) none ≡ get_or wide (leaves + (count + k - count)) none = copied (count + k) none (omega arith) (omega (arith, early)) in
      let same : leaves + (count + k - count) ≡ length tree / 2 + k = omega (arith, half) in
      at k ∙ from ∙ ap (λ (n : ℕ). get_or wide n none) same ∙ ap (λ (xs : List T). get_or xs (length tree / 2 + k) none) is
      ∙ get_or_append_left tree (replicate (2 * count - length tree) none) none (length tree / 2 + k) (omega (arith, early, half, even))
      ∙ sym (get_or-drop (length tree / 2) tree k none)
      ∙ sym (get_or_append_left (values_of tree) (replicate behind none) none k (omega (arith, front, early))))
      (λ (late : leaves ≤ k).
      let within : k < count = omega (arith, inside, whole) in
      at k ∙ rest (count + k) none (omega (arith, late)) ∙ ap (λ (xs : List T). get_or xs (count + k) none) is
      ∙ get_or-append_right tree (replicate (2 * count - length tree) none) (length tree) (count + k) none refl (omega (arith, late, half, even, more))
      ∙ get_or-replicate (2 * count - length tree) (count + k - length tree) none none (omega (arith, within, late, half, even, more))
      ∙ sym (get_or-replicate behind (k - leaves) none none (omega (arith, front, whole, within, late)))
      ∙ sym (get_or-append_right (values_of tree) (replicate behind none) leaves k none front late))
      (cases_lt k leaves))

  -- a value in a place of the tree
  pub filled_up-set : (room : ℕ) (values : List T) (place : ℕ) (value : T) → place < length values → filled_up none room (set values place value) ≡ set (filled_up none room values) place value
  filled_up-set room values place value inside =
      ap (λ (n : ℕ). set values place value ++ replicate (room - n) none) (length-set values place value)
      ∙ sym (set-append_left values (replicate (room - length values) none) place value inside)

  -- more leaves leave the values in all places
  pub filled_up-spread : (room : ℕ) (old new : List T) → length new ≤ room → IsFilledUp none old new → length old ≤ length new → filled_up none room new ≡ filled_up none room old
  filled_up-spread room old new fits is more =
      let count : ℕ = length new - length old in
      ap (λ (xs : List T). xs ++ replicate (room - length new) none) is
      ∙ append_assoc old (replicate count none) (replicate (room - length new) none)
      ∙ ap (λ (xs : List T). old ++ xs) (replicate-append-replicate count (room - length new) none)
      ∙ ap (λ (n : ℕ). old ++ replicate n none) (omega (arith, fits, more))

  -- a value in a place, once the tree has a leaf for it
  pub filled_up-put : (room : ℕ) (old spread put : List T) (place : ℕ) (value : T) → IsFilledUp none old spread → length spread ≤ room → place < length spread → put ≡ set spread place value → filled_up none room put ≡ set (filled_up none room old) place value
  filled_up-put room old spread put place value is fits inside values =
      let count : ℕ = length spread - length old in
      let more : length old ≤ length spread = omega (arith, ap length is, length-append old (replicate count none)) in
      ap (filled_up none room) values
      ∙ filled_up-set room spread place value inside
      ∙ ap (λ (xs : List T). set xs place value) (filled_up-spread room old spread fits is more)

  -- none behind the tree is there already
  pub filled_up-none : (room : ℕ) (values : List T) (place : ℕ) → length values ≤ place → set (filled_up none room values) place none ≡ filled_up none room values
  filled_up-none room values place behind =
      let all : List T = filled_up none room values in
      ext_get_or none (set all place none) all (length-set all place none) (λ k inside.
      let here : k < length all = omega (arith, inside, length-set all place none) in
      ⊎_elim
      (λ (e : k ≡ place).
      subst (λ (n : ℕ). get_or (set all place none) n none ≡ get_or all n none) (sym e)
      (get_or-set_same all place none none (omega (arith, here, e))
      ∙ sym (get_or-append_right values (replicate (room - length values) none) (length values) place none refl behind
      ∙ get_or-replicate (room - length values) (place - length values) none none (omega (arith, here, e, behind, length-filled_up room values)))))
      (λ (ne : k ≡ place → ⊥). get_or-set_other all place k none none ne)
      (cases_eq k place))

  -- the values in all places, where the tree was written through a slice
  pub filled_up-with_items : (room : ℕ) (tree : Vec T) (nodes : List T) → length nodes ≡ tree.len → filled_up none room (values_of (with_items tree nodes).items) ≡ filled_up none room (values_of nodes)
  filled_up-with_items room tree nodes same = ap (λ (xs : List T). filled_up none room (values_of xs)) (with_items_is tree nodes same)
