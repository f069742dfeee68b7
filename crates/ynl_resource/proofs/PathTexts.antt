-- The text of a path, and reading it.
use Rattle.std.proofs.Common.{length-append, ◌≡◌, ℕ, ◌+◌, ◌-◌, ◌<◌, ◌≤◌, nat_lt, true, false, List, [], ◌∷◌, ◌++◌, length, drop, replicate, set, count_by, refl, sym, ap, ◌∙◌, arith, Ok, Err, codes, append_assoc}
use Rattle.std.proofs.lemmas.Bool.{and_parts, and_left, and_right, lt-ltb, le-ltb}
use Rattle.std.proofs.lemmas.Bool.Decides.{nat_tests}
use Rattle.std.proofs.lemmas.List.{length-set, drop-set-lt, drop-replicate, drop-drop}
use Rattle.std.proofs.lemmas.List.Folds.{list_all-append}
use Rattle.std.proofs.lemmas.Slice.Eq.{bytes_eq-Decides}
use Rattle.std.proofs.lemmas.List.Splits.{length-slice_split}
use Rattle.std.specs.List.{list_all, slice_split, join_with_byte}
use Rattle.ynl_resource.specs.NameText.{is_name}
use Rattle.ynl_resource.specs.Names.{Path, same_name}
use Rattle.ynl_resource.specs.Padded.{IsPadded}
use Rattle.ynl_resource.specs.PathFields.{filler}
use Rattle.ynl_resource.specs.declared.paths.PathFault.TheVariants.{TooDeep, BadPath}
use Rattle.ynl_resource.specs.Texts.{is_dot, read_path, path_of}
use Rattle.ynl_resource.specs.Ranges.{most_names}
use Rattle.ynl_resource.proofs.Bytes.{slice_split-Lacks, slice_split-at}
use Rattle.ynl_resource.proofs.IdTexts.{is_name_lacks}

pub join_push : (c : ℕ) (x : List ℕ) (xs : List (List ℕ)) (y : List ℕ) → join_with_byte c (x ∷ (xs ++ y ∷ [])) ≡ join_with_byte c (x ∷ xs) ++ (c ∷ y)
join_push c x [] y = refl
join_push c x (z ∷ zs) y = ap (λ l. x ++ (c ∷ l)) (join_push c z zs y) ∙ sym (append_assoc x (c ∷ join_with_byte c (z ∷ zs)) (c ∷ y))

split_join : (x : List ℕ) (xs : List (List ℕ)) → is_name x ≡ true → list_all is_name xs ≡ true → slice_split is_dot (join_with_byte 46 (x ∷ xs)) ≡ x ∷ xs
split_join x [] h hs = slice_split-Lacks 46 x (is_name_lacks 46 refl x h)
split_join x (y ∷ ys) h hs =
    slice_split-at 46 x (join_with_byte 46 (y ∷ ys)) (is_name_lacks 46 refl x h)
    ∙ ap (λ l. x ∷ l) (split_join y ys (and_parts (is_name y) _ hs).0 (and_parts (is_name y) _ hs).1)

pub reads_path : (path : Path) → length path ≤ 7 → list_all is_name path ≡ true → read_path (join_with_byte 46 (codes "root" ∷ path)) ≡ Ok path
unfolding read_path
reads_path path short names =
    let n : nat_lt most_names (length (codes "root" ∷ path)) ≡ false = grind (arith, nat_tests) in
    rw (split_join (codes "root") path refl names, n, names)

-- ---- reading: what the parts of a text say

split_len : (t : List ℕ) → length (slice_split is_dot t) ≡ count_by is_dot t + 1
split_len t = length-slice_split is_dot t

pub too_deep : (t : List ℕ) → 7 < count_by is_dot t → read_path t ≡ Err TooDeep
unfolding read_path
too_deep t h = rw (lt-ltb most_names (length (slice_split is_dot t)) (omega (arith, split_len t)))

pub parts_few : (t : List ℕ) → count_by is_dot t ≤ 7 → length (slice_split is_dot t) ≤ 8
parts_few t h = omega (arith, split_len t)

read_parts : (t : List ℕ) (parts : List (List ℕ)) → slice_split is_dot t ≡ parts → length (slice_split is_dot t) ≤ 8 → read_path t ≡ path_of parts
unfolding read_path
read_parts t parts h few = rw (le-ltb most_names (length (slice_split is_dot t)) few) (ap path_of h)

pub other_root : (t first : List ℕ) (rest : List (List ℕ)) → slice_split is_dot t ≡ first ∷ rest → length (slice_split is_dot t) ≤ 8 → same_name first (codes "root") ≡ false → read_path t ≡ Err BadPath
other_root t first rest h few other = read_parts t _ h few ∙ rw other

pub bad_part : (t part : List ℕ) (before after : List (List ℕ)) → slice_split is_dot t ≡ codes "root" ∷ (before ++ part ∷ after) → length (slice_split is_dot t) ≤ 8 → is_name part ≡ false → read_path t ≡ Err BadPath
bad_part t part before after h few other =
    let parts : list_all is_name (before ++ part ∷ after) ≡ false = list_all-append is_name before (part ∷ after) ∙ and_right (list_all is_name before) _ (and_left (is_name part) _ other) in
    read_parts t _ h few ∙ rw parts

drop-one : (names : List (List ℕ)) (len : ℕ) → drop len names ≡ replicate (7 - len) filler → drop (len + 1) names ≡ replicate (7 - (len + 1)) filler
drop-one names len h =
    let n : 7 - len - 1 ≡ 7 - (len + 1) = omega arith in
    sym (drop-drop 1 len names) ∙ ap (drop 1) h ∙ drop-replicate 1 (7 - len) filler ∙ ap (λ k. replicate k filler) n

-- one more name in the place
pub place_more : (names : List (List ℕ)) (len : ℕ) (x : List ℕ) → len < 7 → IsPadded 7 filler names len → IsPadded 7 filler (set names len x) (len + 1)
place_more names len x room p = record {
  whole = length-set names len x ∙ p.whole;
  within = omega arith;
  rest =
      drop-set-lt (len + 1) names len x (omega arith)
      ∙ drop-one names len p.rest;
}

pub same_text : (xs ys : List ℕ) → same_name xs ys ≡ true → xs ≡ ys
same_text xs ys h = (bytes_eq-Decides xs ys).0 h

-- a part that follows leaves room for its name
pub room : (t part : List ℕ) (before after : List (List ℕ)) → slice_split is_dot t ≡ codes "root" ∷ (before ++ part ∷ after) → length (slice_split is_dot t) ≤ 8 → length before < 7
room t part before after h few = omega (arith, ap length h, length-append before (part ∷ after))
