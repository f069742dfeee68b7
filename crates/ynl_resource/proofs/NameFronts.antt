-- The name in front of some bytes, and the name that all of them are.
use Rattle.std.proofs.Common.{inl, inr, suc, ◌≡◌, ℕ, ◌+◌, ◌-◌, ◌<◌, ◌≤◌, Bool, true, false, List, [], ◌∷◌, ◌++◌, length, take, drop, replicate, get_or, set, refl, sym, ap, ◌∙◌, arith, Option, Some, None, Result, Ok, Err, length-take-le, length-append, cond, if◌then◌else◌}
use Rattle.std.proofs.lemmas.Bool.{and_parts, and_from, cases_lt}
use Rattle.std.proofs.lemmas.Bool.Decides.{nat_tests}
use Rattle.std.proofs.lemmas.Option.{cond_some, same_Some}
use Rattle.std.proofs.lemmas.List.{take_all, drop_all, take-append-drop, append-nil, take_at, drop_at, length-replicate, set_at, take_more, append_assoc}
use Rattle.std.proofs.lemmas.List.Sums.{prefix_len-le-length, prefix_len-drop_no, prefix_len-drop_all}
use Rattle.std.specs.List.{list_all, prefix_len}
use Rattle.ynl_resource.specs.NameFields.{IsNamed}
use Rattle.ynl_resource.specs.NameText.{is_name, is_name_byte}
use Rattle.ynl_resource.specs.Names.{Name}
use Rattle.ynl_resource.specs.declared.names.BadName.{BadName}
use Rattle.ynl_resource.specs.Texts.{name_in_front, read_name, bad_name}

more_passes : (p : ℕ → Bool) (x : ℕ) (xs : List ℕ) (b : Bool) → p x ≡ b → list_all p (take (prefix_len p xs) xs) ≡ true → list_all p (take (cond b (1 + prefix_len p xs) 0) (x ∷ xs)) ≡ true
more_passes p x xs true h rest = ap (λ n. list_all p (take n (x ∷ xs))) ((let n = prefix_len p xs in let one : 1 + n ≡ suc n = omega arith in one)) ∙ and_from (p x) _ h rest
more_passes p x xs false h rest = refl

front_passes : (p : ℕ → Bool) (xs : List ℕ) → list_all p (take (prefix_len p xs) xs) ≡ true
front_passes p [] = refl
front_passes p (x ∷ xs) = more_passes p x xs (p x) refl (front_passes p xs)

all_pass : (p : ℕ → Bool) (xs : List ℕ) → list_all p xs ≡ true → prefix_len p xs ≡ length xs
all_pass p [] h = refl
all_pass p (x ∷ xs) h = let both = and_parts (p x) _ h in rw both.0 (omega (arith, all_pass p xs both.1))

front_named : (bytes : List ℕ) (len : ℕ) → prefix_len is_name_byte bytes ≡ len → 0 < len → len ≤ 64 → is_name (take len bytes) ≡ true
front_named bytes len h some small =
    let long : length (take len bytes) ≡ len = length-take-le len bytes (omega (arith, h, prefix_len-le-length is_name_byte bytes)) in
    let passes : list_all is_name_byte (take len bytes) ≡ true = ap (λ n. list_all is_name_byte (take n bytes)) (sym h) ∙ front_passes is_name_byte bytes in
    grind (arith, nat_tests)

pub front_some : (bytes : List ℕ) (len : ℕ) → prefix_len is_name_byte bytes ≡ len → 0 < len → len ≤ 64 → name_in_front bytes ≡ Some (take len bytes, drop len bytes)
unfolding name_in_front
front_some bytes len h some small = rw h (rw (front_named bytes len h some small) refl)

pub front_none : (bytes : List ℕ) (len : ℕ) → prefix_len is_name_byte bytes ≡ len → len ≡ 0 → name_in_front bytes ≡ None
unfolding name_in_front
front_none bytes len h none = rw (h ∙ none) refl

pub front_long : (bytes : List ℕ) → 64 < prefix_len is_name_byte bytes → name_in_front bytes ≡ None
unfolding name_in_front
front_long bytes h =
    let n = prefix_len is_name_byte bytes in
    let long : length (take n bytes) ≡ n = length-take-le n bytes (prefix_len-le-length is_name_byte bytes) in
    let other : is_name (take n bytes) ≡ false = grind (arith, nat_tests) in
    rw other refl

-- a name has itself in front, and nothing behind
whole_front : (t : List ℕ) → is_name t ≡ true → name_in_front t ≡ Some (t, [])
unfolding name_in_front
whole_front t h =
    let n : prefix_len is_name_byte t ≡ length t = all_pass is_name_byte t (and_parts _ (list_all is_name_byte t) h).1 in
    rw (n, take_all (length t) t (omega arith), drop_all (length t) t (omega arith), h) refl

some_none : (p : List ℕ × List ℕ) → ◌≡◌ {A = Option (Name × List ℕ)} (Some p) None → ⊥
some_none p h = absurd cc

all_read : (t name : List ℕ) → name_in_front t ≡ Some (name, []) → read_name t ≡ Ok name
unfolding name_in_front read_name
all_read t name h =
    let n = prefix_len is_name_byte t in
    let found = cond_some (is_name (take n t)) (take n t, drop n t) (name, []) h in
    let whole : take n t ≡ t = sym (append-nil (take n t)) ∙ ap (λ r. take n t ++ r) (sym (ap (λ p. p.1) found.1)) ∙ take-append-drop n t in
    let named : is_name t ≡ true = ap is_name (sym whole) ∙ found.0 in
    let same : t ≡ name = sym whole ∙ ap (λ p. p.0) found.1 in
    rw named (ap Ok same)

-- where nothing stands behind the name in front, it is all of the bytes
pub reads_whole : (t name rest : List ℕ) → name_in_front t ≡ Some (name, rest) → length rest ≡ 0 → read_name t ≡ Ok name
reads_whole t name [] h none = all_read t name h
reads_whole t name (b ∷ rest) h none = absurd (omega (arith, none))

refused : (b : Bool) (t : List ℕ) → ¬ (b ≡ true) → ◌≡◌ {A = Result Name BadName} (if b then Ok t else Err bad_name) (Err bad_name)
refused true t other = absurd (other refl)
refused false t other = refl

-- where nothing is in front, or something stands behind it, the bytes are no name
pub reads_none : (t : List ℕ) → name_in_front t ≡ None → read_name t ≡ Err bad_name
unfolding read_name
reads_none t h = refused (is_name t) t (λ named. some_none (t, []) (sym (whole_front t named) ∙ h))

pub reads_more : (t name rest : List ℕ) → name_in_front t ≡ Some (name, rest) → 0 < length rest → read_name t ≡ Err bad_name
unfolding read_name
reads_more t name rest h more = refused (is_name t) t (λ named. let behind : [] ≡ rest = ap (λ p. p.1) (same_Some (t, []) (name, rest) (sym (whole_front t named) ∙ h)) in omega (arith, more, ap length behind))

-- ---- where the loop over the bytes stands

-- the bytes end, or one stands there that may be in no name
pub front_ends : (bytes : List ℕ) (len : ℕ) → prefix_len is_name_byte bytes ≡ len + prefix_len is_name_byte (drop len bytes) → (len < length bytes → is_name_byte (get_or bytes len 0) ≡ false) → prefix_len is_name_byte bytes ≡ len
front_ends bytes len h other = elim (cases_lt len (length bytes)) [
  | inl inside ↦ omega (arith, h, prefix_len-drop_no is_name_byte bytes len 0 inside (other inside))
  | inr ended ↦ omega (arith, h, prefix_len-drop_all is_name_byte bytes len ended)
]

-- what is kept of them
pub kept_front : (bytes kept : List ℕ) (len : ℕ) → len ≤ length bytes → kept ≡ take len bytes ++ replicate (64 - len) 0 → take len kept ≡ take len bytes
kept_front bytes kept len inside h = ap (take len) h ∙ take_at (take len bytes) (replicate (64 - len) 0) len (length-take-le len bytes inside)

pub kept_named : (bytes kept : List ℕ) (len : ℕ) → len ≤ length bytes → kept ≡ take len bytes ++ replicate (64 - len) 0 → prefix_len is_name_byte bytes ≡ len → 0 < len → len ≤ 64 → IsNamed (record { bytes = kept; len = len })
kept_named bytes kept len inside h front some small = record {
  padded = record {
    whole = ap length h ∙ omega (arith, length-append (take len bytes) (replicate (64 - len) 0), length-take-le len bytes inside, length-replicate {A = ℕ} (64 - len) 0);
    within = small;
    rest = ap (drop len) h ∙ drop_at (take len bytes) (replicate (64 - len) 0) len (length-take-le len bytes inside);
  };
  name = ap is_name (kept_front bytes kept len inside h) ∙ front_named bytes len front some small;
}

-- one more of them is kept
pub kept_more : (bytes : List ℕ) (len : ℕ) → len < length bytes → len < 64 → set (take len bytes ++ replicate (64 - len) 0) len (get_or bytes len 0) ≡ take (len + 1) bytes ++ replicate (64 - (len + 1)) 0
kept_more bytes len inside small =
    let front : List ℕ = take len bytes in
    let behind : List ℕ = replicate (64 - (len + 1)) 0 in
    let place : 64 - len ≡ suc (64 - (len + 1)) = omega (arith, small) in
    ap (λ n. set (front ++ replicate n 0) len (get_or bytes len 0)) place
    ∙ set_at front 0 behind (get_or bytes len 0) len (length-take-le len bytes (omega (arith, inside)))
    ∙ sym (append_assoc front (get_or bytes len 0 ∷ []) behind)
    ∙ ap (λ xs. xs ++ behind) (sym (take_more bytes len 0 inside))
