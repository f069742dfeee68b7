-- What is printed of a value reads as the value, where its texts are UTF-8, its numbers whole and of 64 bits, and its keys ascend.
use Rattle.std.proofs.Common.{◌≡◌, ◌≤◌, ◌<◌, ◌^◌, ℕ, suc, max, List, [], ◌∷◌, ◌++◌, Bool, true, false, ◌&&◌, Option, Some, refl, sym, ap, ap₂, subst, ◌∙◌, append-nil, option_map, option_and_then}
use Rattle.std.specs.Prelude.{IsUtf8}
use Rattle.std.specs.List.{list_all}
use Rattle.std.specs.Ordering.{nat_cmp, match_ordering}
use Rattle.std.specs.declared.cmp.Ordering.{Ordering}
use Rattle.std.specs.declared.cmp.Ordering.TheVariants.{Less, Equal, Greater}
use Rattle.std.specs.Cmp.Lexicographic.{slice_cmp}
use Rattle.std.proofs.lemmas.Bool.{and_parts}
use Rattle.std.proofs.lemmas.Str.{IsUtf8-append, IsUtf8-nil}
use Rattle.json.specs.Token.{Token}
use Rattle.json.specs.Lex.{tokens}
use Rattle.json.specs.Json as json
use Rattle.json.specs.Print.{quoted}
use Rattle.json.specs.Tree.{json_tokens, HasNumbers, ItemsHaveNumbers, MembersHaveNumbers}
use Rattle.json.specs.Tree as tree
use Rattle.json.proofs.Printed.Decimals.{IsNumber-decimal}
use Rattle.json.proofs.Printed.Tokens.{tokens-print}
use Rattle.json.proofs.Printed.Trees.{value-json_tokens, ArePrintable-json_tokens}
use Rattle.json.proofs.Printed.Utf8.{are_ascii, IsUtf8-are_ascii, IsUtf8-quoted, IsUtf8-boolean}
use Rattle.serde_json.specs.Data.{Num, unsigned, negative, float, Data, null, boolean, number, string, array, object, Items, no_items, item, Members, no_members, member, put, depth, items_depth, members_depth}
use Rattle.serde_json.specs.Read.{read, number_of, of_json, of_items, of_members, max_depth}
use Rattle.serde_json.specs.Written.{number_text, outline, items_outline, members_outline, comma_if, compact_text, items_text, members_text}
use Rattle.serde_json.proofs.Numbers.{number_of-decimal}
use Rattle.serde_json.proofs.Texts.{print-outline}
use Rattle.ynl_fields.specs.Reading.{reading}
use Rattle.ynl_fields.proofs.Utf8.{utf8_decimal}
use Rattle.ynl_fields.proofs.Readings.{reading_text}

-- ---- objects whose keys ascend

-- whether a key goes behind another
abbrev is_behind : List ℕ → List ℕ → Bool
is_behind k l = match_ordering (slice_cmp nat_cmp k l) false false true

-- whether the keys are ASCII, and each goes behind those before it
abbrev pub ascend : List (List ℕ) → Members → Bool
ascend before no_members = true
ascend before (member k d ms) = are_ascii k && (list_all (is_behind k) before && ascend (before ++ k ∷ []) ms)

abbrev keys : Members → List (List ℕ)
keys no_members = []
keys (member k d ms) = k ∷ keys ms

abbrev join : Members → Members → Members
join no_members more = more
join (member k d ms) more = member k d (join ms more)

join-none : (ms : Members) → join ms no_members ≡ ms
join-none no_members = refl
join-none (member k d ms) = ap (member k d) (join-none ms)

join-assoc : (a b c : Members) → join (join a b) c ≡ join a (join b c)
join-assoc no_members b c = refl
join-assoc (member k d ms) b c = ap (member k d) (join-assoc ms b c)

keys-join : (a b : Members) → keys (join a b) ≡ keys a ++ keys b
keys-join no_members b = refl
keys-join (member k d ms) b = ap (λ ks. k ∷ ks) (keys-join ms b)

behind_all : {A : Type 0} (a b c : A) (o : Ordering) → match_ordering o false false true ≡ true → match_ordering o a b c ≡ c
behind_all a b c Less h = absurd (cc)
behind_all a b c Equal h = absurd (cc)
behind_all a b c Greater h = refl

put_last : (k : List ℕ) (d : Data) (ms : Members) → list_all (is_behind k) (keys ms) ≡ true → put k d ms ≡ join ms (member k d no_members)
put_last k d no_members h = refl
put_last k d (member l e ms) h =
    let p = and_parts (is_behind k l) _ h in
    behind_all (member k d (member l e ms)) (member l d ms) (member l e (put k d ms)) (slice_cmp nat_cmp k l) p.0 ∙ ap (member l e) (put_last k d ms p.1)

-- ---- values

abbrev pub IsWhole : Num → Type 0
IsWhole (unsigned n) = n < 2 ^ 64
IsWhole (negative z) = ⊥
IsWhole (float x) = ⊥

-- the value has the text that it should have
abbrev mutual
  pub IsClean : Data → Type 0
  IsClean null = Unit {0}
  IsClean (boolean b) = Unit {0}
  IsClean (number n) = IsWhole n
  IsClean (string s) = IsUtf8 s
  IsClean (array ds) = AreClean ds
  IsClean (object ms) = (ascend [] ms ≡ true) × HaveClean ms

  pub AreClean : Items → Type 0
  AreClean no_items = Unit {0}
  AreClean (item d ds) = IsClean d × AreClean ds

  pub HaveClean : Members → Type 0
  HaveClean no_members = Unit {0}
  HaveClean (member k d ms) = IsClean d × HaveClean ms

number_back : (n : Num) → IsWhole n → number_of (number_text n) ≡ Some n
number_back (unsigned n) h = number_of-decimal n h
number_back (negative z) h = absurd h
number_back (float x) h = absurd h

mutual
  value_back : (d : Data) → IsClean d → of_json (outline d) ≡ Some d
  value_back null c = refl
  value_back (boolean b) c = refl
  value_back (number n) c = ap (option_map number) (number_back n c)
  value_back (string s) c = refl
  value_back (array ds) c = ap (option_map array) (items_back ds c)
  value_back (object ms) c = ap (option_map object) (members_back ms no_members c.0 c.1)

  items_back : (ds : Items) → AreClean ds → of_items (items_outline ds) ≡ Some ds
  items_back no_items c = refl
  items_back (item d ds) c =
      ap (option_and_then (λ d. option_map (item d) (of_items (items_outline ds)))) (value_back d c.0) ∙ ap (option_map (item d)) (items_back ds c.1)

  members_back : (ms found : Members) → ascend (keys found) ms ≡ true → HaveClean ms → of_members (members_outline ms) found ≡ Some (join found ms)
  members_back no_members found up c = ap Some (sym (join-none found))
  members_back (member k d ms) found up c =
      let p = and_parts (list_all (is_behind k) (keys found)) _ (and_parts (are_ascii k) _ up).1 in
      let next = join found (member k d no_members) in
      ap (option_and_then (λ d. of_members (members_outline ms) (put k d found))) (value_back d c.0)
      ∙ ap (of_members (members_outline ms)) (put_last k d found p.0)
      ∙ members_back ms next (subst (λ ks. ascend ks ms ≡ true) (sym (keys-join found (member k d no_members))) p.1) c.1
      ∙ ap Some (join-assoc found (member k d no_members) ms)

number_printed : (n : Num) → IsWhole n → HasNumbers (json.number (number_text n))
number_printed (unsigned n) h = IsNumber-decimal n h
number_printed (negative z) h = absurd h
number_printed (float x) h = absurd h

mutual
  printed : (d : Data) → IsClean d → HasNumbers (outline d)
  printed null c = tt
  printed (boolean b) c = tt
  printed (number n) c = number_printed n c
  printed (string s) c = tt
  printed (array ds) c = items_printed ds c
  printed (object ms) c = members_printed ms c.1

  items_printed : (ds : Items) → AreClean ds → ItemsHaveNumbers (items_outline ds)
  items_printed no_items c = tt
  items_printed (item d ds) c = (printed d c.0, items_printed ds c.1)

  members_printed : (ms : Members) → HaveClean ms → MembersHaveNumbers (members_outline ms)
  members_printed no_members c = tt
  members_printed (member k d ms) c = (printed d c.0, members_printed ms c.1)

number_utf8 : (n : Num) → IsWhole n → IsUtf8 (number_text n)
number_utf8 (unsigned n) h = utf8_decimal n h
number_utf8 (negative z) h = absurd h
number_utf8 (float x) h = absurd h

comma_utf8 : (later : Bool) → IsUtf8 (comma_if later)
comma_utf8 true = IsUtf8-are_ascii (44 ∷ []) refl
comma_utf8 false = IsUtf8-nil

mutual
  text_utf8 : (d : Data) → IsClean d → IsUtf8 (compact_text d)
  text_utf8 null c = IsUtf8-are_ascii _ refl
  text_utf8 (boolean b) c = IsUtf8-boolean b
  text_utf8 (number n) c = number_utf8 n c
  text_utf8 (string s) c = IsUtf8-quoted s c
  text_utf8 (array ds) c = IsUtf8-append (91 ∷ []) (items_text false ds) (IsUtf8-are_ascii (91 ∷ []) refl) (items_utf8 false ds c)
  text_utf8 (object ms) c = IsUtf8-append (123 ∷ []) (members_text false ms) (IsUtf8-are_ascii (123 ∷ []) refl) (members_utf8 false [] ms c.0 c.1)

  items_utf8 : (later : Bool) (ds : Items) → AreClean ds → IsUtf8 (items_text later ds)
  items_utf8 later no_items c = IsUtf8-are_ascii (93 ∷ []) refl
  items_utf8 later (item d ds) c =
      IsUtf8-append (comma_if later) (compact_text d ++ items_text true ds) (comma_utf8 later)
      (IsUtf8-append (compact_text d) (items_text true ds) (text_utf8 d c.0) (items_utf8 true ds c.1))

  members_utf8 : (later : Bool) (before : List (List ℕ)) (ms : Members) → ascend before ms ≡ true → HaveClean ms → IsUtf8 (members_text later ms)
  members_utf8 later before no_members up c = IsUtf8-are_ascii (125 ∷ []) refl
  members_utf8 later before (member k d ms) up c =
      let p = and_parts (are_ascii k) _ up in
      let more = (and_parts (list_all (is_behind k) before) _ p.1).1 in
      let rest = compact_text d ++ members_text true ms in
      IsUtf8-append (comma_if later) (quoted k ++ 58 ∷ rest) (comma_utf8 later)
      (IsUtf8-append (quoted k) (58 ∷ rest) (IsUtf8-quoted k (IsUtf8-are_ascii k p.0))
      (IsUtf8-append (58 ∷ []) rest (IsUtf8-are_ascii (58 ∷ []) refl)
      (IsUtf8-append (compact_text d) (members_text true ms) (text_utf8 d c.0) (members_utf8 true (before ++ k ∷ []) ms more c.1))))

mutual
  outline_depth : (d : Data) → tree.depth (outline d) ≡ depth d
  outline_depth null = refl
  outline_depth (boolean b) = refl
  outline_depth (number n) = refl
  outline_depth (string s) = refl
  outline_depth (array ds) = ap suc (items_outline_depth ds)
  outline_depth (object ms) = ap suc (members_outline_depth ms)

  items_outline_depth : (ds : Items) → tree.items_depth (items_outline ds) ≡ items_depth ds
  items_outline_depth no_items = refl
  items_outline_depth (item d ds) = ap₂ max (outline_depth d) (items_outline_depth ds)

  members_outline_depth : (ms : Members) → tree.members_depth (members_outline ms) ≡ members_depth ms
  members_outline_depth no_members = refl
  members_outline_depth (member k d ms) = ap₂ max (outline_depth d) (members_outline_depth ms)

abbrev found : Option (json.Json × List Token) → Option Data
found o = option_and_then of_json (option_and_then (λ p. json.if_last p.0 p.1) o)

pub text_reads : (d : Data) → IsClean d → depth d ≤ max_depth → reading (compact_text d) ≡ Some d
text_reads d c flat =
    let j : json.Json = outline d in
    let here : tokens (compact_text d) ≡ json_tokens j = ap tokens (sym (print-outline d)) ∙ tokens-print (json_tokens j) (ArePrintable-json_tokens j (printed d c)) in
    let shallow : tree.depth j ≤ max_depth = subst (λ n. n ≤ max_depth) (sym (outline_depth d)) flat in
    let whole : read (compact_text d) ≡ Some d = ap found (ap (json.value max_depth) (here ∙ sym (append-nil (json_tokens j))) ∙ value-json_tokens j max_depth [] shallow) ∙ value_back d c in
    reading_text (compact_text d) d (text_utf8 d c) whole
