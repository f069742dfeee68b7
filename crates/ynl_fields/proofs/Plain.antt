-- A plain tree, and what serde_json reads of it.
use mathlib.Core.Bool.{true≢false}
use Rattle.std.specs.Prelude.{⊤, is_none}
use Rattle.std.proofs.Common.{◌≡◌, ℕ, suc, ◌+◌, Bool, true, false, cond, List, [], ◌∷◌, length, Option, Some, None, refl, sym, ap, subst, ◌∙◌, arith, option_map, option_and_then}
use Rattle.std.proofs.Common.{Ordering, Less, Equal, Greater, nat_cmp}
use Rattle.std.specs.Ordering.{match_ordering}
use Rattle.std.specs.Cmp.Lexicographic.{slice_cmp}
use Rattle.std.specs.Borrow.{Bor}
use Rattle.std.specs.Str.{bytes_eq}
use Rattle.std.proofs.lemmas.Slice.Eq.{bytes_eq-Decides}
use Rattle.json.specs.Json as json
use Rattle.json.specs.Find as json_find
use Rattle.json.specs.Value.{members_view}
use Rattle.json.specs.declared.value.Value.{Value}
use Rattle.serde_json.specs.Data.{Data, Num, Members, object, number, string, unsigned, negative, float, no_members, member, put}
use Rattle.serde_json.specs.Events.{members_len}
use Rattle.serde_json.specs.Find.{get, get_member, as_object, as_array}
use Rattle.serde_json.specs.Read.{number_of, of_json, of_members}
use Rattle.serde_json.proofs.Views.{get_member-put, get_member-put_other}
use Rattle.std.proofs.lemmas.Bool.{and_parts}
use Rattle.ynl_fields.specs.Trees.{is_unsigned, is_whole, is_plain, are_plain, are_distinct, data_of, or_null}

-- ---- serde_json reads it

unsigned_is : (o : Option Num) → is_unsigned o ≡ true → (n : ℕ) × (o ≡ Some (unsigned n))
unsigned_is None h = absurd (true≢false (sym h))
unsigned_is (Some (unsigned n)) h = (n, refl)
unsigned_is (Some (negative z)) h = absurd (true≢false (sym h))
unsigned_is (Some (float x)) h = absurd (true≢false (sym h))

pub whole : (s : List ℕ) → is_whole s ≡ true → (n : ℕ) × (number_of s ≡ Some (unsigned n))
whole s h = unsigned_is (number_of s) h

mutual
  read_some : (j : json.Json) → is_plain j ≡ true → (d : Data) × (of_json j ≡ Some d)
  read_some json.null h = absurd (true≢false (sym h))
  read_some (json.boolean b) h = absurd (true≢false (sym h))
  read_some (json.number s) h = let n = whole s h in (number (unsigned n.0), ap (option_map number) n.1)
  read_some (json.string s) h = (string s, refl)
  read_some (json.array js) h = absurd (true≢false (sym h))
  read_some (json.object ms) h = let r = members_some ms no_members (and_parts _ _ h).0 in (object r.0, ap (option_map object) r.1)

  members_some : (ms : json.Members) (found : Members) → are_plain ms ≡ true → (r : Members) × (of_members ms found ≡ Some r)
  members_some json.no_members found h = (found, refl)
  members_some (json.member k j ms) found h =
      let d = read_some j (and_parts _ _ h).0 in
      let r = members_some ms (put k d.0 found) (and_parts _ _ h).1 in
      (r.0, ap (option_and_then (λ d. of_members ms (put k d found))) d.1 ∙ r.1)

pub read_plain : (j : json.Json) → is_plain j ≡ true → of_json j ≡ Some (data_of j)
read_plain j h = let d = read_some j h in d.1 ∙ ap Some (sym (ap or_null d.1))

-- an object is read as the members that come of its own
object_some : (ms : json.Members) → are_plain ms ≡ true → (r : Members) × (of_members ms no_members ≡ Some r) × (data_of (json.object ms) ≡ object r)
object_some ms h = let r = members_some ms no_members h in (r.0, r.1, ap (λ o. or_null (option_map object o)) r.1)

-- ---- what stands under a key

abbrev earlier_or : Option Data → Option Data → Option Data
earlier_or None found = found
earlier_or (Some d) found = Some d

later : (o : Option json.Json) (b : Bool) (j : json.Json) (p q : Option Data) → (b ≡ true → p ≡ Some (data_of j)) → (b ≡ false → p ≡ q)
    → earlier_or (option_map data_of o) p ≡ earlier_or (option_map data_of (json_find.later_or o (cond b (Some j) None))) q
later (Some i) b j p q here elsewhere = refl
later None true j p q here elsewhere = here refl
later None false j p q here elsewhere = elsewhere refl

other_key : (l k : List ℕ) → bytes_eq l k ≡ false → l ≡ k → ⊥
other_key l k e is = true≢false (sym ((bytes_eq-Decides l k).1 is) ∙ e)

found_member : (k : List ℕ) (ms : json.Members) (found r : Members) → are_plain ms ≡ true → of_members ms found ≡ Some r → get_member k r ≡ earlier_or (option_map data_of (json_find.get_member k ms)) (get_member k found)
found_member k json.no_members found r h e = let same : found ≡ r = cc in ap (get_member k) (sym same)
found_member k (json.member l j ms) found r h e =
    let d : Data = data_of j in
    let more : of_members ms (put l d found) ≡ Some r = sym (ap (option_and_then (λ d. of_members ms (put l d found))) (read_plain j (and_parts _ _ h).0)) ∙ e in
    found_member k ms (put l d found) r (and_parts _ _ h).1 more
    ∙ later (json_find.get_member k ms) (bytes_eq l k) j (get_member k (put l d found)) (get_member k found)
    (λ e. ap (λ k. get_member k (put l d found)) (sym ((bytes_eq-Decides l k).0 e)) ∙ get_member-put l d found)
    (λ e. get_member-put_other k l d found (λ is. other_key l k e (sym is)))

none_found : (o : Option Data) → earlier_or o None ≡ o
none_found None = refl
none_found (Some d) = refl

pub get_plain : (k : List ℕ) (j : json.Json) → is_plain j ≡ true → get k (data_of j) ≡ option_map data_of (json_find.get k j)
get_plain k json.null h = absurd (true≢false (sym h))
get_plain k (json.boolean b) h = absurd (true≢false (sym h))
get_plain k (json.number s) h = ap (λ o. get k (or_null (option_map number o))) (whole s h).1
get_plain k (json.string s) h = refl
get_plain k (json.array js) h = absurd (true≢false (sym h))
get_plain k (json.object ms) h =
    let plain = (and_parts _ _ h).0 in
    let r = object_some ms plain in
    ap (get k) r.2 ∙ found_member k ms no_members r.0 plain r.1 ∙ none_found (option_map data_of (json_find.get_member k ms))

-- and it is plain too
plain_later : (o : Option json.Json) (b : Bool) (j i : json.Json) → is_plain j ≡ true → ((i : json.Json) → o ≡ Some i → is_plain i ≡ true) → json_find.later_or o (cond b (Some j) None) ≡ Some i → is_plain i ≡ true
plain_later (Some x) b j i h f e = f i e
plain_later None true j i h f e = let same : j ≡ i = cc in subst (λ j. is_plain j ≡ true) same h
plain_later None false j i h f e = absurd (true≢false (ap is_none e))

plain_member : (k : List ℕ) (ms : json.Members) → are_plain ms ≡ true → (i : json.Json) → json_find.get_member k ms ≡ Some i → is_plain i ≡ true
plain_member k json.no_members h i e = absurd (true≢false (ap is_none e))
plain_member k (json.member l j ms) h i e = plain_later (json_find.get_member k ms) (bytes_eq l k) j i (and_parts _ _ h).0 (plain_member k ms (and_parts _ _ h).1) e

pub plain_under : (k : List ℕ) (j i : json.Json) → is_plain j ≡ true → json_find.get k j ≡ Some i → is_plain i ≡ true
plain_under k json.null i h e = absurd (true≢false (sym h))
plain_under k (json.boolean b) i h e = absurd (true≢false (sym h))
plain_under k (json.number s) i h e = absurd (true≢false (ap is_none e))
plain_under k (json.string s) i h e = absurd (true≢false (ap is_none e))
plain_under k (json.array js) i h e = absurd (true≢false (sym h))
plain_under k (json.object ms) i h e = plain_member k ms (and_parts _ _ h).0 i e

-- ---- what else it is not, and how many members there are

pub no_array : (j : json.Json) → is_plain j ≡ true → as_array (data_of j) ≡ None
no_array json.null h = refl
no_array (json.boolean b) h = refl
no_array (json.number s) h = ap (λ o. as_array (or_null (option_map number o))) (whole s h).1
no_array (json.string s) h = refl
no_array (json.array js) h = absurd (true≢false (sym h))
no_array (json.object ms) h = ap as_array (object_some ms (and_parts _ _ h).0).2

put_new_at : (o : Ordering) (k l : List ℕ) (d e : Data) (ms : Members) → slice_cmp nat_cmp k l ≡ o → get_member k (member l e ms) ≡ None → (get_member k ms ≡ None → members_len (put k d ms) ≡ suc (members_len ms)) → members_len (put k d (member l e ms)) ≡ suc (suc (members_len ms))
put_new_at Less k l d e ms is none more = ap (λ o. members_len (match_ordering o (member k d (member l e ms)) (member l d ms) (member l e (put k d ms)))) is
put_new_at Equal k l d e ms is none more = absurd (let found : Some e ≡ None = sym (ap (λ o. match_ordering o (get_member k ms) (Some e) (get_member k ms)) is) ∙ none in cc)
put_new_at Greater k l d e ms is none more =
    ap (λ o. members_len (match_ordering o (member k d (member l e ms)) (member l d ms) (member l e (put k d ms)))) is
    ∙ ap suc (more (sym (ap (λ o. match_ordering o (get_member k ms) (Some e) (get_member k ms)) is) ∙ none))

put_new : (k : List ℕ) (d : Data) (ms : Members) → get_member k ms ≡ None → members_len (put k d ms) ≡ suc (members_len ms)
put_new k d no_members none = refl
put_new k d (member l e ms) none = put_new_at (slice_cmp nat_cmp k l) k l d e ms refl none (put_new k d ms)

-- none of the keys is there
abbrev Lacks : json.Members → Members → Type 0
Lacks json.no_members found = ⊤
Lacks (json.member k j ms) found = (get_member k found ≡ None) × Lacks ms found

is_none_is : {A : Type 0} → (o : Option A) → is_none o ≡ true → o ≡ None
is_none_is None h = refl
is_none_is (Some x) h = absurd (true≢false (sym h))

later_none : (o : Option json.Json) (b : Bool) (j : json.Json) → json_find.later_or o (cond b (Some j) None) ≡ None → (o ≡ None) × (b ≡ false)
later_none (Some x) b j e = absurd (let impossible : Some x ≡ None = e in cc)
later_none None true j e = absurd (let impossible : Some j ≡ None = e in cc)
later_none None false j e = (refl, refl)

lacks_more : (l : List ℕ) (d : Data) (ms : json.Members) (found : Members) → json_find.get_member l ms ≡ None → Lacks ms found → Lacks ms (put l d found)
lacks_more l d json.no_members found none h = tt
lacks_more l d (json.member k j ms) found none h =
    let split = later_none (json_find.get_member l ms) (bytes_eq k l) j none in
    (get_member-put_other k l d found (other_key k l split.1) ∙ h.0, lacks_more l d ms found split.0 h.1)

abbrev pub count : json.Members → ℕ
count json.no_members = 0
count (json.member k j ms) = suc (count ms)

counted : (ms : json.Members) (found r : Members) → are_plain ms ≡ true → are_distinct ms ≡ true → Lacks ms found → of_members ms found ≡ Some r → members_len r ≡ members_len found + count ms
counted json.no_members found r h apart lacks e = let same : found ≡ r = cc in ap members_len (sym same) ∙ omega arith
counted (json.member k j ms) found r h apart lacks e =
    let d : Data = data_of j in
    let more : of_members ms (put k d found) ≡ Some r = sym (ap (option_and_then (λ d. of_members ms (put k d found))) (read_plain j (and_parts _ _ h).0)) ∙ e in
    let rest : members_len r ≡ members_len (put k d found) + count ms =
    counted ms (put k d found) r (and_parts _ _ h).1 (and_parts _ _ apart).1 (lacks_more k d ms found (is_none_is (json_find.get_member k ms) (and_parts _ _ apart).0) lacks.1) more in
    rest ∙ (ap (λ n. n + count ms) (put_new k d found lacks.0) ∙ omega arith)

lacks_nothing : (ms : json.Members) → Lacks ms no_members
lacks_nothing json.no_members = tt
lacks_nothing (json.member k j ms) = (refl, lacks_nothing ms)

pub count_plain : (ms : json.Members) → is_plain (json.object ms) ≡ true → option_map members_len (as_object (data_of (json.object ms))) ≡ Some (count ms)
count_plain ms h =
    let plain = (and_parts _ _ h).0 in
    let r = object_some ms plain in
    ap (λ d. option_map members_len (as_object d)) r.2 ∙ ap Some (let n : members_len r.0 ≡ members_len no_members + count ms = counted ms no_members r.0 plain (and_parts _ _ h).1 (lacks_nothing ms) r.1 in omega (arith, n))

pub count_view : {A : Type 0} → (ms : List (Bor (List ℕ) × Value A)) → count (members_view ms) ≡ length ms
count_view [] = refl
count_view (m ∷ ms) = ap suc (count_view ms)
