-- The map from queues to their places, as one row after another is added.
use Rattle.std.proofs.Common.{◌≡◌, ℕ, ◌+◌, ◌<◌, ◌≤◌, Bool, true, false, not, cond, List, [], ◌∷◌, ◌++◌, length, take, get_or, Option, Some, None, Vec, Global, refl, sym, ap, ◌∙◌, arith, length-append}
use Rattle.std.specs.Prelude.{is_some}
use Rattle.std.specs.List.{position, position_or_len}
use Rattle.std.specs.Map.{lookup}
use Rattle.std.specs.Option.{option_or}
use Rattle.std.specs.BTreeMap.{BTreeMap, insert_entry}
use Rattle.std.specs.Ordering.{is_eq, match_ordering}
use Rattle.std.specs.declared.cmp.Ordering.{Ordering}
use Rattle.std.specs.declared.cmp.Ordering.TheVariants.{Less, Equal, Greater}
use Rattle.std.specs.Cmp.Lexicographic.{slice_cmp, lists_ties, texts_ties, pointwise_decides, bytes_decides}
use Rattle.std.proofs.lemmas.List.{take_more, length-take-le}
use Rattle.std.proofs.lemmas.List.Sums.{prefix_len-le-length}
use Rattle.std.proofs.lemmas.List.Folds.{position_or_len_push}
use Rattle.std.proofs.lemmas.Bool.Decides.{nat_tests}
use mathlib.Core.Bool.{true≢false}
use Rattle.ynl_resource.specs.Names.{name_order, same_path}
use Rattle.ynl_resource.specs.declared.names.Name.{Name}
use Rattle.ynl_resource.specs.declared.paths.Path.{Path}
use Rattle.ynl_model.specs.Queues.{QueueRow}
use Rattle.ynl_queues.specs.Index.{place_in, ArePlaces}
use Rattle.ynl_queues.proofs.Places.{same_path_equal}

-- ---- a look-up after an entry is put in

module _ {K X : Type 0} (cmp : K → K → Ordering) (test : K → Bool) (alike : (x y : K) → cmp x y ≡ Equal → test x ≡ test y) (one : (x y : K) → test x ≡ true → test y ≡ true → cmp x y ≡ Equal) where
  level : (a b : Bool) (v w : X) (rest : Option X) → b ≡ a → cond a (Some v) rest ≡ cond b (Some v) (cond a (Some w) rest)
  level true true v w rest e = refl
  level true false v w rest e = absurd (true≢false (sym e))
  level false true v w rest e = absurd (true≢false e)
  level false false v w rest e = refl

  pub lookup_inserted : (es : List (K × X)) (k : K) (v : X) → lookup test (insert_entry cmp es k v) ≡ cond (test k) (Some v) (lookup test es)
  lookup_inserted [] k v = refl
  lookup_inserted (e ∷ es) k v = go (cmp k e.0) refl (lookup_inserted es k v)
    where
      above : (a b : Bool) → test e.0 ≡ a → test k ≡ b → cmp k e.0 ≡ Greater → lookup test (insert_entry cmp es k v) ≡ cond (test k) (Some v) (lookup test es)
          → cond a (Some e.1) (lookup test (insert_entry cmp es k v)) ≡ cond b (Some v) (cond a (Some e.1) (lookup test es))
      above true true here there c rest = let same : cmp k e.0 ≡ Equal = one k e.0 there here in cc
      above true false here there c rest = refl
      above false b here there c rest = rest ∙ ap (λ z. cond z (Some v) (lookup test es)) there

      go : (o : Ordering) → cmp k e.0 ≡ o → lookup test (insert_entry cmp es k v) ≡ cond (test k) (Some v) (lookup test es)
          → lookup test (match_ordering o ((k, v) ∷ e ∷ es) ((e.0, v) ∷ es) (e ∷ insert_entry cmp es k v)) ≡ cond (test k) (Some v) (cond (test e.0) (Some e.1) (lookup test es))
      go Less c rest = refl
      go Equal c rest = level (test e.0) (test k) v e.1 (lookup test es) (alike k e.0 c)
      go Greater c rest = above (test e.0) (test k) refl refl c rest

-- ---- queues as keys

abbrev key_order : Vec Name Global → Vec Name Global → Ordering
key_order a b = slice_cmp name_order a.items b.items

equal_is : (o : Ordering) → is_eq o ≡ true → o ≡ Equal
equal_is Less e = absurd (true≢false (sym e))
equal_is Equal e = refl
equal_is Greater e = absurd (true≢false (sym e))

pub path_self : (a b : Path) → a ≡ b → same_path a b ≡ true
path_self a b e = (pointwise_decides bytes_decides a b).1 e

key_same : (a b : Path) → same_path a b ≡ is_eq (slice_cmp name_order a b)
key_same a b = lists_ties name_order texts_ties a b

abbrev is_key : Path → Vec Name Global → Bool
is_key queue key = is_eq (slice_cmp name_order queue key.items)

or_none : {X : Type 0} (o : Option X) → o ≡ option_or o None
or_none None = refl
or_none (Some x) = refl

module _ (queue : Path) where
  alike : (x y : Vec Name Global) → key_order x y ≡ Equal → is_key queue x ≡ is_key queue y
  alike x y e =
      let same : same_path x.items y.items ≡ true = key_same x.items y.items ∙ ap is_eq e in
      ap (λ (items : Path). is_eq (slice_cmp name_order queue items)) (same_path_equal x.items y.items same)

  one : (x y : Vec Name Global) → is_key queue x ≡ true → is_key queue y ≡ true → key_order x y ≡ Equal
  one x y h k =
      let first : queue ≡ x.items = same_path_equal queue x.items (key_same queue x.items ∙ h) in
      let second : queue ≡ y.items = same_path_equal queue y.items (key_same queue y.items ∙ k) in
      equal_is (key_order x y) (sym (key_same x.items y.items) ∙ path_self x.items y.items (sym first ∙ second))

-- ---- a row is added

-- where its queue has a place already, nothing changes
pub place_stays : (places : BTreeMap (Vec Name Global) ℕ) (queue : Path) (place : ℕ) → is_some (place_in places queue) ≡ true
    → (other : Path) → place_in places other ≡ option_or (place_in places other) (cond (same_path queue other) (Some place) None)
place_stays places queue place there other = go (same_path queue other) refl
  where
    some_or : (o p : Option ℕ) → is_some o ≡ true → o ≡ option_or o p
    some_or None p e = absurd (true≢false (sym e))
    some_or (Some x) p e = refl

    go : (b : Bool) → same_path queue other ≡ b → place_in places other ≡ option_or (place_in places other) (cond b (Some place) None)
    go true e = some_or (place_in places other) (Some place) (ap (λ (q : Path). is_some (place_in places q)) (sym (same_path_equal queue other e)) ∙ there)
    go false e = or_none (place_in places other)

-- where it has none, it has the row's from then on
pub place_added : (old new : BTreeMap (Vec Name Global) ℕ) (key : Vec Name Global) (place : ℕ) → new.entries ≡ insert_entry key_order old.entries key place → is_some (place_in old key.items) ≡ false
    → (other : Path) → place_in new other ≡ option_or (place_in old other) (cond (same_path key.items other) (Some place) None)
place_added old new key place entries absent other =
    ap (lookup (is_key other)) entries
    ∙ lookup_inserted key_order (is_key other) (alike other) (one other) old.entries key place
    ∙ go (same_path key.items other) (is_key other key) refl refl
  where
    is_none : (o : Option ℕ) → is_some o ≡ false → o ≡ None
    is_none None e = refl
    is_none (Some x) e = absurd (true≢false e)

    go : (b t : Bool) → same_path key.items other ≡ b → is_key other key ≡ t → cond t (Some place) (place_in old other) ≡ option_or (place_in old other) (cond b (Some place) None)
    go true true e k = ap (λ (o : Option ℕ). option_or o (Some place)) (sym (is_none (place_in old key.items) absent) ∙ ap (place_in old) (same_path_equal key.items other e))
    go true false e k = absurd (true≢false (sym (path_self other key.items (sym (same_path_equal key.items other e))) ∙ key_same other key.items ∙ k))
    go false true e k = absurd (true≢false (sym (path_self key.items other (sym (same_path_equal other key.items (key_same other key.items ∙ k)))) ∙ e))
    go false false e k = or_none (place_in old other)

-- ---- the first that passes, of one more

position_push : {X : Type 0} (p : X → Bool) (xs : List X) (y : X) → position p (xs ++ y ∷ []) ≡ option_or (position p xs) (cond (p y) (Some (length xs)) None)
position_push p xs y =
    let more = position_or_len_push p xs y in
    let long = length-append xs (y ∷ []) in
    let few : position_or_len p xs ≤ length xs = prefix_len-le-length (λ x. not (p x)) xs in
    grind (arith, nat_tests, more, long, few)

-- the places of one row more
pub places_more : (rows : List QueueRow) (i : ℕ) (row : QueueRow) (old new : BTreeMap (Vec Name Global) ℕ) → i < length rows → row ≡ get_or rows i row → ArePlaces (take i rows) old
    → ((other : Path) → place_in new other ≡ option_or (place_in old other) (cond (same_path row.path other) (Some i) None)) → ArePlaces (take (i + 1) rows) new
places_more rows i row old new inside is before added other =
    let p = λ (r : QueueRow). same_path r.path other in
    added other
    ∙ ap (λ (o : Option ℕ). option_or o (cond (same_path row.path other) (Some i) None)) (before other)
    ∙ ap (λ (n : ℕ). option_or (position p (take i rows)) (cond (same_path row.path other) (Some n) None)) (sym (length-take-le i rows (omega (arith, inside))))
    ∙ sym (position_push p (take i rows) row)
    ∙ ap (position p) (ap (λ (r : QueueRow). take i rows ++ r ∷ []) is ∙ sym (take_more rows i row inside))
