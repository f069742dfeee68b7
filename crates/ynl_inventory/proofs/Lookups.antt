-- Rows in places and under numbers: what a change leaves of the others.
use Rattle.std.proofs.Common.{◌≡◌, ◌≢◌, ◌<◌, ℕ, zero, suc, Bool, true, false, cond, List, [], ◌∷◌, ◌++◌, map, length, slice_get, get_or, Option, Some, None, option_map, is_some, nat_eq, refl, sym, ap, subst, ◌∙◌, arith, inl, inr}
use Rattle.std.specs.Prelude.{IfSome}
use Rattle.std.specs.List.{AllByRecursion}
use Rattle.std.specs.Map.{lookup}
use Rattle.std.specs.Option.{option_map_or}
use Rattle.std.proofs.lemmas.Bool.{cases_eq}
use Rattle.std.proofs.lemmas.Option.{none-some, same_Some}
use mathlib.Core.Logic.{◌⊎◌}
use Rattle.ynl_slots.specs.Slots.{Numbered, IsLive, IsUnused, HasDistinctNumbers}
use Rattle.ynl_slots.proofs.Lookups.{lookup-push, lookup-unused}
use Rattle.ynl_slots.proofs.Entries.{itself, other, distinct_alike}
use Rattle.ynl_tables.specs.declared.apps.app.AppRow.{AppRow as AppPart}
use Rattle.ynl_tables.specs.apps.Apps.{with_app, with_change}
use Rattle.ynl_tables.proofs.apps.Rows.{lookup-with_change}
use Rattle.ynl_inventory.specs.Changes.{with_at}

module _ {X : Type 0} where
  -- ---- in places

  -- the row that changes
  pub at-same : (p : ℕ) (change : X → X) (xs : List X) → slice_get (with_at p change xs) p ≡ option_map change (slice_get xs p)
  at-same p change [] = refl
  at-same zero change (x ∷ xs) = refl
  at-same (suc p) change (x ∷ xs) = at-same p change xs

  -- and each other row
  pub at-other : (q p : ℕ) (change : X → X) (xs : List X) → q ≢ p → slice_get (with_at p change xs) q ≡ slice_get xs q
  at-other q p change [] apart = refl
  at-other zero zero change (x ∷ xs) apart = absurd (apart refl)
  at-other zero (suc p) change (x ∷ xs) apart = refl
  at-other (suc q) zero change (x ∷ xs) apart = refl
  at-other (suc q) (suc p) change (x ∷ xs) apart = at-other q p change xs (λ same. apart (ap suc same))

  -- no row comes or goes
  pub length-at : (p : ℕ) (change : X → X) (xs : List X) → length (with_at p change xs) ≡ length xs
  length-at p change [] = refl
  length-at zero change (x ∷ xs) = refl
  length-at (suc p) change (x ∷ xs) = ap suc (length-at p change xs)

  -- what is read of rows stays, if the change leaves it
  pub read-at : {Y : Type 0} (f : X → Y) (d : Y) (q p : ℕ) (change : X → X) → ((x : X) → f (change x) ≡ f x) → (xs : List X)
      → option_map_or f (slice_get (with_at p change xs) q) d ≡ option_map_or f (slice_get xs q) d
  read-at f d q p change keeps [] = refl
  read-at f d zero zero change keeps (x ∷ xs) = keeps x
  read-at f d zero (suc p) change keeps (x ∷ xs) = refl
  read-at f d (suc q) zero change keeps (x ∷ xs) = refl
  read-at f d (suc q) (suc p) change keeps (x ∷ xs) = read-at f d q p change keeps xs

  -- so does what is read of all
  pub map-at : {Y : Type 0} (f : X → Y) (p : ℕ) (change : X → X) → ((x : X) → f (change x) ≡ f x) → (xs : List X) → map f (with_at p change xs) ≡ map f xs
  map-at f p change keeps [] = refl
  map-at f zero change keeps (x ∷ xs) = ap (λ y. y ∷ map f xs) (keeps x)
  map-at f (suc p) change keeps (x ∷ xs) = ap (λ ys. f x ∷ ys) (map-at f p change keeps xs)

  -- what holds in each place holds of each
  pub each-place : (P : X → Type 0) (xs : List X) → ((i : ℕ) (x : X) → slice_get xs i ≡ Some x → P x) → AllByRecursion P xs
  each-place P [] h = tt
  each-place P (x ∷ xs) h = (h 0 x refl, each-place P xs (λ i y at. h (suc i) y at))

  -- what holds of each holds in each place
  pub in-place : (P : X → Type 0) (xs : List X) (i : ℕ) (x : X) → AllByRecursion P xs → slice_get xs i ≡ Some x → P x
  in-place P [] i x h at = absurd (none-some x at)
  in-place P (y ∷ xs) zero x h at = subst P (same_Some y x at) h.0
  in-place P (y ∷ xs) (suc i) x h at = in-place P xs i x h.1 at

  -- what holds of each holds after a change that leaves it
  pub each-at : (P : X → Type 0) (p : ℕ) (change : X → X) → ((x : X) → P x → P (change x)) → (xs : List X) → AllByRecursion P xs → AllByRecursion P (with_at p change xs)
  each-at P p change keeps [] h = tt
  each-at P zero change keeps (x ∷ xs) h = (keeps x h.0, h.1)
  each-at P (suc p) change keeps (x ∷ xs) h = (h.0, each-at P p change keeps xs h.1)

  -- there is a row in each place below their number
  pub place-there : (xs : List X) (i : ℕ) → i < length xs → (x : X) × (slice_get xs i ≡ Some x)
  place-there [] i h = absurd (omega arith)
  place-there (x ∷ xs) zero h = (x, refl)
  place-there (x ∷ xs) (suc i) h = place-there xs i (omega (arith, h))

  -- one more row leaves those before it
  pub place-push : (xs ys : List X) (i : ℕ) → i < length xs → slice_get (xs ++ ys) i ≡ slice_get xs i
  place-push [] ys i h = absurd (omega arith)
  place-push (x ∷ xs) ys zero h = refl
  place-push (x ∷ xs) ys (suc i) h = place-push xs ys i (omega (arith, h))

  pub read-push : (xs ys : List X) (i : ℕ) (d : X) → i < length xs → get_or (xs ++ ys) i d ≡ get_or xs i d
  read-push [] ys i d h = absurd (omega arith)
  read-push (x ∷ xs) ys zero d h = refl
  read-push (x ∷ xs) ys (suc i) d h = read-push xs ys i d (omega (arith, h))

  -- ---- under numbers

  -- the row that changes
  pub changed-same : (n : ℕ) (change : X → X) (es : List (ℕ × X)) → lookup (nat_eq n) (with_change n change es) ≡ option_map change (lookup (nat_eq n) es)
  changed-same n change es =
      lookup-with_change n n change es ∙ ap (λ b. cond b (option_map change (lookup (nat_eq n) es)) (lookup (nat_eq n) es)) (itself n)

  -- and each other row
  pub changed-other : (m n : ℕ) (change : X → X) (es : List (ℕ × X)) → m ≢ n → lookup (nat_eq m) (with_change n change es) ≡ lookup (nat_eq m) es
  changed-other m n change es apart =
      lookup-with_change m n change es ∙ ap (λ b. cond b (option_map change (lookup (nat_eq m) es)) (lookup (nat_eq m) es)) (other m n apart)

  -- the numbers stay
  pub changed-numbers : (n : ℕ) (change : X → X) (es : List (ℕ × X)) → map (λ e. e.0) (with_change n change es) ≡ map (λ (e : ℕ × X). e.0) es
  changed-numbers n change [] = refl
  changed-numbers n change (e ∷ es) =
      elim (nat_eq n e.0) as (λ b. (cond b (e.0, change e.1) e).0 ∷ map (λ (e : ℕ × X). e.0) (with_change n change es) ≡ e.0 ∷ map (λ (e : ℕ × X). e.0) es) [
        | true ↦ ap (λ ns. e.0 ∷ ns) (changed-numbers n change es)
        | false ↦ ap (λ ns. e.0 ∷ ns) (changed-numbers n change es)
      ]

  pub changed-distinct : (n : ℕ) (change : X → X) (es : List (ℕ × X)) → HasDistinctNumbers es → HasDistinctNumbers (with_change n change es)
  changed-distinct n change es d = distinct_alike (with_change n change es) es (changed-numbers n change es) d

  -- what is read of rows stays, if the change leaves it
  pub read-changed : {Y : Type 0} (f : X → Y) (d : Y) (m n : ℕ) (change : X → X) → ((x : X) → f (change x) ≡ f x) → (es : List (ℕ × X))
      → option_map_or f (lookup (nat_eq m) (with_change n change es)) d ≡ option_map_or f (lookup (nat_eq m) es) d
  read-changed {Y = Y} f d m n change keeps es =
      ap (λ o. option_map_or f o d) (lookup-with_change m n change es) ∙ go (nat_eq m n) (lookup (nat_eq m) es)
    where
      go : (b : Bool) (o : Option X) → option_map_or f (cond b (option_map change o) o) d ≡ option_map_or f o d
      go true None = refl
      go true (Some x) = keeps x
      go false o = refl

  -- so does what is read of all
  pub map-changed : {Y : Type 0} (f : X → Y) (n : ℕ) (change : X → X) → ((x : X) → f (change x) ≡ f x) → (es : List (ℕ × X))
      → map (λ e. f e.1) (with_change n change es) ≡ map (λ (e : ℕ × X). f e.1) es
  map-changed f n change keeps [] = refl
  map-changed f n change keeps (e ∷ es) =
      elim (nat_eq n e.0) as (λ b. f (cond b (e.0, change e.1) e).1 ∷ map (λ (e : ℕ × X). f e.1) (with_change n change es) ≡ f e.1 ∷ map (λ (e : ℕ × X). f e.1) es) [
        | true ↦ ap (λ y. y ∷ map (λ (e : ℕ × X). f e.1) (with_change n change es)) (keeps e.1) ∙ ap (λ ys. f e.1 ∷ ys) (map-changed f n change keeps es)
        | false ↦ ap (λ ys. f e.1 ∷ ys) (map-changed f n change keeps es)
      ]

  -- what is live stays live
  pub changed-live : (m n : ℕ) (change : X → X) (es : List (ℕ × X)) → IsLive m es → IsLive m (with_change n change es)
  changed-live m n change es live = ap is_some (lookup-with_change m n change es) ∙ go (nat_eq m n) (lookup (nat_eq m) es) ∙ live
    where
      go : (b : Bool) (o : Option X) → is_some (cond b (option_map change o) o) ≡ is_some o
      go true None = refl
      go true (Some x) = refl
      go false o = refl

  -- the row under a number after a change
  abbrev pub row_after : ℕ → ℕ → (X → X) → X → X
  row_after m n change row = cond (nat_eq m n) (change row) row

  -- what is found is found after a change
  pub still-found : (m n : ℕ) (change : X → X) (es : List (ℕ × X)) (row : X) → lookup (nat_eq m) es ≡ Some row → lookup (nat_eq m) (with_change n change es) ≡ Some (row_after m n change row)
  still-found m n change es row found =
      lookup-with_change m n change es ∙ ap (λ o. cond (nat_eq m n) (option_map change o) o) found
      ∙ elim (nat_eq m n) as (λ b. cond b (Some (change row)) (Some row) ≡ Some (cond b (change row) row)) [ true ↦ refl | false ↦ refl ]

  -- and what is found after it was found before
  pub was-found : (m n : ℕ) (change : X → X) (es : List (ℕ × X)) (new : X) → lookup (nat_eq m) (with_change n change es) ≡ Some new
      → (row : X) × (lookup (nat_eq m) es ≡ Some row) × (new ≡ row_after m n change row)
  was-found m n change es new found = go (lookup (nat_eq m) es) refl
    where
      nothing : (b : Bool) → ◌≡◌ {A = Option X} None (cond b None None)
      nothing true = refl
      nothing false = refl

      go : (o : Option X) → lookup (nat_eq m) es ≡ o → (row : X) × (lookup (nat_eq m) es ≡ Some row) × (new ≡ row_after m n change row)
      go None is =
          let none : None ≡ Some new =
          nothing (nat_eq m n)
          ∙ sym (lookup-with_change m n change es ∙ ap (λ o. cond (nat_eq m n) (option_map change o) o) is) ∙ found
          in
          absurd (none-some new none)
      go (Some row) is = (row, is, same_Some new (row_after m n change row) (sym found ∙ still-found m n change es row is))

  -- what a change leaves is read as before
  pub read-after : {Y : Type 0} (f : X → Y) (m n : ℕ) (change : X → X) (row : X) → f (change row) ≡ f row → f (row_after m n change row) ≡ f row
  read-after f m n change row keeps = elim (nat_eq m n) as (λ b. f (cond b (change row) row) ≡ f row) [ true ↦ keeps | false ↦ refl ]

  -- one more row leaves those that are live
  pub pushed-live : (m n : ℕ) (row : X) (es : List (ℕ × X)) → IsLive m es → lookup (nat_eq m) (es ++ (n, row) ∷ []) ≡ lookup (nat_eq m) es
  pushed-live m n row [] live = absurd (grind (arith, live))
  pushed-live m n row (e ∷ es) live = go (nat_eq m e.0) live (pushed-live m n row es)
    where
      go : (b : Bool) → is_some (cond b (Some e.1) (lookup (nat_eq m) es)) ≡ true → (IsLive m es → lookup (nat_eq m) (es ++ (n, row) ∷ []) ≡ lookup (nat_eq m) es)
          → cond b (Some e.1) (lookup (nat_eq m) (es ++ (n, row) ∷ [])) ≡ cond b (Some e.1) (lookup (nat_eq m) es)
      go true k rest = refl
      go false k rest = rest k

  -- where one more row comes under an unused number, it is found there, and each other as before
  pub pushed-cases : (m n : ℕ) (row : X) (es : List (ℕ × X)) → IsUnused n es → (new : X) → lookup (nat_eq m) (es ++ (n, row) ∷ []) ≡ Some new → ((m ≡ n) × (new ≡ row)) ⊎ (lookup (nat_eq m) es ≡ Some new)
  pushed-cases m n row es unused new found =
      elim (cases_eq m n) [
        | inl same ↦
            inl (same, same_Some new row (sym found ∙ lookup-push m n row es unused ∙ ap (λ b. cond b (Some row) (lookup (nat_eq m) es)) (ap (λ k. nat_eq k n) same ∙ itself n)))
        | inr apart ↦ inr (sym (lookup-push m n row es unused ∙ ap (λ b. cond b (Some row) (lookup (nat_eq m) es)) (other m n apart)) ∙ found)
      ]

  -- a number that is live is another than one that is not
  pub live-apart : (m n : ℕ) (es : List (ℕ × X)) → IsLive m es → IsUnused n es → m ≢ n
  live-apart m n es live unused same =
      let none : lookup (nat_eq m) es ≡ None = ap (λ k. lookup (nat_eq k) es) same ∙ lookup-unused n es unused in
      grind (arith, none, live)

  -- what is found is live
  pub found-live : (n : ℕ) (row : X) (es : List (ℕ × X)) → lookup (nat_eq n) es ≡ Some row → IsLive n es
  found-live n row es found = ap is_some found

  -- what is live is found
  pub live-found : (n : ℕ) (es : List (ℕ × X)) → IsLive n es → (row : X) × (lookup (nat_eq n) es ≡ Some row)
  live-found n es live = go (lookup (nat_eq n) es) live
    where
      go : (o : Option X) → is_some o ≡ true → (row : X) × (o ≡ Some row)
      go None k = absurd (grind (arith, k))
      go (Some row) k = (row, refl)

  -- two changes of one row are one
  pub changed-twice : (n : ℕ) (f g : X → X) (es : List (ℕ × X)) → with_change n f (with_change n g es) ≡ with_change n (λ row. f (g row)) es
  changed-twice n f g [] = refl
  changed-twice n f g (e ∷ es) = λ i. one (nat_eq n e.0) refl i ∷ changed-twice n f g es i
    where
      one : (b : Bool) → nat_eq n e.0 ≡ b → cond (nat_eq n (cond b (e.0, g e.1) e).0) ((cond b (e.0, g e.1) e).0, f (cond b (e.0, g e.1) e).1) (cond b (e.0, g e.1) e) ≡ cond b (e.0, f (g e.1)) e
      one true q = ap (λ b. cond b (e.0, f (g e.1)) (e.0, g e.1)) q
      one false q = ap (λ b. cond b (e.0, f e.1) e) q

  -- what holds of a row holds after a change that keeps it
  pub changed-some : (P : X → Type 0) (m n : ℕ) (f : X → X) (es : List (ℕ × X)) → ((row : X) → P row → P (f row)) → IfSome (lookup (nat_eq m) es) P → IfSome (lookup (nat_eq m) (with_change n f es)) P
  changed-some P m n f es keeps h = subst (λ o. IfSome o P) (sym (lookup-with_change m n f es)) (go (nat_eq m n) (lookup (nat_eq m) es) h)
    where
      go : (b : Bool) (o : Option X) → IfSome o P → IfSome (cond b (option_map f o) o) P
      go true None k = k
      go true (Some row) k = keeps row k
      go false o k = k

  -- the same of a list that was so changed
  pub live-after : (m n : ℕ) (f : X → X) (old new : List (ℕ × X)) → new ≡ with_change n f old → IsLive m old → IsLive m new
  live-after m n f old new is live = subst (IsLive m) (sym is) (changed-live m n f old live)

  pub some-after : (P : X → Type 0) (m n : ℕ) (f : X → X) (old new : List (ℕ × X)) → new ≡ with_change n f old → ((row : X) → P row → P (f row)) → IfSome (lookup (nat_eq m) old) P → IfSome (lookup (nat_eq m) new) P
  some-after P m n f old new is keeps h = subst (λ es. IfSome (lookup (nat_eq m) es) P) (sym is) (changed-some P m n f old keeps h)

-- one change after another of an application
pub app-twice : (n : ℕ) (f g : AppPart → AppPart) (old mid new : Numbered AppPart) → new ≡ with_app n f mid → mid ≡ with_app n g old → new ≡ with_app n (λ row. f (g row)) old
app-twice n f g old mid new two one = two ∙ ap (with_app n f) one ∙ (λ i. record old { entries = changed-twice n f g old.entries i })
