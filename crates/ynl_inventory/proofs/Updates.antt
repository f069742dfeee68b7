-- Rows that change in a place or under a number, and what they mean as rows that are found by a test.
use Rattle.std.proofs.Common.{◌≡◌, ◌≢◌, ℕ, zero, suc, Bool, true, false, cond, not, List, [], ◌∷◌, map, find, slice_get, Some, None, option_map, nat_eq, refl, sym, ap, subst, ◌∙◌, arith, true≢false}
use Rattle.std.specs.List.{AllByRecursion}
use Rattle.std.specs.Map.{lookup}
use Rattle.std.proofs.lemmas.Bool.Decides.{nat_tests}
use Rattle.std.proofs.lemmas.Option.{none-some, same_Some, slice_get-map}
use Rattle.std.proofs.lemmas.Map.Entries.{place_from_lookup}
use Rattle.ynl_resource.specs.Names.{same_name}
use Rattle.ynl_resource.specs.declared.names.Name.{Name}
use Rattle.ynl_resource.specs.Tables.{update, without as dropped}
use Rattle.ynl_laws.specs.Numbers.{Differ}
use Rattle.ynl_laws.proofs.Names.{same-name_sym, same-name_self}
use Rattle.ynl_slots.specs.Slots.{IsUnused, HasDistinctNumbers, without}
use Rattle.ynl_slots.proofs.Entries.{itself, other}
use Rattle.ynl_tables.specs.apps.Apps.{with_change}
use Rattle.ynl_inventory.specs.Changes.{with_at}
use Rattle.ynl_inventory.proofs.Lookups.{in-place}

module _ {X Y : Type 0} (f : X → Y) (test : Y → Bool) where
  -- the only row that passes is found
  pub find-place : (xs : List X) (p : ℕ) (x : X) → slice_get xs p ≡ Some x → test (f x) ≡ true
      → ((q : ℕ) (y : X) → slice_get xs q ≡ Some y → q ≢ p → test (f y) ≡ false) → find test (map f xs) ≡ Some (f x)
  find-place [] p x at passes only = absurd (none-some x at)
  find-place (y ∷ xs) zero x at passes only =
      ap (λ b. cond b (Some (f y)) (find test (map f xs))) (ap (λ z. test (f z)) (same_Some y x at) ∙ passes) ∙ ap (λ z. Some (f z)) (same_Some y x at)
  find-place (y ∷ xs) (suc p) x at passes only =
      ap (λ b. cond b (Some (f y)) (find test (map f xs))) (only 0 y refl (λ (same : 0 ≡ suc p). absurd (omega arith)))
      ∙ find-place xs p x at passes (λ q z there apart. only (suc q) z there (λ (same : suc q ≡ suc p). apart (omega arith)))

  module _ (g : X → Y) where
    unchanged : (change' : Y → Y) (xs : List X) → ((q : ℕ) (x : X) → slice_get xs q ≡ Some x → (test (f x) ≡ false) × (g x ≡ f x)) → map g xs ≡ update test change' (map f xs)
    unchanged change' [] h = refl
    unchanged change' (x ∷ xs) h =
        λ i. (((h 0 x refl).1 ∙ sym (ap (λ b. cond b (change' (f x)) (f x)) (h 0 x refl).0)) i) ∷ unchanged change' xs (λ q y at. h (suc q) y at) i

    -- the row in a place changes, and it alone passes
    pub update-place : (change' : Y → Y) (p : ℕ) (change : X → X) (xs : List X)
        → ((q : ℕ) (x : X) → slice_get xs q ≡ Some x → q ≢ p → (test (f x) ≡ false) × (g x ≡ f x))
        → ((x : X) → slice_get xs p ≡ Some x → (test (f x) ≡ true) × (g (change x) ≡ change' (f x)))
        → map g (with_at p change xs) ≡ update test change' (map f xs)
    update-place change' p change [] others own = refl
    update-place change' zero change (x ∷ xs) others own =
        λ i. (((own x refl).1 ∙ sym (ap (λ b. cond b (change' (f x)) (f x)) (own x refl).0)) i)
        ∷ unchanged change' xs (λ q y at. others (suc q) y at (λ (same : suc q ≡ 0). absurd (omega arith))) i
    update-place change' (suc p) change (x ∷ xs) others own =
        let first : (test (f x) ≡ false) × (g x ≡ f x) = others 0 x refl (λ (same : 0 ≡ suc p). absurd (omega arith)) in
        λ i. ((first.1 ∙ sym (ap (λ b. cond b (change' (f x)) (f x)) first.0)) i)
        ∷ update-place change' p change xs (λ q y at apart. others (suc q) y at (λ (same : suc q ≡ suc p). apart (omega arith))) own i

    -- the row under a number changes, and it alone passes
    pub update-number : (change' : Y → Y) (n : ℕ) (change : X → X) (es : List (ℕ × X))
        → AllByRecursion (λ e. e.0 ≢ n → (test (f e.1) ≡ false) × (g e.1 ≡ f e.1)) es
        → AllByRecursion (λ e. e.0 ≡ n → (test (f e.1) ≡ true) × (g (change e.1) ≡ change' (f e.1))) es
        → map (λ e. g e.1) (with_change n change es) ≡ update test change' (map (λ e. f e.1) es)
    update-number change' n change [] others own = refl
    update-number change' n change (e ∷ es) others own = go (nat_eq n e.0) refl (update-number change' n change es others.1 own.1)
      where
        go : (b : Bool) → nat_eq n e.0 ≡ b → map (λ e. g e.1) (with_change n change es) ≡ update test change' (map (λ e. f e.1) es)
            → g (cond b (e.0, change e.1) e).1 ∷ map (λ e. g e.1) (with_change n change es) ≡ cond (test (f e.1)) (change' (f e.1)) (f e.1) ∷ update test change' (map (λ e. f e.1) es)
        go true q rest =
            let here : (test (f e.1) ≡ true) × (g (change e.1) ≡ change' (f e.1)) = own.0 (grind (arith, nat_tests, q)) in
            λ i. ((here.1 ∙ sym (ap (λ b. cond b (change' (f e.1)) (f e.1)) here.0)) i) ∷ rest i
        go false q rest =
            let here : (test (f e.1) ≡ false) × (g e.1 ≡ f e.1) = others.0 (λ (same : e.0 ≡ n). true≢false (sym (itself n) ∙ ap (nat_eq n) (sym same) ∙ q)) in
            λ i. ((here.1 ∙ sym (ap (λ b. cond b (change' (f e.1)) (f e.1)) here.0)) i) ∷ rest i

    -- the row under a number goes, and it alone passes
    pub without-number : (n : ℕ) (es : List (ℕ × X))
        → AllByRecursion (λ e. e.0 ≢ n → (test (f e.1) ≡ false) × (g e.1 ≡ f e.1)) es
        → AllByRecursion (λ e. e.0 ≡ n → test (f e.1) ≡ true) es
        → map (λ e. g e.1) (without n es) ≡ dropped test (map (λ e. f e.1) es)
    without-number n [] others own = refl
    without-number n (e ∷ es) others own = go (nat_eq n e.0) refl (without-number n es others.1 own.1)
      where
        go : (b : Bool) → nat_eq n e.0 ≡ b → map (λ e. g e.1) (without n es) ≡ dropped test (map (λ e. f e.1) es)
            → map (λ e. g e.1) (cond (not b) (e ∷ without n es) (without n es)) ≡ cond (not (test (f e.1))) (f e.1 ∷ dropped test (map (λ e. f e.1) es)) (dropped test (map (λ e. f e.1) es))
        go true q rest =
            let here : test (f e.1) ≡ true = own.0 (grind (arith, nat_tests, q)) in
            rest ∙ sym (ap (λ b. cond (not b) (f e.1 ∷ dropped test (map (λ e. f e.1) es)) (dropped test (map (λ e. f e.1) es))) here)
        go false q rest =
            let here : (test (f e.1) ≡ false) × (g e.1 ≡ f e.1) = others.0 (λ (same : e.0 ≡ n). true≢false (sym (itself n) ∙ ap (nat_eq n) (sym same) ∙ q)) in
            (λ i. here.1 i ∷ rest i) ∙ sym (ap (λ b. cond (not b) (f e.1 ∷ dropped test (map (λ e. f e.1) es)) (dropped test (map (λ e. f e.1) es))) here.0)

-- ---- what holds under each number

module _ {X : Type 0} where
  -- the first row has its number
  pub head-found : (e : ℕ × X) (es : List (ℕ × X)) → lookup (nat_eq e.0) (e ∷ es) ≡ Some e.1
  head-found e es = ap (λ b. cond b (Some e.1) (lookup (nat_eq e.0) es)) (itself e.0)

  -- a later row is found past it
  pub later-found : (n : ℕ) (row : X) (e : ℕ × X) (es : List (ℕ × X)) → e.0 ≢ n → lookup (nat_eq n) es ≡ Some row → lookup (nat_eq n) (e ∷ es) ≡ Some row
  later-found n row e es apart found = ap (λ b. cond b (Some e.1) (lookup (nat_eq n) es)) (other n e.0 (λ same. apart (sym same))) ∙ found

  pub unused-apart : (n m : ℕ) (row : X) (es : List (ℕ × X)) → IsUnused m es → lookup (nat_eq n) es ≡ Some row → m ≢ n
  unused-apart n m row [] unused found = absurd (none-some row found)
  unused-apart n m row (e ∷ es) unused found = go (nat_eq n e.0) refl found (unused-apart n m row es unused.1)
    where
      go : (b : Bool) → nat_eq n e.0 ≡ b → cond b (Some e.1) (lookup (nat_eq n) es) ≡ Some row → (lookup (nat_eq n) es ≡ Some row → m ≢ n) → m ≢ n
      go true q k rest = λ (same : m ≡ n). unused.0 (grind (arith, nat_tests, q, same))
      go false q k rest = rest k

  -- what holds of the row under each number holds of each
  pub each-number : (P : ℕ → X → Type 0) (es : List (ℕ × X)) → HasDistinctNumbers es → ((n : ℕ) (row : X) → lookup (nat_eq n) es ≡ Some row → P n row) → AllByRecursion (λ e. P e.0 e.1) es
  each-number P [] d h = tt
  each-number P (e ∷ es) d h =
      (h e.0 e.1 (head-found e es), each-number P es d.1 (λ n row found. h n row (later-found n row e es (unused-apart n e.0 row es d.0 found) found)))

  -- what holds of each holds under each number
  pub at-number : (P : ℕ → X → Type 0) (es : List (ℕ × X)) (n : ℕ) (row : X) → AllByRecursion (λ e. P e.0 e.1) es → lookup (nat_eq n) es ≡ Some row → P n row
  at-number P [] n row h found = absurd (none-some row found)
  at-number P (e ∷ es) n row h found = go (nat_eq n e.0) refl found (at-number P es n row h.1)
    where
      go : (b : Bool) → nat_eq n e.0 ≡ b → cond b (Some e.1) (lookup (nat_eq n) es) ≡ Some row → (lookup (nat_eq n) es ≡ Some row → P n row) → P n row
      go true q k rest =
          let number : e.0 ≡ n = grind (arith, nat_tests, q) in
          subst (λ m. P m row) number (subst (P e.0) (same_Some e.1 row k) h.0)
      go false q k rest = rest k

  -- the only row that passes is found
  pub find-number : {Y : Type 0} (f : X → Y) (test : Y → Bool) (es : List (ℕ × X)) (n : ℕ) (row : X) → lookup (nat_eq n) es ≡ Some row → test (f row) ≡ true
      → AllByRecursion (λ e. e.0 ≢ n → test (f e.1) ≡ false) es → find test (map (λ e. f e.1) es) ≡ Some (f row)
  find-number f test [] n row found passes only = absurd (none-some row found)
  find-number f test (e ∷ es) n row found passes only = go (nat_eq n e.0) refl found (λ k. find-number f test es n row k passes only.1)
    where
      go : (b : Bool) → nat_eq n e.0 ≡ b → cond b (Some e.1) (lookup (nat_eq n) es) ≡ Some row → (lookup (nat_eq n) es ≡ Some row → find test (map (λ e. f e.1) es) ≡ Some (f row))
          → cond (test (f e.1)) (Some (f e.1)) (find test (map (λ e. f e.1) es)) ≡ Some (f row)
      go true q k rest =
          ap (λ b. cond b (Some (f e.1)) (find test (map (λ e. f e.1) es))) (ap (λ z. test (f z)) (same_Some e.1 row k) ∙ passes) ∙ ap (λ z. Some (f z)) (same_Some e.1 row k)
      go false q k rest =
          ap (λ b. cond b (Some (f e.1)) (find test (map (λ e. f e.1) es))) (only.0 (λ (same : e.0 ≡ n). true≢false (sym (itself n) ∙ ap (nat_eq n) (sym same) ∙ q))) ∙ rest k

-- ---- names that differ

-- a name that is not found is none of these
pub unnamed : {Y : Type 0} (name : Name) (es : List (Name × Y)) → lookup (same_name name) es ≡ None → AllByRecursion (λ e. same_name e.0 name ≡ false) es
unnamed name [] h = tt
unnamed name (e ∷ es) h = go (same_name name e.0) refl h (unnamed name es)
  where
    turned : (b : Bool) → same_name e.0 name ≡ b → same_name name e.0 ≡ false → b ≡ false
    turned false is apart = refl
    turned true is apart = sym (subst (λ (n : Name). same_name name n ≡ true) (sym (same-name_sym e.0 name is)) (same-name_self name)) ∙ apart

    go : (b : Bool) → same_name name e.0 ≡ b → cond b (Some e.1) (lookup (same_name name) es) ≡ None → (lookup (same_name name) es ≡ None → AllByRecursion (λ e. same_name e.0 name ≡ false) es)
        → AllByRecursion (λ e. same_name e.0 name ≡ false) (e ∷ es)
    go true is k rest = absurd (none-some e.1 (sym k))
    go false is k rest = (turned (same_name e.0 name) refl is, rest k)

-- a name has one place
pub differ-places : (names : List Name) (i j : ℕ) (a b : Name) → Differ names → slice_get names i ≡ Some a → slice_get names j ≡ Some b → same_name a b ≡ true → i ≡ j
differ-places [] i j a b d at there same = absurd (none-some a at)
differ-places (x ∷ names) zero zero a b d at there same = refl
differ-places (x ∷ names) zero (suc j) a b d at there same =
    let apart : same_name x b ≡ false = in-place (λ y. same_name x y ≡ false) names j b d.0 there in
    absurd (true≢false (sym same ∙ ap (λ y. same_name y b) (sym (same_Some x a at)) ∙ apart))
differ-places (x ∷ names) (suc i) zero a b d at there same =
    let apart : same_name x a ≡ false = in-place (λ y. same_name x y ≡ false) names i a d.0 at in
    let is : x ≡ a = same_Some x b there ∙ sym (same-name_sym a b same) in
    absurd (true≢false (sym (same-name_self a) ∙ ap (λ y. same_name y a) (sym is) ∙ apart))
differ-places (x ∷ names) (suc i) (suc j) a b d at there same = ap suc (differ-places names i j a b d.1 at there same)

-- a name has one number
pub differ-numbers : {X : Type 0} (key : X → Name) (es : List (ℕ × X)) (n m : ℕ) (a b : X) → Differ (map (λ e. key e.1) es)
    → lookup (nat_eq n) es ≡ Some a → lookup (nat_eq m) es ≡ Some b → same_name (key a) (key b) ≡ true → n ≡ m
differ-numbers {X} key es n m a b d at there same =
    let one = place_from_lookup (nat_eq n) es a at in
    let two = place_from_lookup (nat_eq m) es b there in
    let is : one.0 ≡ two.0 =
    differ-places (map (λ (e : ℕ × X). key e.1) es) one.0 two.0 (key a) (key b) d
    (slice_get-map (λ (e : ℕ × X). key e.1) es one.0 ∙ ap (option_map (λ (e : ℕ × X). key e.1)) one.2)
    (slice_get-map (λ (e : ℕ × X). key e.1) es two.0 ∙ ap (option_map (λ (e : ℕ × X). key e.1)) two.2) same
    in
    let both : ◌≡◌ {A = ℕ × X} (one.1, a) (two.1, b) = same_Some (one.1, a) (two.1, b) (sym one.2 ∙ ap (slice_get es) is ∙ two.2) in
    let numbers : one.1 ≡ two.1 = ap (λ (e : ℕ × X). e.0) both in
    grind (arith, nat_tests, numbers, one.3, two.3)
