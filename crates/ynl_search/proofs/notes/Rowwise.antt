-- Notes of which one row changes after another.
use Rattle.std.proofs.Common.{◌≡◌, ◌≢◌, ℕ, zero, suc, ◌+◌, ◌<◌, Bool, true, false, ◌&&◌, cond, nat_eq, List, [], ◌∷◌, ◌++◌, map, length, get_or, set, slice_get, Option, None, Some, option_map, refl, sym, ap, subst, ◌∙◌, arith, true≢false}
use Rattle.std.specs.Prelude.{nat_lt}
use Rattle.std.specs.Option.{option_map_or}
use Rattle.std.proofs.lemmas.Bool.Decides.{nat_tests}
use Rattle.std.proofs.lemmas.Option.{slice_get-get_or}
use Rattle.ynl_resource.specs.declared.amounts.Resource.{Resource}
use Rattle.ynl_inventory.proofs.PartLists.{set-other, set-same}
use Rattle.ynl_search.specs.declared.notes.row.Row.{Row as RowPart}
use Rattle.ynl_search.specs.declared.notes.noted.Noted.{Noted}
use Rattle.ynl_search.specs.notes.Notes.{Changes, AreEmpty, Row, Table, forgotten, forgotten_on, has_at, has_in, more_where, noted, noted_at, noted_in, nothing_noted, row_of, with_more}

abbrev Change : Type 0
Change = ℕ → ℕ → Noted → Noted

abbrev notes_of : List RowPart → Table
notes_of rows = map row_of rows

-- ---- rows of notes

row-at : (rows : List RowPart) (p : ℕ) → slice_get (notes_of rows) p ≡ option_map row_of (slice_get rows p)
row-at [] p = refl
row-at (r ∷ rows) zero = refl
row-at (r ∷ rows) (suc p) = row-at rows p

has-row : (rows : List RowPart) (p q : ℕ) (row : RowPart) → slice_get rows p ≡ Some row → has_at (notes_of rows) p q ≡ has_in (row_of row) q
has-row rows p q row at = ap (λ o. option_map_or (λ r. has_in r q) o false) (row-at rows p ∙ ap (option_map row_of) at)

noted-row-at : (rows : List RowPart) (p q : ℕ) (row : RowPart) → slice_get rows p ≡ Some row → noted_at (notes_of rows) p q ≡ noted_in (row_of row) q
noted-row-at rows p q row at = ap (λ o. option_map_or (λ r. noted_in r q) o nothing_noted) (row-at rows p ∙ ap (option_map row_of) at)

-- what is read of a place is there
pub there : (rows : List RowPart) (p : ℕ) (row : RowPart) → p < length rows → row ≡ get_or rows p row → slice_get rows p ≡ Some row
there rows p row inside is = slice_get-get_or rows p row inside ∙ ap (λ (r : RowPart). Some r) (sym is)

-- one row changes
abbrev in_row : ℕ → (ℕ → Noted → Noted) → Change
in_row p change r t o = cond (nat_eq r p) (change t o) o

pub row-changes : (rows : List RowPart) (p : ℕ) (old new : RowPart) (change : ℕ → Noted → Noted) → slice_get rows p ≡ Some old
    → ((q : ℕ) → has_in (row_of new) q ≡ has_in (row_of old) q) → ((q : ℕ) → noted_in (row_of new) q ≡ change q (noted_in (row_of old) q))
    → Changes (in_row p change) (notes_of rows) (notes_of (set rows p new))
row-changes rows p old new change at has room = record { has = λ r q. has-go r q (nat_eq r p) refl; noted = λ r q. room-go r q (nat_eq r p) refl }
  where
    has-go : (r q : ℕ) (b : Bool) → nat_eq r p ≡ b → has_at (notes_of (set rows p new)) r q ≡ has_at (notes_of rows) r q
    has-go r q true e =
        let same : r ≡ p = grind (arith, nat_tests, e) in
        ap (λ n. has_at (notes_of (set rows p new)) n q) same ∙ has-row (set rows p new) p q new (set-same rows p old new at) ∙ has q ∙ sym (has-row rows p q old at) ∙ sym (ap (λ n. has_at (notes_of rows) n q) same)
    has-go r q false e =
        let apart : r ≢ p = λ same. true≢false (sym (grind (arith, nat_tests, same)) ∙ e) in
        ap (λ o. option_map_or (λ (x : Row). has_in x q) o false) (row-at (set rows p new) r ∙ ap (option_map row_of) (set-other rows p r new apart) ∙ sym (row-at rows r))

    room-go : (r q : ℕ) (b : Bool) → nat_eq r p ≡ b → noted_at (notes_of (set rows p new)) r q ≡ cond b (change q (noted_at (notes_of rows) r q)) (noted_at (notes_of rows) r q)
    room-go r q true e =
        let same : r ≡ p = grind (arith, nat_tests, e) in
        ap (λ n. noted_at (notes_of (set rows p new)) n q) same ∙ noted-row-at (set rows p new) p q new (set-same rows p old new at) ∙ room q ∙ ap (change q) (sym (noted-row-at rows p q old at)) ∙ sym (ap (λ n. change q (noted_at (notes_of rows) n q)) same)
    room-go r q false e =
        let apart : r ≢ p = λ same. true≢false (sym (grind (arith, nat_tests, same)) ∙ e) in
        ap (λ o. option_map_or (λ (x : Row). noted_in x q) o nothing_noted) (row-at (set rows p new) r ∙ ap (option_map row_of) (set-other rows p r new apart) ∙ sym (row-at rows r))

-- the same change by other words
pub changes-as : (f g : Change) (a b : Table) → Changes f a b → ((r t : ℕ) → f r t (noted_at a r t) ≡ g r t (noted_at a r t)) → Changes g a b
changes-as f g a b h same = record { has = h.has; noted = λ r t. h.noted r t ∙ same r t }

-- ---- all rows

-- rows before a number change
abbrev pub up_to : ℕ → Change → Change
up_to n f r t o = cond (nat_lt r n) (f r t o) o

pub up_to-more : (n : ℕ) (f : Change) (a b c : Table) → Changes (up_to n f) a b → Changes (in_row n (f n)) b c → Changes (up_to (n + 1) f) a c
up_to-more n f a b c h k = record { has = λ r t. k.has r t ∙ h.has r t; noted = λ r t. k.noted r t ∙ ap (in_row n (f n) r t) (h.noted r t) ∙ go r t (nat_eq r n) refl }
  where
    go : (r t : ℕ) (e : Bool) → nat_eq r n ≡ e → cond e (f n t (up_to n f r t (noted_at a r t))) (up_to n f r t (noted_at a r t)) ≡ up_to (n + 1) f r t (noted_at a r t)
    go r t true e =
        let not-yet : nat_lt r n ≡ false = grind (arith, nat_tests, e) in
        let now : nat_lt r (n + 1) ≡ true = grind (arith, nat_tests, e) in
        let same : n ≡ r = grind (arith, nat_tests, e) in
        ap (λ b. f n t (cond b (f r t (noted_at a r t)) (noted_at a r t))) not-yet ∙ ap (λ m. f m t (noted_at a r t)) same ∙ sym (ap (λ b. cond b (f r t (noted_at a r t)) (noted_at a r t)) now)
    go r t false e = ap (λ b. cond b (f r t (noted_at a r t)) (noted_at a r t)) other
      where
        other : nat_lt r n ≡ nat_lt r (n + 1)
        other = grind (arith, nat_tests, e)

beyond-rows : (rows : List RowPart) (r t : ℕ) → nat_lt r (length rows) ≡ false → noted_at (notes_of rows) r t ≡ nothing_noted
beyond-rows [] r t h = refl
beyond-rows (x ∷ rows) zero t h = absurd (true≢false (sym (first (length rows)) ∙ h))
  where
    first : (n : ℕ) → nat_lt 0 (suc n) ≡ true
    first n = grind (arith, nat_tests)
beyond-rows (x ∷ rows) (suc r) t h = beyond-rows rows r t (grind (arith, nat_tests, h))

-- where nothing comes of nothing all rows have changed
pub up_to-all : (f : Change) (rows : List RowPart) (b : Table) → ((r t : ℕ) → f r t nothing_noted ≡ nothing_noted) → Changes (up_to (length rows) f) (notes_of rows) b → Changes f (notes_of rows) b
up_to-all f rows b nothing h = changes-as (up_to (length rows) f) f (notes_of rows) b h (λ r t. go r t (nat_lt r (length rows)) refl)
  where
    go : (r t : ℕ) (e : Bool) → nat_lt r (length rows) ≡ e → cond e (f r t (noted_at (notes_of rows) r t)) (noted_at (notes_of rows) r t) ≡ f r t (noted_at (notes_of rows) r t)
    go r t true e = refl
    go r t false e = beyond-rows rows r t e ∙ sym (ap (f r t) (beyond-rows rows r t e) ∙ nothing r t)

-- ---- new rows

pub empty-more : (n queues : ℕ) (rows more : List RowPart) (row : RowPart) → AreEmpty n queues (notes_of rows) → length rows ≡ n → more ≡ rows ++ row ∷ []
    → ((q : ℕ) → has_in (row_of row) q ≡ nat_lt q queues) → ((q : ℕ) → noted_in (row_of row) q ≡ nothing_noted) → AreEmpty (n + 1) queues (notes_of more)
empty-more n queues rows more row h many is has room = subst (λ ms. AreEmpty (n + 1) queues (notes_of ms)) (sym is) (record { has = λ p q. has-go p q (nat_lt p n) refl; noted = λ p q. room-go p q (nat_lt p n) refl })
  where
    at-last : (rows : List RowPart) (p : ℕ) → length rows ≡ p → slice_get (rows ++ row ∷ []) p ≡ Some row
    at-last [] zero e = refl
    at-last [] (suc p) e = absurd (omega (arith, e))
    at-last (r ∷ rs) zero e = absurd (omega (arith, e))
    at-last (r ∷ rs) (suc p) e = at-last rs p (omega (arith, e))

    at-first : (rows : List RowPart) (p : ℕ) → p < length rows → slice_get (rows ++ row ∷ []) p ≡ slice_get rows p
    at-first [] p inside = absurd (omega (arith, inside))
    at-first (r ∷ rs) zero inside = refl
    at-first (r ∷ rs) (suc p) inside = at-first rs p (omega (arith, inside))

    at-none : (rows : List RowPart) (p : ℕ) → length rows < p → slice_get (rows ++ row ∷ []) p ≡ None
    at-none [] zero e = absurd (omega (arith, e))
    at-none [] (suc zero) e = refl
    at-none [] (suc (suc p)) e = refl
    at-none (r ∷ rs) zero e = absurd (omega (arith, e))
    at-none (r ∷ rs) (suc p) e = at-none rs p (omega (arith, e))

    past : (p : ℕ) → nat_lt p n ≡ false → nat_eq p n ≡ false → length rows < p
    past p e d = grind (arith, nat_tests, e, d, many)

    read : {Y : Type 0} (f : Row → Y) (d : Y) (p : ℕ) (o : Option RowPart) → slice_get (rows ++ row ∷ []) p ≡ o → option_map_or f (slice_get (notes_of (rows ++ row ∷ [])) p) d ≡ option_map_or f (option_map row_of o) d
    read f d p o e = ap (λ x. option_map_or f x d) (row-at (rows ++ row ∷ []) p ∙ ap (option_map row_of) e)

    has-last : (p q : ℕ) → nat_lt p n ≡ false → (b : Bool) → nat_eq p n ≡ b → has_at (notes_of (rows ++ row ∷ [])) p q ≡ (nat_lt p (n + 1) && nat_lt q queues)
    has-last p q e true d =
        let now : nat_lt p (n + 1) ≡ true = grind (arith, nat_tests, d) in
        read (λ x. has_in x q) false p (Some row) (at-last rows p (grind (arith, nat_tests, d, many))) ∙ has q ∙ sym (ap (λ b. b && nat_lt q queues) now)
    has-last p q e false d =
        let never : nat_lt p (n + 1) ≡ false = grind (arith, nat_tests, e, d) in
        read (λ x. has_in x q) false p None (at-none rows p (past p e d)) ∙ sym (ap (λ b. b && nat_lt q queues) never)

    room-last : (p q : ℕ) → nat_lt p n ≡ false → (b : Bool) → nat_eq p n ≡ b → noted_at (notes_of (rows ++ row ∷ [])) p q ≡ nothing_noted
    room-last p q e true d = read (λ x. noted_in x q) nothing_noted p (Some row) (at-last rows p (grind (arith, nat_tests, d, many))) ∙ room q
    room-last p q e false d = read (λ x. noted_in x q) nothing_noted p None (at-none rows p (past p e d))

    inside : (p : ℕ) → nat_lt p n ≡ true → p < length rows
    inside p e = grind (arith, nat_tests, e, many)

    has-go : (p q : ℕ) (b : Bool) → nat_lt p n ≡ b → has_at (notes_of (rows ++ row ∷ [])) p q ≡ (nat_lt p (n + 1) && nat_lt q queues)
    has-go p q true e =
        let same : nat_lt p n ≡ nat_lt p (n + 1) = grind (arith, nat_tests, e) in
        read (λ x. has_in x q) false p (slice_get rows p) (at-first rows p (inside p e)) ∙ sym (ap (λ o. option_map_or (λ x. has_in x q) o false) (row-at rows p)) ∙ h.has p q ∙ ap (λ b. b && nat_lt q queues) same
    has-go p q false e = has-last p q e (nat_eq p n) refl

    room-go : (p q : ℕ) (b : Bool) → nat_lt p n ≡ b → noted_at (notes_of (rows ++ row ∷ [])) p q ≡ nothing_noted
    room-go p q true e = read (λ x. noted_in x q) nothing_noted p (slice_get rows p) (at-first rows p (inside p e)) ∙ sym (ap (λ o. option_map_or (λ x. noted_in x q) o nothing_noted) (row-at rows p)) ∙ h.noted p q
    room-go p q false e = room-last p q e (nat_eq p n) refl

-- ---- what is called

-- requests may have come below some queues of a row
pub changed-row : (way : ℕ → Bool) (low : Resource) (rows : List RowPart) (p : ℕ) (old new : RowPart) → slice_get rows p ≡ Some old
    → ((q : ℕ) → has_in (row_of new) q ≡ has_in (row_of old) q) → ((q : ℕ) → noted_in (row_of new) q ≡ cond (way q) (with_more low (noted_in (row_of old) q)) (noted_in (row_of old) q))
    → Changes (more_where (λ r t. nat_eq r p && way t) low) (notes_of rows) (notes_of (set rows p new))
changed-row way low rows p old new at has is =
    changes-as (in_row p (λ t n. cond (way t) (with_more low n) n)) (more_where (λ r t. nat_eq r p && way t) low) (notes_of rows) (notes_of (set rows p new))
    (row-changes rows p old new (λ t n. cond (way t) (with_more low n) n) at has is) (λ r t. go (nat_eq r p) (way t) (noted_at (notes_of rows) r t))
  where
    go : (a b : Bool) (n : Noted) → cond a (cond b (with_more low n) n) n ≡ cond (a && b) (with_more low n) n
    go true b n = refl
    go false b n = refl

-- something is noted in a row
pub noted-row : (rows : List RowPart) (p queue : ℕ) (more : Noted) (old new : RowPart) → slice_get rows p ≡ Some old
    → ((q : ℕ) → has_in (row_of new) q ≡ has_in (row_of old) q) → ((q : ℕ) → noted_in (row_of new) q ≡ cond (has_in (row_of old) q && nat_eq q queue) more (noted_in (row_of old) q))
    → Changes (noted (notes_of rows) p queue more) (notes_of rows) (notes_of (set rows p new))
noted-row rows p queue more old new at has is =
    changes-as (in_row p (λ t n. cond (has_in (row_of old) t && nat_eq t queue) more n)) (noted (notes_of rows) p queue more) (notes_of rows) (notes_of (set rows p new))
    (row-changes rows p old new (λ t n. cond (has_in (row_of old) t && nat_eq t queue) more n) at has is) (λ r t. go r t (nat_eq r p) refl)
  where
    go : (r t : ℕ) (b : Bool) → nat_eq r p ≡ b → cond b (cond (has_in (row_of old) t && nat_eq t queue) more (noted_at (notes_of rows) r t)) (noted_at (notes_of rows) r t)
        ≡ cond (b && (has_at (notes_of rows) r t && nat_eq t queue)) more (noted_at (notes_of rows) r t)
    go r t true e =
        let same : r ≡ p = grind (arith, nat_tests, e) in
        ap (λ b. cond (b && nat_eq t queue) more (noted_at (notes_of rows) r t)) (sym (has-row rows p t old at) ∙ ap (λ n. has_at (notes_of rows) n t) (sym same))
    go r t false e = refl

-- a row is forgotten
pub row-forgotten : (rows : List RowPart) (p : ℕ) (old new : RowPart) → slice_get rows p ≡ Some old → ((q : ℕ) → has_in (row_of new) q ≡ has_in (row_of old) q) → ((q : ℕ) → noted_in (row_of new) q ≡ nothing_noted)
    → Changes (forgotten_on p) (notes_of rows) (notes_of (set rows p new))
row-forgotten rows p old new at has is = row-changes rows p old new (λ t before. nothing_noted) at has is

-- where there is no row there is nothing to forget
pub none-forgotten : (rows : List RowPart) (p : ℕ) → nat_lt p (length rows) ≡ false → Changes (forgotten_on p) (notes_of rows) (notes_of rows)
none-forgotten rows p beyond = record { has = λ r t. refl; noted = λ r t. go r t (nat_eq r p) refl }
  where
    go : (r t : ℕ) (b : Bool) → nat_eq r p ≡ b → noted_at (notes_of rows) r t ≡ cond b nothing_noted (noted_at (notes_of rows) r t)
    go r t true e = let same : r ≡ p = grind (arith, nat_tests, e) in beyond-rows rows r t (ap (λ n. nat_lt n (length rows)) same ∙ beyond)
    go r t false e = refl

-- all rows are forgotten, one after another
pub all-more : (v : Table) (rows : List RowPart) (n : ℕ) (old new : RowPart) → slice_get rows n ≡ Some old
    → ((q : ℕ) → has_in (row_of new) q ≡ has_in (row_of old) q) → ((q : ℕ) → noted_in (row_of new) q ≡ nothing_noted)
    → Changes (up_to n forgotten) v (notes_of rows) → Changes (up_to (n + 1) forgotten) v (notes_of (set rows n new))
all-more v rows n old new at has is h = up_to-more n forgotten v (notes_of rows) (notes_of (set rows n new)) h (row-changes rows n old new (λ t before. nothing_noted) at has is)

pub all-done : (v : Table) (first rows : List RowPart) (p : ℕ) → notes_of first ≡ v → p ≡ length first → Changes (up_to p forgotten) v (notes_of rows) → Changes forgotten v (notes_of rows)
all-done v first rows p is many h =
    subst (λ (v : Table). Changes forgotten v (notes_of rows)) is
    (up_to-all forgotten first (notes_of rows) (λ r t. refl)
    (subst (λ n. Changes (up_to n forgotten) (notes_of first) (notes_of rows)) many (subst (λ (v : Table). Changes (up_to p forgotten) v (notes_of rows)) (sym is) h)))
