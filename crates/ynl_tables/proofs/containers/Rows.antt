-- Something of each row, under the row's number.
use Rattle.std.proofs.Common.{◌≡◌, ℕ, Bool, true, false, cond, not, List, [], ◌∷◌, ◌++◌, map, Option, Some, None, option_map, nat_eq, refl, sym, ap, ◌∙◌}
use Rattle.std.specs.Map.{lookup}
use Rattle.std.proofs.lemmas.Bool.{cases_eq}
use Rattle.std.proofs.lemmas.List.{map-append}
use Rattle.std.proofs.lemmas.Option.{same_Some, none-some}
use Rattle.std.proofs.Common.{inl, inr}
use Rattle.ynl_slots.specs.declared.chain.Links.{Links}
use Rattle.ynl_slots.specs.Chain.{SetsLinks}
use Rattle.ynl_slots.specs.Slots.{IsUnused, HasDistinctNumbers, without}
use Rattle.ynl_tables.specs.containers.Fields.{of_rows}
use Rattle.ynl_slots.proofs.Entries.{same_rows, distinct_alike}

module _ {X Y : Type 0} (f : X → Y) where
  pub lookup-of_rows : (n : ℕ) (es : List (ℕ × X)) → lookup (nat_eq n) (of_rows f es) ≡ option_map f (lookup (nat_eq n) es)
  lookup-of_rows n [] = refl
  lookup-of_rows n (e ∷ es) = go (nat_eq n e.0) (lookup-of_rows n es)
    where
      go : (b : Bool) → lookup (nat_eq n) (of_rows f es) ≡ option_map f (lookup (nat_eq n) es) → cond b (Some (f e.1)) (lookup (nat_eq n) (of_rows f es)) ≡ option_map f (cond b (Some e.1) (lookup (nat_eq n) es))
      go true k = refl
      go false k = k

  -- without the numbers
  pub rows-of_rows : (es : List (ℕ × X)) → map f (map (λ e. e.1) es) ≡ map (λ e. e.1) (of_rows f es)
  rows-of_rows [] = refl
  rows-of_rows (e ∷ es) = ap (λ ys. f e.1 ∷ ys) (rows-of_rows es)

  pub of_rows-push : (n : ℕ) (row : X) (es : List (ℕ × X)) → of_rows f (es ++ (n, row) ∷ []) ≡ of_rows f es ++ (n, f row) ∷ []
  of_rows-push n row es = map-append (λ (e : ℕ × X). (e.0, f e.1)) es ((n, row) ∷ [])

  pub of_rows-without : (n : ℕ) (es : List (ℕ × X)) → of_rows f (without n es) ≡ without n (of_rows f es)
  of_rows-without n [] = refl
  of_rows-without n (e ∷ es) = go (nat_eq n e.0) (of_rows-without n es)
    where
      go : (b : Bool) → of_rows f (without n es) ≡ without n (of_rows f es) → of_rows f (cond (not b) (e ∷ without n es) (without n es)) ≡ cond (not b) ((e.0, f e.1) ∷ without n (of_rows f es)) (without n (of_rows f es))
      go true k = k
      go false k = ap (λ es. (e.0, f e.1) ∷ es) k

  pub unused_of_rows : (n : ℕ) (es : List (ℕ × X)) → IsUnused n es → IsUnused n (of_rows f es)
  unused_of_rows n [] h = tt
  unused_of_rows n (e ∷ es) h = (h.0, unused_of_rows n es h.1)

  pub distinct_of_rows : (es : List (ℕ × X)) → HasDistinctNumbers es → HasDistinctNumbers (of_rows f es)
  distinct_of_rows [] h = tt
  distinct_of_rows (e ∷ es) h = (unused_of_rows e.0 es h.0, distinct_of_rows es h.1)

  pub numbers-of_rows : (es : List (ℕ × X)) → map (λ e. e.0) (of_rows f es) ≡ map (λ e. e.0) es
  numbers-of_rows [] = refl
  numbers-of_rows (e ∷ es) = ap (λ ns. e.0 ∷ ns) (numbers-of_rows es)

  -- a write of links leaves it, if it reads no links
  pub of_rows-sets : (with_links : X → Links → X) → ((row : X) (to : Links) → f (with_links row to) ≡ f row) → (number : Option ℕ) (to : X → Links) (old new : List (ℕ × X))
      → HasDistinctNumbers old → SetsLinks with_links number to old new → of_rows f new ≡ of_rows f old
  of_rows-sets with_links stays number to old new d s =
      same_rows (of_rows f new) (of_rows f old) (numbers-of_rows new ∙ s.numbers ∙ sym (numbers-of_rows old)) (distinct_of_rows old d)
      (λ n. lookup-of_rows n new ∙ at n number refl ∙ sym (lookup-of_rows n old))
    where
      one : (o : Option X) → option_map f (option_map (λ r. with_links r (to r)) o) ≡ option_map f o
      one None = refl
      one (Some r) = ap (λ y. Some y) (stays r (to r))

      at : (n : ℕ) (m : Option ℕ) → number ≡ m → option_map f (lookup (nat_eq n) new) ≡ option_map f (lookup (nat_eq n) old)
      at n None is = ap (option_map f) (s.others n (λ e. none-some n (sym is ∙ e)))
      at n (Some m) is =
          elim (cases_eq m n) [
            | inl same ↦ ap (option_map f) (s.row n (is ∙ ap (λ (k : ℕ). Some k) same)) ∙ one (lookup (nat_eq n) old)
            | inr apart ↦ ap (option_map f) (s.others n (λ e. apart (same_Some m n (sym is ∙ e))))
          ]

  -- so do two writes
  pub of_rows-sets-twice : (with_links : X → Links → X) → ((row : X) (to : Links) → f (with_links row to) ≡ f row) → (n m : Option ℕ) (to into : X → Links) (old mid new : List (ℕ × X))
      → HasDistinctNumbers old → SetsLinks with_links n to old mid → SetsLinks with_links m into mid new → of_rows f new ≡ of_rows f old
  of_rows-sets-twice with_links stays n m to into old mid new d one two =
      of_rows-sets with_links stays m into mid new (distinct_alike mid old one.numbers d) two ∙ of_rows-sets with_links stays n to old mid d one

pub distinct_sets_twice : {X : Type 0} (with_links : X → Links → X) (n m : Option ℕ) (to into : X → Links) (old mid new : List (ℕ × X))
    → HasDistinctNumbers old → SetsLinks with_links n to old mid → SetsLinks with_links m into mid new → HasDistinctNumbers new
distinct_sets_twice with_links n m to into old mid new d one two = distinct_alike new mid two.numbers (distinct_alike mid old one.numbers d)
