-- What a tenant and a name find: the leaf of the submission, and the live application.
use Rattle.std.proofs.Common.{◌≡◌, ℕ, zero, suc, Bool, true, false, cond, ◌||◌, nat_eq, List, [], ◌∷◌, map, filter, find, slice_get, Option, None, Some, option_map, refl, sym, ap, subst, ◌∙◌, arith, true≢false}
use Rattle.std.specs.List.{AllByRecursion, cons_option, filter_map, list_any}
use Rattle.std.specs.Map.{lookup}
use Rattle.std.specs.Prelude.{IfSome}
use Rattle.std.specs.Option.{option_and_then, option_or}
use Rattle.std.proofs.lemmas.Bool.Decides.{nat_tests}
use Rattle.std.proofs.lemmas.Option.{same_Some, none-some}
use Rattle.ynl_resource.specs.declared.names.Name.{Name}
use Rattle.ynl_resource.specs.Names.{same_name}
use Rattle.ynl_model.specs.Applications.{Application}
use Rattle.ynl_laws.specs.Numbers.{Differ}
use Rattle.ynl_laws.proofs.Lists.{any-later}
use Rattle.ynl_laws.proofs.Names.{same-name_self, same-name_sym}
use Rattle.ynl_slots.proofs.Entries.{itself}
use Rattle.ynl_tables.specs.declared.submissions.submissions.Submission.{Submission}
use Rattle.ynl_inventory.specs.Rows.{Rows, AppRow}
use Rattle.ynl_inventory.specs.Meaning.{application_of, live_of}

abbrev pub Entry : Type 0
Entry = Name × Submission

abbrev pub name_of : Entry → Name
name_of e = e.0

-- ---- among submissions with names of their own

-- a later entry has another name
later : (e : Entry) (es : List Entry) (k : ℕ) (f : Entry) → AllByRecursion (λ name. same_name e.0 name ≡ false) (map name_of es) → slice_get es k ≡ Some f → same_name e.0 f.0 ≡ false
later e [] k f h at = absurd (none-some f at)
later e (x ∷ xs) zero f h at = subst (λ (y : Entry). same_name e.0 y.0 ≡ false) (same_Some x f at) h.0
later e (x ∷ xs) (suc k) f h at = later e xs k f h.1 at

-- entries of another name than the first
others : (e : Entry) (es : List Entry) (name : Name) → name ≡ e.0 → (found : Entry) → AllByRecursion (λ other. same_name e.0 other ≡ false) (map name_of es) → AllByRecursion (λ f. same_name name f.0 ≡ true → f ≡ found) es
others e [] name is found h = tt
others e (f ∷ fs) name is found h =
    ((λ same. absurd (true≢false (sym same ∙ ap (λ (n : Name). same_name n f.0) is ∙ h.0))), others e fs name is found h.1)

-- the entry of a turn is the only one of its name
pub only-named : (es : List Entry) (turn : ℕ) (found : Entry) → Differ (map name_of es) → slice_get es turn ≡ Some found → AllByRecursion (λ e. same_name found.0 e.0 ≡ true → e ≡ found) es
only-named [] turn found differ at = tt
only-named (e ∷ es) zero found differ at =
    let is : e ≡ found = same_Some e found at in
    ((λ same. is), others e es found.0 (ap name_of (sym is)) found differ.0)
only-named (e ∷ es) (suc turn) found differ at =
    ((λ same. absurd (true≢false (sym (subst (λ (n : Name). same_name e.0 n ≡ true) (sym (same-name_sym found.0 e.0 same)) (same-name_self e.0)) ∙ later e es turn found differ.0 at))), only-named es turn found differ.1 at)

-- ---- the names of a leaf

abbrev pub in_leaf : ℕ → List Entry → List Entry
in_leaf q es = filter (λ e. nat_eq e.1.leaf q) es

-- a leaf that has the name is that of the only submission of it
pub leaf-of_name : (q l : ℕ) (name : Name) (es : List Entry) → AllByRecursion (λ e. same_name name e.0 ≡ true → e.1.leaf ≡ l) es → list_any (same_name name) (map name_of (in_leaf q es)) ≡ true → q ≡ l
leaf-of_name q l name [] h any = absurd (true≢false (sym any))
leaf-of_name q l name (e ∷ es) h any = go (nat_eq e.1.leaf q) refl any (leaf-of_name q l name es h.1)
  where
    go : (b : Bool) → nat_eq e.1.leaf q ≡ b → list_any (same_name name) (map name_of (cond b (e ∷ in_leaf q es) (in_leaf q es))) ≡ true
        → (list_any (same_name name) (map name_of (in_leaf q es)) ≡ true → q ≡ l) → q ≡ l
    go false is k rest = rest k
    go true is k rest = own (same_name name e.0) refl k
      where
        own : (b : Bool) → same_name name e.0 ≡ b → (b || list_any (same_name name) (map name_of (in_leaf q es))) ≡ true → q ≡ l
        own true same k = let at : e.1.leaf ≡ l = h.0 same in grind (arith, nat_tests)
        own false same k = rest k

-- the leaf of a submission has its name
pub has-name : (turn : ℕ) (found : Entry) (es : List Entry) → slice_get es turn ≡ Some found → list_any (same_name found.0) (map name_of (in_leaf found.1.leaf es)) ≡ true
has-name turn found [] at = absurd (none-some found at)
has-name zero found (e ∷ es) at = subst (λ (x : Entry). list_any (same_name x.0) (map name_of (in_leaf x.1.leaf (e ∷ es))) ≡ true) (same_Some e found at) first
  where
    first : list_any (same_name e.0) (map name_of (in_leaf e.1.leaf (e ∷ es))) ≡ true
    first = rw (itself e.1.leaf) (ap (λ b. b || list_any (same_name e.0) (map name_of (in_leaf e.1.leaf es))) (same-name_self e.0))
has-name (suc turn) found (e ∷ es) at = go (nat_eq e.1.leaf found.1.leaf) (has-name turn found es at)
  where
    go : (b : Bool) → list_any (same_name found.0) (map name_of (in_leaf found.1.leaf es)) ≡ true → list_any (same_name found.0) (map name_of (cond b (e ∷ in_leaf found.1.leaf es) (in_leaf found.1.leaf es))) ≡ true
    go true k = any-later (same_name found.0) e.0 (map name_of (in_leaf found.1.leaf es)) k
    go false k = k

-- ---- the live applications of a leaf

module _ (v : Rows) where
  -- a live application has the name of its submission
  pub own-name : (e : Entry) → IfSome (live_of v e) (λ app. app.name ≡ e.0)
  own-name e = go (option_and_then (λ n. lookup (nat_eq n) v.apps) e.1.app)
    where
      go : (o : Option AppRow) → IfSome (option_map (application_of v e.0) o) (λ app. app.name ≡ e.0)
      go None = tt
      go (Some row) = refl

  abbrev pub finds : Name → ℕ → List Entry → Option Application
  finds name q es = find (λ app. same_name app.name name) (filter_map (live_of v) (in_leaf q es))

  -- what is found where one more entry stands in front
  step : (name : Name) (e : Entry) (apps : List Application) (o : Option Application) → IfSome o (λ app. app.name ≡ e.0)
      → find (λ app. same_name app.name name) (cons_option o apps) ≡ option_or (cond (same_name e.0 name) o None) (find (λ app. same_name app.name name) apps)
  step name e apps None h = go (same_name e.0 name)
    where
      go : (b : Bool) → find (λ app. same_name app.name name) apps ≡ option_or (cond b None None) (find (λ app. same_name app.name name) apps)
      go true = refl
      go false = refl
  step name e apps (Some app) h = ap (λ (n : Name). cond (same_name n name) (Some app) (find (λ other. same_name other.name name) apps)) h ∙ go (same_name e.0 name)
    where
      go : (b : Bool) → cond b (Some app) (find (λ other. same_name other.name name) apps) ≡ option_or (cond b (Some app) None) (find (λ other. same_name other.name name) apps)
      go true = refl
      go false = refl

  module _ (found : Entry) where
    -- an entry that is no other of the name
    abbrev pub IsNoOther : Entry → Type 0
    IsNoOther e = same_name found.0 e.0 ≡ true → e ≡ found

    abbrev pub finds_in : List Entry → Option Application
    finds_in es = finds found.0 found.1.leaf es

    turned : (e : Entry) → IsNoOther e → same_name e.0 found.0 ≡ true → e ≡ found
    turned e only same = only (subst (λ (n : Name). same_name n e.0 ≡ true) (same-name_sym e.0 found.0 same) (same-name_self e.0))

    -- where its submission is not live no application is found
    pub none-found : (es : List Entry) → AllByRecursion IsNoOther es → live_of v found ≡ None → finds_in es ≡ None
    none-found [] h none = refl
    none-found (e ∷ es) h none = go (nat_eq e.1.leaf found.1.leaf) (none-found es h.1 none)
      where
        own : (b : Bool) → same_name e.0 found.0 ≡ b → finds_in es ≡ None → option_or (cond b (live_of v e) None) (finds_in es) ≡ None
        own true same rest = ap (λ o. option_or o (finds_in es)) (ap (live_of v) (turned e h.0 same) ∙ none) ∙ rest
        own false same rest = rest

        go : (b : Bool) → finds_in es ≡ None → find (λ app. same_name app.name found.0) (filter_map (live_of v) (cond b (e ∷ in_leaf found.1.leaf es) (in_leaf found.1.leaf es))) ≡ None
        go true rest = step found.0 e (filter_map (live_of v) (in_leaf found.1.leaf es)) (live_of v e) (own-name e) ∙ own (same_name e.0 found.0) refl rest
        go false rest = rest

    module _ (app : Application) (live : live_of v found ≡ Some app) where
      -- where it stands in front, or behind an entry of another name, it is found
      front : (e : Entry) (es : List Entry) → IsNoOther e → (same_name e.0 found.0 ≡ false → finds_in es ≡ Some app)
          → find (λ other. same_name other.name found.0) (cons_option (live_of v e) (filter_map (live_of v) (in_leaf found.1.leaf es))) ≡ Some app
      front e es only behind = step found.0 e (filter_map (live_of v) (in_leaf found.1.leaf es)) (live_of v e) (own-name e) ∙ own (same_name e.0 found.0) refl
        where
          own : (b : Bool) → same_name e.0 found.0 ≡ b → option_or (cond b (live_of v e) None) (finds_in es) ≡ Some app
          own true same = ap (λ o. option_or o (finds_in es)) (ap (live_of v) (turned e only same) ∙ live)
          own false same = behind same

      -- where it is live its application is found
      pub some-found : (turn : ℕ) (es : List Entry) → slice_get es turn ≡ Some found → AllByRecursion IsNoOther es → finds_in es ≡ Some app
      some-found turn [] at h = absurd (none-some found at)
      some-found zero (e ∷ es) at h = go (nat_eq e.1.leaf found.1.leaf) refl
        where
          is : e ≡ found
          is = same_Some e found at

          other : same_name e.0 found.0 ≡ false → finds_in es ≡ Some app
          other apart = absurd (true≢false (sym (ap (λ (x : Entry). same_name x.0 found.0) is ∙ same-name_self found.0) ∙ apart))

          go : (b : Bool) → nat_eq e.1.leaf found.1.leaf ≡ b → find (λ other. same_name other.name found.0) (filter_map (live_of v) (cond b (e ∷ in_leaf found.1.leaf es) (in_leaf found.1.leaf es))) ≡ Some app
          go true q = front e es h.0 other
          go false q = absurd (true≢false (sym (ap (λ (x : Entry). nat_eq x.1.leaf found.1.leaf) is ∙ itself found.1.leaf) ∙ q))
      some-found (suc turn) (e ∷ es) at h = go (nat_eq e.1.leaf found.1.leaf) (some-found turn es at h.1)
        where
          go : (b : Bool) → finds_in es ≡ Some app → find (λ other. same_name other.name found.0) (filter_map (live_of v) (cond b (e ∷ in_leaf found.1.leaf es) (in_leaf found.1.leaf es))) ≡ Some app
          go true rest = front e es h.0 (λ _. rest)
          go false rest = rest
