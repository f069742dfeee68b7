-- What was submitted to a leaf and is live stands in the order of the applications, if those of a tenant stand in the order of their turns.
use Rattle.std.proofs.Common.{◌≡◌, ◌≢◌, ◌<◌, ℕ, zero, suc, ◌+◌, Bool, true, false, cond, ◌||◌, List, [], ◌∷◌, map, filter, slice_get, Option, Some, None, option_map, is_some, nat_eq, refl, sym, ap, subst, ◌∙◌, arith, inl, inr, true≢false}
use mathlib.Core.Logic.{◌⊎◌}
use Rattle.std.specs.List.{AllByRecursion, cons_option, filter_map, list_any}
use Rattle.std.specs.Map.{lookup}
use Rattle.std.specs.Option.{option_and_then}
use Rattle.std.proofs.lemmas.Bool.{cases_eq, eqb-true}
use Rattle.std.proofs.lemmas.Option.{none-some, same_Some}
use Rattle.ynl_laws.proofs.Lists.{Each-both, Each-kept, Each-weaker}
use Rattle.ynl_laws.proofs.Logic.{none-is}
use Rattle.ynl_model.specs.Applications.{Application}
use Rattle.ynl_laws.specs.Working.{Pairs}
use Rattle.ynl_slots.proofs.Entries.{itself, other}
use Rattle.ynl_inventory.specs.Rows.{Rows, AppRow}
use Rattle.ynl_inventory.specs.Meaning.{app_name, app_of, application_of, live_of, submitted_in, submitted_to, tenant_at}
use Rattle.ynl_inventory.specs.Apps.{IsBefore}
use Rattle.ynl_inventory.specs.Sound.{IsSound}
use Rattle.ynl_inventory.proofs.Apps.{Entry}
use Rattle.ynl_inventory.proofs.Filters.{filter-distinct, filter-lookup}
use Rattle.ynl_inventory.proofs.Finding.{not-true}
use Rattle.ynl_inventory.proofs.Submitted.{app-submission, app-submitted, submission}
use Rattle.ynl_inventory.proofs.Updates.{each-number}
use Rattle.ynl_cluster.proofs.seating.Newcomer.{none-any}
use Rattle.ynl_cluster.proofs.seating.Tickets.{kept-found}

-- what is found passes a test if it passes
any-found : {X : Type 0} (test : ℕ × X → Bool) (es : List (ℕ × X)) (n : ℕ) (row : X) → lookup (nat_eq n) es ≡ Some row → test (n, row) ≡ true → list_any test es ≡ true
any-found test [] n row found passes = absurd (none-some row found)
any-found {X} test (e ∷ es) n row found passes = go (nat_eq n e.0) refl found (λ k. any-found test es n row k passes)
  where
    go : (b : Bool) → nat_eq n e.0 ≡ b → cond b (Some e.1) (lookup (nat_eq n) es) ≡ Some row → (lookup (nat_eq n) es ≡ Some row → list_any test es ≡ true) → (test e || list_any test es) ≡ true
    go true q k rest =
        let is : ◌≡◌ {A = ℕ × X} e (n, row) = λ i. (sym (eqb-true n e.0 q) i, same_Some e.1 row k i) in
        ap (λ b. b || list_any test es) (ap test is ∙ passes)
    go false q k rest = ap (λ b. test e || b) (rest k) ∙ last (test e)
      where
        last : (b : Bool) → (b || true) ≡ true
        last true = refl
        last false = refl

module _ (v : Rows) (q : ℕ) where
  -- the submission of an application of the leaf
  abbrev entry : ℕ × AppRow → Entry
  entry a = (app_name v.tenants a.1.tenant a.1.turn, record { leaf = q; app = Some a.0 })

  -- it stands at its turn, where the first of these has turn k
  record IsAt (k : ℕ) (es : List Entry) (a : ℕ × AppRow) : Type 0 where
    place : ℕ
    turn : a.1.turn ≡ k + place
    there : slice_get es place ≡ Some (entry a)
    live : lookup (nat_eq a.0) v.apps ≡ Some a.1

  -- turns rise
  abbrev AreRising : List (ℕ × AppRow) → Type 0
  AreRising [] = Unit {0}
  AreRising (a ∷ apps) = AllByRecursion (λ b. a.1.turn < b.1.turn) apps × AreRising apps

  abbrev has_turn : ℕ → List (ℕ × AppRow) → Bool
  has_turn k apps = list_any (λ a. nat_eq a.1.turn k) apps

  -- each that is live has its application
  abbrev Covers : ℕ → List Entry → List (ℕ × AppRow) → Type 0
  Covers k es apps = (i : ℕ) (e : Entry) → slice_get es i ≡ Some e → e.1.leaf ≡ q → is_some (live_of v e) ≡ true → has_turn (k + i) apps ≡ true

  later : (k : ℕ) (e : Entry) (es : List Entry) (apps : List (ℕ × AppRow)) → AllByRecursion (IsAt k (e ∷ es)) apps → AllByRecursion (λ a. k < a.1.turn) apps → AllByRecursion (IsAt (k + 1) es) apps
  later k e es [] at past = tt
  later k e es (a ∷ apps) at past = (go at.0.place at.0.turn at.0.there, later k e es apps at.1 past.1)
    where
      go : (i : ℕ) → a.1.turn ≡ k + i → slice_get (e ∷ es) i ≡ Some (entry a) → IsAt (k + 1) es a
      go zero turn there = absurd (omega (arith, turn, past.0))
      go (suc i) turn there = record { place = i; turn = omega (arith, turn); there = there; live = at.0.live }

  covers-later : (k : ℕ) (e : Entry) (es : List Entry) (apps : List (ℕ × AppRow)) → Covers k (e ∷ es) apps → Covers (k + 1) es apps
  covers-later k e es apps covers i f at leaf live = let turn : k + suc i ≡ k + 1 + i = omega arith in subst (λ m. has_turn m apps ≡ true) turn (covers (suc i) f at leaf live)

  -- the applications that are left have later turns
  passed : (k : ℕ) (apps : List (ℕ × AppRow)) → AllByRecursion (λ a. k < a.1.turn) apps → has_turn k apps ≡ false
  passed k apps past = none-any (λ a. nat_eq a.1.turn k) apps (Each-weaker (λ a. k < a.1.turn) (λ a. nat_eq a.1.turn k ≡ false) (λ a h. other a.1.turn k (λ same. absurd (omega (arith, h, same)))) apps past)

  abbrev taken : List Entry → List Application
  taken es = filter_map (live_of v) (filter (λ e. nat_eq e.1.leaf q) es)

  -- an entry without a live application of the leaf is passed over
  skipped : (k : ℕ) (e : Entry) (es : List Entry) (apps : List (ℕ × AppRow)) → Covers k (e ∷ es) apps → AllByRecursion (λ a. k < a.1.turn) apps → taken (e ∷ es) ≡ taken es
  skipped k e es apps covers past = go (nat_eq e.1.leaf q) refl
    where
      none : e.1.leaf ≡ q → live_of v e ≡ None
      none leaf =
          none-is (live_of v e)
          (not-true (is_some (live_of v e))
          (λ live.
          let turn : k + 0 ≡ k = omega arith in
          true≢false (sym (covers 0 e refl leaf live) ∙ ap (λ m. has_turn m apps) turn ∙ passed k apps past)))

      go : (b : Bool) → nat_eq e.1.leaf q ≡ b → filter_map (live_of v) (cond b (e ∷ filter (λ e. nat_eq e.1.leaf q) es) (filter (λ e. nat_eq e.1.leaf q) es)) ≡ taken es
      go true leaf = ap (λ o. cons_option o (taken es)) (none (eqb-true e.1.leaf q leaf))
      go false far = refl

  -- the entry of the first application is taken
  met : (k : ℕ) (e : Entry) (es : List Entry) (a : ℕ × AppRow) → IsAt k (e ∷ es) a → a.1.turn ≡ k → taken (e ∷ es) ≡ app_of v a ∷ taken es
  met k e es a at same = go at.place at.turn at.there
    where
      go : (i : ℕ) → a.1.turn ≡ k + i → slice_get (e ∷ es) i ≡ Some (entry a) → taken (e ∷ es) ≡ app_of v a ∷ taken es
      go (suc i) turn there = absurd (omega (arith, turn, same))
      go zero turn there =
          ap (λ (f : Entry). taken (f ∷ es)) (same_Some e (entry a) there)
          ∙ ap (λ b. filter_map (live_of v) (cond b (entry a ∷ filter (λ e. nat_eq e.1.leaf q) es) (filter (λ e. nat_eq e.1.leaf q) es))) (itself q)
          ∙ ap (λ o. cons_option (option_map (application_of v (entry a).0) o) (taken es)) at.live

  abbrev Walks : List Entry → ℕ → Type 0
  Walks es k = (apps : List (ℕ × AppRow)) → AllByRecursion (IsAt k es) apps → AreRising apps → Covers k es apps → taken es ≡ map (app_of v) apps

  step : (k : ℕ) (e : Entry) (es : List Entry) (a : ℕ × AppRow) (apps : List (ℕ × AppRow)) → AllByRecursion (IsAt k (e ∷ es)) (a ∷ apps) → AreRising (a ∷ apps)
      → Covers k (e ∷ es) (a ∷ apps) → Walks es (k + 1) → taken (e ∷ es) ≡ app_of v a ∷ map (app_of v) apps
  step k e es a apps at rising covers walks = go (cases_eq a.1.turn k)
    where
      go : (a.1.turn ≡ k) ⊎ (a.1.turn ≢ k) → taken (e ∷ es) ≡ app_of v a ∷ map (app_of v) apps
      go (inl same) = met k e es a at.0 same ∙ ap (λ ys. app_of v a ∷ ys) (walks apps (later k e es apps at.1 past) rising.1 rest)
        where
          past : AllByRecursion (λ b. k < b.1.turn) apps
          past = Each-weaker (λ (b : ℕ × AppRow). a.1.turn < b.1.turn) (λ b. k < b.1.turn) (λ b h. omega (arith, h, same)) apps rising.0

          rest : Covers (k + 1) es apps
          rest i f there leaf live =
              let far : a.1.turn ≢ k + 1 + i = λ is. absurd (omega (arith, is, same)) in
              sym (ap (λ b. b || has_turn (k + 1 + i) apps) (other a.1.turn (k + 1 + i) far)) ∙ covers-later k e es (a ∷ apps) covers i f there leaf live
      go (inr apart) =
          skipped k e es (a ∷ apps) covers past ∙ walks (a ∷ apps) (later k e es (a ∷ apps) at past) rising (covers-later k e es (a ∷ apps) covers)
        where
          first : k < a.1.turn
          first = let turn : a.1.turn ≡ k + at.0.place = at.0.turn in omega (arith, turn, apart)

          past : AllByRecursion (λ b. k < b.1.turn) (a ∷ apps)
          past = (first, Each-weaker (λ (b : ℕ × AppRow). a.1.turn < b.1.turn) (λ b. k < b.1.turn) (λ b h. omega (arith, h, first)) apps rising.0)

  walk : (es : List Entry) (k : ℕ) (apps : List (ℕ × AppRow)) → AllByRecursion (IsAt k es) apps → AreRising apps → Covers k es apps → taken es ≡ map (app_of v) apps
  walk [] k [] at rising covers = refl
  walk [] k (a ∷ apps) at rising covers = absurd (none-some (entry a) at.0.there)
  walk (e ∷ es) k [] at rising covers = skipped k e es [] covers tt ∙ walk es (k + 1) [] tt tt (covers-later k e es [] covers)
  walk (e ∷ es) k (a ∷ apps) at rising covers = step k e es a apps at rising covers (walk es (k + 1))

  -- ---- in sound rows

  module _ (sound : IsSound v) where
    abbrev t : ℕ
    t = tenant_at v.paths q

    abbrev own : ℕ × AppRow → Bool
    own e = nat_eq e.1.leaf q

    -- an application of the leaf is its tenant's
    tenant-is : (n : ℕ) (row : AppRow) → lookup (nat_eq n) v.apps ≡ Some row → nat_eq row.leaf q ≡ true → row.tenant ≡ t
    tenant-is n row found leaf = sym (app-submission v sound n row found).tenant ∙ ap (tenant_at v.paths) (eqb-true row.leaf q leaf)

    stands : AllByRecursion (IsAt 0 (submitted_to v.tenants t)) (filter own v.apps)
    stands =
        each-number (λ n row. IsAt 0 (submitted_to v.tenants t) (n, row)) (filter own v.apps) (filter-distinct own v.apps sound.app_numbers)
        (λ n row found. let is = filter-lookup own n row v.apps sound.app_numbers found in one n row is.0 is.1)
      where
        one : (n : ℕ) (row : AppRow) → lookup (nat_eq n) v.apps ≡ Some row → nat_eq row.leaf q ≡ true → IsAt 0 (submitted_to v.tenants t) (n, row)
        one n row found leaf = record {
          place = row.turn;
          turn = omega arith;
          there =
              ap (λ m. slice_get (submitted_to v.tenants m) row.turn) (sym (tenant-is n row found leaf)) ∙ app-submitted v sound n row found
              ∙ ap of_leaf (eqb-true row.leaf q leaf);
          live = found;
        }
          where
            of_leaf : ℕ → Option Entry
            of_leaf m = Some (app_name v.tenants row.tenant row.turn, record { leaf = m; app = Some n })

    rises : (apps : List (ℕ × AppRow)) → Pairs IsBefore apps → AllByRecursion (λ e. own e ≡ true → e.1.tenant ≡ t) apps → AreRising (filter own apps)
    rises [] turn same = tt
    rises (e ∷ apps) turn same = go (own e) refl (rises apps turn.1 same.1)
      where
        go : (b : Bool) → own e ≡ b → AreRising (filter own apps) → AreRising (cond b (e ∷ filter own apps) (filter own apps))
        go true is rest = (
          Each-kept (λ b. e.1.turn < b.1.turn) own apps
              (Each-weaker (λ b. (e.1.tenant ≡ b.1.tenant → e.1.turn < b.1.turn) × (own b ≡ true → b.1.tenant ≡ t)) (λ b. own b ≡ true → e.1.turn < b.1.turn)
              (λ b both mine. both.0 (same.0 is ∙ sym (both.1 mine))) apps
              (Each-both (λ b. e.1.tenant ≡ b.1.tenant → e.1.turn < b.1.turn) (λ b. own b ≡ true → b.1.tenant ≡ t) apps turn.0 same.1)),
          rest,
        )
        go false off rest = rest

    covered : Covers 0 (submitted_to v.tenants t) (filter own v.apps)
    covered i e at leaf live = go e.1.app refl live
      where
        go : (o : Option ℕ) → e.1.app ≡ o → is_some (option_map (application_of v e.0) (option_and_then (λ n. lookup (nat_eq n) v.apps) o)) ≡ true → has_turn (0 + i) (filter own v.apps) ≡ true
        go None is none = absurd (true≢false (sym none))
        go (Some n) is some = by (lookup (nat_eq n) v.apps) refl some
          where
            by : (o : Option AppRow) → lookup (nat_eq n) v.apps ≡ o → is_some (option_map (application_of v e.0) o) ≡ true → has_turn (0 + i) (filter own v.apps) ≡ true
            by None none h = absurd (true≢false (sym h))
            by (Some row) found h =
                let its = (submission v sound t i e at).row n row is found in
                let mine : nat_eq row.leaf q ≡ true = ap (λ m. nat_eq m q) (its.1.1 ∙ leaf) ∙ itself q in
                let turn : row.turn ≡ 0 + i = omega (arith, its.1.0) in
                any-found (λ a. nat_eq a.1.turn (0 + i)) (filter own v.apps) n row (kept-found own v.apps n row found mine) (ap (λ m. nat_eq m (0 + i)) turn ∙ itself (0 + i))

    -- the live applications of the leaf, in the order of the rows
    pub in-order : filter_map (live_of v) (submitted_in v q) ≡ map (app_of v) (filter own v.apps)
    in-order =
        walk (submitted_to v.tenants t) 0 (filter own v.apps) stands
        (rises v.apps sound.order (each-number (λ n row. nat_eq row.leaf q ≡ true → row.tenant ≡ t) v.apps sound.app_numbers tenant-is)) covered
