-- The line of an ask keeps what is known of a state: the ask comes last among those of its application, as one that is set.
use Rattle.std.proofs.Common.{◌≡◌, ℕ, Bool, true, false, cond, ◌&&◌, ◌==◌, List, [], ◌∷◌, ◌++◌, Some, None, refl, sym, ap, subst, ◌∙◌, arith}
use Rattle.std.specs.List.{AllByRecursion}
use Rattle.std.specs.Prelude.{IsTrue, nat_le, nat_lt, count_by}
use Rattle.std.proofs.lemmas.Bool.Decides.{nat_tests}
use Rattle.ynl_resource.specs.Amounts.{fits_in}
use Rattle.ynl_resource.specs.Names.{same_label, same_name, same_path}
use Rattle.ynl_resource.specs.Ranges.{most_asks}
use Rattle.ynl_resource.specs.Tables.{put, without}
use Rattle.ynl_resource.specs.declared.names.Name.{Name}
use Rattle.ynl_model.specs.Accepted.{is_accepted}
use Rattle.ynl_model.specs.Applications.{Application, LeafApps, find_app, find_ask, in_leaf, is_ask_of, set_ask, with_app}
use Rattle.ynl_model.specs.Cluster.{State}
use Rattle.ynl_model.specs.Events.{is_foreign, is_one_too_many}
use Rattle.ynl_model.specs.Queues.{Config}
use Rattle.ynl_model.specs.declared.applications.AskRow.{AskRow}
use Rattle.ynl_laws.specs.Untied.{Differs, Distinct}
use Rattle.ynl_laws.proofs.Events.Found.{FindsAll, IsFound, finds-changed}
use Rattle.ynl_laws.proofs.Events.Kept.{kept-leaf, with_app-apps, with_app-names}
use Rattle.ynl_laws.proofs.Lists.{Each-both, Each-weaker, Pairs-last, none-found}
use Rattle.ynl_laws.proofs.Lives.Entitled.{entitled-lasts}
use Rattle.ynl_saved.proofs.Changing.{Base}
use Rattle.ynl_saved.proofs.Configured.{limits}
use Rattle.ynl_saved.proofs.Leaved.{asking}
use Rattle.ynl_saved.proofs.Rows.{Each-updated, map-agree}
use Rattle.ynl_saved.proofs.Stamps.{Stamped, stamped-goes}
use Rattle.ynl_saved.proofs.Suited.{Suited, suited-goes}
use Rattle.ynl_saved.proofs.Tellable.{IsTellable, base-apps}

-- where none is found a row that is put comes last
put-last : {X : Type 0} (test : X → Bool) (new : X) (xs : List X) → AllByRecursion (λ x. test x ≡ false) xs → put test new xs ≡ xs ++ new ∷ []
put-last test new [] h = refl
put-last test new (x ∷ xs) h = (λ i. cond (h.0 i) (new ∷ xs) (x ∷ put test new xs)) ∙ ap (λ ys. x ∷ ys) (put-last test new xs h.1)

-- an ask comes last
abbrev pub adds : AskRow → Application → Application
adds ask app = record app { asks = app.asks ++ ask ∷ [] }

-- which is what setting it does where it is new and counts something
set-adds : (ask : AskRow) (app : Application) → find_ask app ask.label ask.priority ≡ None → nat_lt 0 ask.count ≡ true → adds ask app ≡ set_ask ask app
set-adds ask app new counts =
    (λ i. record app { asks = sym (put-last (is_ask_of ask.label ask.priority) ask app.asks (none-found (is_ask_of ask.label ask.priority) app.asks new)) i })
    ∙ (λ i. record app { asks = cond (sym (some ask.count counts) i) (without (is_ask_of ask.label ask.priority) app.asks) (put (is_ask_of ask.label ask.priority) ask app.asks) })
  where
    some : (n : ℕ) → nat_lt 0 n ≡ true → (n == 0) ≡ false
    some n k = grind (arith, nat_tests, k)

module _ (c : Config) (accepted : IsTrue (is_accepted c)) (s : State) (tenant name : Name) (found : Application) (finds : FindsAll s.leaves) (e : find_app s.leaves tenant name ≡ Some found) where
  -- what a change of the application that is found keeps of it is kept of all applications
  pub each-asked : (P : Application → Type 0) (change : Application → Application) → (P found → P (change found)) → AllByRecursion (λ (row : LeafApps). AllByRecursion P row.apps) s.leaves →
      AllByRecursion (λ (row : LeafApps). AllByRecursion P row.apps) (in_leaf found.leaf (with_app name change) s.leaves)
  each-asked P change step h =
      Each-updated (λ row. AllByRecursion P row.apps × AllByRecursion (IsFound s.leaves row) row.apps) (λ row. AllByRecursion P row.apps) (λ row. same_path row.leaf found.leaf) (with_app name change)
      (λ row at k. Each-updated (λ app. P app × IsFound s.leaves row app) P (λ app. same_name app.name name) change
      (λ app named j. let same : app ≡ found = asking c accepted s tenant name found finds e row app at named j.1 in subst (λ a. P (change a)) (sym same) (step (subst P same j.0)))
      (λ app named j. j.0) row.apps (Each-both P (IsFound s.leaves row) row.apps k.0 k.1))
      (λ row at k. k.0) s.leaves (Each-both (λ row. AllByRecursion P row.apps) (λ row. AllByRecursion (IsFound s.leaves row) row.apps) s.leaves h finds)

  -- changes that agree on the application that is found make the same leaves
  leaves-agree : (f g : Application → Application) → f found ≡ g found → in_leaf found.leaf (with_app name f) s.leaves ≡ in_leaf found.leaf (with_app name g) s.leaves
  leaves-agree f g same = map-agree _ _ s.leaves (Each-weaker (λ row. AllByRecursion (IsFound s.leaves row) row.apps) _ (λ row k. by-row row (same_path row.leaf found.leaf) refl k) s.leaves finds)
    where
      by-app : (row : LeafApps) → same_path row.leaf found.leaf ≡ true → (app : Application) (b : Bool) → same_name app.name name ≡ b → IsFound s.leaves row app →
          cond b (f app) app ≡ cond b (g app) app
      by-app row at app true named is = let one : app ≡ found = asking c accepted s tenant name found finds e row app at named is in ap f one ∙ same ∙ ap g (sym one)
      by-app row at app false named is = refl

      by-row : (row : LeafApps) (b : Bool) → same_path row.leaf found.leaf ≡ b → AllByRecursion (IsFound s.leaves row) row.apps → cond b (with_app name f row) row ≡ cond b (with_app name g row) row
      by-row row true at k = ap (λ apps. record row { apps = apps })
          (map-agree (λ app. cond (same_name app.name name) (f app) app) (λ app. cond (same_name app.name name) (g app) app) row.apps
          (Each-weaker (IsFound s.leaves row) _ (λ app is. by-app row at app (same_name app.name name) refl is) row.apps k))
      by-row row false at k = refl

module _ (c : Config) (accepted : IsTrue (is_accepted c)) (s : State) (tenant name : Name) (ask : AskRow) (found : Application) (h : IsTellable c s) (e : find_app s.leaves tenant name ≡ Some found)
    (own : is_foreign ask.label found ≡ false) (counts : nat_lt 0 ask.count ≡ true) (given : fits_in ask.size c.maximum_allocation ≡ true) (new : find_ask found ask.label ask.priority ≡ None)
    (few : nat_lt (count_by (λ (other : AskRow). same_label other.label ask.label) found.asks) most_asks ≡ true) where
  -- what was known of all states is known where the ask is set
  base-asks : Base c (record s { leaves = in_leaf found.leaf (with_app name (set_ask ask)) s.leaves })
  base-asks =
      let base = h.base in
      let kept = base.kept in
      let lasts = entitled-lasts c in
      base-apps c s (in_leaf found.leaf (with_app name (set_ask ask)) s.leaves) base
      (kept-leaf s found.leaf (with_app name (set_ask ask)) (with_app-names name (set_ask ask)) (with_app-apps name (set_ask ask) (λ app. refl) (λ app. refl)) kept)
      (finds-changed found.leaf name (set_ask ask) (λ app. refl) (λ app. refl) s.leaves kept.apps base.finds)
      (lasts.asks s tenant name found ask base.entitled base.finds e own)

  -- it is not one too many
  room : is_one_too_many ask.label ask.priority ask.count found ≡ false
  room = go (nat_lt 0 ask.count) _ (count_by (λ (other : AskRow). same_label other.label ask.label) found.asks) few
    where
      go : (a b : Bool) (n : ℕ) → nat_lt n most_asks ≡ true → (a && b && nat_le most_asks n) ≡ false
      go true true n k = grind (arith, nat_tests, k)
      go true false n k = refl
      go false b n k = refl

  -- it comes last where it is set
  same-leaves : in_leaf found.leaf (with_app name (set_ask ask)) s.leaves ≡ in_leaf found.leaf (with_app name (adds ask)) s.leaves
  same-leaves = let base = h.base in sym (leaves-agree c accepted s tenant name found base.finds e (adds ask) (set_ask ask) (set-adds ask found new counts))

  -- all that is known is known after the line
  pub tellable-asks : IsTellable c (record s { leaves = in_leaf found.leaf (with_app name (adds ask)) s.leaves })
  tellable-asks =
      let base = h.base in
      let stamps = stamped-goes c (limits c accepted) in
      let suits = suited-goes c accepted in
      record {
        base = subst (λ leaves. Base c (record s { leaves = leaves })) same-leaves base-asks;
        stamped = subst (λ leaves. Stamped c (record s { leaves = leaves })) same-leaves (stamps.asks s tenant name ask.label ask.priority ask.count ask.size found base h.stamped e own given room);
        suited = subst (λ leaves. Suited c (record s { leaves = leaves })) same-leaves (suits.asks s tenant name ask.label ask.priority ask.count ask.size found base h.suited e own given room);
        housed = h.housed;
        distinct = each-asked c accepted s tenant name found base.finds e Distinct (adds ask)
            (λ k. Pairs-last Differs found.asks ask k (none-found (is_ask_of ask.label ask.priority) found.asks new)) h.distinct;
      }
