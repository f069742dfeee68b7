-- An application without containers is live no more: the rows stay sound, and mean what the model leaves of it.
use Rattle.std.proofs.Common.{◌≡◌, ◌≢◌, ◌<◌, ℕ, zero, suc, Bool, true, false, cond, not, List, [], ◌∷◌, map, filter, length, slice_get, Option, Some, None, is_some, option_map, nat_eq, refl, sym, ap, subst, ◌∙◌, arith, inl, inr}
use Rattle.std.specs.Prelude.{IfSome}
use Rattle.std.specs.List.{AllByRecursion, cons_option, filter_map}
use Rattle.std.specs.Map.{lookup}
use mathlib.Core.Logic.{◌⊎◌}
use Rattle.std.specs.Option.{option_and_then, option_map_or}
use Rattle.std.proofs.lemmas.Bool.{cases_eq}
use Rattle.std.proofs.lemmas.Option.{get_or_from_slice_get, same_Some, none-some, slice_get_within}
use Rattle.ynl_resource.specs.declared.names.Name.{Name}
use Rattle.ynl_resource.specs.Names.{same_name}
use Rattle.ynl_resource.specs.Tables.{without as without_rows}
use Rattle.ynl_model.specs.declared.queues.StopRow.{StopRow}
use Rattle.ynl_model.specs.declared.queues.MaximumRow.{MaximumRow}
use Rattle.ynl_model.specs.Applications.{Application, in_leaf, finished}
use Rattle.ynl_laws.specs.Numbers.{Differ}
use Rattle.ynl_laws.proofs.Lists.{Pairs-filter}
use Rattle.ynl_laws.proofs.Names.{same-name_self}
use Rattle.ynl_inventory.specs.layout.Paths.{path_at}
use Rattle.ynl_slots.specs.Slots.{IsLive, without}
use Rattle.ynl_slots.proofs.Entries.{distinct_without, itself, lookup-without-other, other as apart_numbers}
use Rattle.ynl_slots.proofs.Lookups.{lookup-without}
use Rattle.ynl_tables.specs.declared.containers.container.Container.{Container}
use Rattle.ynl_tables.specs.declared.submissions.submissions.Submission.{Submission}
use Rattle.ynl_tables.specs.submissions.Submissions.{with_finished}
use Rattle.ynl_inventory.specs.Rows.{Rows, PartitionRow, AppRow}
use Rattle.ynl_inventory.specs.Meaning.{app_name, application_of, leaf_of, live_of, owner_of, partition_of, placed_of, state_of, submitted_in, submitted_to, tenant_at}
use Rattle.ynl_inventory.specs.Changes.{with_app_gone}
use Rattle.ynl_inventory.specs.Apps.{IsBefore}
use Rattle.ynl_inventory.specs.Sound.{IsApp, IsPartition, IsSound, IsSubmission, IsTenant}
use Rattle.ynl_inventory.proofs.Lookups.{each-place, length-at, place-there}
use Rattle.ynl_inventory.proofs.Updates.{each-number}
use Rattle.ynl_inventory.proofs.Naming.{app_name-finished, live-same, owner-same, placed-same}
use Rattle.ynl_inventory.proofs.Kept.{kept-container}
use Rattle.ynl_inventory.proofs.AppChange.{made-same}
use Rattle.ynl_inventory.proofs.Finding.{not-true}
use Rattle.ynl_inventory.proofs.Leaves.{one-leaf}
use Rattle.ynl_inventory.proofs.Submitted.{each-submitted, one-turn, submission, tenant-there}
use Rattle.ynl_inventory.proofs.Submitting.{submitted-own, submitted-other, map-each}

abbrev pub Entry : Type 0
Entry = Name × Submission

-- a submission that is live no more
abbrev pub cleared : Entry → Entry
cleared e = (e.0, record e.1 { app = None })

-- ---- lists of submissions

-- the names stay
finished-names : (turn : ℕ) (es : List Entry) → map (λ (e : Entry). e.0) (with_finished turn es) ≡ map (λ (e : Entry). e.0) es
finished-names turn [] = refl
finished-names zero (e ∷ es) = refl
finished-names (suc turn) (e ∷ es) = ap (λ names. e.0 ∷ names) (finished-names turn es)

-- the one of the turn is cleared
finished-own : (turn : ℕ) (es : List Entry) → slice_get (with_finished turn es) turn ≡ option_map cleared (slice_get es turn)
finished-own turn [] = refl
finished-own zero (e ∷ es) = refl
finished-own (suc turn) (e ∷ es) = finished-own turn es

-- and no other
finished-other : (turn k : ℕ) (es : List Entry) → k ≢ turn → slice_get (with_finished turn es) k ≡ slice_get es k
finished-other turn k [] apart = refl
finished-other zero zero (e ∷ es) apart = absurd (apart refl)
finished-other zero (suc k) (e ∷ es) apart = refl
finished-other (suc turn) zero (e ∷ es) apart = refl
finished-other (suc turn) (suc k) (e ∷ es) apart = finished-other turn k es (λ same. apart (ap suc same))

module _ (g : Entry → Bool) (clear : (e : Entry) → g (cleared e) ≡ g e) where
  -- where the one of the turn is left out, nothing changes
  finished-out : (turn : ℕ) (es : List Entry) → ((e : Entry) → slice_get es turn ≡ Some e → g e ≡ false) → filter g (with_finished turn es) ≡ filter g es
  finished-out turn [] out = refl
  finished-out zero (e ∷ es) out =
      ap (λ (b : Bool). let r : List Entry = cond b (cleared e ∷ filter g es) (filter g es) in r) (clear e ∙ out e refl)
      ∙ sym (ap (λ (b : Bool). let r : List Entry = cond b (e ∷ filter g es) (filter g es) in r) (out e refl))
  finished-out (suc turn) (e ∷ es) out = ap (λ (fs : List Entry). let r : List Entry = cond (g e) (e ∷ fs) fs in r) (finished-out turn es out)

  module _ (old new : Entry → Option Application) (test : Application → Bool) where
    -- what is made of another is made as before, and the test does not pass it
    record Stays (e : Entry) : Type 0 where
      same : new e ≡ old e
      other : IfSome (old e) (λ app. test app ≡ false)

    -- of the one nothing is made any more
    record Goes (e : Entry) : Type 0 where
      none : new (cleared e) ≡ None
      own : IfSome (old e) (λ app. test app ≡ true)

    rest-stays : (e : Entry) (apps : List Application) (o : Option Application) → IfSome o (λ app. test app ≡ false) → cons_option o (without_rows test apps) ≡ without_rows test (cons_option o apps)
    rest-stays e apps None h = refl
    rest-stays e apps (Some app) h = sym (ap (λ (b : Bool). let r : List Application = cond (not b) (app ∷ without_rows test apps) (without_rows test apps) in r) h)

    all-stay : (es : List Entry) → AllByRecursion Stays es → filter_map new (filter g es) ≡ without_rows test (filter_map old (filter g es))
    all-stay [] h = refl
    all-stay (e ∷ es) h = go (g e) (all-stay es h.1)
      where
        go : (b : Bool) → filter_map new (filter g es) ≡ without_rows test (filter_map old (filter g es))
            → filter_map new (cond b (e ∷ filter g es) (filter g es)) ≡ without_rows test (filter_map old (cond b (e ∷ filter g es) (filter g es)))
        go true k = (λ i. cons_option (h.0.same i) (k i)) ∙ rest-stays e (filter_map old (filter g es)) (old e) h.0.other
        go false k = k

    one-goes : (turn : ℕ) (es : List Entry) → ((k : ℕ) (e : Entry) → slice_get es k ≡ Some e → k ≢ turn → Stays e) → ((e : Entry) → slice_get es turn ≡ Some e → Goes e)
        → filter_map new (filter g (with_finished turn es)) ≡ without_rows test (filter_map old (filter g es))
    one-goes turn [] stay go = refl
    one-goes zero (e ∷ es) stay goes = ap (λ (b : Bool). filter_map new (cond b (cleared e ∷ filter g es) (filter g es))) (clear e) ∙ go (g e)
      where
        rest : filter_map new (filter g es) ≡ without_rows test (filter_map old (filter g es))
        rest = all-stay es (each-place Stays es (λ k f at. stay (suc k) f at (omega arith)))

        dropped : (o : Option Application) → IfSome o (λ app. test app ≡ true) → without_rows test (filter_map old (filter g es)) ≡ without_rows test (cons_option o (filter_map old (filter g es)))
        dropped None h = refl
        dropped (Some app) h = sym (ap (λ (b : Bool). let r : List Application = cond (not b) (app ∷ without_rows test (filter_map old (filter g es))) (without_rows test (filter_map old (filter g es))) in r) h)

        go : (b : Bool) → filter_map new (cond b (cleared e ∷ filter g es) (filter g es)) ≡ without_rows test (filter_map old (cond b (e ∷ filter g es) (filter g es)))
        go true = (λ i. cons_option ((goes e refl).none i) (rest i)) ∙ dropped (old e) (goes e refl).own
        go false = rest
    one-goes (suc turn) (e ∷ es) stay goes = go (g e) (one-goes turn es (λ k f at apart. stay (suc k) f at (λ same. apart (omega (arith, same)))) goes)
      where
        own : Stays e
        own = stay 0 e refl (omega arith)

        go : (b : Bool) → filter_map new (filter g (with_finished turn es)) ≡ without_rows test (filter_map old (filter g es))
            → filter_map new (cond b (e ∷ filter g (with_finished turn es)) (filter g (with_finished turn es))) ≡ without_rows test (filter_map old (cond b (e ∷ filter g es) (filter g es)))
        go true k = (λ i. cons_option (own.same i) (k i)) ∙ rest-stays e (filter_map old (filter g es)) (old e) own.other
        go false k = k

module _ (v : Rows) (app : ℕ) (arow : AppRow) (sound : IsSound v) (found : lookup (nat_eq app) v.apps ≡ Some arow) where
  abbrev pub after : Rows
  after = with_app_gone app arow.tenant arow.turn v

  abbrev pub entries : List Entry
  entries = submitted_to v.tenants arow.tenant

  abbrev pub own : Entry
  own = (app_name v.tenants arow.tenant arow.turn, record { leaf = arow.leaf; app = Some app })

  -- no container of it is left
  abbrev pub HasNoContainers : Type 0
  HasNoContainers = (p : ℕ) (r : PartitionRow) → slice_get v.partitions p ≡ Some r → (n : ℕ) (c : Container) → lookup (nat_eq n) r.containers ≡ Some c → c.app ≢ app

  own-submitted : slice_get entries arow.turn ≡ Some own
  own-submitted =
      let is : IsApp v app arow = sound.apps app arow found in
      let name : is.name ≡ own.0 = sym (ap (λ o. option_map_or (λ (e : Entry). e.0) o []) is.submitted) in
      is.submitted ∙ (λ i. Some (name i, own.1))

  own-submission : IsSubmission v arow.tenant arow.turn own.1
  own-submission = submission v sound arow.tenant arow.turn own own-submitted

  inside : arow.tenant < length v.tenants
  inside = slice_get_within v.tenants arow.tenant entries (tenant-there v.tenants arow.tenant arow.turn own own-submitted)

  own-entries : submitted_to after.tenants arow.tenant ≡ with_finished arow.turn entries
  own-entries = submitted-own (with_finished arow.turn) v.tenants arow.tenant inside

  other-entries : (t : ℕ) → t ≢ arow.tenant → submitted_to after.tenants t ≡ submitted_to v.tenants t
  other-entries t apart = submitted-other (with_finished arow.turn) v.tenants arow.tenant t apart

  -- a submission that is not the application's stands as it stood
  was-other : (t turn : ℕ) (e : Entry) → slice_get (submitted_to v.tenants t) turn ≡ Some e → e.1.app ≢ Some app → slice_get (submitted_to after.tenants t) turn ≡ Some e
  was-other t turn e at not_own =
      elim (cases_eq t arow.tenant) [
        | inl same ↦
            let here : slice_get entries turn ≡ Some e = ap (λ (k : ℕ). slice_get (submitted_to v.tenants k) turn) (sym same) ∙ at in
            let apart : turn ≢ arow.turn = λ is. not_own (ap (λ (f : Entry). f.1.app) (same_Some e own (sym here ∙ ap (slice_get entries) is ∙ own-submitted))) in
            ap (λ (k : ℕ). slice_get (submitted_to after.tenants k) turn) same ∙ ap (λ (es : List Entry). slice_get es turn) own-entries ∙ finished-other arow.turn turn entries apart ∙ here
        | inr apart ↦ ap (λ (es : List Entry). slice_get es turn) (other-entries t apart) ∙ at
      ]

  -- each submission is one that was there, or the application's, cleared
  was : (t turn : ℕ) (e : Entry) → slice_get (submitted_to after.tenants t) turn ≡ Some e
      → ((slice_get (submitted_to v.tenants t) turn ≡ Some e) × (e.1.app ≢ Some app)) ⊎ ((t ≡ arow.tenant) × (turn ≡ arow.turn) × (e ≡ cleared own))
  was t turn e at =
      elim (cases_eq t arow.tenant) [
        | inl same ↦
            let here : slice_get (with_finished arow.turn entries) turn ≡ Some e = sym (ap (λ (es : List Entry). slice_get es turn) own-entries) ∙ ap (λ (k : ℕ). slice_get (submitted_to after.tenants k) turn) (sym same) ∙ at in
            elim (cases_eq turn arow.turn) [
              | inl is ↦ inr (same, is, sym (same_Some (cleared own) e (sym (finished-own arow.turn entries ∙ ap (option_map cleared) own-submitted) ∙ ap (slice_get (with_finished arow.turn entries)) (sym is) ∙ here)))
              | inr apart ↦
                  let there : slice_get (submitted_to v.tenants t) turn ≡ Some e = ap (λ (k : ℕ). slice_get (submitted_to v.tenants k) turn) same ∙ sym (finished-other arow.turn turn entries apart) ∙ here in
                  inl (there, λ mine. apart (sym (owns t turn e there mine).1.0))
            ]
        | inr apart ↦
            let there : slice_get (submitted_to v.tenants t) turn ≡ Some e = sym (ap (λ (es : List Entry). slice_get es turn) (other-entries t apart)) ∙ at in
            inl (there, λ mine. apart (sym (owns t turn e there mine).0))
      ]
    where
      owns : (t turn : ℕ) (e : Entry) → slice_get (submitted_to v.tenants t) turn ≡ Some e → e.1.app ≡ Some app → (arow.tenant ≡ t) × ((arow.turn ≡ turn) × (arow.leaf ≡ e.1.leaf))
      owns t turn e at mine = (submission v sound t turn e at).row app arow mine found

  other-found : (n : ℕ) → n ≢ app → lookup (nat_eq n) after.apps ≡ lookup (nat_eq n) v.apps
  other-found n apart = lookup-without-other n app v.apps apart

  other-live : (n : ℕ) → n ≢ app → IsLive n v.apps → IsLive n after.apps
  other-live n apart live = ap is_some (other-found n apart) ∙ live

  -- ---- the rows stay sound

  each-app : (n : ℕ) (r : AppRow) → lookup (nat_eq n) after.apps ≡ Some r → IsApp after n r
  each-app n r at =
      elim (cases_eq n app) [
        | inl same ↦ absurd (none-some r (sym (gone n same) ∙ at))
        | inr apart ↦ stays apart (sound.apps n r (sym (other-found n apart) ∙ at))
      ]
    where
      gone : (n : ℕ) → n ≡ app → lookup (nat_eq n) (without app v.apps) ≡ None
      gone n same = lookup-without n app v.apps ∙ ap (λ (b : Bool). let r : Option AppRow = cond b None (lookup (nat_eq n) v.apps) in r) (ap (λ (m : ℕ). nat_eq m app) same ∙ itself app)

      stays : n ≢ app → IsApp v n r → IsApp after n r
      stays apart is = record {
        name = is.name;
        submitted = was-other r.tenant r.turn _ is.submitted (λ same. apart (same_Some n app same));
        user = is.user;
        home = is.home;
        asks = is.asks;
        asked = is.asked;
      }

  each-submission : (t turn : ℕ) (e : Entry) → slice_get (submitted_to after.tenants t) turn ≡ Some e → IsSubmission after t turn e.1
  each-submission t turn e at = go (was t turn e at)
    where
      stays : IsSubmission v t turn e.1 → e.1.app ≢ Some app → IsSubmission after t turn e.1
      stays is not_own = record {
        there = is.there;
        leaf = is.leaf;
        tenant = is.tenant;
        live = live e.1.app refl is.live;
        row = λ n r own at. is.row n r own (sym (other-found n (λ same. not_own (own ∙ ap (λ (k : ℕ). Some k) same))) ∙ at);
      }
        where
          live : (o : Option ℕ) → e.1.app ≡ o → IfSome o (λ n. IsLive n v.apps) → IfSome o (λ n. IsLive n after.apps)
          live None is h = tt
          live (Some n) is h = other-live n (λ same. not_own (is ∙ ap (λ (k : ℕ). Some k) same)) h

      own-cleared : IsSubmission after arow.tenant arow.turn (cleared own).1
      own-cleared = record {
        there = own-submission.there;
        leaf = own-submission.leaf;
        tenant = own-submission.tenant;
        live = tt;
        row = λ n r none at. absurd (none-some n none);
      }

      go : (((slice_get (submitted_to v.tenants t) turn ≡ Some e) × (e.1.app ≢ Some app)) ⊎ ((t ≡ arow.tenant) × (turn ≡ arow.turn) × (e ≡ cleared own))) → IsSubmission after t turn e.1
      go (inl k) = stays (submission v sound t turn e k.0) k.1
      go (inr k) = subst (λ (f : Entry). IsSubmission after t turn f.1) (sym k.2) (subst (λ (m : ℕ). IsSubmission after m turn (cleared own).1) (sym k.0) (subst (λ (m : ℕ). IsSubmission after arow.tenant m (cleared own).1) (sym k.1) own-cleared))

  each-tenant : (t : ℕ) (es : List Entry) → slice_get after.tenants t ≡ Some es → IsTenant after t es
  each-tenant t es at =
      let old = place-there v.tenants t (subst (λ (n : ℕ). t < n) (length-at arow.tenant (with_finished arow.turn) v.tenants) (slice_get_within after.tenants t es at)) in
      let were : submitted_to v.tenants t ≡ old.0 = get_or_from_slice_get v.tenants t old.0 [] old.1 in
      let are : submitted_to after.tenants t ≡ es = get_or_from_slice_get after.tenants t es [] at in
      record {
        names = subst Differ (sym (same-names t were are)) (sound.tenants t old.0 old.1).names;
        each = λ turn n s there. each-submission t turn (n, s) (ap (λ (fs : List Entry). slice_get fs turn) are ∙ there);
      }
    where
      same-names : (t : ℕ) {old new : List Entry} → submitted_to v.tenants t ≡ old → submitted_to after.tenants t ≡ new → map (λ (e : Entry). e.0) new ≡ map (λ (e : Entry). e.0) old
      same-names t were are =
          sym (ap (map (λ (e : Entry). e.0)) are)
          ∙ elim (cases_eq t arow.tenant) [
            | inl same ↦
                ap (λ (k : ℕ). map (λ (e : Entry). e.0) (submitted_to after.tenants k)) same ∙ ap (map (λ (e : Entry). e.0)) own-entries ∙ finished-names arow.turn entries
                ∙ ap (λ (k : ℕ). map (λ (e : Entry). e.0) (submitted_to v.tenants k)) (sym same)
            | inr apart ↦ ap (map (λ (e : Entry). e.0)) (other-entries t apart)
          ]
          ∙ ap (map (λ (e : Entry). e.0)) were

  module _ (none : HasNoContainers) where
    each-partition : (p : ℕ) (r : PartitionRow) → slice_get v.partitions p ≡ Some r → IsPartition v p r → IsPartition after p r
    each-partition p r there is = record {
      numbers = is.numbers;
      rising = is.rising;
      clock = is.clock;
      masters = is.masters;
      each = λ n c at.
          kept-container v after refl p r.clock r.clock c (is.each n c at) (omega arith) (λ row was. (row, other-found c.app (none p r there n c at) ∙ was, refl)) (λ node there. (node, there, refl));
    }

    -- the rows stay sound
    pub gone-sound : IsSound after
    gone-sound = record {
      tree = sound.tree;
      default = sound.default;
      some = sound.some;
      labels = sound.labels;
      partitions = λ p r at. each-partition p r at (sound.partitions p r at);
      node_numbers = sound.node_numbers;
      node_names = sound.node_names;
      nodes = λ n r at. sound.nodes n r at;
      app_numbers = distinct_without app v.apps sound.app_numbers;
      apps = each-app;
      order = Pairs-filter IsBefore (λ e. not (nat_eq app e.0)) v.apps sound.order;
      many = length-at arow.tenant (with_finished arow.turn) v.tenants ∙ sound.many;
      tenants = each-tenant;
      users = sound.users;
    }

    -- ---- they mean what the model leaves

    partition-stays : (p : ℕ) (r : PartitionRow) → slice_get v.partitions p ≡ Some r → partition_of after r ≡ partition_of v r
    partition-stays p r there = λ i. record {
      label = r.label;
      clock = r.clock;
      containers = map-each (λ e. placed_of after r.label e.1) (λ e. placed_of v r.label e.1) r.containers each i;
    }
      where
        owner-stays : (n : ℕ) → n ≢ app → owner_of after n ≡ owner_of v n
        owner-stays n apart = owner-same v after n refl (other-found n apart) (λ r at. app_name-finished arow.tenant arow.turn v.tenants r.tenant r.turn)

        each : AllByRecursion (λ (e : ℕ × Container). placed_of after r.label e.1 ≡ placed_of v r.label e.1) r.containers
        each =
            each-number (λ n c. placed_of after r.label c ≡ placed_of v r.label c) r.containers (sound.partitions p r there).numbers
            (λ n c at. placed-same v after (λ q. refl) r.label c refl (owner-stays c.app (none p r there n c at)))

    partitions-stay : map (partition_of after) v.partitions ≡ map (partition_of v) v.partitions
    partitions-stay = map-each (partition_of after) (partition_of v) v.partitions (each-place _ v.partitions partition-stays)

    live-stays : (e : Entry) → e.1.app ≢ Some app → live_of after e ≡ live_of v e
    live-stays e not_own = live-same v after (λ q. refl) e refl (λ n is. other-found n (λ same. not_own (is ∙ ap (λ (k : ℕ). Some k) same))) (λ n r is there. refl)

    -- whether an application has the name
    abbrev pub test : Application → Bool
    test a = same_name a.name own.0

    named : (b : Bool) (e : Entry) → same_name e.0 own.0 ≡ b → IfSome (live_of v e) (λ a. test a ≡ b)
    named b e same = go (option_and_then (λ n. lookup (nat_eq n) v.apps) e.1.app)
      where
        go : (o : Option AppRow) → IfSome (option_map (application_of v e.0) o) (λ a. test a ≡ b)
        go None = tt
        go (Some r) = same

    stays : (turn : ℕ) (e : Entry) → slice_get entries turn ≡ Some e → turn ≢ arow.turn → Stays (λ e. nat_eq e.1.leaf arow.leaf) (λ e. refl) (live_of v) (live_of after) test e
    stays turn e at apart = record { same = live-stays e (λ mine. apart (sym ((submission v sound arow.tenant turn e at).row app arow mine found).1.0)); other = named false e other_name }
      where
        other_name : same_name e.0 own.0 ≡ false
        other_name = not-true (same_name e.0 own.0) (λ same. apart (one-turn v sound arow.tenant turn e at arow.turn own own-submitted same))

    goes : (e : Entry) → slice_get entries arow.turn ≡ Some e → Goes (λ e. nat_eq e.1.leaf arow.leaf) (λ e. refl) (live_of v) (live_of after) test e
    goes e at = record { none = refl; own = named true e (subst (λ (f : Entry). same_name f.0 own.0 ≡ true) (same_Some own e (sym own-submitted ∙ at)) (same-name_self own.0)) }

    abbrev pub of : ℕ → List Entry → List Entry
    of q es = filter (λ e. nat_eq e.1.leaf q) es

    names-of : (q turn : ℕ) (es : List Entry) → map (λ (e : Entry). e.0) (of q (with_finished turn es)) ≡ map (λ (e : Entry). e.0) (of q es)
    names-of q turn [] = refl
    names-of q zero (e ∷ es) = go (nat_eq e.1.leaf q)
      where
        go : (b : Bool) → map (λ (e : Entry). e.0) (cond b (cleared e ∷ of q es) (of q es)) ≡ map (λ (e : Entry). e.0) (cond b (e ∷ of q es) (of q es))
        go true = refl
        go false = refl
    names-of q (suc turn) (e ∷ es) = go (nat_eq e.1.leaf q) (names-of q turn es)
      where
        go : (b : Bool) → map (λ (e : Entry). e.0) (of q (with_finished turn es)) ≡ map (λ (e : Entry). e.0) (of q es)
            → map (λ (e : Entry). e.0) (cond b (e ∷ of q (with_finished turn es)) (of q (with_finished turn es))) ≡ map (λ (e : Entry). e.0) (cond b (e ∷ of q es) (of q es))
        go true k = ap (λ names. e.0 ∷ names) k
        go false k = k

    own-in : submitted_in after arow.leaf ≡ of arow.leaf (with_finished arow.turn entries)
    own-in = ap (λ (t : ℕ). of arow.leaf (submitted_to after.tenants t)) own-submission.tenant ∙ ap (of arow.leaf) own-entries

    own-was : of arow.leaf entries ≡ submitted_in v arow.leaf
    own-was = ap (λ (t : ℕ). of arow.leaf (submitted_to v.tenants t)) (sym own-submission.tenant)

    own-leaf : leaf_of after arow.leaf ≡ finished own.0 (leaf_of v arow.leaf)
    own-leaf = λ i. record {
      leaf = path_at v.paths arow.leaf;
      names = (ap (map (λ (e : Entry). e.0)) own-in ∙ names-of arow.leaf arow.turn entries ∙ ap (map (λ (e : Entry). e.0)) own-was) i;
      apps =
          (ap (filter_map (live_of after)) own-in ∙ one-goes (λ e. nat_eq e.1.leaf arow.leaf) (λ e. refl) (live_of v) (live_of after) test arow.turn entries stays goes
          ∙ ap (λ (es : List Entry). without_rows test (filter_map (live_of v) es)) own-was) i;
    }

    other-in : (q : ℕ) → q ≢ arow.leaf → submitted_in after q ≡ submitted_in v q
    other-in q apart =
        elim (cases_eq (tenant_at v.paths q) arow.tenant) [
          | inl same ↦
              ap (λ (t : ℕ). of q (submitted_to after.tenants t)) same ∙ ap (of q) own-entries
              ∙ finished-out (λ e. nat_eq e.1.leaf q) (λ e. refl) arow.turn entries (λ e at. ap (λ (f : Entry). nat_eq f.1.leaf q) (same_Some e own (sym at ∙ own-submitted)) ∙ apart_numbers arow.leaf q (λ is. apart (sym is)))
              ∙ ap (λ (t : ℕ). of q (submitted_to v.tenants t)) (sym same)
          | inr else ↦ ap (of q) (other-entries (tenant_at v.paths q) else)
        ]

    other-leaf : (q : ℕ) → q ≢ arow.leaf → leaf_of after q ≡ leaf_of v q
    other-leaf q apart = λ i. record {
      leaf = path_at v.paths q;
      names = map (λ (e : Entry). e.0) (other-in q apart i);
      apps = (ap (filter_map (live_of after)) (other-in q apart) ∙ made-same (live_of v) (live_of after) (submitted_in v q) each) i;
    }
      where
        each : AllByRecursion (λ e. live_of after e ≡ live_of v e) (submitted_in v q)
        each =
            each-submitted v q (λ e. live_of after e ≡ live_of v e)
            (λ turn e at leaf. live-stays e (λ mine. apart (sym leaf ∙ sym ((submission v sound (tenant_at v.paths q) turn e at).row app arow mine found).1.1)))

    -- the rows mean what the model leaves of it
    pub gone-means : (stops : List StopRow) (maxima : List MaximumRow)
        → state_of after stops maxima ≡ record (state_of v stops maxima) { leaves = in_leaf (path_at v.paths arow.leaf) (finished own.0) (state_of v stops maxima).leaves }
    gone-means stops maxima = λ i. record {
      nodes = (state_of v stops maxima).nodes;
      partitions = partitions-stay i;
      leaves = one-leaf v after sound.tree arow.leaf own-submission.there (finished own.0) own-leaf other-leaf i;
      stops = stops;
      maxima = maxima;
    }
