-- A live application changes what it asks for: the rows stay sound, and mean what the model's change of its leaf gives.
use Rattle.std.proofs.Common.{◌≡◌, ◌≢◌, ◌<◌, ℕ, true, false, cond, List, [], ◌∷◌, map, length, slice_get, Option, Some, None, option_map, nat_eq, refl, sym, ap, subst, ◌∙◌, arith, inl, inr}
use Rattle.std.specs.Prelude.{All}
use Rattle.std.specs.List.{AllByRecursion, filter_map, cons_option}
use Rattle.std.specs.Map.{lookup}
use Rattle.std.specs.Option.{option_and_then}
use Rattle.std.specs.Cmp.Lexicographic.{pointwise_decides, bytes_decides}
use Rattle.std.proofs.lemmas.Bool.{cases_eq}
use Rattle.std.proofs.lemmas.Option.{same_Some, IfSome_then}
use Rattle.ynl_resource.specs.Names.{same_name, same_path}
use Rattle.ynl_resource.specs.Tables.{update}
use Rattle.ynl_resource.specs.declared.names.Name.{Name}
use Rattle.ynl_resource.specs.declared.labels.Label.{Label}
use Rattle.ynl_resource.specs.declared.paths.Path.{Path}
use Rattle.ynl_laws.specs.Working.{Pairs}
use Rattle.ynl_laws.proofs.Lists.{Pairs-map}
use Rattle.ynl_laws.proofs.Names.{same-name_self, same-path}
use Rattle.ynl_model.specs.declared.queues.StopRow.{StopRow}
use Rattle.ynl_model.specs.declared.queues.MaximumRow.{MaximumRow}
use Rattle.ynl_model.specs.Applications.{Application, in_leaf, with_app}
use Rattle.ynl_inventory.specs.layout.Paths.{HasNumber, path_at}
use Rattle.ynl_tables.specs.apps.Asks.{AreAsks}
use Rattle.ynl_tables.specs.declared.containers.container.Container.{Container}
use Rattle.ynl_tables.specs.declared.submissions.submissions.Submission.{Submission}
use Rattle.ynl_inventory.specs.Rows.{Rows, PartitionRow, AppRow}
use Rattle.ynl_inventory.specs.Meaning.{app_name, submitted_to, submitted_in, tenant_at, placed_of, partition_of, application_of, live_of, leaf_of, leaf_numbers, state_of}
use Rattle.ynl_inventory.specs.Changes.{with_app_changed}
use Rattle.ynl_inventory.specs.Apps.{IsBefore}
use Rattle.ynl_inventory.specs.Sound.{HasPartition, IsAskedOn, IsPartition, IsApp, IsSubmission, IsTenant, IsSound}
use Rattle.ynl_inventory.proofs.Lookups.{row_after, still-found, was-found, read-after, changed-live, changed-other, changed-same, changed-distinct}
use Rattle.ynl_inventory.proofs.Naming.{owner-changed, placed-same, live-same}
use Rattle.ynl_inventory.proofs.Kept.{kept-container}
use Rattle.ynl_inventory.proofs.Submitted.{app-submitted, app-submission, submission, one-turn, each-submitted, each-leaf}
use Rattle.ynl_inventory.proofs.Finding.{not-true}

-- a change that leaves all but asks and tickets
pub record LeavesOwner (change : AppRow → AppRow) : Type 0 where
  pub tenant : (row : AppRow) → (change row).tenant ≡ row.tenant
  pub turn : (row : AppRow) → (change row).turn ≡ row.turn
  pub leaf : (row : AppRow) → (change row).leaf ≡ row.leaf
  pub user : (row : AppRow) → (change row).user ≡ row.user
  pub home : (row : AppRow) → (change row).home ≡ row.home

-- a path is the same as itself
pub path-self : (path : Path) → same_path path path ≡ true
path-self path = (pointwise_decides bytes_decides path path).1 refl

-- what is made of each stays, if it is made as before
pub made-same : {X Y : Type 0} (f g : X → Option Y) (xs : List X) → AllByRecursion (λ x. g x ≡ f x) xs → filter_map g xs ≡ filter_map f xs
made-same f g [] h = refl
made-same f g (x ∷ xs) h = λ i. cons_option (h.0 i) (made-same f g xs h.1 i)

-- and it changes, if what is made of each changes
pub made-changed : {X Y : Type 0} (f g : X → Option Y) (change : Y → Y) (xs : List X) → AllByRecursion (λ x. g x ≡ option_map change (f x)) xs → filter_map g xs ≡ map change (filter_map f xs)
made-changed f g change [] h = refl
made-changed {Y = Y} f g change (x ∷ xs) h = (λ i. cons_option (h.0 i) (made-changed f g change xs h.1 i)) ∙ one (f x)
  where
    one : (o : Option Y) → cons_option (option_map change o) (map change (filter_map f xs)) ≡ map change (cons_option o (filter_map f xs))
    one None = refl
    one (Some y) = refl

module _ (v : Rows) (app : ℕ) (change : AppRow → AppRow) (leaves : LeavesOwner change) where
  abbrev after : Rows
  after = with_app_changed app change v

  -- an application after the change
  abbrev next : ℕ × AppRow → ℕ × AppRow
  next e = cond (nat_eq app e.0) (e.0, change e.1) e

  -- all containers are called as before
  pub containers-stay : (label : Label) (c : Container) → placed_of after label c ≡ placed_of v label c
  containers-stay label c = placed-same v after (λ p. refl) label c refl (owner-changed app change leaves.tenant leaves.turn v c.app)

  pub partition-stays : (row : PartitionRow) → partition_of after row ≡ partition_of v row
  partition-stays row = λ i. record { label = row.label; clock = row.clock; containers = map (λ e. containers-stay row.label e.1 i) row.containers }

  module _ (sound : IsSound v) (arow : AppRow) (found : lookup (nat_eq app) v.apps ≡ Some arow) where
    partition-kept : (p : ℕ) (row : PartitionRow) → IsPartition v p row → IsPartition after p row
    partition-kept p row is = record {
      numbers = is.numbers;
      rising = is.rising;
      clock = is.clock;
      masters = is.masters;
      each = λ n c at.
          kept-container v after refl p row.clock row.clock c (is.each n c at) (omega arith)
          (λ r there. (row_after c.app app change r, still-found c.app app change v.apps r there, read-after (λ (r : AppRow). r.home) c.app app change r (leaves.home r)))
          (λ node there. (node, there, refl));
    }

    row-kept : (t turn leaf : ℕ) (n : ℕ) (new : AppRow) → lookup (nat_eq n) after.apps ≡ Some new
        → ((old : AppRow) → lookup (nat_eq n) v.apps ≡ Some old → (old.tenant ≡ t) × ((old.turn ≡ turn) × (old.leaf ≡ leaf)))
        → (new.tenant ≡ t) × ((new.turn ≡ turn) × (new.leaf ≡ leaf))
    row-kept t turn leaf n new at h =
        let old = was-found n app change v.apps new at in
        let is = h old.0 old.1 in (
          ap (λ (r : AppRow). r.tenant) old.2 ∙ read-after (λ r. r.tenant) n app change old.0 (leaves.tenant old.0) ∙ is.0,
          (
            ap (λ (r : AppRow). r.turn) old.2 ∙ read-after (λ r. r.turn) n app change old.0 (leaves.turn old.0) ∙ is.1.0,
            ap (λ (r : AppRow). r.leaf) old.2 ∙ read-after (λ r. r.leaf) n app change old.0 (leaves.leaf old.0) ∙ is.1.1,
          ),
        )

    submission-kept : (t turn : ℕ) (s : Submission) → IsSubmission v t turn s → IsSubmission after t turn s
    submission-kept t turn s is = record {
      there = is.there;
      leaf = is.leaf;
      tenant = is.tenant;
      live = IfSome_then s.app is.live (λ n live. changed-live n app change v.apps live);
      row = λ n new own at. row-kept t turn s.leaf n new at (λ old there. is.row n old own there);
    }

    tenant-kept : (t : ℕ) (entries : List (Name × Submission)) → IsTenant v t entries → IsTenant after t entries
    tenant-kept t entries is = record { names = is.names; each = λ turn name s at. submission-kept t turn s (is.each turn name s at) }

    -- applications stand in the order of their turns
    order-kept : Pairs IsBefore after.apps
    order-kept = Pairs-map IsBefore next keeps v.apps sound.order
      where
        tenant : (e : ℕ × AppRow) → (next e).1.tenant ≡ e.1.tenant
        tenant e = elim (nat_eq app e.0) as (λ b. (cond b (e.0, change e.1) e).1.tenant ≡ e.1.tenant) [ true ↦ leaves.tenant e.1 | false ↦ refl ]

        turn : (e : ℕ × AppRow) → (next e).1.turn ≡ e.1.turn
        turn e = elim (nat_eq app e.0) as (λ b. (cond b (e.0, change e.1) e).1.turn ≡ e.1.turn) [ true ↦ leaves.turn e.1 | false ↦ refl ]

        keeps : (e f : ℕ × AppRow) → IsBefore e f → IsBefore (next e) (next f)
        keeps e f before same =
            let lower : e.1.turn < f.1.turn = before (sym (tenant e) ∙ same ∙ tenant f) in
            subst (λ n. n < (next f).1.turn) (sym (turn e)) (subst (λ n. e.1.turn < n) (sym (turn f)) lower)

    module _ (asks : AreAsks (change arow).asks) (asked : All (λ ask. IsAskedOn arow.home ask.partition) (change arow).asks) where
      own-kept : IsApp v app arow → IsApp after app (change arow)
      own-kept is = record {
        name = is.name;
        submitted =
            (λ i. slice_get (submitted_to v.tenants (leaves.tenant arow i)) (leaves.turn arow i))
            ∙ is.submitted ∙ (λ i. Some (is.name, record { leaf = sym (leaves.leaf arow) i; app = Some app }));
        user = subst (λ u. u < length v.users) (sym (leaves.user arow)) is.user;
        home = subst (HasPartition v) (sym (leaves.home arow)) is.home;
        asks = asks;
        asked = subst (λ home. All (λ ask. IsAskedOn home ask.partition) (change arow).asks) (sym (leaves.home arow)) asked;
      }

      other-kept : (n : ℕ) (row : AppRow) → IsApp v n row → IsApp after n row
      other-kept n row is = record { name = is.name; submitted = is.submitted; user = is.user; home = is.home; asks = is.asks; asked = is.asked }

      app-kept : (n : ℕ) (new : AppRow) → lookup (nat_eq n) after.apps ≡ Some new → IsApp after n new
      app-kept n new at =
          elim (cases_eq n app) [
            | inl same ↦
                let is : change arow ≡ new =
                same_Some (change arow) new
                (sym (changed-same app change v.apps ∙ ap (option_map change) found) ∙ ap (λ m. lookup (nat_eq m) after.apps) (sym same) ∙ at)
                in
                subst (λ m. IsApp after m new) (sym same) (subst (IsApp after app) is (own-kept (sound.apps app arow found)))
            | inr apart ↦ other-kept n new (sound.apps n new (sym (changed-other n app change v.apps apart) ∙ at))
          ]

      -- the rows stay sound
      pub app-sound : IsSound after
      app-sound = record {
        tree = sound.tree;
        default = sound.default;
        some = sound.some;
        labels = sound.labels;
        partitions = λ p row at. partition-kept p row (sound.partitions p row at);
        node_numbers = sound.node_numbers;
        node_names = sound.node_names;
        nodes = λ n row at. sound.nodes n row at;
        app_numbers = changed-distinct app change v.apps sound.app_numbers;
        apps = app-kept;
        order = order-kept;
        many = sound.many;
        tenants = λ t entries at. tenant-kept t entries (sound.tenants t entries at);
        users = sound.users;
      }

    -- ---- the leaf

    abbrev own : Name × Submission
    own = (app_name v.tenants arow.tenant arow.turn, record { leaf = arow.leaf; app = Some app })

    own-submitted : slice_get (submitted_to v.tenants arow.tenant) arow.turn ≡ Some own
    own-submitted = app-submitted v sound app arow found

    own-submission : IsSubmission v arow.tenant arow.turn own.1
    own-submission = app-submission v sound app arow found

    -- nothing changes of a leaf that is not the application's
    other-live : (q : ℕ) → q ≢ arow.leaf → (t turn : ℕ) (e : Name × Submission) → slice_get (submitted_to v.tenants t) turn ≡ Some e → e.1.leaf ≡ q → live_of after e ≡ live_of v e
    other-live q apart t turn e at leaf = live-same v after (λ p. refl) e refl stays (λ n row is there. refl)
      where
        stays : (n : ℕ) → e.1.app ≡ Some n → lookup (nat_eq n) after.apps ≡ lookup (nat_eq n) v.apps
        stays n is =
            changed-other n app change v.apps
            (λ (same : n ≡ app).
            apart (sym leaf ∙ sym ((submission v sound t turn e at).row n arow is (ap (λ m. lookup (nat_eq m) v.apps) same ∙ found)).1.1))

    module _ (change' : Application → Application) (means : application_of v own.0 (change arow) ≡ change' (application_of v own.0 arow)) where
      -- the application of the name changes
      abbrev at-name : Application → Application
      at-name = λ a. cond (same_name a.name own.0) (change' a) a

      own-live : (turn : ℕ) (e : Name × Submission) → slice_get (submitted_to v.tenants arow.tenant) turn ≡ Some e → live_of after e ≡ option_map at-name (live_of v e)
      own-live turn e at = by e.1.app refl
        where
          entries : List (Name × Submission)
          entries = submitted_to v.tenants arow.tenant

          from-turn : turn ≡ arow.turn → e ≡ own
          from-turn same = same_Some e own (sym at ∙ ap (slice_get (submitted_to v.tenants arow.tenant)) same ∙ own-submitted)

          test : same_name own.0 own.0 ≡ true
          test = same-name_self own.0

          whole : live_of after own ≡ option_map at-name (live_of v own)
          whole =
              ap (option_map (application_of v own.0)) (changed-same app change v.apps ∙ ap (option_map change) found)
              ∙ ap (λ a. Some a) (means ∙ sym (ap (λ b. cond b (change' (application_of v own.0 arow)) (application_of v own.0 arow)) test))
              ∙ sym (ap (λ o. option_map at-name (option_map (application_of v own.0) o)) found)

          past : (n : ℕ) → e.1.app ≡ Some n → n ≢ app → same_name e.0 own.0 ≡ false
          past n is apart =
              not-true (same_name e.0 own.0)
              (λ same. apart (same_Some n app (sym is ∙ ap (λ (e : Name × Submission). e.1.app) (from-turn (one-turn v sound arow.tenant turn e at arow.turn own own-submitted same)))))

          stays : same_name e.0 own.0 ≡ false → (o : Option AppRow) → option_map (application_of v e.0) o ≡ option_map at-name (option_map (application_of v e.0) o)
          stays fails None = refl
          stays fails (Some row) = ap (λ a. Some a) (sym (ap (λ b. cond b (change' (application_of v e.0 row)) (application_of v e.0 row)) fails))

          by : (o : Option ℕ) → e.1.app ≡ o → live_of after e ≡ option_map at-name (live_of v e)
          by None is =
              ap (λ o. option_map (application_of v e.0) (option_and_then (λ n. lookup (nat_eq n) after.apps) o)) is
              ∙ sym (ap (λ o. option_map at-name (option_map (application_of v e.0) (option_and_then (λ n. lookup (nat_eq n) v.apps) o))) is)
          by (Some n) is =
              elim (cases_eq n app) [
                | inl same ↦
                    let mine : e.1.app ≡ Some app = is ∙ ap (λ (k : ℕ). Some k) same in
                    let turns : turn ≡ arow.turn = sym ((submission v sound arow.tenant turn e at).row app arow mine found).1.0 in
                    subst (λ (f : Name × Submission). live_of after f ≡ option_map at-name (live_of v f)) (sym (from-turn turns)) whole
                | inr apart ↦
                    ap (λ o. option_map (application_of v e.0) (option_and_then (λ n. lookup (nat_eq n) after.apps) o)) is
                    ∙ ap (option_map (application_of v e.0)) (changed-other n app change v.apps apart)
                    ∙ stays (past n is apart) (lookup (nat_eq n) v.apps)
                    ∙ sym (ap (λ o. option_map at-name (option_map (application_of v e.0) (option_and_then (λ n. lookup (nat_eq n) v.apps) o))) is)
              ]

      -- so the application's leaf changes as in the model
      own-leaf : leaf_of after arow.leaf ≡ with_app own.0 change' (leaf_of v arow.leaf)
      own-leaf = λ i. record { leaf = path_at v.paths arow.leaf; names = map (λ e. e.0) (submitted_in v arow.leaf); apps = apps i }
        where
          apps : filter_map (live_of after) (submitted_in v arow.leaf) ≡ update (λ a. same_name a.name own.0) change' (filter_map (live_of v) (submitted_in v arow.leaf))
          apps =
              made-changed (live_of v) (live_of after) at-name (submitted_in v arow.leaf)
              (each-submitted v arow.leaf (λ e. live_of after e ≡ option_map at-name (live_of v e))
              (λ turn e at leaf. own-live turn e (ap (λ t. slice_get (submitted_to v.tenants t) turn) (sym own-submission.tenant) ∙ at)))

      -- and no other does
      other-leaf : (q : ℕ) → q ≢ arow.leaf → leaf_of after q ≡ leaf_of v q
      other-leaf q apart = λ i. record { leaf = path_at v.paths q; names = map (λ e. e.0) (submitted_in v q); apps = apps i }
        where
          apps : filter_map (live_of after) (submitted_in v q) ≡ filter_map (live_of v) (submitted_in v q)
          apps =
              made-same (live_of v) (live_of after) (submitted_in v q)
              (each-submitted v q (λ e. live_of after e ≡ live_of v e) (λ turn e at leaf. other-live q apart (tenant_at v.paths q) turn e at leaf))

      leaves-mean : map (leaf_of after) (leaf_numbers v.paths) ≡ in_leaf (path_at v.paths arow.leaf) (with_app own.0 change') (map (leaf_of v) (leaf_numbers v.paths))
      leaves-mean = each (leaf_numbers v.paths) (each-leaf v.paths)
        where
          one : (q : ℕ) → HasNumber v.paths q
              → leaf_of after q ≡ cond (same_path (path_at v.paths q) (path_at v.paths arow.leaf)) (with_app own.0 change' (leaf_of v q)) (leaf_of v q)
          one q there =
              elim (cases_eq q arow.leaf) [
                | inl same ↦
                    subst (λ n. leaf_of after n ≡ cond (same_path (path_at v.paths n) (path_at v.paths arow.leaf)) (with_app own.0 change' (leaf_of v n)) (leaf_of v n)) (sym same)
                    (own-leaf ∙ sym (ap (λ b. cond b (with_app own.0 change' (leaf_of v arow.leaf)) (leaf_of v arow.leaf)) (path-self (path_at v.paths arow.leaf))))
                | inr apart ↦
                    let differ : same_path (path_at v.paths q) (path_at v.paths arow.leaf) ≡ false =
                    not-true (same_path (path_at v.paths q) (path_at v.paths arow.leaf))
                    (λ same. apart (sound.tree.apart q arow.leaf there own-submission.there (same-path (path_at v.paths q) (path_at v.paths arow.leaf) same)))
                    in
                    other-leaf q apart ∙ sym (ap (λ b. cond b (with_app own.0 change' (leaf_of v q)) (leaf_of v q)) differ)
              ]

          each : (qs : List ℕ) → AllByRecursion (HasNumber v.paths) qs → map (leaf_of after) qs ≡ in_leaf (path_at v.paths arow.leaf) (with_app own.0 change') (map (leaf_of v) qs)
          each [] h = refl
          each (q ∷ qs) h = λ i. one q h.0 i ∷ each qs h.1 i

      -- the rows mean what the change of the leaf gives
      pub app-means : (stops : List StopRow) (maxima : List MaximumRow)
          → state_of after stops maxima
          ≡ record (state_of v stops maxima) { leaves = in_leaf (path_at v.paths arow.leaf) (with_app own.0 change') (state_of v stops maxima).leaves }
      app-means stops maxima = λ i. record {
        nodes = (state_of v stops maxima).nodes;
        partitions = map (λ row. partition-stays row i) v.partitions;
        leaves = leaves-mean i;
        stops = stops;
        maxima = maxima;
      }
