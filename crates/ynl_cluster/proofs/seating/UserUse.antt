-- What a user uses of a partition in a leaf is what the model says.
use Rattle.std.proofs.Common.{◌≡◌, ◌<◌, ℕ, zero, suc, Bool, true, false, not, ◌&&◌, ◌||◌, List, [], ◌∷◌, length, map, filter, slice_get, Some, option_map, nat_eq, refl, sym, ap, subst, ◌∙◌, arith, true≢false}
use Rattle.std.specs.Prelude.{slice_index_or}
use Rattle.std.specs.List.{list_any}
use Rattle.std.specs.Map.{lookup}
use Rattle.std.specs.Option.{option_map_or}
use Rattle.std.proofs.lemmas.Bool.{and_parts, eqb-true}
use Rattle.std.proofs.lemmas.Option.{none-some, same_Some, slice_get-get_or}
use Rattle.ynl_resource.specs.Amounts.{fits_in, total_of}
use Rattle.ynl_resource.specs.Names.{is_default, is_within, root, same_name, same_path, tenant_of}
use Rattle.ynl_resource.specs.declared.labels.Label.{Label}
use Rattle.ynl_resource.specs.declared.names.Name.{Name}
use Rattle.ynl_resource.specs.declared.paths.Path.{Path}
use Rattle.ynl_model.specs.declared.containers.Placed.{Placed}
use Rattle.ynl_model.specs.declared.queues.StopRow.{StopRow}
use Rattle.ynl_model.specs.declared.queues.MaximumRow.{MaximumRow}
use Rattle.ynl_model.specs.Applications.{Application, find_app, leaf_of as leaf_named}
use Rattle.ynl_model.specs.Cluster.{counted, is_below, is_guest, is_guest_on, of_app_that, sizes, user_used, State, used}
use Rattle.ynl_laws.proofs.Amounts.{fits-filter, total-map}
use Rattle.ynl_laws.proofs.Lists.{any-later, filter-agree, filter-map}
use Rattle.ynl_laws.proofs.Logic.{not-false, not-true as not-true_is}
use Rattle.ynl_laws.proofs.Names.{same-name_self, same-path, within-self}
use Rattle.ynl_slots.proofs.Entries.{itself}
use Rattle.ynl_tables.specs.declared.containers.container.Container.{Container}
use Rattle.ynl_tables.specs.declared.containers.container.Role.{Role}
use Rattle.ynl_tables.specs.declared.containers.container.Role.TheVariants.{Master, Ask as Asked}
use Rattle.ynl_inventory.specs.layout.Paths.{path_at}
use Rattle.ynl_inventory.specs.Rows.{Rows, PartitionRow, AppRow}
use Rattle.ynl_inventory.specs.Meaning.{app_name, application_of, has_none_below, label_at, owner_of, placed_of, state_of, submitted_to, what_of}
use Rattle.ynl_inventory.specs.Apps.{is_guest_role}
use Rattle.ynl_inventory.specs.Parts.{containers_of}
use Rattle.ynl_inventory.specs.Sound.{HasPartition, IsContainer, IsLeaf, IsRole, IsSound}
use Rattle.ynl_inventory.proofs.AppsFound.{app-found, leaf-found, leaves}
use Rattle.ynl_inventory.proofs.Finding.{containers-at, not-true, own-label}
use Rattle.ynl_inventory.proofs.Lookups.{live-found, place-there}
use Rattle.ynl_inventory.proofs.Submitted.{app-submission, app-submitted}
use Rattle.ynl_inventory.proofs.Tenants.{owner-named}
use Rattle.ynl_inventory.proofs.Updates.{each-number}
use Rattle.ynl_tables.specs.declared.submissions.submissions.Submission.{Submission}
use Rattle.ynl_cluster.specs.seating.Laws.{IsUserUse, IsUseWithin}
use Rattle.ynl_cluster.specs.seating.Seating.{counts, is_of, user_use}
use Rattle.ynl_cluster.proofs.seating.Sharing.{default-is, filter-and, user-apart}
use Rattle.ynl_cluster.proofs.seating.Sums.{size_of, sum}

-- of a path that is among some no test fails that none passes
none-among : (test : Path → Bool) (paths : List Path) (k : ℕ) (path : Path) → slice_get paths k ≡ Some path → list_any test paths ≡ false → test path ≡ false
none-among test paths k path at none = not-true (test path) (λ hit. true≢false (sym (among paths k at hit) ∙ none))
  where
    among : (paths : List Path) (k : ℕ) → slice_get paths k ≡ Some path → test path ≡ true → list_any test paths ≡ true
    among [] k at hit = absurd (none-some path at)
    among (p ∷ ps) zero at hit = ap (λ b. b || list_any test ps) (ap test (same_Some p path at) ∙ hit)
    among (p ∷ ps) (suc k) at hit = any-later test p ps (among ps k at hit)

module _ (v : Rows) (sound : IsSound v) (q : ℕ) (leaf : IsLeaf v q) where
  -- a leaf is below a leaf just where it is that one
  within-is : (l : ℕ) → IsLeaf v l → is_within (path_at v.paths q) (path_at v.paths l) ≡ nat_eq l q
  within-is l other = go (nat_eq l q) refl
    where
      go : (b : Bool) → nat_eq l q ≡ b → is_within (path_at v.paths q) (path_at v.paths l) ≡ b
      go true is = ap (λ m. is_within (path_at v.paths q) (path_at v.paths m)) (eqb-true l q is) ∙ within-self (path_at v.paths q)
      go false off = not-true (is_within (path_at v.paths q) (path_at v.paths l)) (λ within. true≢false (sym (ap (λ m. nat_eq m q) (same within) ∙ itself q) ∙ off))
        where
          among : (n : ℕ) → l ≡ n → (k : ℕ) × (slice_get v.paths k ≡ Some (path_at v.paths l))
          among zero is = absurd (true≢false (sym (ap (λ m. has_none_below v.paths (path_at v.paths m)) (sym is) ∙ other.none_below)))
          among (suc k) is = let inside : k < length v.paths = omega (arith, other.there, is) in (k, slice_get-get_or v.paths k root inside ∙ ap (λ m. Some (path_at v.paths m)) (sym is))

          same : is_within (path_at v.paths q) (path_at v.paths l) ≡ true → l ≡ q
          same within =
              let at = among l refl in
              let none : (is_within (path_at v.paths q) (path_at v.paths l) && not (same_path (path_at v.paths q) (path_at v.paths l))) ≡ false =
              none-among (λ path. is_within (path_at v.paths q) path && not (same_path (path_at v.paths q) path)) v.paths at.0 (path_at v.paths l) at.1
              (not-true_is _ (and_parts (not (same_path (path_at v.paths q) root)) _ leaf.none_below).1)
              in
              let paths : same_path (path_at v.paths q) (path_at v.paths l) ≡ true =
              not-false (same_path (path_at v.paths q) (path_at v.paths l)) (sym (ap (λ b. b && not (same_path (path_at v.paths q) (path_at v.paths l))) within) ∙ none)
              in
              sym (sound.tree.apart q l leaf.there other.there (same-path (path_at v.paths q) (path_at v.paths l) paths))

  -- ---- a container

  module _ (p : ℕ) (row : PartitionRow) (there : slice_get v.partitions p ≡ Some row) (has : HasPartition v p) (user : ℕ) (named : user < length v.users) where
    abbrev name : Name
    name = slice_index_or v.users user []

    guest-is : (r : Role) (app : ℕ) → IsRole v p app r → is_guest_on row.label (what_of v.partitions r) ≡ is_guest_role p r
    guest-is Master app is = refl
    guest-is (Asked a priority) app is = λ i. default-is v sound a is i && not ((ap is_default (sym (own-label v sound p row there)) ∙ default-is v sound p has) i)

    user-is : (u : ℕ) → u < length v.users → same_name (slice_index_or v.users u []) name ≡ nat_eq u user
    user-is u u-in = go (nat_eq u user) refl
      where
        go : (b : Bool) → nat_eq u user ≡ b → same_name (slice_index_or v.users u []) name ≡ b
        go true is = ap (λ m. same_name (slice_index_or v.users m []) name) (eqb-true u user is) ∙ same-name_self name
        go false off =
            not-true (same_name (slice_index_or v.users u []) name)
            (λ same. true≢false (sym (ap (λ m. nat_eq m user) (user-apart v sound u user u-in named same) ∙ itself user) ∙ off))

    abbrev placed : Container → Placed
    placed c = placed_of v row.label c

    abbrev by_user : Application → Bool
    by_user app = same_name app.user name

    -- whether the model counts it
    abbrev models : Placed → Bool
    models x = (not (is_guest x) && is_below (leaves v sound) (path_at v.paths q) x) && of_app_that by_user (leaves v sound) x

    one : (n : ℕ) (c : Container) → lookup (nat_eq n) row.containers ≡ Some c → models (placed c) ≡ counts v p q user (n, c)
    one n c found =
        (λ i. (not (guest-is c.role c.app is.role i) && below i) && owned i)
        ∙ shift (not (is_guest_role p c.role)) (nat_eq app.0.leaf q) (nat_eq app.0.user user)
        ∙ ap (λ o. not (is_guest_role p c.role) && option_map_or (is_of q user) o false) (sym app.1)
      where
        is : IsContainer v p row.clock c
        is = (sound.partitions p row there).each n c found

        app : (r : AppRow) × (lookup (nat_eq c.app) v.apps ≡ Some r)
        app = live-found c.app v.apps is.app

        own_name : Name
        own_name = app_name v.tenants app.0.tenant app.0.turn

        own : Submission
        own = record { leaf = app.0.leaf; app = Some c.app }

        at : slice_get (submitted_to v.tenants app.0.tenant) app.0.turn ≡ Some (own_name, own)
        at = app-submitted v sound c.app app.0 app.1

        owner : owner_of v c.app ≡ (tenant_of (path_at v.paths app.0.leaf), own_name)
        owner = owner-named v sound c.app app.0 app.1

        its-leaf : IsLeaf v app.0.leaf
        its-leaf = let s = app-submission v sound c.app app.0 app.1 in record { there = s.there; none_below = s.leaf }

        below : is_below (leaves v sound) (path_at v.paths q) (placed c) ≡ nat_eq app.0.leaf q
        below =
            ap (λ (o : Name × Name). option_map_or (is_within (path_at v.paths q)) (leaf_named (leaves v sound) o.0 o.1) false) owner
            ∙ ap (λ o. option_map_or (is_within (path_at v.paths q)) o false) (leaf-found v sound app.0.tenant app.0.turn own_name own at)
            ∙ within-is app.0.leaf its-leaf

        owned : of_app_that by_user (leaves v sound) (placed c) ≡ nat_eq app.0.user user
        owned =
            ap (λ (o : Name × Name). option_map_or by_user (find_app (leaves v sound) o.0 o.1) false) owner
            ∙ ap (λ o. option_map_or by_user o false) (app-found v sound app.0.tenant app.0.turn own_name own at)
            ∙ ap (λ o. option_map_or by_user (option_map (application_of v own_name) o) false) app.1
            ∙ user-is app.0.user (sound.apps c.app app.0 app.1).user

        shift : (a b d : Bool) → ((a && b) && d) ≡ (a && (b && d))
        shift true b d = refl
        shift false b d = refl

    pub use-is : (stops : List StopRow) (maxima : List MaximumRow) → user_used (state_of v stops maxima) (path_at v.paths q) name (label_at v.partitions p) ≡ user_use v p q user
    unfolding user_used
    use-is stops maxima =
        ap sizes
        (ap (λ l. filter (of_app_that by_user (leaves v sound)) (counted (state_of v stops maxima) (path_at v.paths q) l)) (own-label v sound p row there)
        ∙ ap (λ cs. filter (of_app_that by_user (leaves v sound)) (filter (λ x. not (is_guest x) && is_below (leaves v sound) (path_at v.paths q) x) cs)) (containers-at v sound p row there stops maxima)
        ∙ filter-and (of_app_that by_user (leaves v sound)) (λ x. not (is_guest x) && is_below (leaves v sound) (path_at v.paths q) x) (map (λ e. placed e.1) row.containers)
        ∙ filter-map (λ (e : ℕ × Container). placed e.1) models row.containers)
        ∙ total-map (λ (x : Placed). x.size) (λ (e : ℕ × Container). placed e.1) (filter (λ e. models (placed e.1)) row.containers)
        ∙ ap (total_of size_of)
        (filter-agree (λ e. models (placed e.1) ≡ counts v p q user e) (λ e. models (placed e.1)) (counts v p q user) (λ e is. is) row.containers
        (each-number (λ n c. models (placed c) ≡ counts v p q user (n, c)) row.containers (sound.partitions p row there).numbers one))
        ∙ ap (sum (counts v p q user)) (sym (ap (λ o. option_map_or (λ (r : PartitionRow). r.containers) o []) there))

pub is-user_use : IsUserUse
is-user_use v sound p q user has leaf named stops maxima =
    let at = place-there v.partitions p has in use-is v sound q leaf p at.0 at.1 has user named stops maxima

-- what a user uses in a queue fits in what the queue uses
user-within : (s : State) (queue : Path) (user : Name) (label : Label) → fits_in (user_used s queue user label) (used s queue label) ≡ true
unfolding user_used used
user-within s queue user label = fits-filter (λ (c : Placed). c.size) (of_app_that (λ app. same_name app.user user) s.leaves) (counted s queue label)

pub is-use_within : IsUseWithin
is-use_within = record {
  containers = λ v p q user. fits-filter size_of (counts v p q user) (containers_of v p);
  leaf = λ v sound p q user has leaf named stops maxima.
      subst (λ u. fits_in u (used (state_of v stops maxima) (path_at v.paths q) (label_at v.partitions p)) ≡ true) (is-user_use v sound p q user has leaf named stops maxima)
      (user-within (state_of v stops maxima) (path_at v.paths q) (slice_index_or v.users user []) (label_at v.partitions p));
}
