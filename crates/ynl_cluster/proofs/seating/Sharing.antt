-- Those who sit in a lane are the model's applications that share.
use Rattle.std.proofs.Common.{◌≡◌, ◌<◌, ℕ, zero, suc, ◌+◌, Bool, true, false, cond, ◌&&◌, ◌||◌, List, [], ◌∷◌, ◌++◌, length, map, filter, find, max, slice_get, Some, option_map, nat_eq, refl, sym, ap, ◌∙◌, arith, true≢false}
use Rattle.std.specs.Prelude.{slice_index_or}
use Rattle.std.specs.Map.{lookup}
use Rattle.std.specs.Option.{option_map_or}
use Rattle.std.proofs.lemmas.Option.{none-some, same_Some, slice_get-get_or}
use Rattle.ynl_resource.specs.Names.{is_default, root, same_label, same_name, same_path}
use Rattle.ynl_resource.specs.declared.labels.Label.{Label}
use Rattle.ynl_resource.specs.declared.labels.Label.TheVariants.{Unlabelled, Named}
use Rattle.ynl_resource.specs.declared.names.Name.{Name}
use Rattle.ynl_resource.specs.declared.paths.Path.{Path}
use Rattle.ynl_model.specs.declared.queues.StopRow.{StopRow}
use Rattle.ynl_model.specs.declared.queues.MaximumRow.{MaximumRow}
use Rattle.ynl_model.specs.Applications.{Application, LeafApps}
use Rattle.ynl_model.specs.Limits.{distinct, sharing, users}
use Rattle.ynl_laws.proofs.Lists.{Each-map, filter-agree, filter-map, find-map, map-map}
use Rattle.ynl_laws.proofs.Names.{same-path}
use Rattle.ynl_inventory.specs.layout.Paths.{path_at}
use Rattle.ynl_lanes.specs.lane.Seats.{Seat, each_once}
use Rattle.ynl_lanes.proofs.lane.Distinct.{counts_names}
use Rattle.ynl_inventory.specs.Rows.{Rows, AppRow}
use Rattle.ynl_inventory.specs.Meaning.{app_of, has_none_below, label_at, leaf_numbers, leaf_of, leaves_from, state_of}
use Rattle.ynl_inventory.specs.Sound.{HasPartition, IsLeaf, IsSound}
use Rattle.ynl_inventory.proofs.AppChange.{path-self}
use Rattle.ynl_inventory.proofs.Asking.{same-label}
use Rattle.ynl_inventory.proofs.Filters.{filter-distinct, filter-lookup}
use Rattle.ynl_inventory.proofs.Finding.{not-true}
use Rattle.ynl_inventory.proofs.Updates.{differ-places, each-number}
use Rattle.ynl_cluster.specs.seating.Laws.{AreSharing, AreUsers}
use Rattle.ynl_cluster.specs.seating.Seating.{figures_of, seat_of, shares, sitting}
use Rattle.ynl_cluster.proofs.seating.SeatLists.{sitting-each}
use Rattle.ynl_cluster.proofs.seating.Turns.{in-order}

-- two filters are one
pub filter-and : {X : Type 0} (f g : X → Bool) (xs : List X) → filter f (filter g xs) ≡ filter (λ x. g x && f x) xs
filter-and f g [] = refl
filter-and {X} f g (x ∷ xs) = go (g x) (filter-and f g xs)
  where
    go : (b : Bool) → filter f (filter g xs) ≡ filter (λ x. g x && f x) xs
        → filter f (cond b (x ∷ filter g xs) (filter g xs)) ≡ cond (b && f x) (x ∷ filter (λ x. g x && f x) xs) (filter (λ x. g x && f x) xs)
    go true rest = ap (λ ys. cond (f x) (x ∷ ys) ys) rest
    go false rest = rest

-- the number of a leaf is found by a test that only it passes
leaf-at : (all : List Path) (n k : ℕ) (path : Path) (paths : List Path) (test : ℕ → Bool) → slice_get paths k ≡ Some path → has_none_below all path ≡ true → test (n + k) ≡ true
    → ((m : ℕ) → m < n + length paths → test m ≡ true → m ≡ n + k) → find test (leaves_from all n paths) ≡ Some (n + k)
leaf-at all n k path [] test at leaf hit only = absurd (none-some path at)
leaf-at all n zero path (p ∷ ps) test at leaf hit only =
    ap (λ b. find test (cond b (n ∷ []) [] ++ leaves_from all (n + 1) ps)) (ap (has_none_below all) (same_Some p path at) ∙ leaf)
    ∙ ap (λ b. cond b (Some n) (find test (leaves_from all (n + 1) ps))) (ap test same ∙ hit) ∙ ap (λ (m : ℕ). Some m) same
  where
    same : n ≡ n + 0
    same = omega arith
leaf-at all n (suc k) path (p ∷ ps) test at leaf hit only =
    front (has_none_below all p)
    (leaf-at all (n + 1) k path ps test at leaf (ap test next ∙ hit) (λ m below h. only m (omega (arith, below)) h ∙ sym next) ∙ ap (λ (m : ℕ). Some m) next)
  where
    next : n + 1 + k ≡ n + suc k
    next = omega arith

    none : test n ≡ false
    none = not-true (test n) (λ h. let is : n ≡ n + suc k = only n (omega arith) h in absurd (omega (arith, is)))

    front : (b : Bool) → find test (leaves_from all (n + 1) ps) ≡ Some (n + suc k) → find test (cond b (n ∷ []) [] ++ leaves_from all (n + 1) ps) ≡ Some (n + suc k)
    front true rest = ap (λ b. cond b (Some n) (find test (leaves_from all (n + 1) ps))) none ∙ rest
    front false rest = rest

module _ (v : Rows) (sound : IsSound v) where
  -- DEFAULT is the partition of number 0
  pub default-is : (p : ℕ) → HasPartition v p → is_default (label_at v.partitions p) ≡ nat_eq p 0
  default-is p has =
      unlabelled (label_at v.partitions p) ∙ ap (same_label (label_at v.partitions p)) (sym sound.default) ∙ same-label v sound p 0 has sound.some
    where
      unlabelled : (l : Label) → is_default l ≡ same_label l Unlabelled
      unlabelled Unlabelled = refl
      unlabelled (Named name) = refl

  -- users are told apart by their names
  pub user-apart : (m n : ℕ) → m < length v.users → n < length v.users → same_name (slice_index_or v.users m []) (slice_index_or v.users n []) ≡ true → m ≡ n
  user-apart m n m-in n-in same =
      differ-places v.users m n (slice_index_or v.users m []) (slice_index_or v.users n []) sound.users (slice_get-get_or v.users m [] m-in) (slice_get-get_or v.users n [] n-in) same

  module _ (q : ℕ) (leaf : IsLeaf v q) where
    leaf-number : find (λ m. same_path (path_at v.paths m) (path_at v.paths q)) (leaf_numbers v.paths) ≡ Some q
    leaf-number = go q refl
      where
        go : (n : ℕ) → q ≡ n → find (λ m. same_path (path_at v.paths m) (path_at v.paths q)) (leaf_numbers v.paths) ≡ Some q
        go zero is = absurd (true≢false (sym (ap (λ m. has_none_below v.paths (path_at v.paths m)) (sym is) ∙ leaf.none_below)))
        go (suc k) is =
            let one : 1 + k ≡ q = omega (arith, is) in
            let inside : k < length v.paths = omega (arith, leaf.there, is) in
            leaf-at v.paths 1 k (path_at v.paths q) v.paths (λ m. same_path (path_at v.paths m) (path_at v.paths q))
            (slice_get-get_or v.paths k root inside ∙ ap (λ m. Some (path_at v.paths m)) (sym is)) leaf.none_below
            (ap (λ m. same_path (path_at v.paths m) (path_at v.paths q)) one ∙ path-self (path_at v.paths q))
            (λ m below h. sound.tree.apart m q (omega (arith, below)) leaf.there (same-path (path_at v.paths m) (path_at v.paths q) h) ∙ sym one)
            ∙ ap (λ (m : ℕ). Some m) one

    -- the row of the leaf is found by its path
    pub leaf-row : find (λ row. same_path row.leaf (path_at v.paths q)) (map (leaf_of v) (leaf_numbers v.paths)) ≡ Some (leaf_of v q)
    leaf-row =
        find-map (leaf_of v) (λ row. same_path row.leaf (path_at v.paths q)) (leaf_numbers v.paths) ∙ ap (option_map (leaf_of v)) leaf-number

    module _ (p : ℕ) (has : HasPartition v p) (stops : List StopRow) (maxima : List MaximumRow) where
      abbrev label : Label
      label = label_at v.partitions p

      abbrev own : ℕ × AppRow → Bool
      own e = nat_eq e.1.leaf q

      abbrev test : Application → Bool
      test app = is_default label || same_label app.home label

      test-is : (n : ℕ) (row : AppRow) → lookup (nat_eq n) v.apps ≡ Some row → test (app_of v (n, row)) ≡ shares p row
      test-is n row found = λ i. default-is p has i || same-label v sound row.home p (sound.apps n row found).home has i

      -- the model's applications that share are those that sit
      pub sharing-are : sharing (state_of v stops maxima) (path_at v.paths q) label ≡ map (app_of v) (sitting p q v.apps)
      sharing-are =
          ap (filter test) (ap (λ o. option_map_or (λ (row : LeafApps). row.apps) o []) leaf-row ∙ in-order v q sound)
          ∙ filter-map (app_of v) test (filter own v.apps)
          ∙ ap (map (app_of v))
          (filter-agree (λ e. test (app_of v e) ≡ shares p e.1) (λ e. test (app_of v e)) (λ e. shares p e.1) (λ e is. is) (filter own v.apps)
          (each-number (λ n row. test (app_of v (n, row)) ≡ shares p row) (filter own v.apps) (filter-distinct own v.apps sound.app_numbers)
          (λ n row found. let is = filter-lookup own n row v.apps sound.app_numbers found in test-is n row is.0))
          ∙ filter-and (λ e. shares p e.1) own v.apps)

      abbrev name : ℕ → Name
      name n = slice_index_or v.users n []

      -- and so are their users
      pub users-are : users (state_of v stops maxima) (path_at v.paths q) label ≡ max 1 (length (each_once (map (λ e. e.1.user) (sitting p q v.apps))))
      unfolding users
      users-are =
          ap (λ (apps : List Application). max 1 (length (distinct (map (λ app. app.user) apps)))) sharing-are
          ∙ ap (λ ns. max 1 (length (distinct ns)))
          (map-map (λ (app : Application). app.user) (app_of v) (sitting p q v.apps) ∙ sym (map-map name (λ (e : ℕ × AppRow). e.1.user) (sitting p q v.apps)))
          ∙ ap (max 1) (sym (counts_names name (λ n. n < length v.users) user-apart (map (λ e. e.1.user) (sitting p q v.apps))
          (Each-map (λ (e : ℕ × AppRow). e.1.user < length v.users) (λ n. n < length v.users) (λ (e : ℕ × AppRow). e.1.user) (λ e h. h) (sitting p q v.apps)
          (sitting-each p q (λ n row. row.user < length v.users) v.apps sound.app_numbers (λ n row found sat. (sound.apps n row found).user)))))

pub are-sharing : AreSharing
are-sharing v sound p q has leaf stops maxima = sharing-are v sound q leaf p has stops maxima

pub are-users : AreUsers
are-users v sound lanes seated p q has leaf stops maxima =
    users-are v sound q leaf p has stops maxima
    ∙ ap (λ us. max 1 (length (each_once us)))
    (sym (ap (map (λ (e : ℕ × Seat). e.1.user)) (seated.seats p q has leaf.there).seats ∙ map-map (λ (e : ℕ × Seat). e.1.user) (seat_of (figures_of v) p q) (sitting p q v.apps)))
