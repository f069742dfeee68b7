-- A new application has its tickets: what stays of the others' seats, of use and of what waits.
use Rattle.std.proofs.Common.{◌≡◌, ◌≢◌, ℕ, Bool, true, false, cond, not, ◌&&◌, ◌||◌, List, [], ◌∷◌, ◌++◌, slice_get, Option, Some, None, is_some, nat_eq, refl, sym, ap, subst, ◌∙◌, true≢false}
use Rattle.std.specs.List.{AllByRecursion, list_any}
use Rattle.std.specs.Map.{lookup}
use Rattle.std.specs.Option.{option_map_or}
use Rattle.std.proofs.lemmas.Bool.{and_from, and_parts, eqb-true}
use Rattle.std.proofs.lemmas.Option.{none-some}
use Rattle.ynl_resource.specs.Amounts.{nothing, total_of}
use Rattle.ynl_laws.proofs.Lists.{Each-weaker, filter-agree, filter-nothing}
use Rattle.ynl_slots.specs.Slots.{IsLive, IsUnused}
use Rattle.ynl_slots.proofs.Entries.{itself, lookup-push-other, other}
use Rattle.ynl_slots.proofs.Lookups.{lookup-push, lookup-unused}
use Rattle.ynl_tables.specs.apps.Apps.{with_change}
use Rattle.ynl_tables.specs.declared.apps.app.Tickets.{Tickets}
use Rattle.ynl_tables.specs.declared.containers.container.Container.{Container}
use Rattle.ynl_lanes.specs.lane.Seats.{Seats, nothing_waits}
use Rattle.ynl_inventory.specs.Rows.{Rows, PartitionRow, AppRow}
use Rattle.ynl_inventory.specs.Changes.{with_tickets}
use Rattle.ynl_inventory.specs.Parts.{containers_of}
use Rattle.ynl_inventory.specs.Apps.{is_guest_role}
use Rattle.ynl_inventory.proofs.Finding.{not-true}
use Rattle.ynl_inventory.proofs.Lookups.{pushed-live}
use Rattle.ynl_inventory.proofs.Updates.{at-number}
use Rattle.ynl_cluster.specs.seating.Seating.{AreShared, Figures, counts, figures_of, is_of, is_shared, seats_of, shares, sits, sitting, user_use, waits_at, waits_if, waits_of}
use Rattle.ynl_cluster.specs.seating.Steps.{IsUnseated}
use Rattle.ynl_cluster.proofs.seating.Carrying.{is_master_of}
use Rattle.ynl_cluster.proofs.seating.SeatLists.{seats-passed, seats-stay, sitting-found}
use Rattle.ynl_cluster.proofs.seating.Sums.{size_of, sum}

-- the row that came last changes
changed-pushed : {X : Type 0} (n : ℕ) (f : X → X) (x : X) (es : List (ℕ × X)) → IsUnused n es → with_change n f (es ++ (n, x) ∷ []) ≡ es ++ (n, f x) ∷ []
changed-pushed {X} n f x [] unused = ap (λ b. let e : ℕ × X = cond b (n, f x) (n, x) in e ∷ []) (itself n)
changed-pushed {X} n f x (e ∷ es) unused = λ i. one i ∷ changed-pushed n f x es unused.1 i
  where
    one : cond (nat_eq n e.0) (e.0, f e.1) e ≡ e
    one = ap (λ b. cond b (e.0, f e.1) e) (other n e.0 (λ same. unused.0 (sym same)))

-- no test passes where each fails
pub none-any : {X : Type 0} (test : X → Bool) (xs : List X) → AllByRecursion (λ x. test x ≡ false) xs → list_any test xs ≡ false
none-any test [] h = refl
none-any test (x ∷ xs) h = ap (λ b. b || list_any test xs) h.0 ∙ none-any test xs h.1

module _ (app : ℕ) (w : Rows) (lanes : List (List Seats)) (start : IsUnseated app w lanes) (t : Tickets) where
  abbrev v : Rows
  v = start.before

  abbrev pub newcomer : AppRow
  newcomer = record start.row { tickets = t }

  abbrev pub u : Rows
  u = with_tickets app t w

  pub apps-are : u.apps ≡ v.apps ++ (app, newcomer) ∷ []
  apps-are =
      ap (with_change app (λ (row : AppRow). record row { tickets = t })) start.apps ∙ changed-pushed app (λ (row : AppRow). record row { tickets = t }) start.row v.apps start.unused

  pub own-found : lookup (nat_eq app) u.apps ≡ Some newcomer
  own-found =
      ap (lookup (nat_eq app)) apps-are ∙ lookup-push app app newcomer v.apps start.unused
      ∙ ap (λ b. cond b (Some newcomer) (lookup (nat_eq app) v.apps)) (itself app)

  pub old-found : (n : ℕ) → n ≢ app → lookup (nat_eq n) u.apps ≡ lookup (nat_eq n) v.apps
  old-found n apart = ap (lookup (nat_eq n)) apps-are ∙ lookup-push-other n app newcomer v.apps start.unused apart

  not-new : (n : ℕ) (row : AppRow) → lookup (nat_eq n) v.apps ≡ Some row → n ≢ app
  not-new n row found same = none-some row (sym (lookup-unused app v.apps start.unused) ∙ ap (λ k. lookup (nat_eq k) v.apps) (sym same) ∙ found)

  containers-same : (p : ℕ) → containers_of u p ≡ containers_of v p
  containers-same p = ap (λ ps. option_map_or (λ (row : PartitionRow). row.containers) (slice_get ps p) []) start.partitions

  -- ---- containers

  -- the application of a container that is no guest is live, and so not the new one
  home-live : (p : ℕ) (e : ℕ × Container) → is_shared v.apps p e ≡ true → is_guest_role p e.1.role ≡ false → IsLive e.1.app v.apps
  home-live p e shared home = go (lookup (nat_eq e.1.app) v.apps) (sym (ap (λ b. b || option_map_or (shares p) (lookup (nat_eq e.1.app) v.apps) false) home) ∙ shared)
    where
      go : (o : Option AppRow) → option_map_or (shares p) o false ≡ true → is_some o ≡ true
      go None h = absurd (true≢false (sym h))
      go (Some row) h = refl

  home-same : (p : ℕ) (e : ℕ × Container) → is_shared v.apps p e ≡ true → is_guest_role p e.1.role ≡ false → lookup (nat_eq e.1.app) u.apps ≡ lookup (nat_eq e.1.app) v.apps
  home-same p e shared home = ap (lookup (nat_eq e.1.app)) apps-are ∙ pushed-live e.1.app app newcomer v.apps (home-live p e shared home)

  counts-same : (p q user : ℕ) (e : ℕ × Container) → is_shared v.apps p e ≡ true → counts u p q user e ≡ counts v p q user e
  counts-same p q user e shared = go (is_guest_role p e.1.role) refl
    where
      go : (b : Bool) → is_guest_role p e.1.role ≡ b
          → (not b && option_map_or (is_of q user) (lookup (nat_eq e.1.app) u.apps) false) ≡ (not b && option_map_or (is_of q user) (lookup (nat_eq e.1.app) v.apps) false)
      go true guest = refl
      go false home = ap (λ o. option_map_or (is_of q user) o false) (home-same p e shared home)

  -- nobody uses more
  pub use-same : (p q user : ℕ) → user_use u p q user ≡ user_use v p q user
  use-same p q user =
      ap (sum (counts u p q user)) (containers-same p)
      ∙ ap (total_of size_of)
      (filter-agree (λ e. is_shared v.apps p e ≡ true) (counts u p q user) (counts v p q user) (counts-same p q user) (containers_of v p) (start.seated.shared p))

  shared-same : (p : ℕ) (e : ℕ × Container) → is_shared v.apps p e ≡ true → is_shared u.apps p e ≡ true
  shared-same p e shared = go (is_guest_role p e.1.role) refl
    where
      go : (b : Bool) → is_guest_role p e.1.role ≡ b → is_shared u.apps p e ≡ true
      go true guest = ap (λ b. b || option_map_or (shares p) (lookup (nat_eq e.1.app) u.apps) false) guest
      go false home = ap (λ o. is_guest_role p e.1.role || option_map_or (shares p) o false) (home-same p e shared home) ∙ shared

  pub shared-still : AreShared u
  shared-still p =
      subst (AllByRecursion (λ e. is_shared u.apps p e ≡ true)) (sym (containers-same p))
      (Each-weaker (λ e. is_shared v.apps p e ≡ true) (λ e. is_shared u.apps p e ≡ true) (shared-same p) (containers_of v p) (start.seated.shared p))

  -- nothing more waits of the others
  pub waits-same : (p n : ℕ) → n ≢ app → waits_of u p n ≡ waits_of v p n
  waits-same p n apart = ap (λ o. option_map_or (waits_at u p n) o nothing_waits) (old-found n apart) ∙ go (lookup (nat_eq n) v.apps)
    where
      go : (o : Option AppRow) → option_map_or (waits_at u p n) o nothing_waits ≡ option_map_or (waits_at v p n) o nothing_waits
      go None = refl
      go (Some row) = ap (λ b. waits_if b p row) (ap (list_any (is_master_of n)) (containers-same row.home))

  -- ---- seats

  -- the figures once the seats are added: nothing waits yet at those of the new application
  abbrev pub added : Figures
  added = record { used = user_use u; waits = λ p n. cond (nat_eq n app) nothing_waits (waits_of u p n) }

  pub added-others : (p n : ℕ) → n ≢ app → added.waits p n ≡ waits_of u p n
  added-others p n apart = ap (λ b. cond b nothing_waits (waits_of u p n)) (other n app apart)

  pub old-seats : (p q : ℕ) → seats_of added p q v.apps ≡ seats_of (figures_of v) p q v.apps
  old-seats p q =
      seats-stay p q (figures_of v) added v.apps start.seated.numbers
      (λ n row found sat. (use-same p q row.user, added-others p n (not-new n row found) ∙ waits-same p n (not-new n row found)))

  -- where the new application does not sit, the seats are the same
  pub seats-same : (p q : ℕ) → sits p q newcomer ≡ false → seats_of added p q u.apps ≡ seats_of added p q v.apps
  seats-same p q off = ap (seats_of added p q) apps-are ∙ seats-passed p q added v.apps app newcomer off

  -- a user who has no seat uses nothing
  pub none-used : (p q user : ℕ) → AllByRecursion (λ e. nat_eq user e.1.user ≡ false) (sitting p q v.apps) → user_use v p q user ≡ nothing
  none-used p q user absent =
      ap (total_of size_of)
      (filter-nothing (counts v p q user) (containers_of v p)
      (Each-weaker (λ e. is_shared v.apps p e ≡ true) (λ e. counts v p q user e ≡ false) one (containers_of v p) (start.seated.shared p)))
    where
      one : (e : ℕ × Container) → is_shared v.apps p e ≡ true → counts v p q user e ≡ false
      one e shared = go (is_guest_role p e.1.role) refl
        where
          at : (o : Option AppRow) → lookup (nat_eq e.1.app) v.apps ≡ o → option_map_or (shares p) o false ≡ true → option_map_or (is_of q user) o false ≡ false
          at None is h = refl
          at (Some row) is h =
              not-true (is_of q user row)
              (λ hit.
              let parts = and_parts (nat_eq row.leaf q) (nat_eq row.user user) hit in
              let off = at-number (λ n r. nat_eq user r.user ≡ false) (sitting p q v.apps) e.1.app row absent (sitting-found p q v.apps e.1.app row is (and_from _ _ parts.0 h)) in
              true≢false (sym (ap (λ k. nat_eq k row.user) (sym (eqb-true row.user user parts.1)) ∙ itself row.user) ∙ off))

          go : (b : Bool) → is_guest_role p e.1.role ≡ b → (not b && option_map_or (is_of q user) (lookup (nat_eq e.1.app) v.apps) false) ≡ false
          go true guest = refl
          go false home =
              at (lookup (nat_eq e.1.app) v.apps) refl (sym (ap (λ b. b || option_map_or (shares p) (lookup (nat_eq e.1.app) v.apps) false) home) ∙ shared)
