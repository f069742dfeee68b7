-- Rows change: what stays of the seats, of what users use, and of what waits.
use Rattle.std.proofs.Common.{◌≡◌, ◌≢◌, ◌<◌, ℕ, Bool, true, false, cond, not, ◌&&◌, ◌||◌, List, length, Option, Some, None, option_map, nat_eq, refl, sym, ap, subst, ◌∙◌, inl, inr}
use Rattle.std.specs.Prelude.{IsSome}
use mathlib.Core.Logic.{◌⊎◌}
use Rattle.std.specs.List.{AllByRecursion, list_any}
use Rattle.std.specs.Map.{lookup}
use Rattle.std.specs.Option.{option_map_or}
use Rattle.std.proofs.lemmas.Bool.{cases_eq}
use Rattle.ynl_laws.proofs.Lists.{Each-weaker}
use Rattle.ynl_slots.specs.Slots.{HasDistinctNumbers}
use Rattle.ynl_tables.specs.apps.Apps.{with_change}
use Rattle.ynl_tables.specs.declared.containers.container.Container.{Container}
use Rattle.ynl_inventory.specs.layout.Paths.{HasNumber}
use Rattle.ynl_lanes.specs.lane.Seats.{Seats, nothing_waits}
use Rattle.ynl_inventory.specs.Rows.{Rows, AppRow}
use Rattle.ynl_inventory.specs.Parts.{containers_of}
use Rattle.ynl_inventory.specs.Apps.{is_guest_role, is_master_role}
use Rattle.ynl_inventory.specs.Sound.{HasPartition}
use Rattle.ynl_inventory.proofs.Lookups.{changed-distinct, changed-other, changed-same, read-changed, was-found}
use Rattle.ynl_cluster.specs.seating.Seating.{Figures, HasSeats, AreShared, AreSeatedWith, counts, is_of, is_shared, seats_of, shares, ticket_on, user_use, waits_at, waits_if, waits_of}
use Rattle.ynl_cluster.proofs.seating.Lanes.{seated-as}
use Rattle.ynl_cluster.proofs.seating.SeatLists.{KeepsSeats, seats-touched}
use Rattle.ynl_cluster.proofs.seating.Sums.{sum}

-- the containers of a partition change, and those of the others stay
pub record ChangesContainers (p : ℕ) (change : List (ℕ × Container) → List (ℕ × Container)) (v w : Rows) : Type 0 where
  pub paths : w.paths ≡ v.paths
  pub many : length w.partitions ≡ length v.partitions
  pub own : containers_of w p ≡ change (containers_of v p)
  pub others : (q : ℕ) → q ≢ p → containers_of w q ≡ containers_of v q

-- whether a container is the master of an application
abbrev pub is_master_of : ℕ → ℕ × Container → Bool
is_master_of n e = is_master_role e.1.role && nat_eq e.1.app n

module _ (v w : Rows) (app : ℕ) (touch : AppRow → AppRow) (keeps : KeepsSeats touch) (apps : w.apps ≡ with_change app touch v.apps) where
  -- ---- what is read of applications

  read : (f : AppRow → Bool) → ((row : AppRow) → f (touch row) ≡ f row) → (m : ℕ) → option_map_or f (lookup (nat_eq m) w.apps) false ≡ option_map_or f (lookup (nat_eq m) v.apps) false
  read f same m = ap (λ es. option_map_or f (lookup (nat_eq m) es) false) apps ∙ read-changed f false m app touch same v.apps

  pub shares-same : (p : ℕ) (row : AppRow) → shares p (touch row) ≡ shares p row
  shares-same p row = λ i. nat_eq p 0 || nat_eq (keeps.home row i) p

  pub shared-same : (p : ℕ) (e : ℕ × Container) → is_shared w.apps p e ≡ is_shared v.apps p e
  shared-same p e = ap (λ b. is_guest_role p e.1.role || b) (read (shares p) (shares-same p) e.1.app)

  pub counts-same : (p q user : ℕ) (e : ℕ × Container) → counts w p q user e ≡ counts v p q user e
  counts-same p q user e =
      ap (λ b. not (is_guest_role p e.1.role) && b) (read (is_of q user) (λ row i. nat_eq (keeps.leaf row i) q && nat_eq (keeps.user row i) user) e.1.app)

  -- what a user uses is what the containers say, as the applications were
  pub use-of : (p q user : ℕ) → user_use w p q user ≡ sum (counts v p q user) (containers_of w p)
  use-of p q user = λ i. sum (λ e. counts-same p q user e i) (containers_of w p)

  pub found-after : (row : AppRow) → lookup (nat_eq app) v.apps ≡ Some row → lookup (nat_eq app) w.apps ≡ Some (touch row)
  found-after row found = ap (lookup (nat_eq app)) apps ∙ changed-same app touch v.apps ∙ ap (option_map touch) found

  -- another application is as it was
  pub others-still : (r n : ℕ) → n ≢ app → option_map_or (waits_at w r n) (lookup (nat_eq n) v.apps) nothing_waits ≡ option_map_or (waits_at w r n) (lookup (nat_eq n) w.apps) nothing_waits
  others-still r n apart = ap (λ o. option_map_or (waits_at w r n) o nothing_waits) (sym (ap (lookup (nat_eq n)) apps ∙ changed-other n app touch v.apps apart))

  -- ---- the seats stay

  module _ (paths : w.paths ≡ v.paths) (many : length w.partitions ≡ length v.partitions) where
    there : (p : ℕ) → HasPartition v p → HasPartition w p
    there p has = subst (λ n. p < n) (sym many) has

    ticket-same : (p : ℕ) (row : AppRow) → ticket_on p (touch row) ≡ ticket_on p row
    ticket-same p row = λ i. cond (nat_eq (keeps.home row i) p) (keeps.tickets row i).home (keeps.tickets row i).default

    has-seats : (row : AppRow) → HasSeats v row → (b : Bool) → HasSeats w (cond b (touch row) row)
    has-seats row is true = record {
      home = subst (HasPartition w) (sym (keeps.home row)) (there row.home is.home);
      leaf = subst (HasNumber w.paths) (sym (keeps.leaf row)) (subst (λ ps. HasNumber ps row.leaf) (sym paths) is.leaf);
      tickets = λ p sat. subst IsSome (sym (ticket-same p row)) (is.tickets p (sym (shares-same p row) ∙ sat));
    }
    has-seats row is false = record {
      home = there row.home is.home;
      leaf = subst (λ ps. HasNumber ps row.leaf) (sym paths) is.leaf;
      tickets = is.tickets;
    }

    -- the lanes are those of the rows as they were, with the figures that they had
    pub carried : (f : Figures) (lanes : List (List Seats)) → AreShared w → AreSeatedWith f v lanes → AreSeatedWith f w lanes
    carried f lanes shared seated = record {
      numbers = subst HasDistinctNumbers (sym apps) (changed-distinct app touch v.apps seated.numbers);
      default = there 0 seated.default;
      shared = shared;
      apps = λ n row found.
          let was = was-found n app touch v.apps row (ap (lookup (nat_eq n)) (sym apps) ∙ found) in
          subst (HasSeats w) (sym was.2) (has-seats was.0 (seated.apps n was.0 was.1) (nat_eq n app));
      seats = λ p q has number.
          seated-as f f v.apps w.apps p q lanes (ap (seats_of f p q) apps ∙ seats-touched p q f app touch keeps v.apps)
          (seated.seats p q (subst (λ n. p < n) many has) (subst (λ ps. HasNumber ps q) paths number));
    }

  -- ---- containers change on one partition

  module _ (p : ℕ) (change : List (ℕ × Container) → List (ℕ × Container)) (changes : ChangesContainers p change v w) where
    -- on each other a user uses the same
    pub use-elsewhere : (r q user : ℕ) → r ≢ p → user_use w r q user ≡ user_use v r q user
    use-elsewhere r q user apart = use-of r q user ∙ ap (sum (counts v r q user)) (changes.others r apart)

    -- containers are of applications that share, if they still are where they change
    pub shared-after : AreShared v → AllByRecursion (λ e. is_shared v.apps p e ≡ true) (change (containers_of v p)) → AreShared w
    shared-after shared own r =
        Each-weaker (λ e. is_shared v.apps r e ≡ true) (λ e. is_shared w.apps r e ≡ true) (λ e is. shared-same r e ∙ is) (containers_of w r) (at (cases_eq r p))
      where
        at : ((r ≡ p) ⊎ (r ≢ p)) → AllByRecursion (λ e. is_shared v.apps r e ≡ true) (containers_of w r)
        at (inl same) =
            subst (λ m. AllByRecursion (λ e. is_shared v.apps m e ≡ true) (containers_of w m)) (sym same)
            (subst (AllByRecursion (λ e. is_shared v.apps p e ≡ true)) (sym changes.own) own)
        at (inr apart) = subst (AllByRecursion (λ e. is_shared v.apps r e ≡ true)) (sym (changes.others r apart)) (shared r)

    module _ (May : ℕ → Type 0)
        (still : (r n : ℕ) → ¬ May n → option_map_or (waits_at w r n) (lookup (nat_eq n) v.apps) nothing_waits ≡ option_map_or (waits_at w r n) (lookup (nat_eq n) w.apps) nothing_waits)
        (any : (n : ℕ) → ¬ May n → list_any (is_master_of n) (change (containers_of v p)) ≡ list_any (is_master_of n) (containers_of v p)) where
      runs-same : (n home : ℕ) → ¬ May n → list_any (is_master_of n) (containers_of w home) ≡ list_any (is_master_of n) (containers_of v home)
      runs-same n home apart =
          elim (cases_eq home p) [
            | inl same ↦
                ap (λ m. list_any (is_master_of n) (containers_of w m)) same ∙ ap (list_any (is_master_of n)) changes.own ∙ any n apart
                ∙ sym (ap (λ m. list_any (is_master_of n) (containers_of v m)) same)
            | inr far ↦ ap (list_any (is_master_of n)) (changes.others home far)
          ]

      -- what waits of the others stays
      pub waits-stay : (r n : ℕ) → ¬ May n → waits_of v r n ≡ waits_of w r n
      waits-stay r n apart =
          go (lookup (nat_eq n) v.apps)
          ∙ still r n apart
        where
          go : (o : Option AppRow) → option_map_or (waits_at v r n) o nothing_waits ≡ option_map_or (waits_at w r n) o nothing_waits
          go None = refl
          go (Some row) = ap (λ b. waits_if b r row) (sym (runs-same n row.home apart))
