-- A container comes or goes: what the lanes are then, against the rows.
use Rattle.std.proofs.Common.{◌≡◌, ℕ, Bool, true, false, cond, not, ◌&&◌, ◌||◌, List, [], ◌∷◌, ◌++◌, Some, nat_eq, sym, ap, subst, ◌∙◌, inl, inr}
use Rattle.std.specs.List.{list_any}
use Rattle.std.specs.Map.{lookup}
use Rattle.std.specs.Option.{option_map_or}
use Rattle.std.proofs.lemmas.Bool.{cases_eq, and_from}
use Rattle.ynl_resource.specs.Amounts.{nothing, plus}
use Rattle.ynl_resource.specs.declared.amounts.Resource.{Resource}
use Rattle.ynl_laws.proofs.Lists.{Each-append, any-other}
use Rattle.ynl_laws.proofs.Logic.{and-false}
use Rattle.ynl_slots.specs.Slots.{HasDistinctNumbers, without}
use Rattle.ynl_slots.proofs.Entries.{all_without, itself}
use Rattle.ynl_tables.specs.apps.Apps.{with_change}
use Rattle.ynl_tables.specs.declared.containers.container.Container.{Container}
use Rattle.ynl_lanes.specs.lane.Seats.{Seats, nothing_waits}
use Rattle.ynl_inventory.specs.Rows.{Rows, AppRow}
use Rattle.ynl_inventory.specs.Parts.{containers_of}
use Rattle.ynl_inventory.specs.Apps.{is_guest_role, is_master_role}
use Rattle.ynl_inventory.proofs.Updates.{at-number}
use Rattle.ynl_inventory.proofs.Used.{nothing-plus}
use Rattle.ynl_cluster.specs.seating.Seating.{AreShared, AreSeated, AreSeatedWith, counts, figures_of, is_of, is_shared, shares, user_use, waits_at, waits_of}
use Rattle.ynl_cluster.specs.seating.Steps.{AreSeatedButFor, AreUsedBut}
use Rattle.ynl_cluster.proofs.seating.SeatLists.{KeepsSeats}
use Rattle.ynl_cluster.proofs.seating.Sums.{any-gone, sum, sum-gone, sum-push}
use Rattle.ynl_cluster.proofs.seating.Carrying.{ChangesContainers, carried, found-after, is_master_of, shared-after, shares-same, use-elsewhere, use-of, waits-stay}

module _ (v w : Rows) (c : Container) (touch : AppRow → AppRow) (keeps : KeepsSeats touch) (apps : w.apps ≡ with_change c.app touch v.apps)
    (row : AppRow) (found : lookup (nat_eq c.app) v.apps ≡ Some row) (p number : ℕ) (lanes : List (List Seats)) (seated : AreSeated v lanes) (May : ℕ → Type 0)
    (still : (r n : ℕ) → ¬ May n → option_map_or (waits_at w r n) (lookup (nat_eq n) v.apps) nothing_waits ≡ option_map_or (waits_at w r n) (lookup (nat_eq n) w.apps) nothing_waits)
    (not-theirs : (n : ℕ) → ¬ May n → (is_master_role c.role && nat_eq c.app n) ≡ false) where
  -- whether the container counts in what a user uses in a leaf
  abbrev counted : ℕ → ℕ → Bool
  counted q user = not (is_guest_role p c.role) && is_of q user row

  counts-own : (q user : ℕ) → counts v p q user (number, c) ≡ counted q user
  counts-own q user = ap (λ o. not (is_guest_role p c.role) && option_map_or (is_of q user) o false) found

  own-counted : is_guest_role p c.role ≡ false → counted row.leaf row.user ≡ true
  own-counted home = and_from _ _ (ap not home) (and_from _ _ (itself row.leaf) (itself row.user))

  own-shared : is_guest_role p c.role ≡ false → is_shared v.apps p (number, c) ≡ true → shares p row ≡ true
  own-shared home is = sym (ap (λ b. b || shares p row) home) ∙ sym (ap (λ o. is_guest_role p c.role || option_map_or (shares p) o false) found) ∙ is

  module _ (change : List (ℕ × Container) → List (ℕ × Container)) (changes : ChangesContainers p change v w)
      (any : (n : ℕ) → ¬ May n → list_any (is_master_of n) (change (containers_of v p)) ≡ list_any (is_master_of n) (containers_of v p))
      (shared : AreShared w) (same : (q user : ℕ) → counted q user ≡ false → user_use v p q user ≡ user_use w p q user) where
    use-stays : (r q user : ℕ) → (r ≡ p → counted q user ≡ false) → user_use v r q user ≡ user_use w r q user
    use-stays r q user off =
        elim (cases_eq r p) [
          | inl is ↦ ap (λ m. user_use v m q user) is ∙ same q user (off is) ∙ sym (ap (λ m. user_use w m q user) is)
          | inr apart ↦ sym (use-elsewhere v w c.app touch keeps apps p change changes r q user apart)
        ]

    -- a guest changes nothing but what may wait
    guest-but : is_guest_role p c.role ≡ true → AreSeatedButFor May w lanes
    guest-but guest = record {
      waits = waits_of v;
      others = waits-stay v w c.app touch keeps apps p change changes May still any;
      seated =
          subst (λ amounts. AreSeatedWith (record { used = amounts; waits = waits_of v }) w lanes)
          (λ i r q user. use-stays r q user (λ is. ap (λ b. not b && is_of q user row) guest) i)
          (carried v w c.app touch keeps apps changes.paths changes.many (figures_of v) lanes shared seated);
    }

    -- another container changes also what its user uses
    home-but : (Stand : Resource → Resource → Type 0) → Stand (user_use v p row.leaf row.user) (user_use w p row.leaf row.user) → shares p row ≡ true → AreUsedBut May c.app p Stand w lanes
    home-but Stand stand sat = record {
      row = touch row;
      found = found-after v w c.app touch keeps apps row found;
      shared = shares-same v w c.app touch keeps apps p row ∙ sat;
      figures = figures_of v;
      stand =
          subst (λ l. Stand (user_use v p l (touch row).user) (user_use w p l (touch row).user)) (sym (keeps.leaf row))
          (subst (λ u. Stand (user_use v p row.leaf u) (user_use w p row.leaf u)) (sym (keeps.user row)) stand);
      uses = λ r q user off.
          use-stays r q user
          (λ is.
          let yes : nat_eq r p ≡ true = ap (λ m. nat_eq m p) is ∙ itself p in
          let none : is_of q user row ≡ false =
          (λ i. nat_eq (sym (keeps.leaf row) i) q && nat_eq (sym (keeps.user row) i) user) ∙ sym (ap (λ b. b && is_of q user (touch row)) yes) ∙ off
          in
          ap (λ b. not (is_guest_role p c.role) && b) none ∙ and-false (not (is_guest_role p c.role)));
      waits = waits-stay v w c.app touch keeps apps p change changes May still any;
      seated = carried v w c.app touch keeps apps changes.paths changes.many (figures_of v) lanes shared seated;
    }

  -- ---- a container comes

  module _ (changes : ChangesContainers p (λ es. es ++ (number, c) ∷ []) v w) (fits : is_shared v.apps p (number, c) ≡ true) where
    gained : (q user : ℕ) → user_use w p q user ≡ plus (user_use v p q user) (cond (counted q user) c.size nothing)
    gained q user =
        use-of v w c.app touch keeps apps p q user ∙ ap (sum (counts v p q user)) changes.own ∙ sum-push (counts v p q user) (containers_of v p) number c
        ∙ ap (λ b. plus (user_use v p q user) (cond b c.size nothing)) (counts-own q user)

    gained-shared : AreShared w
    gained-shared =
        shared-after v w c.app touch keeps apps p (λ es. es ++ (number, c) ∷ []) changes seated.shared
        (Each-append (λ e. is_shared v.apps p e ≡ true) (containers_of v p) ((number, c) ∷ []) (seated.shared p) (fits, tt))

    gained-any : (n : ℕ) → ¬ May n → list_any (is_master_of n) (containers_of v p ++ (number, c) ∷ []) ≡ list_any (is_master_of n) (containers_of v p)
    gained-any n far = any-other (is_master_of n) (containers_of v p) (number, c) (not-theirs n far)

    gained-same : (q user : ℕ) → counted q user ≡ false → user_use v p q user ≡ user_use w p q user
    gained-same q user off =
        sym (gained q user ∙ ap (λ b. plus (user_use v p q user) (cond b c.size nothing)) off ∙ nothing-plus (user_use v p q user))

    pub guest-came : is_guest_role p c.role ≡ true → AreSeatedButFor May w lanes
    guest-came guest = guest-but (λ es. es ++ (number, c) ∷ []) changes gained-any gained-shared gained-same guest

    pub home-came : is_guest_role p c.role ≡ false → AreUsedBut May c.app p (λ before after. after ≡ plus before c.size) w lanes
    home-came home =
        home-but (λ es. es ++ (number, c) ∷ []) changes gained-any gained-shared gained-same (λ before after. after ≡ plus before c.size)
        (gained row.leaf row.user ∙ ap (λ b. plus (user_use v p row.leaf row.user) (cond b c.size nothing)) (own-counted home)) (own-shared home fits)

  -- ---- a container goes

  module _ (changes : ChangesContainers p (without number) v w) (numbers : HasDistinctNumbers (containers_of v p)) (held : lookup (nat_eq number) (containers_of v p) ≡ Some c) where
    lost : (q user : ℕ) → user_use v p q user ≡ plus (user_use w p q user) (cond (counted q user) c.size nothing)
    lost q user =
        sum-gone (counts v p q user) number c (containers_of v p) numbers held
        ∙ (λ i. plus (sym (use-of v w c.app touch keeps apps p q user ∙ ap (sum (counts v p q user)) changes.own) i) (cond (counts-own q user i) c.size nothing))

    lost-shared : AreShared w
    lost-shared =
        shared-after v w c.app touch keeps apps p (without number) changes seated.shared
        (all_without (λ e. is_shared v.apps p e ≡ true) number (containers_of v p) (seated.shared p))

    lost-any : (n : ℕ) → ¬ May n → list_any (is_master_of n) (without number (containers_of v p)) ≡ list_any (is_master_of n) (containers_of v p)
    lost-any n far = any-gone (is_master_of n) number c (containers_of v p) numbers held (not-theirs n far)

    lost-same : (q user : ℕ) → counted q user ≡ false → user_use v p q user ≡ user_use w p q user
    lost-same q user off = lost q user ∙ ap (λ b. plus (user_use w p q user) (cond b c.size nothing)) off ∙ nothing-plus (user_use w p q user)

    lost-fits : is_shared v.apps p (number, c) ≡ true
    lost-fits = at-number (λ n d. is_shared v.apps p (n, d) ≡ true) (containers_of v p) number c (seated.shared p) held

    pub guest-went : is_guest_role p c.role ≡ true → AreSeatedButFor May w lanes
    guest-went guest = guest-but (without number) changes lost-any lost-shared lost-same guest

    pub home-went : is_guest_role p c.role ≡ false → AreUsedBut May c.app p (λ before after. before ≡ plus after c.size) w lanes
    home-went home =
        home-but (without number) changes lost-any lost-shared lost-same (λ before after. before ≡ plus after c.size)
        (lost row.leaf row.user ∙ ap (λ b. plus (user_use w p row.leaf row.user) (cond b c.size nothing)) (own-counted home)) (own-shared home lost-fits)
