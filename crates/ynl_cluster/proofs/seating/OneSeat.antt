-- One seat shows something else: the lanes are then those of other figures.
use Rattle.std.proofs.Common.{◌≡◌, ◌≢◌, ℕ, Bool, true, false, cond, ◌&&◌, List, Some, is_some, nat_eq, refl, sym, ap, subst, ◌∙◌, inl, inr}
use Rattle.std.specs.Prelude.{IfSome}
use Rattle.std.specs.Map.{lookup}
use Rattle.std.proofs.lemmas.Bool.{and_parts, and_from, cases_eq, eqb-true, or_cases}
use Rattle.std.proofs.lemmas.Option.{same_Some}
use Rattle.ynl_resource.specs.declared.amounts.Resource.{Resource}
use Rattle.ynl_laws.proofs.Logic.{and-false}
use Rattle.ynl_slots.proofs.Entries.{itself, other}
use Rattle.ynl_inventory.specs.layout.Paths.{HasNumber}
use Rattle.ynl_lanes.specs.declared.lane.kinds.Both.{Both}
use Rattle.ynl_lanes.specs.lane.Seats.{IsSeat, Seat, Seats, with_used, with_waits}
use Rattle.ynl_lanes.specs.table.Lanes.{Changes, Enters, IsLaneAt, SetsUsed, lane_at}
use Rattle.ynl_inventory.specs.Rows.{Rows, AppRow}
use Rattle.ynl_inventory.specs.Sound.{HasPartition}
use Rattle.ynl_cluster.specs.seating.Seating.{AreSeatedWith, Figures, IsSeated, is_of, seat_of, seats_of, shares, sits, user_use}
use Rattle.ynl_cluster.specs.seating.Steps.{AreSeatedButFor, AreUsedBut}
use Rattle.ynl_cluster.proofs.seating.SeatLists.{seat-found, seats-entered, seats-stay, seats-used, tickets-apart}
use Rattle.ynl_cluster.proofs.seating.Lanes.{lifted, with-lanes}

-- the lanes of a partition that an application shares
module _ (f : Figures) (v : Rows) (lanes : List (List Seats)) (seated : AreSeatedWith f v lanes) (app : ℕ) (row : AppRow) (found : lookup (nat_eq app) v.apps ≡ Some row)
    (p : ℕ) (sat : shares p row ≡ true) where
  -- the partition is there
  pub partition-there : HasPartition v p
  partition-there =
      elim (or_cases (nat_eq p 0) (nat_eq row.home p) sat) [
        | inl default ↦ subst (HasPartition v) (sym (eqb-true p 0 default)) seated.default
        | inr home ↦ subst (HasPartition v) (eqb-true row.home p home) (seated.apps app row found).home
      ]

  pub leaf-there : HasNumber v.paths row.leaf
  leaf-there = (seated.apps app row found).leaf

  -- the application sits in its leaf's lane
  pub sits-there : sits p row.leaf row ≡ true
  sits-there = and_from _ _ (itself row.leaf) sat

  pub lane : IsSeated f v.apps p row.leaf lanes
  lane = seated.seats p row.leaf partition-there leaf-there

  pub lane-there : IsLaneAt p row.leaf lanes
  lane-there = lane.there

  abbrev pub ticket : ℕ
  ticket = (seat_of f p row.leaf (app, row)).0

  -- its seat is found there
  pub own-found : lookup (nat_eq ticket) (lane_at p row.leaf lanes).seats ≡ Some (seat_of f p row.leaf (app, row)).1
  own-found = ap (lookup (nat_eq ticket)) lane.seats ∙ seat-found p row.leaf f v.apps seated.numbers lane.distinct app row found sits-there

  pub own-seat : IsSeat ticket (lane_at p row.leaf lanes).seats
  own-seat = ap is_some own-found

  -- the lanes with other figures, of which only that lane's are seen to change
  module _ (g : Figures) (change : Seats → Seats → Type 0) (new : List (List Seats)) (changes : Changes p row.leaf change lanes new)
      (own : changes.next.seats ≡ seats_of g p row.leaf v.apps) (others : (r s : ℕ) → (r ≡ p → s ≢ row.leaf) → seats_of g r s v.apps ≡ seats_of f r s v.apps) where
    pub seated-anew : AreSeatedWith g v new
    seated-anew =
        with-lanes f g v lanes new seated
        (lifted f g (λ r. v.apps) (λ r. v.apps) v p row.leaf change lanes new changes partition-there leaf-there seated.seats own
        (tickets-apart p row.leaf f g v.apps lane.distinct) (λ r s apart has number. others r s apart))

  -- ---- what waits of the application is entered anew

  abbrev pub entered : Both Resource → Figures
  entered waits = record f { waits = λ r n. cond (nat_eq r p && nat_eq n app) waits (f.waits r n) }

  module _ (waits : Both Resource) (new : List (List Seats)) (changes : Changes p row.leaf (Enters ticket waits) lanes new) where
    pub own-waits : (entered waits).waits p app ≡ waits
    own-waits = ap (λ b. cond b waits (f.waits p app)) (and_from _ _ (itself p) (itself app))

    pub other-waits : (r n : ℕ) → n ≢ app → (entered waits).waits r n ≡ f.waits r n
    other-waits r n apart = ap (λ b. cond b waits (f.waits r n)) (ap (λ b. nat_eq r p && b) (other n app apart) ∙ and-false (nat_eq r p))

    pub elsewhere : (r n : ℕ) → r ≢ p → (entered waits).waits r n ≡ f.waits r n
    elsewhere r n apart = ap (λ b. cond (b && nat_eq n app) waits (f.waits r n)) (other r p apart)

    pub seated-entered : AreSeatedWith (entered waits) v new
    seated-entered =
        seated-anew (entered waits) (Enters ticket waits) new changes
        (changes.changes.0 ∙ (λ i. with_waits ticket (sym own-waits i) (lane.seats i))
        ∙ sym (seats-entered p row.leaf f v.apps seated.numbers lane.distinct app row found sits-there (entered waits) (λ u. refl) (λ n apart. other-waits p n apart)))
        (λ r s apart. seats-stay r s f (entered waits) v.apps seated.numbers (λ n other-row at sat. (refl, stays r s apart n other-row at sat)))
      where
        stays : (r s : ℕ) → (r ≡ p → s ≢ row.leaf) → (n : ℕ) (r' : AppRow) → lookup (nat_eq n) v.apps ≡ Some r' → sits r s r' ≡ true → (entered waits).waits r n ≡ f.waits r n
        stays r s apart n r' at sat' =
            elim (cases_eq n app) [
              | inl same ↦
                  elim (cases_eq r p) [
                    | inl is ↦
                        let mine : r' ≡ row = same_Some r' row (sym at ∙ ap (λ k. lookup (nat_eq k) v.apps) same ∙ found) in
                        absurd (apart is (sym (eqb-true row.leaf s (ap (λ (x : AppRow). nat_eq x.leaf s) (sym mine) ∙ (and_parts _ _ sat').0))))
                    | inr far ↦ elsewhere r n far
                  ]
              | inr far ↦ other-waits r n far
            ]

  -- ---- its user uses another amount

  abbrev pub with_use : Resource → Figures
  with_use used = record f { used = λ r q u. cond (nat_eq r p && is_of q u row) used (f.used r q u) }

  module _ (used : Resource) (new : List (List Seats)) (changes : Changes p row.leaf (SetsUsed ticket used) lanes new) where
    own-use : (u : ℕ) → (with_use used).used p row.leaf u ≡ cond (nat_eq row.user u) used (f.used p row.leaf u)
    own-use u = λ i. cond (itself p i && (itself row.leaf i && nat_eq row.user u)) used (f.used p row.leaf u)

    pub seated-used : AreSeatedWith (with_use used) v new
    seated-used =
        seated-anew (with_use used) (SetsUsed ticket used) new changes
        (subst (λ o. IfSome o (λ (seat : Seat). changes.next.seats ≡ with_used seat.user used (lane_at p row.leaf lanes).seats)) own-found changes.changes.0
        ∙ ap (with_used row.user used) lane.seats ∙ sym (seats-used p row.leaf f (with_use used) row.user used v.apps (λ n. refl) own-use))
        (λ r s apart. seats-stay r s f (with_use used) v.apps seated.numbers (λ n r' at sat'. (stays r s apart r'.user, refl)))
      where
        stays : (r s : ℕ) → (r ≡ p → s ≢ row.leaf) → (u : ℕ) → (with_use used).used r s u ≡ f.used r s u
        stays r s apart u =
            elim (cases_eq r p) [
              | inl is ↦
                  ap (λ b. cond (nat_eq r p && (b && nat_eq row.user u)) used (f.used r s u)) (other row.leaf s (λ same. apart is (sym same)))
                  ∙ ap (λ b. cond b used (f.used r s u)) (and-false (nat_eq r p))
              | inr far ↦ ap (λ b. cond (b && is_of s u row) used (f.used r s u)) (other r p far)
            ]

-- ---- the functions' starts and ends

-- once the user's use is set, only what waits of the application may differ
pub used-but : (May : ℕ → Type 0) (app p : ℕ) (Stand : Resource → Resource → Type 0) (v : Rows) (lanes new : List (List Seats)) (start : AreUsedBut May app p Stand v lanes)
    → Changes p start.row.leaf (SetsUsed (ticket start.figures v lanes start.seated app start.row start.found p start.shared) (user_use v p start.row.leaf start.row.user)) lanes new → AreSeatedButFor May v new
used-but May app p Stand v lanes new start changes = record {
  waits = f.waits;
  others = start.waits;
  seated = subst (λ amounts. AreSeatedWith (record { used = amounts; waits = f.waits }) v new) (λ i r q u. same r q u (nat_eq r p && is_of q u row) refl i)
      (seated-used f v lanes start.seated app row start.found p start.shared own new changes);
}
  where
    f : Figures
    f = start.figures

    row : AppRow
    row = start.row

    own : Resource
    own = user_use v p row.leaf row.user

    same : (r q u : ℕ) (b : Bool) → (nat_eq r p && is_of q u row) ≡ b → cond b own (f.used r q u) ≡ user_use v r q u
    same r q u true is =
        let parts = and_parts _ _ is in
        let of = and_parts (nat_eq row.leaf q) (nat_eq row.user u) parts.1 in
        λ i. user_use v (sym (eqb-true r p parts.0) i) (eqb-true row.leaf q of.0 i) (eqb-true row.user u of.1 i)
    same r q u false is = start.uses r q u is
