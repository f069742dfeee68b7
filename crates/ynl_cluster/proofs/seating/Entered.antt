-- All that waits of an application is entered: the lanes are those of the rows.
use Rattle.std.proofs.Common.{◌≡◌, ◌≢◌, ℕ, Bool, true, List, Some, nat_eq, refl, sym, ap, ◌∙◌, inl, inr}
use Rattle.std.specs.Map.{lookup}
use Rattle.std.specs.Option.{option_map_or}
use Rattle.std.proofs.lemmas.Bool.{and_parts, cases_eq, eqb-true, or_cases, or_left, or_right}
use Rattle.std.proofs.lemmas.Option.{same_Some}
use Rattle.ynl_resource.specs.declared.amounts.Resource.{Resource}
use Rattle.ynl_slots.proofs.Entries.{itself}
use Rattle.ynl_lanes.specs.declared.lane.kinds.Both.{Both}
use Rattle.ynl_lanes.specs.lane.Seats.{IsSeat, Seats, nothing_waits}
use Rattle.ynl_lanes.specs.table.Lanes.{Changes, Enters, lane_at}
use Rattle.ynl_inventory.specs.Rows.{Rows, AppRow}
use Rattle.ynl_inventory.specs.Apps.{runs_at}
use Rattle.ynl_cluster.specs.seating.Seating.{AreSeated, AreSeatedWith, Figures, figures_of, seats_of, shares, sits, user_use, waits_at, waits_if, waits_of}
use Rattle.ynl_cluster.specs.seating.Steps.{AreSeatedBut}
use Rattle.ynl_cluster.proofs.seating.SeatLists.{seats-stay}
use Rattle.ynl_cluster.proofs.seating.Lanes.{seated-as, with-lanes}
use Rattle.ynl_cluster.proofs.seating.OneSeat.{elsewhere, entered, other-waits, own-seat, own-waits, seated-entered, ticket}

-- an application shares its home, and DEFAULT
pub home-shared : (row : AppRow) → shares row.home row ≡ true
home-shared row = or_right (nat_eq row.home 0) (nat_eq row.home row.home) (itself row.home)

pub default-shared : (row : AppRow) → shares 0 row ≡ true
default-shared row = or_left true (nat_eq row.home 0) refl

-- lanes with figures that say the same of each seat
pub refigured : (f g : Figures) (v : Rows) (lanes : List (List Seats)) → ((r s : ℕ) → seats_of g r s v.apps ≡ seats_of f r s v.apps) → AreSeatedWith f v lanes → AreSeatedWith g v lanes
refigured f g v lanes same seated =
    with-lanes f g v lanes lanes seated (λ r s has number. seated-as f g v.apps v.apps r s lanes (same r s) (seated.seats r s has number))

module _ (app : ℕ) (v : Rows) (row : AppRow) (found : lookup (nat_eq app) v.apps ≡ Some row) where
  -- where all waits are those of the rows, the lanes are
  pub all-entered : (waits : ℕ → ℕ → Both Resource) (lanes : List (List Seats)) → AreSeatedWith (record { used = user_use v; waits = waits }) v lanes
      → ((r n : ℕ) → n ≢ app → waits r n ≡ waits_of v r n) → ((r : ℕ) → shares r row ≡ true → waits r app ≡ waits_of v r app) → AreSeated v lanes
  all-entered waits lanes seated others own =
      refigured (record { used = user_use v; waits = waits }) (figures_of v) v lanes
      (λ r s. seats-stay r s (record { used = user_use v; waits = waits }) (figures_of v) v.apps seated.numbers (λ n r' at sat. (refl, same r s n r' at sat))) seated
    where
      same : (r s n : ℕ) (r' : AppRow) → lookup (nat_eq n) v.apps ≡ Some r' → sits r s r' ≡ true → waits_of v r n ≡ waits r n
      same r s n r' at sat =
          elim (cases_eq n app) [
            | inl is ↦
                let mine : r' ≡ row = same_Some r' row (sym at ∙ ap (λ k. lookup (nat_eq k) v.apps) is ∙ found) in
                ap (waits_of v r) is ∙ sym (own r (ap (shares r) (sym mine) ∙ (and_parts (nat_eq r'.leaf s) (shares r r') sat).1)) ∙ ap (waits r) (sym is)
            | inr apart ↦ sym (others r n apart)
          ]

  module _ (runs : Bool) (is : runs ≡ runs_at v app row) (lanes : List (List Seats)) (start : AreSeatedBut app v lanes) where
    own-is : (p : ℕ) → waits_if runs p row ≡ waits_of v p app
    own-is p = ap (λ b. waits_if b p row) is ∙ sym (ap (λ o. option_map_or (waits_at v p app) o nothing_waits) found)

    abbrev f : Figures
    f = record { used = user_use v; waits = start.waits }

    abbrev home : Both Resource
    home = waits_if runs row.home row

    abbrev pub once : Figures
    once = entered f v lanes start.seated app row found row.home (home-shared row) home

    module _ (mid : List (List Seats)) (first : Changes row.home row.leaf (Enters (ticket f v lanes start.seated app row found row.home (home-shared row)) home) lanes mid) where
      -- what waits on the home partition is entered
      pub seated-once : AreSeatedWith once v mid
      seated-once = seated-entered f v lanes start.seated app row found row.home (home-shared row) home mid first

      own-once : once.waits row.home app ≡ waits_of v row.home app
      own-once = own-waits f v lanes start.seated app row found row.home (home-shared row) home mid first ∙ own-is row.home

      others-once : (r n : ℕ) → n ≢ app → once.waits r n ≡ waits_of v r n
      others-once r n apart = other-waits f v lanes start.seated app row found row.home (home-shared row) home mid first r n apart ∙ start.others r n apart

      -- that is all where home is DEFAULT
      pub entered-once : row.home ≡ 0 → AreSeated v mid
      entered-once zero = all-entered once.waits mid seated-once others-once own
        where
          own : (r : ℕ) → shares r row ≡ true → once.waits r app ≡ waits_of v r app
          own r sat =
              let at : r ≡ row.home = elim (or_cases (nat_eq r 0) (nat_eq row.home r) sat) [ inl default ↦ eqb-true r 0 default ∙ sym zero | inr home ↦ sym (eqb-true row.home r home) ] in
              ap (λ k. once.waits k app) at ∙ own-once ∙ ap (λ k. waits_of v k app) (sym at)

      -- the seat on DEFAULT is still there
      pub second-seat : IsSeat (ticket once v mid seated-once app row found 0 (default-shared row)) (lane_at 0 row.leaf mid).seats
      second-seat = own-seat once v mid seated-once app row found 0 (default-shared row)

      -- and else what waits on DEFAULT is entered too
      abbrev default : Both Resource
      default = waits_if runs 0 row

      abbrev twice : Figures
      twice = entered once v mid seated-once app row found 0 (default-shared row) default

      pub entered-twice : row.home ≢ 0 → (new : List (List Seats)) → Changes 0 row.leaf (Enters (ticket once v mid seated-once app row found 0 (default-shared row)) default) mid new → AreSeated v new
      entered-twice apart new second =
          all-entered twice.waits new (seated-entered once v mid seated-once app row found 0 (default-shared row) default new second)
          (λ r n far. other-waits once v mid seated-once app row found 0 (default-shared row) default new second r n far ∙ others-once r n far) own
        where
          own : (r : ℕ) → shares r row ≡ true → twice.waits r app ≡ waits_of v r app
          own r sat =
              elim (or_cases (nat_eq r 0) (nat_eq row.home r) sat) [
                | inl default' ↦
                    let at : r ≡ 0 = eqb-true r 0 default' in
                    ap (λ k. twice.waits k app) at ∙ own-waits once v mid seated-once app row found 0 (default-shared row) default new second ∙ own-is 0
                    ∙ ap (λ k. waits_of v k app) (sym at)
                | inr home' ↦
                    let at : row.home ≡ r = eqb-true row.home r home' in
                    elsewhere once v mid seated-once app row found 0 (default-shared row) default new second r app (λ is. apart (at ∙ is))
                    ∙ ap (λ k. once.waits k app) (sym at) ∙ own-once ∙ ap (λ k. waits_of v k app) at
              ]
