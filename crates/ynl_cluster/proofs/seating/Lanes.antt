-- One lane changes, and the others stay.
use Rattle.std.proofs.Common.{◌≡◌, ◌≢◌, ℕ, ◌<◌, List, [], length, sym, ap, subst, ◌∙◌, inl, inr}
use Rattle.std.specs.Prelude.{slice_index_or, slice_set}
use Rattle.std.proofs.lemmas.Bool.{cases_eq}
use Rattle.std.proofs.lemmas.List.{get_or-set_same, get_or-set_other, length-set}
use mathlib.Core.Logic.{◌⊎◌}
use Rattle.ynl_slots.specs.Slots.{HasDistinctNumbers}
use Rattle.ynl_inventory.specs.layout.Paths.{HasNumber}
use Rattle.ynl_lanes.specs.lane.Seats.{Seats}
use Rattle.ynl_lanes.specs.table.Lanes.{Changes, IsLaneAt, lane_at, no_seats, with_lane}
use Rattle.ynl_inventory.specs.Rows.{Rows, AppRow}
use Rattle.ynl_inventory.specs.Sound.{HasPartition}
use Rattle.ynl_cluster.specs.seating.Seating.{AreLanes, AreSeatedWith, Figures, IsSeated, seats_of}

module _ (p q : ℕ) (next : Seats) (lanes : List (List Seats)) (is : IsLaneAt p q lanes) where
  abbrev pub written : List (List Seats)
  written = with_lane p q next lanes

  abbrev own : List Seats
  own = slice_set (slice_index_or lanes p []) q next

  row-own : slice_index_or written p [] ≡ own
  row-own = get_or-set_same lanes p own [] is.partition

  row-other : (r : ℕ) → r ≢ p → slice_index_or written r [] ≡ slice_index_or lanes r []
  row-other r apart = get_or-set_other lanes p r own [] apart

  -- the lane that changes
  pub own-lane : lane_at p q written ≡ next
  own-lane = ap (λ row. slice_index_or row q no_seats) row-own ∙ get_or-set_same (slice_index_or lanes p []) q next no_seats is.queue

  -- each other
  pub other-lane : (r s : ℕ) → (r ≡ p → s ≢ q) → lane_at r s written ≡ lane_at r s lanes
  other-lane r s apart =
      elim (cases_eq r p) [
        | inl same ↦
            ap (λ k. lane_at k s written) same ∙ ap (λ row. slice_index_or row s no_seats) row-own
            ∙ get_or-set_other (slice_index_or lanes p []) q s next no_seats (apart same) ∙ sym (ap (λ k. lane_at k s lanes) same)
        | inr far ↦ ap (λ row. slice_index_or row s no_seats) (row-other r far)
      ]

  row-length : (r : ℕ) → length (slice_index_or written r []) ≡ length (slice_index_or lanes r [])
  row-length r =
      elim (cases_eq r p) [
        | inl same ↦
            ap (λ k. length (slice_index_or written k [])) same ∙ ap length row-own ∙ length-set (slice_index_or lanes p []) q next
            ∙ sym (ap (λ k. length (slice_index_or lanes k [])) same)
        | inr far ↦ ap length (row-other r far)
      ]

  -- no lane comes or goes
  pub still-there : (r s : ℕ) → IsLaneAt r s lanes → IsLaneAt r s written
  still-there r s at = record {
    partition = subst (λ n. r < n) (sym (length-set lanes p own)) at.partition;
    queue = subst (λ n. s < n) (sym (row-length r)) at.queue;
  }

-- a lane is that of a partition and a queue, or another
pub same-or : (p q r s : ℕ) → ((r ≡ p) × (s ≡ q)) ⊎ (r ≡ p → s ≢ q)
same-or p q r s =
    elim (cases_eq r p) [
      | inl one ↦ elim (cases_eq s q) [ inl two ↦ inl (one, two) | inr far ↦ inr (λ _. far) ]
      | inr far ↦ inr (λ same. absurd (far same))
    ]

-- a lane with the same seats for other figures or applications
pub seated-as : (f g : Figures) (apps after : List (ℕ × AppRow)) (p q : ℕ) (lanes : List (List Seats)) → seats_of g p q after ≡ seats_of f p q apps → IsSeated f apps p q lanes → IsSeated g after p q lanes
seated-as f g apps after p q lanes same is = record { there = is.there; seats = is.seats ∙ sym same; distinct = subst HasDistinctNumbers (sym same) is.distinct }

-- other lanes for the same rows
pub with-lanes : (f g : Figures) (v : Rows) (lanes new : List (List Seats)) → AreSeatedWith f v lanes → AreLanes g (λ p. v.apps) v new → AreSeatedWith g v new
with-lanes f g v lanes new seated seats = record { numbers = seated.numbers; default = seated.default; shared = seated.shared; apps = seated.apps; seats = seats }

-- the lanes have the seats of other applications or with other figures, if the lane that changes does, and the seats of the others are the same
module _ (f g : Figures) (apps after : ℕ → List (ℕ × AppRow)) (v : Rows) (p q : ℕ) (change : Seats → Seats → Type 0) (old new : List (List Seats))
    (changes : Changes p q change old new) (there : HasPartition v p) (leaf : HasNumber v.paths q) (lanes : AreLanes f apps v old) where
  abbrev at : IsLaneAt p q old
  at = (lanes p q there leaf).there

  -- of the lane that changes
  pub own-ready : lane_at p q new ≡ changes.next
  own-ready = ap (lane_at p q) changes.lanes ∙ own-lane p q changes.next old at

  pub other-ready : (r s : ℕ) → (r ≡ p → s ≢ q) → lane_at r s new ≡ lane_at r s old
  other-ready r s apart = ap (lane_at r s) changes.lanes ∙ other-lane p q changes.next old at r s apart

  pub lifted : changes.next.seats ≡ seats_of g p q (after p) → HasDistinctNumbers (seats_of g p q (after p))
      → ((r s : ℕ) → (r ≡ p → s ≢ q) → HasPartition v r → HasNumber v.paths s → seats_of g r s (after r) ≡ seats_of f r s (apps r)) → AreLanes g after v new
  lifted own distinct others r s has number =
      elim (same-or p q r s) [
        | inl same ↦ subst (λ m. IsSeated g (after m) m s new) (sym same.0) (subst (λ m. IsSeated g (after p) p m new) (sym same.1) here)
        | inr apart ↦ record {
          there = subst (IsLaneAt r s) (sym changes.lanes) (still-there p q changes.next old at r s (lanes r s has number).there);
          seats = ap (λ (l : Seats). l.seats) (other-ready r s apart) ∙ (lanes r s has number).seats ∙ sym (others r s apart has number);
          distinct = subst HasDistinctNumbers (sym (others r s apart has number)) (lanes r s has number).distinct;
        }
      ]
    where
      here : IsSeated g (after p) p q new
      here = record {
        there = subst (IsLaneAt p q) (sym changes.lanes) (still-there p q changes.next old at p q at);
        seats = ap (λ (l : Seats). l.seats) own-ready ∙ own;
        distinct = distinct;
      }
