-- Room for a seat is reserved: the seats stay.
use Rattle.std.proofs.Common.{◌≡◌, ◌≢◌, ℕ, List, Result, sym, ap, subst, ◌∙◌, inl, inr}
use Rattle.ynl_lanes.specs.lane.Seats.{Seats}
use Rattle.ynl_lanes.specs.table.Lanes.{Changes, IsLaneAt, Reserves, lane_at}
use Rattle.ynl_inventory.specs.Rows.{Rows}
use Rattle.ynl_cluster.specs.seating.Seating.{AreSeated, IsSeated, figures_of}
use Rattle.ynl_cluster.proofs.seating.Lanes.{other-lane, own-lane, same-or, still-there, with-lanes}

module _ {T E : Type 0} (p q user : ℕ) (result : Result T E) (old new : List (List Seats)) (there : IsLaneAt p q old) (changes : Changes p q (Reserves user result) old new) where
  own-is : lane_at p q new ≡ changes.next
  own-is = ap (lane_at p q) changes.lanes ∙ own-lane p q changes.next old there

  pub other-kept : (r s : ℕ) → (r ≡ p → s ≢ q) → lane_at r s new ≡ lane_at r s old
  other-kept r s apart = ap (lane_at r s) changes.lanes ∙ other-lane p q changes.next old there r s apart

  pub lane-kept : (r s : ℕ) → IsLaneAt r s old → IsLaneAt r s new
  lane-kept r s at = subst (IsLaneAt r s) (sym changes.lanes) (still-there p q changes.next old there r s at)

  seats-kept : (r s : ℕ) → (lane_at r s new).seats ≡ (lane_at r s old).seats
  seats-kept r s =
      elim (same-or p q r s) [
        | inl same ↦
            (λ i. (lane_at (same.0 i) (same.1 i) new).seats) ∙ ap (λ (l : Seats). l.seats) own-is ∙ changes.changes.0
            ∙ (λ i. (lane_at (sym same.0 i) (sym same.1 i) old).seats)
        | inr apart ↦ ap (λ (l : Seats). l.seats) (other-kept r s apart)
      ]

  -- the lanes are still those of the rows
  pub kept-seated : (v : Rows) → AreSeated v old → AreSeated v new
  kept-seated v seated = with-lanes (figures_of v) (figures_of v) v old new seated (λ r s has number. lane r s (seated.seats r s has number))
    where
      lane : (r s : ℕ) → IsSeated (figures_of v) v.apps r s old → IsSeated (figures_of v) v.apps r s new
      lane r s is = record { there = lane-kept r s is.there; seats = seats-kept r s ∙ is.seats; distinct = is.distinct }
