-- What a table of lanes shows of its rows.
use Rattle.std.proofs.Common.{◌≡◌, ℕ, ◌<◌, List, [], ◌∷◌, map, length, slice_index_or, slice_set, zero, suc, refl, sym, ap, subst, ◌∙◌, arith}
use Rattle.std.proofs.lemmas.List.{map-set, get_or-map, length-map}
use Rattle.ynl_lanes.specs.lane.Seats.{Seats}
use Rattle.ynl_lanes.specs.table.Lanes.{IsLaneAt, lane_at, with_lane, no_seats}

-- what is at a place of a list does not depend on what would be past its end
at_place : {X : Type 0} (xs : List X) (i : ℕ) (d e : X) → i < length xs → slice_index_or xs i d ≡ slice_index_or xs i e
at_place [] i d e h = absurd (omega (arith, h))
at_place (x ∷ xs) zero d e h = refl
at_place (x ∷ xs) (suc i) d e h = at_place xs i d e (omega (arith, h))

module _ {R : Type 0} (f : R → List Seats) (rows : List R) (lanes : List (List Seats)) (view : map f rows ≡ lanes) (p q : ℕ) (is : IsLaneAt p q lanes) (row : R) (own : row ≡ slice_index_or rows p row) where
  row_shows : slice_index_or lanes p [] ≡ f row
  row_shows =
      let inside : p < length rows = subst (λ n. p < n) (sym (simp length-map at (ap length view))) is.partition in
      ap (λ ls. slice_index_or ls p []) (sym view) ∙ get_or-map f rows p row [] inside ∙ ap f (sym own)

  pub lane_shows : (lane : Seats) → lane ≡ slice_index_or (f row) q lane → lane_at p q lanes ≡ lane
  lane_shows lane there =
      ap (λ r. slice_index_or r q no_seats) row_shows ∙ at_place (f row) q no_seats lane (subst (λ r. q < length r) row_shows is.queue) ∙ sym there

  pub lanes_written : (next : R) (lane : Seats) → f next ≡ slice_set (f row) q lane → map f (slice_set rows p next) ≡ with_lane p q lane lanes
  lanes_written next lane shows =
      map-set f rows p next ∙ ap (λ ls. slice_set ls p (f next)) view ∙ ap (slice_set lanes p) (shows ∙ ap (λ r. slice_set r q lane) (sym row_shows))
