-- What is copied of one application after another.
use Rattle.std.proofs.Common.{◌≡◌, ℕ, zero, suc, ◌+◌, Bool, true, false, List, [], ◌∷◌, ◌++◌, take, get_or, slice_get, Option, Some, IfSome, option_map, unwrap_or, nat_eq, append-nil, refl, sym, ap, subst, ◌∙◌, arith}
use Rattle.std.specs.Bool.{OnTrue}
use Rattle.std.specs.Map.{lookup}
use Rattle.std.proofs.lemmas.List.{append_assoc}
use Rattle.std.proofs.lemmas.Option.{none-some, same_Some}
use Rattle.ynl_resource.specs.declared.names.Name.{Name}
use Rattle.ynl_lanes.specs.lane.Seats.{Seat, Seats}
use Rattle.ynl_inventory.specs.Rows.{AppRow}
use Rattle.ynl_inventory.specs.Meaning.{app_name}
use Rattle.ynl_inventory.specs.Parts.{Held}
use Rattle.ynl_cluster.specs.seating.Seating.{shares, ticket_on, user_use}
use Rattle.ynl_cluster.proofs.seating.Starting.{are-found}
use Rattle.ynl_cluster.specs.Cluster.{ClusterView, IsLaneIn, held_in}
use Rattle.ynl_sights.specs.Copying.{one_by_one}

-- one application more
more : {X : Type 0} (each : ℕ → ℕ → AppRow → List X) (k i : ℕ) (apps : List (ℕ × AppRow)) (e : ℕ × AppRow) → slice_get apps i ≡ Some e
    → one_by_one each k (take (i + 1) apps) ≡ one_by_one each k (take i apps) ++ each (k + i) e.0 e.1
more each k i [] e at = absurd (none-some e at)
more each k zero (a ∷ apps) e at =
    let here : k ≡ k + zero = omega arith in
    append-nil (each k a.0 a.1) ∙ (λ i. each (here i) (same_Some a e at i).0 (same_Some a e at i).1)
more each k (suc i) (a ∷ apps) e at =
    let next : suc i + 1 ≡ suc (i + 1) = omega arith in
    let there : k + 1 + i ≡ k + suc i = omega arith in
    ap (λ n. one_by_one each k (take n (a ∷ apps))) next
    ∙ ap (λ rest. each k a.0 a.1 ++ rest) (more each (k + 1) i apps e at ∙ ap (λ n. one_by_one each (k + 1) (take i apps) ++ each n e.0 e.1) there)
    ∙ sym (append_assoc (each k a.0 a.1) (one_by_one each (k + 1) (take i apps)) (each (k + suc i) e.0 e.1))

pub taken : {X : Type 0} (each : ℕ → ℕ → AppRow → List X) (apps : List (ℕ × AppRow)) (i n : ℕ) (row : AppRow) → slice_get apps i ≡ Some (n, row) → (olds news : List X)
    → olds ≡ one_by_one each 0 (take i apps) → news ≡ olds ++ each i n row → news ≡ one_by_one each 0 (take (i + 1) apps)
taken each apps i n row at olds news so_far added =
    let here : i ≡ 0 + i = omega arith in
    added ∙ (λ j. so_far j ++ each (here j) n row) ∙ sym (more each 0 i apps (n, row) at)

-- what is found in a place
pub read-at : {X : Type 0} (xs : List X) (k : ℕ) (x none : X) → slice_get xs k ≡ Some x → get_or xs k none ≡ x
read-at [] k x none at = absurd (none-some x at)
read-at (y ∷ xs) zero x none at = same_Some y x at
read-at (y ∷ xs) (suc k) x none at = read-at xs k x none at

-- ---- a test that holds

pub on-true : (b : Bool) (P : Type 0) → (b ≡ true → P) → OnTrue b P
on-true true P h = h refl
on-true false P h = tt

-- ---- what is read of an application

module _ (w : ClusterView) (n : ℕ) (row : AppRow) (found : lookup (nat_eq n) w.rows.apps ≡ Some row) where
  pub name-is : (h : Held) → h ≡ held_in w → (name : Name) → IfSome (lookup (nat_eq n) h.rows.apps) (λ row. name ≡ app_name h.rows.tenants row.tenant row.turn) → name ≡ app_name w.rows.tenants row.tenant row.turn
  name-is h is name read =
      subst (λ (o : Option AppRow). IfSome o (λ row. name ≡ app_name w.rows.tenants row.tenant row.turn)) found
      (subst (λ (h : Held). IfSome (lookup (nat_eq n) h.rows.apps) (λ row. name ≡ app_name h.rows.tenants row.tenant row.turn)) is read)

  -- its seat shows what its user uses
  pub used-at : (p : ℕ) → shares p row ≡ true → (lane : Seats) → IsLaneIn w p row.leaf lane → (at : ℕ) → ticket_on p row ≡ Some at
      → option_map (λ seat. seat.used) (lookup (nat_eq at) lane.seats) ≡ Some (user_use w.rows p row.leaf row.user)
  used-at p shared lane there at is =
      sym (ap (λ o. option_map (λ (seat : Seat). seat.used) (lookup (nat_eq (unwrap_or o 0)) lane.seats)) is)
      ∙ ap (λ (l : Seats). option_map (λ (seat : Seat). seat.used) (lookup (nat_eq (unwrap_or (ticket_on p row) 0)) l.seats)) there.own
      ∙ ap (option_map (λ (seat : Seat). seat.used)) (are-found w.rows there.lanes there.seated n row found p shared)
